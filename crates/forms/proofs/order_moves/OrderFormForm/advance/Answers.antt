use Rattle.std.proofs.Common.{sym, refl, ◌∙◌}
use Rattle.forms.proofs.OrderSteps.{note_is, step_kept_back, step_placed, step_placing}
use Rattle.forms.proofs.order_moves.OrderFormForm.advance.Goals as goal
use Rattle.forms.proofs.order_moves.OrderFormForm.advance.Goals.{then-contains-via-then-contains, then-contains-via-else-contains+then-not-may_carry_out}

pub returns-then-contains : goal.returns-then-contains
returns-then-contains g c =
    let form = c.args.self.now in
    let found = rw c.from-e.ensures at (sym c.entry.ensures ∙ c.in_ok-entry.was) in
    elim c.then-contains.branch [
      | then-contains-via-then-contains w ↦
          let placed = rw c.from-e.ensures at (sym c.contains.ensures ∙ w.if-contains.true) in
          (step_placed form c.args.code placed, refl)
      | then-contains-via-else-contains+then-not-may_carry_out w ↦
          let may = rw c.from-e.ensures at w.may_carry_out.ensures in (
            step_kept_back form c.args.code c.in_ok-entry.entry found c.complement-pending.result c.complement-pending.ensures.below
                w.may_carry_out.result may w.if-not-may_carry_out.true,
            refl,
          )
    ]

pub returns : goal.returns
returns g c =
    let form = c.args.self.now in
    let found = rw c.from-e.ensures at (sym c.entry.ensures ∙ c.in_ok-entry.was) in
    let fresh = rw c.from-e.ensures at (sym c.contains.ensures ∙ c.if-contains.false) in
    let may = rw c.from-e.ensures at c.may_carry_out.ensures in
    let with = rw c.from-e.ensures at c.with-self.ensures in (
      step_placing form c.args.code c.in_ok-entry.entry found c.complement-pending.result c.complement-pending.ensures.below
          c.may_carry_out.result may fresh c.if-not-may_carry_out.false c.with-self.result c.carry_out.new.self with c.carry_out.ensures.memory,
      c.carry_out.ensures.told ∙ note_is form c.args.code c.in_ok-entry.entry found,
    )
