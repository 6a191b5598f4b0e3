-- The order form can be finished exactly where a lawful order exists.
use Rattle.std.specs.Prelude.{ℕ, ◌↔◌, List}
use Rattle.std.proofs.Common.{◌≡◌, sym, subst}
use Rattle.traces.specs.declared.entry.Instruction.{Instruction}
use Rattle.forms.specs.declared.order_form.OrderForm.{OrderForm}
use Rattle.forms.specs.KeptPairs.{clipped}
use Rattle.forms.specs.Lawful.{Lawful}
use Rattle.forms.specs.OrderForms.{CanFinish, kept_in, order_carries, order_start, order_step, traced}
use Rattle.forms.specs.PreservedOrder.{Preserved}
use Rattle.forms.specs.Runs.{carried_out}
use Rattle.forms.specs.Lemmas.OrderRuns.{order_complete, order_sound}
use Rattle.forms.proofs.Weaker.{clipped_lawful}

-- where the form's preserved order is that of a trace, all entries can be placed exactly where a lawful order exists
pub can_finish : {X : Type 0} (f : OrderForm X) (is : List Instruction) (p : Preserved) → traced f ≡ is → kept_in f ≡ clipped is p
    → CanFinish f ↔ ((o : List ℕ) × Lawful is p o)
can_finish f is p same order = (
  λ c.
      let lawful = order_sound f c.1 c.0 c.2 c.3 in
      let o = carried_out order_step order_carries (order_start f) c.0 in
      (o, (clipped_lawful is p o).0 (subst (λ k. Lawful is k o) order (subst (λ l. Lawful l (kept_in f) o) same lawful))),
  λ l.
      let lawful = (clipped_lawful is p l.0).1 l.1 in
      let r = order_complete f l.0 (subst (λ m. Lawful m (kept_in f) l.0) (sym same) (subst (λ k. Lawful is k l.0) (sym order) lawful)) in
      (r.0, r.1, r.2, r.3),
)
