use Rattle.std.proofs.Common.{sym, ◌∙◌}
use Rattle.forms.proofs.OrderSteps.{step_back}
use Rattle.forms.proofs.order_moves.OrderFormForm.retreat.Goals as goal

pub returns-in-Some : goal.returns-in-Some
returns-in-Some g c p step note =
    let found = rw c.from-e.ensures at (sym c.entry.ensures ∙ c.in-Some.is) in
    let without = rw c.from-e.ensures at c.without-self.ensures in
    step_back p c.args.code c.in-Some.entry c.args.told note c.without-self.result c.take_back.new.self c.args.self.now step
    found without c.take_back.ensures
