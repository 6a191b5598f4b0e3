use Rattle.forms.proofs.OrderSteps.{done_is}
use Rattle.forms.proofs.order_moves.OrderFormForm.is_finished.Goals as goal

pub returns : goal.returns
returns g c =
    done_is c.args.self.now c.complement.result c.meets.result c.complement.ensures.below c.meets.ensures.common c.meets.ensures.apart
