use Rattle.std.proofs.Common.{ap}
use Rattle.forms.specs.declared.order_form.OrderForm.{OrderForm}
use Rattle.forms.specs.Traced.{instructions_of, order_of}
use Rattle.forms.proofs.Finishing.{can_finish}
use Rattle.forms.proofs.order_form.OrderForm.open.Goals as goal

pub returns-clause-allowed : goal.returns-clause-allowed
returns-clause-allowed g c =
    let trace = c.args.trace in
    let ordered = c.new-ordered in
    let form : OrderForm g.row.M.Denot = record { ordered = ordered.result; model = c.args.model; placed = c.empty.result; memory = c.new.result } in
    can_finish form (instructions_of trace) (order_of g.M.MemoryModel c.args.model trace) (ap instructions_of ordered.ensures.trace) ordered.ensures.order
