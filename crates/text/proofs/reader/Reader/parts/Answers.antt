use Rattle.std.proofs.Common.{sym, ◌∙◌, arith}
use Rattle.std.proofs.lemmas.Result.{err_from_is_err_and}
use Rattle.text.specs.Places.{at}
use Rattle.text.proofs.Parting.{parts_stop}
use Rattle.text.proofs.reader.Reader.parts.Goals as goal

pub returns-in_err-fields : goal.returns-in_err-fields
returns-in_err-fields c =
    let k = c.loop-part in
    let n = c.next_token-located.ensures in
    let p = err_from_is_err_and c.from_residual.result c.from_residual.ensures.1 in
    let q = c.in_err-fields.ensures in
    rw (p.1, p.2) (parts_stop c.args.form.now k.part-index k.fields (at k.self) _ k.invariant _ (omega arith) _ _ n.token n.column c.in_err-fields.field-0.0 (sym c.accept.ensures ∙ q.0) (q.1 ∙ n.line) q.2)
