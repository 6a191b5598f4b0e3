use Rattle.std.proofs.Common.{◌≡◌, rules, arith}
use Rattle.std.proofs.lemmas.Iterator.{YieldsList-from_range}
use Rattle.std.proofs.lemmas.Iterator.Adapters.{at_most_from_yields_List, fits_from_length}
use Rattle.std.proofs.lemmas.List.FromFn.{length-range_with_len}
use Rattle.traces.proofs.Holding.{few_entries}
use Rattle.forms.specs.KeptPairs.{kept_before}
use Rattle.forms.specs.UnderModel.{kept_by, traced_by}
use Rattle.forms.proofs.Preserving.{kept_before_few}
use Rattle.forms.proofs.preserved_order.PreservedOrder.kept_pairs.Goals as goal

pub sum-requires-clause-fits : goal.sum-requires-clause-fits
sum-requires-clause-fits g c =
    let order = c.args.self.now in
    let trace = order.trace.now.contents in
    fits_from_length _ _ 64 _
    (at_most_from_yields_List (YieldsList-from_range 0 c.len.result c.len.result c.map.ensures.source (omega arith)) (omega (arith, length-range_with_len 0 c.len.result, c.len.ensures, few_entries trace)))
    c.map.ensures.closure (omega arith)
    (λ j kept q k. let right : kept ≡ kept_before (traced_by order) (kept_by order) j = search rules in (search rules, omega (arith, right, kept_before_few trace (kept_by order) j)))
