use Rattle.std.proofs.Common.{cond, rules, arith, tests}
use Rattle.std.proofs.lemmas.Iterator.{YieldsList-from_range, YieldsList-from_map}
use Rattle.std.proofs.lemmas.Iterator.Adapters.{at_most_from_yields_List, fits_from_length}
use Rattle.std.proofs.lemmas.Iterator.Consumers.{sum_by_from_yields_List}
use Rattle.std.proofs.lemmas.List.FromFn.{length-range_with_len}
use Rattle.forms.specs.KeptPairs.{keeps}
use Rattle.forms.specs.UnderModel.{kept_by, traced_by}
use Rattle.forms.proofs.preserved_order.PreservedOrder.kept_before.Goals as goal

pub sum-requires-clause-fits : goal.sum-requires-clause-fits
sum-requires-clause-fits g c =
    fits_from_length _ _ 18446744073709551615 _
    (at_most_from_yields_List (YieldsList-from_range 0 c.args.j c.args.j c.map.ensures.source (omega arith)) (omega (arith, length-range_with_len 0 c.args.j, c.ranges.j)))
    c.map.ensures.closure (omega arith)
    (λ i r q k. (search rules, search (rules, tests)))

pub returns : goal.returns
returns g c =
    let order = c.args.self.now in
    sum_by_from_yields_List _ _ c.map.result _ c.sum.ensures.ran
    (YieldsList-from_map _ (λ i. cond (keeps (traced_by order) (kept_by order) i c.args.j) 1 0)
    (YieldsList-from_range 0 c.args.j c.args.j c.map.ensures.source (omega arith))
    c.map.ensures.closure (λ i r q k. search (rules, tests)))
