use Rattle.std.proofs.Common.{rules, arith}
use Rattle.traces.proofs.Holding.{few_entries}
use Rattle.forms.specs.KeptPairs.{keeps}
use Rattle.forms.specs.OrderTables.{is_writer_before}
use Rattle.forms.specs.UnderModel.{kept_by, traced_by}
use Rattle.forms.proofs.Building.{built_all}
use Rattle.forms.proofs.Preserving.{keeps_parts}
use Rattle.forms.proofs.Tabling.{writer_below}
use Rattle.forms.proofs.ordering.links_of.Goals as goal

pub returns : goal.returns
returns g c =
    let order = c.args.order.now in
    let is = traced_by order in
    let p = kept_by order in
    let few = few_entries order.trace.now.contents in
    let ahead = c.where_passes in
    let writers = c.where_passes-2 in
    record {
      ahead = built_all (λ i. keeps is p i c.args.e) ahead.result c.args.e
          (λ i passes. let kept = keeps_parts is p i c.args.e passes in (kept.0.0, omega (arith, kept.0.0, kept.1)))
          (λ i below low. let h = ahead.ensures.within i below low in search rules) ahead.ensures.beyond ahead.ensures.high;
      writers = built_all (is_writer_before is c.args.e) writers.result c.args.e
          (λ i passes. let writer = writer_below is c.args.e i passes in (writer.0, omega (arith, writer.0, writer.1)))
          (λ i below low. let h = writers.ensures.within i below low in search rules) writers.ensures.beyond writers.ensures.high;
    }
