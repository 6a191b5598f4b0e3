use Rattle.std.proofs.Common.{rules, arith}
use Rattle.traces.proofs.Holding.{few_entries}
use Rattle.forms.specs.OrderTables.{Linked, links_at, no_links}
use Rattle.forms.specs.UnderModel.{kept_by, traced_by}
use Rattle.forms.proofs.Building.{each_filled}
use Rattle.forms.proofs.Tabling.{linked_ahead}
use Rattle.forms.proofs.ordering.entry_links.Goals as goal

pub returns : goal.returns
returns g c =
    let order = c.args.order.now in
    let few = few_entries order.trace.now.contents in
    let linked : (j : _) → _ → Linked (traced_by order) (kept_by order) j (links_at c.from_fn.result j) = λ j below.
    each_filled _ _ (Linked (traced_by order) (kept_by order)) c.from_fn.result 64 no_links
    (λ i y q called. (search rules, search rules)) c.from_fn.ensures.items j below in
    record {
      ahead = linked_ahead (traced_by order) (kept_by order) c.from_fn.result few c.from_fn.ensures.items.long linked;
      writers = λ e i below. (linked e (omega arith)).writers i;
    }
