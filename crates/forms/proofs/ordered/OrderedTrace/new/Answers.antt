use Rattle.std.proofs.Common.{ltb, length, rules, arith}
use Rattle.std.proofs.lemmas.Bool.{lt-ltb, ltb-true}
use Rattle.traces.proofs.Holding.{few_entries}
use Rattle.forms.specs.Traced.{instructions_of, order_of}
use Rattle.forms.proofs.Building.{built_all}
use Rattle.forms.proofs.Tabling.{coherent_in_table, only_earlier, prompt_in_table, tabled_clipped, waiting_members}
use Rattle.forms.proofs.ordered.OrderedTrace.new.Goals as goal

pub invariant_of-result : goal.invariant_of-result
invariant_of-result g c =
    let trace = c.args.trace.contents in
    let is = instructions_of c.args.trace in
    let p = order_of g.M.MemoryModel c.args.model.now c.args.trace in
    let all = c.where_passes-all in
    let waiting = c.where_passes-waiting in
    let links = c.entry_links-links.result in
    let laws = rw (c.new-order.ensures.trace, c.new-order.ensures.model) at c.new-order.result.laws in
    let ahead = rw (c.new-order.ensures.trace, c.new-order.ensures.model) at c.entry_links-links.ensures.ahead in
    let waits = waiting_members trace p waiting.result c.len-2.result c.len-2.ensures
    (λ i below low. let h = waiting.ensures.within i below low in search rules) waiting.ensures.beyond waiting.ensures.high in
    record {
      whole = built_all (λ i. ltb i (length is)) all.result c.len.result
          (λ i passes. let below = ltb-true i (length is) passes in (omega (arith, below, c.len.ensures), omega (arith, below, few_entries trace)))
          (λ i below low. let h = all.ensures.within i below low in let here = lt-ltb i (length is) (omega (arith, below, c.len.ensures)) in search rules) all.ensures.beyond all.ensures.high;
      earlier = only_earlier is p waiting.result links waits ahead;
      prompt = prompt_in_table is p waiting.result links waits ahead laws;
      coherent = coherent_in_table is p waiting.result links waits ahead laws;
      forwarding = rw c.new-order.ensures.trace at c.entry_links-links.ensures.writers;
    }

pub returns-clause-order : goal.returns-clause-order
returns-clause-order g c =
    let is = instructions_of c.args.trace in
    let p = order_of g.M.MemoryModel c.args.model.now c.args.trace in
    let waiting = c.where_passes-waiting in
    let waits = waiting_members c.args.trace.contents p waiting.result c.len-2.result c.len-2.ensures
    (λ i below low. let h = waiting.ensures.within i below low in search rules) waiting.ensures.beyond waiting.ensures.high in
    tabled_clipped is p waiting.result c.entry_links-links.result waits
    (rw (c.new-order.ensures.trace, c.new-order.ensures.model) at c.entry_links-links.ensures.ahead)
