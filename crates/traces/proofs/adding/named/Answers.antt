use Rattle.std.proofs.Common.{rules, tests, ◌∙◌}
use Rattle.std.proofs.lemmas.Iterator.{YieldsList-from_map, YieldsList-from_slice}
use Rattle.traces.specs.Stated.{address_reach, thread_reach}
use Rattle.traces.proofs.Stating.{reach_picked}
use Rattle.traces.proofs.adding.named.Goals as goal

pub returns : goal.returns
returns c =
    let es = c.args.entries.now in record {
      threads = c.unwrap_or.ensures
          ∙ reach_picked thread_reach es c.map.result _ c.max-threads.ensures.ran (YieldsList-from_map _ thread_reach (YieldsList-from_slice es cc) c.map.ensures.closure (λ x b q k. search (rules, tests)));
      addresses = c.unwrap_or-2.ensures
          ∙ reach_picked address_reach es c.map-2.result _ c.max-addresses.ensures.ran (YieldsList-from_map _ address_reach (YieldsList-from_slice es cc) c.map-2.ensures.closure (λ x b q k. search (rules, tests)));
    }
