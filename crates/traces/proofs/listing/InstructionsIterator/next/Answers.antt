use Rattle.std.proofs.Common.{sym, ◌∙◌}
use Rattle.traces.specs.Instructions.{instructions}
use Rattle.traces.proofs.Remainders.{drop_found}
use Rattle.traces.proofs.listing.InstructionsIterator.next.Goals as goal

pub returns-clause-steps : goal.returns-clause-steps
returns-clause-steps c = drop_found (instructions c.args.self.now.trace.now.contents) c.args.self.now.at _ (sym c.instruction.ensures ∙ c.in_ok-instruction.was)
