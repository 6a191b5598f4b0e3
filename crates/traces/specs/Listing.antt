-- What an iterator over the instructions of a trace has still to give.
use Rattle.std.specs.Prelude.{List, drop}
use Rattle.traces.specs.declared.entry.Instruction.{Instruction}
use Rattle.traces.specs.declared.listing.Instructions.{Instructions}
use Rattle.traces.specs.Instructions.{instructions}

-- the instructions from the place of the iterator on
abbrev pub left : Instructions → List Instruction
left s = drop s.at (instructions s.trace.now.contents)
