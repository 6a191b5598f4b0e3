-- Traces, and their preserved orders under models of any type.
use Rattle.std.specs.Prelude.{List}
use Rattle.traces.specs.declared.draft.Trace.{Trace}
use Rattle.traces.specs.declared.entry.Instruction.{Instruction}
use Rattle.traces.specs.Instructions.{instructions}
use Rattle.models.specs.declared.model.MemoryModel.{Ghosts}
use Rattle.models.specs.Meaning.{tables_of}
use Rattle.forms.specs.PreservedOrder.{Preserved, preserved}

-- the instructions of a trace
abbrev pub instructions_of : Trace → List Instruction
instructions_of t = instructions t.contents

-- the preserved order of a trace under a model m of the type X
abbrev pub order_of : {X : Type 0} → Ghosts X → X → Trace → Preserved
order_of g m t = preserved (tables_of g m) (instructions_of t)
