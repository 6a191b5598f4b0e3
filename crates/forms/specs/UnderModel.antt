-- A preserved order under a model: the trace, and what waits and what keeps ahead there.
use Rattle.std.specs.Prelude.{List}
use Rattle.traces.specs.declared.entry.Instruction.{Instruction}
use Rattle.models.specs.declared.model.MemoryModel.{Ghosts}
use Rattle.forms.specs.declared.preserved_order.PreservedOrder.{PreservedOrder}
use Rattle.forms.specs.PreservedOrder.{Preserved}
use Rattle.forms.specs.Traced.{instructions_of, order_of}

-- the instructions of its trace
abbrev pub traced_by : {X : Type 0} {g : Ghosts X} → PreservedOrder X g → List Instruction
traced_by o = instructions_of o.trace.now

-- what waits and what keeps ahead by its model
abbrev pub kept_by : {X : Type 0} {g : Ghosts X} → PreservedOrder X g → Preserved
kept_by {g = g} o = order_of g o.model.now o.trace.now
