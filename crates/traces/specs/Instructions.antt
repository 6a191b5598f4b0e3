-- Drafts and traces by the instructions that they state.
use Rattle.std.specs.Prelude.{List, vec_items}
use Rattle.traces.specs.declared.contents.Contents.{Contents}
use Rattle.traces.specs.declared.entry.Instruction.{Instruction}
use Rattle.traces.specs.Stated.{stated}

-- the instructions in the sequence in which they were added
abbrev pub instructions : Contents → List Instruction
instructions c = stated (vec_items c.threads.items) (vec_items c.addresses.items) (vec_items c.entries)
