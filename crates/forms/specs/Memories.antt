-- Memory by address, and what an entry does to it.
use Rattle.std.specs.Prelude.{ℕ, cond, List, replicate, slice_index, slice_set}
use Rattle.traces.specs.declared.entry.Address.{Address}
use Rattle.traces.specs.declared.entry.Entry.{Entry}
use Rattle.traces.specs.declared.entry.Instruction.{Instruction}
use Rattle.traces.specs.Adding.{addresses_of, same_address, threads_of}
use Rattle.traces.specs.Kinds.{writes}
use Rattle.traces.specs.Slots.{slot}
use Rattle.traces.specs.Stated.{entry_of}
use Rattle.forms.specs.declared.memory.Memory.{Memory}
use Rattle.forms.specs.Entries.{instruction_at}

-- entry e as a trace holds it, by the slots of its thread and its address
abbrev pub held_entry : List Instruction → ℕ → Entry
held_entry is e = entry_of (threads_of is) (addresses_of is) (instruction_at is e)

-- the slot of an address
abbrev pub address_slot : List Instruction → Address → ℕ
address_slot is a = slot same_address (addresses_of is) a

-- what memory holds at an address
abbrev pub word_at : List Instruction → Memory → Address → ℕ
word_at is m a = slice_index m.words (address_slot is a)

-- 0 at every address
abbrev pub blank : Memory
blank = record { words = replicate 16 0 }

-- memory with another word in the place of an entry, if the entry writes
abbrev pub with_word : Memory → Entry → ℕ → Memory
with_word m e w = cond (writes e.kind) (record { words = slice_set m.words e.address w }) m

-- the word in the place of an entry that writes, or else 0
abbrev pub word_of : Memory → Entry → ℕ
word_of m e = cond (writes e.kind) (slice_index m.words e.address) 0
