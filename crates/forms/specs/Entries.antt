-- The instructions of a trace by their numbers: entry 0 is the first.
use Rattle.std.specs.Prelude.{◌≡◌, ℕ, ◌<◌, Bool, List, slice_index_or}
use Rattle.traces.specs.declared.entry.Instruction.{Instruction}
use Rattle.traces.specs.declared.entry.Kind.TheVariants.{Sync}
use Rattle.traces.specs.Kinds.{address, addressed, instruction, reads, writes}

-- the instruction with number i; past the end a sync, of which nothing is asked
abbrev pub instruction_at : List Instruction → ℕ → Instruction
instruction_at is i = slice_index_or is i (instruction 0 Sync (address 0) 0 0)

-- whether entry i reads
abbrev pub reads_at : List Instruction → ℕ → Bool
reads_at is i = reads (instruction_at is i).kind

-- whether entry i writes
abbrev pub writes_at : List Instruction → ℕ → Bool
writes_at is i = writes (instruction_at is i).kind

-- whether entry i is on an address
abbrev pub addressed_at : List Instruction → ℕ → Bool
addressed_at is i = addressed (instruction_at is i).kind

-- entries i and j are on the same address, if they are on one
abbrev pub SameAddress : List Instruction → ℕ → ℕ → Type 0
SameAddress is i j = (instruction_at is i).address ≡ (instruction_at is j).address

-- entry i stands earlier in the trace than entry j, on the same thread
abbrev pub Earlier : List Instruction → ℕ → ℕ → Type 0
Earlier is i j = (i < j) × ((instruction_at is i).thread ≡ (instruction_at is j).thread)
