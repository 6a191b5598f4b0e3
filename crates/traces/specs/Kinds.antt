-- What each kind of instruction has, and the numbers of kinds and refusals.
use Rattle.std.specs.Prelude.{ℕ, Bool, true, false, cond, Some, None, Option, Result, ◌==◌, ok_or}
use Rattle.traces.specs.declared.entry.Address.{Address}
use Rattle.traces.specs.declared.entry.Instruction.{Instruction}
use Rattle.traces.specs.declared.entry.Kind.{Kind}
use Rattle.traces.specs.declared.entry.Kind.TheVariants.{Load, Store, Swap, Sync}
use Rattle.traces.specs.declared.entry.Refusal.{Refusal}
use Rattle.traces.specs.declared.entry.Refusal.TheVariants.{UnknownKind, TooManyEntries, TooManyThreads, TooManyAddresses}

-- the number of a kind
abbrev pub kind_number : Kind → ℕ
kind_number Load = 0
kind_number Store = 1
kind_number Swap = 2
kind_number Sync = 3

-- the kind that a number stands for: none above 3
abbrev pub kind_of : ℕ → Option Kind
kind_of n = cond (n == 0) (Some Load) (cond (n == 1) (Some Store) (cond (n == 2) (Some Swap) (cond (n == 3) (Some Sync) None)))

-- the same, with the refusal of a number that stands for none
abbrev pub known_kind : ℕ → Result Kind Refusal
known_kind n = ok_or (kind_of n) UnknownKind

-- loads and swaps read
abbrev pub reads : Kind → Bool
reads Load = true
reads Store = false
reads Swap = true
reads Sync = false

-- stores and swaps write
abbrev pub writes : Kind → Bool
writes Load = false
writes Store = true
writes Swap = true
writes Sync = false

-- all but a sync have an address
abbrev pub addressed : Kind → Bool
addressed Load = true
addressed Store = true
addressed Swap = true
addressed Sync = false

-- the address with the number n
abbrev pub address : ℕ → Address
address n = record { number = n }

-- the instruction with the given fields, those that its kind lacks taken as 0
abbrev pub instruction : ℕ → Kind → Address → ℕ → ℕ → Instruction
instruction t k a r w = record {
  thread = t;
  kind = k;
  address = cond (addressed k) a (address 0);
  read = cond (reads k) r 0;
  written = cond (writes k) w 0;
}

-- an instruction with 0 in the fields that its kind lacks
abbrev pub normalized : Instruction → Instruction
normalized i = instruction i.thread i.kind i.address i.read i.written

-- the number of a refusal
abbrev pub refusal_number : Refusal → ℕ
refusal_number UnknownKind = 1
refusal_number TooManyEntries = 2
refusal_number TooManyThreads = 3
refusal_number TooManyAddresses = 4

-- the layer of every refusal of a draft
abbrev pub trace_layer : ℕ
trace_layer = 1
