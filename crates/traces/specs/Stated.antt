-- The instructions that entries stand for, by the thread numbers and addresses that their slots name.
use Rattle.std.specs.Prelude.{◌≡◌, ℕ, ◌+◌, ◌<◌, max, true, cond, List, [], ◌∷◌, map, length, nat_eq, slice_index, slice_index_or}
use Rattle.traces.specs.declared.entry.Address.{Address}
use Rattle.traces.specs.declared.entry.Entry.{Entry}
use Rattle.traces.specs.declared.entry.Instruction.{Instruction}
use Rattle.traces.specs.Adding.{addresses_of, same_address, threads_of}
use Rattle.traces.specs.Kinds.{address, addressed, reads, writes}
use Rattle.traces.specs.Slots.{slot}

-- the instruction of an entry
abbrev pub stated_by : List ℕ → List Address → Entry → Instruction
stated_by threads addresses e = record {
  thread = slice_index threads e.thread;
  kind = e.kind;
  address = cond (addressed e.kind) (slice_index_or addresses e.address (address 0)) (address 0);
  read = e.read;
  written = e.written;
}

-- the instructions of entries
abbrev pub stated : List ℕ → List Address → List Entry → List Instruction
stated threads addresses es = map (stated_by threads addresses) es

-- the entry of an instruction, by the slots of its thread number and its address
abbrev pub entry_of : List ℕ → List Address → Instruction → Entry
entry_of threads addresses i = record {
  thread = slot nat_eq threads i.thread;
  kind = i.kind;
  address = cond (addressed i.kind) (slot same_address addresses i.address) 0;
  read = i.read;
  written = i.written;
}

-- the thread's slot of each entry names one of n thread numbers
abbrev pub ThreadsNamed : ℕ → List Entry → Type 0
ThreadsNamed n es = (k : ℕ) (d : Entry) → k < length es → (slice_index_or es k d).thread < n

-- the address's slot of each entry that has one names one of n addresses
abbrev pub AddressesNamed : ℕ → List Entry → Type 0
AddressesNamed n es = (k : ℕ) (d : Entry) → k < length es → addressed (slice_index_or es k d).kind ≡ true → (slice_index_or es k d).address < n

-- an entry with 0 in the fields that its kind lacks
abbrev pub cleared : Entry → Entry
cleared e = record {
  thread = e.thread;
  kind = e.kind;
  address = cond (addressed e.kind) e.address 0;
  read = cond (reads e.kind) e.read 0;
  written = cond (writes e.kind) e.written 0;
}

-- how many threads there must be for the slot of an entry
abbrev pub thread_reach : Entry → ℕ
thread_reach e = e.thread + 1

-- how many addresses there must be for the slot of an entry
abbrev pub address_reach : Entry → ℕ
address_reach e = cond (addressed e.kind) (e.address + 1) 0

-- the most that one of the entries needs
abbrev pub reach : (Entry → ℕ) → List Entry → ℕ
reach of [] = 0
reach of (e ∷ es) = max (of e) (reach of es)

-- the entries of instructions, with slots by first appearance
abbrev pub entries_of : List Instruction → List Entry
entries_of is = map (entry_of (threads_of is) (addresses_of is)) is
