-- The preserved order of a trace in tables: for each entry, its links to others.
use Rattle.std.specs.Prelude.{◌≡◌, ℕ, ◌<◌, Bool, true, not, ◌&&◌, List, length, nat_lt, slice_index_or}
use Rattle.traces.specs.declared.entry.Instruction.{Instruction}
use Rattle.traces.specs.Adding.{same_address}
use Rattle.forms.specs.declared.entry_links.EntryLinks.{EntryLinks}
use Rattle.forms.specs.declared.entry_set.EntrySet.{EntrySet}
use Rattle.forms.specs.EntrySets.{empty_set, member}
use Rattle.forms.specs.Entries.{addressed_at, instruction_at, writes_at}
use Rattle.forms.specs.KeptPairs.{is_earlier, keeps}
use Rattle.forms.specs.PreservedOrder.{Preserved}

-- no entry keeps ahead, and none is a writer
abbrev pub no_links : EntryLinks
no_links = record { ahead = empty_set; writers = empty_set }

-- the links of entry j; past the end, none
abbrev pub links_at : List EntryLinks → ℕ → EntryLinks
links_at links j = slice_index_or links j no_links

-- the preserved order in which those of a set wait, and the entries that the links of j tell keep ahead of j
abbrev pub tabled : EntrySet → List EntryLinks → Preserved
tabled waiting links = record { waits = member waiting; ahead = λ i j. member (links_at links j).ahead i }

-- whether i is an earlier entry of e's thread that writes e's address
abbrev pub is_writer_before : List Instruction → ℕ → ℕ → Bool
is_writer_before is e i = is_earlier is i e && (writes_at is i && same_address (instruction_at is i).address (instruction_at is e).address)

-- the links of entry j are the entries that keep ahead of it and the writers before it
pub record Linked (is : List Instruction) (p : Preserved) (j : ℕ) (links : EntryLinks) : Type 0 where
  pub ahead : (i : ℕ) → member links.ahead i ≡ keeps is p i j
  pub writers : (i : ℕ) → member links.writers i ≡ is_writer_before is j i

-- whether i is on an address that j, a later entry of its thread, writes
abbrev pub is_written_after : List Instruction → ℕ → ℕ → Bool
is_written_after is i j = is_earlier is i j && (addressed_at is i && (writes_at is j && same_address (instruction_at is i).address (instruction_at is j).address))

-- only earlier entries of its thread keep ahead of an entry
abbrev pub OnlyEarlier : List Instruction → List EntryLinks → Type 0
OnlyEarlier is links = (i j : ℕ) → member (links_at links j).ahead i ≡ true → is_earlier is i j ≡ true

-- an entry that does not wait keeps ahead of every later one of its thread
abbrev pub PromptInTable : List Instruction → EntrySet → List EntryLinks → Type 0
PromptInTable is waiting links = (i j : ℕ) → (is_earlier is i j && not (member waiting i)) ≡ true → member (links_at links j).ahead i ≡ true

-- an entry on an address keeps ahead of every later one of its thread that writes that address
abbrev pub CoherentInTable : List Instruction → List EntryLinks → Type 0
CoherentInTable is links = (i j : ℕ) → is_written_after is i j ≡ true → member (links_at links j).ahead i ≡ true

-- the writers of each entry are the earlier entries of its thread that write its address
abbrev pub WritersInTable : List Instruction → List EntryLinks → Type 0
WritersInTable is links = (e i : ℕ) → e < length is → member (links_at links e).writers i ≡ is_writer_before is e i

-- the set has all entries of the trace, and nothing else
abbrev pub AllInSet : List Instruction → EntrySet → Type 0
AllInSet is all = (i : ℕ) → member all i ≡ nat_lt i (length is)
