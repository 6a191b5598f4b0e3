-- The preserved program order of a trace, by the numbers of its entries.
use Rattle.std.specs.Prelude.{◌≡◌, ℕ, ◌<◌, Bool, true, false, List, length}
use Rattle.traces.specs.declared.entry.Instruction.{Instruction}
use Rattle.models.specs.Accesses.{access_of}
use Rattle.models.specs.Tables.{Tables}
use Rattle.forms.specs.Entries.{Earlier, SameAddress, addressed_at, instruction_at, writes_at}

-- which entries wait, and which keep ahead of which later ones of their thread
pub record Preserved : Type 0 where
  pub waits : ℕ → Bool
  pub ahead : ℕ → ℕ → Bool

-- the preserved order under a model: its tables at the entries
unfoldable pub preserved : Tables → List Instruction → Preserved
preserved m is = record {
  waits = λ i. m.waiting (instruction_at is i).kind;
  ahead = λ i j. m.ahead (access_of (instruction_at is i)) (access_of (instruction_at is j));
}

-- the two laws of a preserved order
pub record Laws (is : List Instruction) (p : Preserved) : Type 0 where
  -- an entry that does not wait keeps ahead of every later one of its thread
  pub prompt : (i j : ℕ) → Earlier is i j → j < length is → p.waits i ≡ false → p.ahead i j ≡ true
  -- an entry on an address keeps ahead of every later one of its thread that writes that address
  pub coherent : (i j : ℕ) → Earlier is i j → j < length is → addressed_at is i ≡ true → writes_at is j ≡ true → SameAddress is i j
      → p.ahead i j ≡ true

-- the first keeps ahead every pair of entries of one thread that the second keeps ahead
abbrev pub KeepsNoFewer : List Instruction → Preserved → Preserved → Type 0
KeepsNoFewer is p q = (i j : ℕ) → Earlier is i j → j < length is → q.ahead i j ≡ true → p.ahead i j ≡ true
