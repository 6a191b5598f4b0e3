-- Lawful orders of the entries of a trace.
use Rattle.std.specs.Prelude.{◌≡◌, ℕ, ◌<◌, ◌≤◌, true, ◌≢◌, ◌⊎◌, List, length, count_by, nat_eq}
use Rattle.traces.specs.declared.entry.Instruction.{Instruction}
use Rattle.traces.specs.Slots.{slot}
use Rattle.models.specs.Tables.{Tables}
use Rattle.forms.specs.Entries.{Earlier, SameAddress, instruction_at, reads_at, writes_at}
use Rattle.forms.specs.PreservedOrder.{Preserved, preserved}

-- how often e stands in an order
abbrev pub times : ℕ → List ℕ → ℕ
times e o = count_by (λ x. nat_eq x e) o

-- i precedes j in an order
abbrev pub Precedes : List ℕ → ℕ → ℕ → Type 0
Precedes o i j = slot nat_eq o i < slot nat_eq o j

-- w writes the address of r, and precedes r in the order or stands earlier on r's thread; so w is another entry than r
abbrev pub Candidate : List Instruction → List ℕ → ℕ → ℕ → Type 0
Candidate is o r w = (w < length is) × (writes_at is w ≡ true) × SameAddress is w r × (Precedes o w r ⊎ Earlier is w r)

-- r has read what the candidate latest in the order wrote; with no candidate, 0
abbrev pub Right : List Instruction → List ℕ → ℕ → Type 0
Right is o r =
    ((w : ℕ) × Candidate is o r w × ((v : ℕ) → Candidate is o r v → v ≢ w → Precedes o v w) × ((instruction_at is r).read ≡ (instruction_at is w).written))
    ⊎ (((w : ℕ) → Candidate is o r w → ⊥) × ((instruction_at is r).read ≡ 0))

-- a lawful order of the entries under a preserved order
pub record Lawful (is : List Instruction) (p : Preserved) (o : List ℕ) : Type 0 where
  -- every entry stands in it exactly once
  pub once : (e : ℕ) → e < length is → times e o ≡ 1
  -- and nothing else does
  pub none : (e : ℕ) → length is ≤ e → times e o ≡ 0
  -- every entry precedes those that it keeps ahead of
  pub kept : (i j : ℕ) → Earlier is i j → j < length is → p.ahead i j ≡ true → Precedes o i j
  -- each entry that reads has the right value
  pub right : (r : ℕ) → r < length is → reads_at is r ≡ true → Right is o r

-- a model allows a trace: a lawful order exists
abbrev pub Allows : Tables → List Instruction → Type 0
Allows m is = (o : List ℕ) × Lawful is (preserved m is) o
