-- Orders at their first entry, searches below a number, and which entries have an address.
use Rattle.std.specs.Prelude.{◌≡◌, ℕ, zero, suc, ◌<◌, ◌≤◌, Bool, true, false, cond, ◌≢◌, ◌⊎◌, List, [], ◌∷◌, Some, None, Decides, ◌==◌, nat_eq, refl}
use Rattle.std.proofs.Common.{sym, ◌∙◌, inl, inr, arith}
use Rattle.std.proofs.lemmas.List.Sums.{sum_by-cons}
use Rattle.std.proofs.lemmas.Bool.{both_ways, cases_Bool, cases_eq, cond-false, cond-true, eq-eqb, false_from_ne_true, ne_eqb}
use Rattle.std.proofs.lemmas.Bool.Decides.{Decides-below_or, not_from_Decides}
use Rattle.traces.specs.declared.entry.Address.{Address}
use Rattle.traces.specs.declared.entry.Instruction.{Instruction}
use Rattle.traces.specs.declared.entry.Kind.{Kind}
use Rattle.traces.specs.declared.entry.Kind.TheVariants.{Load, Store, Swap, Sync}
use Rattle.traces.specs.Adding.{same_address}
use Rattle.traces.specs.Kinds.{addressed, reads, writes}
use Rattle.traces.specs.Slots.{slot}
use Rattle.traces.proofs.Stating.{same_addresses}
use Rattle.forms.specs.Carrying.{last_below, some_below}
use Rattle.forms.specs.Entries.{SameAddress, addressed_at, instruction_at, reads_at, writes_at}
use Rattle.forms.specs.Lawful.{times}

-- the slot of the first entry of an order
pub slot_first : (e i : ℕ) (o : List ℕ) → i ≡ e → slot nat_eq (e ∷ o) i ≡ 0
slot_first e i o same = cond-true (e == i) 0 (suc (slot nat_eq o i)) (eq-eqb e i (sym same))

-- the slot of any other entry is one more than in the rest
pub slot_rest : (e i : ℕ) (o : List ℕ) → i ≢ e → slot nat_eq (e ∷ o) i ≡ suc (slot nat_eq o i)
slot_rest e i o other = cond-false (e == i) 0 (suc (slot nat_eq o i)) (ne_eqb e i (λ same. other (sym same)))

-- the first entry stands once more in an order than in its rest
pub times_first : (e i : ℕ) (o : List ℕ) → i ≡ e → times i (e ∷ o) ≡ suc (times i o)
times_first e i o same = omega (arith, sum_by-cons (λ x. cond (x == i) 1 0) e o, cond-true {A = ℕ} (e == i) 1 0 (eq-eqb e i (sym same)))

-- any other entry stands as often in an order as in its rest
pub times_rest : (e i : ℕ) (o : List ℕ) → i ≢ e → times i (e ∷ o) ≡ times i o
times_rest e i o other =
    omega (arith, sum_by-cons (λ x. cond (x == i) 1 0) e o, cond-false {A = ℕ} (e == i) 1 0 (ne_eqb e i (λ same. other (sym same))))

-- an entry that is not in an order precedes none
pub slot_absent : (o : List ℕ) (e i : ℕ) → times e o ≡ 0 → slot nat_eq o i ≤ slot nat_eq o e
slot_absent [] e i absent = omega arith
slot_absent (x ∷ o) e i absent =
    elim (cases_eq e x) [
      | inl same ↦ absurd (omega (arith, times_first x e o same))
      | inr other ↦
          elim (cases_eq i x) [
            | inl first ↦ omega (arith, slot_first x i o first)
            | inr rest ↦
                let absent-in-rest : times e o ≡ 0 = sym (times_rest x e o other) ∙ absent in
                omega (arith, slot_rest x e o other, slot_rest x i o rest, slot_absent o e i absent-in-rest)
          ]
    ]

-- the search below k decides whether some number passes
pub some_below_decides : (f : ℕ → Bool) (k : ℕ) → Decides (some_below f k) ((i : ℕ) × (i < k) × (f i ≡ true))
some_below_decides f k = Decides-below_or f (λ i. f i ≡ true) (some_below f) (λ i. (λ h. h, λ h. h)) refl (λ _. refl) k

-- where no test below k passes, each one fails
pub some_below_fails : (f : ℕ → Bool) (k : ℕ) → some_below f k ≡ false → (i : ℕ) → i < k → f i ≡ false
some_below_fails f k none i below =
    false_from_ne_true (f i) (λ passes. not_from_Decides (some_below f k) (some_below_decides f k) none (i, below, passes))

-- where no number below k can pass, the search fails
pub some_below_none : (f : ℕ → Bool) (k : ℕ) → ((i : ℕ) → i < k → f i ≢ true) → some_below f k ≡ false
some_below_none f k none =
    false_from_ne_true (some_below f k) (λ some. let found = (some_below_decides f k).0 some in none found.0 found.1 found.2)

-- what is found is below k, passes, and is the largest such number
pub last_below_some : (f : ℕ → Bool) (k w : ℕ) → last_below f k ≡ Some w → (w < k) × (f w ≡ true) × ((v : ℕ) → v < k → f v ≡ true → v ≤ w)
last_below_some f zero w found = absurd cc
last_below_some f (suc k) w found =
    elim (cases_Bool (f k)) [
      | inl passes ↦
          let here : Some k ≡ Some w = sym (cond-true (f k) (Some k) (last_below f k) passes) ∙ found in
          let same : k ≡ w = cc in (omega arith, rw (← same) passes, λ v below _. omega arith)
      | inr fails ↦
          let lower = last_below_some f k w (sym (cond-false (f k) (Some k) (last_below f k) fails) ∙ found) in (
            omega arith,
            lower.1,
            λ v below passes. elim (cases_eq v k) [
              | inl same ↦ absurd (both_ways (f k) fails (rw same at passes))
              | inr other ↦ lower.2 v (omega arith) passes
            ],
          )
    ]

-- where nothing is found, no number below k passes
pub last_below_none : (f : ℕ → Bool) (k : ℕ) → last_below f k ≡ None → (v : ℕ) → v < k → f v ≢ true
last_below_none f zero none v below passes = omega arith
last_below_none f (suc k) none v below passes =
    elim (cases_Bool (f k)) [
      | inl here ↦
          let found : Some k ≡ None = sym (cond-true (f k) (Some k) (last_below f k) here) ∙ none in
          cc
      | inr fails ↦ elim (cases_eq v k) [
        | inl same ↦ both_ways (f k) fails (rw same at passes)
        | inr other ↦ last_below_none f k (sym (cond-false (f k) (Some k) (last_below f k) fails) ∙ none) v (omega arith) passes
      ]
    ]

-- a kind that reads has an address
kind_reads_addressed : (k : Kind) → reads k ≡ true → addressed k ≡ true
kind_reads_addressed Load _ = refl
kind_reads_addressed Store _ = refl
kind_reads_addressed Swap _ = refl
kind_reads_addressed Sync h = h

-- a kind that writes has an address
kind_writes_addressed : (k : Kind) → writes k ≡ true → addressed k ≡ true
kind_writes_addressed Load _ = refl
kind_writes_addressed Store _ = refl
kind_writes_addressed Swap _ = refl
kind_writes_addressed Sync h = h

-- an entry that reads is on an address
pub reads_addressed : (is : List Instruction) (i : ℕ) → reads_at is i ≡ true → addressed_at is i ≡ true
reads_addressed is i h = kind_reads_addressed (instruction_at is i).kind h

-- an entry that writes is on an address
pub writes_addressed : (is : List Instruction) (i : ℕ) → writes_at is i ≡ true → addressed_at is i ≡ true
writes_addressed is i h = kind_writes_addressed (instruction_at is i).kind h

-- the test of two addresses decides whether they are equal
pub decides_same_address : (a b : Address) → Decides (same_address a b) (a ≡ b)
decides_same_address a b = (same_addresses.faithful a b, λ same. rw same (same_addresses.reflexive b))

-- two entries are on the same address or they are not
pub cases_address : (is : List Instruction) (i j : ℕ) → SameAddress is i j ⊎ (SameAddress is i j → ⊥)
cases_address is i j =
    let decided = decides_same_address (instruction_at is i).address (instruction_at is j).address in
    elim (cases_Bool (same_address (instruction_at is i).address (instruction_at is j).address)) [
      | inl same ↦ inl (decided.0 same)
      | inr different ↦ inr (not_from_Decides (same_address (instruction_at is i).address (instruction_at is j).address) decided different)
    ]
