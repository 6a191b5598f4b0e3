-- Membership in a set of entries, once a number is put in.
use Rattle.std.specs.Prelude.{◌≡◌, ℕ, ◌/◌, ◌%◌, ◌^◌, ◌<◌, ◌≤◌, true, false, ◌≢◌, bit_or, nat_eq}
use Rattle.std.proofs.Common.{ap, ◌∙◌, inl, inr, arith}
use Rattle.std.proofs.lemmas.Nat.Bits.{bit_at-pow_other, bit_at-pow_same, bit_at-zero, bit_at_or}
use Rattle.std.proofs.lemmas.Bool.{cases_lt, cond-false, cond-true, eq-eqb, le-ltb, lt-ltb, ne_eqb}
use Rattle.forms.specs.EntrySets.{empty_set, inserted, member}
use Rattle.forms.specs.declared.entry_set.EntrySet.{EntrySet}

-- the empty set has no member
pub member_none : (i : ℕ) → member empty_set i ≡ false
member_none i = ne_eqb (0 / 2 ^ i % 2) 1 (λ one. omega (arith, one, bit_at-zero i))

-- what `inserted` is below 64
pub inserted_below : (s : EntrySet) (i : ℕ) → i < 64 → inserted s i ≡ record { bits = bit_or s.bits (2 ^ i) }
unfolding inserted
inserted_below s i l = cond-true _ _ _ (lt-ltb i 64 l)

-- `inserted` does nothing from 64 on
pub inserted_beyond : (s : EntrySet) (i : ℕ) → 64 ≤ i → inserted s i ≡ s
unfolding inserted
inserted_beyond s i l = cond-false _ _ _ (le-ltb i 64 l)

-- what is put in is a member
pub member_inserted_same : (s : EntrySet) (i : ℕ) → i < 64 → member (inserted s i) i ≡ true
member_inserted_same s i l =
    ap (λ t. member t i) (inserted_below s i l)
    ∙ eq-eqb (bit_or s.bits (2 ^ i) / 2 ^ i % 2) 1 (omega (arith, bit_at_or s.bits (2 ^ i) i, bit_at-pow_same i))

-- other members stay as a number is put in
pub member_inserted_other : (s : EntrySet) (i j : ℕ) → j ≢ i → member (inserted s i) j ≡ member s j
member_inserted_other s i j d = elim (cases_lt i 64) [
  | inl l ↦
      let e : bit_or s.bits (2 ^ i) / 2 ^ j % 2 ≡ s.bits / 2 ^ j % 2 = omega (arith, bit_at_or s.bits (2 ^ i) j, bit_at-pow_other i j d) in
      ap (λ t. member t j) (inserted_below s i l) ∙ ap (λ x. nat_eq x 1) e
  | inr l ↦ ap (λ t. member t j) (inserted_beyond s i l)
]
