-- Membership in sets of entries, once a number is taken out, and in what two sets have in common.
use Rattle.std.specs.Prelude.{◌≡◌, ℕ, ◌-◌, ◌*◌, ◌/◌, ◌%◌, ◌^◌, ◌<◌, ◌≤◌, true, false, cond, not, ◌≢◌, None, Some, Option, IfNone, IfSome, ◌==◌, bit_and, bit_or, nat_eq, nat_lt}
use Rattle.std.proofs.Common.{ap, ◌∙◌, sym, inl, inr, arith}
use Rattle.std.specs.Int.Bits.{and_zero_r, or_zero_r}
use mir.Syntax.{w64}
use Rattle.std.proofs.lemmas.Nat.{and_le_l, pow_pos}
use Rattle.std.proofs.lemmas.Nat.Bits.{and_pow, bit_at-trailing_zeros, bit_at-zero, bit_at_above, bit_at_and, bit_at_not}
use Rattle.std.proofs.lemmas.Bool.{cases_Bool, cases_lt, cond-false, cond-true, eq-eqb, eqb-false, eqb-true, le-ltb, lt-ltb, ne_eqb}
use Rattle.std.proofs.lemmas.Bool.Decides.{nat_tests}
use Rattle.forms.specs.EntrySets.{LatestCommon, inserted, member, removed}
use Rattle.forms.specs.declared.entry_set.EntrySet.{EntrySet}
use Rattle.forms.proofs.BinaryDigits.{and_not_power, and_opposite, digit_less, digit_less_other, digit_top, or_less, or_more}
use Rattle.forms.specs.Lemmas.Members.{inserted_below, inserted_beyond, member_inserted_same}

-- a member's digit is 1
member_digit : (s : EntrySet) (i : ℕ) → member s i ≡ true → s.bits / 2 ^ i % 2 ≡ 1
member_digit s i e = eqb-true (s.bits / 2 ^ i % 2) 1 e

-- the digit of what is no member is 0
other_digit : (s : EntrySet) (i : ℕ) → member s i ≡ false → s.bits / 2 ^ i % 2 ≡ 0
other_digit s i e = let d = eqb-false (s.bits / 2 ^ i % 2) 1 e in omega arith

-- what `removed` is at a member
removed_member : (s : EntrySet) (i : ℕ) → member s i ≡ true → removed s i ≡ record { bits = s.bits - 2 ^ i }
unfolding removed
removed_member s i e = cond-true _ _ _ e

-- `removed` does nothing at what is no member
pub removed_other : (s : EntrySet) (i : ℕ) → member s i ≡ false → removed s i ≡ s
unfolding removed
removed_other s i e = cond-false _ _ _ e

-- what `removed` is for a set of 64 bits, below 64
pub removed_below : (s : EntrySet) (i : ℕ) → s.bits < 2 ^ 64 → i < 64 → removed s i ≡ record { bits = bit_and s.bits (2 ^ 64 - 1 - 2 ^ i) }
removed_below s i h l =
    let parts = and_not_power 64 s.bits i h l in
    let less : member s i ≡ true → s.bits - 2 ^ i ≡ bit_and s.bits (2 ^ 64 - 1 - 2 ^ i) =
    λ e. omega (arith, parts, ap (λ x. x * 2 ^ i) (member_digit s i e)) in
    let same : member s i ≡ false → s.bits ≡ bit_and s.bits (2 ^ 64 - 1 - 2 ^ i) =
    λ e. omega (arith, parts, ap (λ x. x * 2 ^ i) (other_digit s i e)) in
    elim (cases_Bool (member s i)) [
      | inl e ↦ removed_member s i e ∙ ap (λ b. record { bits = b }) (less e)
      | inr e ↦ removed_other s i e ∙ ap (λ b. record { bits = b }) (same e)
    ]

-- what is taken out is no member
pub member_removed_same : (s : EntrySet) (i : ℕ) → member (removed s i) i ≡ false
member_removed_same s i = elim (cases_Bool (member s i)) [
  | inl e ↦
      ap (λ t. member t i) (removed_member s i e)
      ∙ ne_eqb ((s.bits - 2 ^ i) / 2 ^ i % 2) 1 (λ h. omega (arith, h, digit_less s.bits i (member_digit s i e)))
  | inr e ↦ ap (λ t. member t i) (removed_other s i e) ∙ e
]

-- other members stay as a number is taken out
pub member_removed_other : (s : EntrySet) (i j : ℕ) → j ≢ i → member (removed s i) j ≡ member s j
member_removed_other s i j d = elim (cases_Bool (member s i)) [
  | inl e ↦ ap (λ t. member t j) (removed_member s i e) ∙ ap (λ x. nat_eq x 1) (digit_less_other s.bits i j (member_digit s i e) d)
  | inr e ↦ ap (λ t. member t j) (removed_other s i e)
]

-- what is put in and taken out again leaves the set as it was
pub removed_inserted : (s : EntrySet) (i : ℕ) → i < 64 → member s i ≡ false → removed (inserted s i) i ≡ s
removed_inserted s i l e =
    let more = ap (λ t. t.bits) (inserted_below s i l) ∙ or_more s.bits i (other_digit s i e) in
    let back : (inserted s i).bits - 2 ^ i ≡ s.bits = omega (arith, more) in
    removed_member (inserted s i) i (member_inserted_same s i l) ∙ ap (λ b. record { bits = b }) back

-- what is taken out and put in again leaves the set as it was
pub inserted_removed : (s : EntrySet) (i : ℕ) → i < 64 → member s i ≡ true → inserted (removed s i) i ≡ s
inserted_removed s i l e =
    ap (λ t. inserted t i) (removed_member s i e) ∙ inserted_below (record { bits = s.bits - 2 ^ i }) i l
    ∙ ap (λ b. record { bits = b }) (or_less s.bits i (member_digit s i e))

-- a set of 64 bits has no member from 64 on
pub member_beyond : (s : EntrySet) (i : ℕ) → s.bits < 2 ^ 64 → 64 ≤ i → member s i ≡ false
member_beyond s i h l = ne_eqb (s.bits / 2 ^ i % 2) 1 (λ e. omega (arith, e, bit_at_above s.bits 64 i h l))

-- the set of the opposite digits has the other members
pub member_opposite : (s : EntrySet) (i : ℕ) → s.bits < 2 ^ 64 → i < 64 → member (record { bits = 2 ^ 64 - 1 - s.bits }) i ≡ not (member s i)
member_opposite s i h l = let d = bit_at_not w64 s.bits i h l in grind (arith, nat_tests)

-- and no member from 64 on
pub opposite_beyond : (s : EntrySet) (i : ℕ) → 64 ≤ i → member (record { bits = 2 ^ 64 - 1 - s.bits }) i ≡ false
opposite_beyond s i l = member_beyond (record { bits = 2 ^ 64 - 1 - s.bits }) i (omega arith) l

-- a digit of the `&` of two sets is 1 at each common member
common_digit : (s t : EntrySet) (i : ℕ) → member s i ≡ true → member t i ≡ true → bit_and s.bits t.bits / 2 ^ i % 2 ≡ 1
common_digit s t i p q = omega (arith, bit_at_and s.bits t.bits i, member_digit s i p, member_digit t i q)

-- a place of the `&` of two sets whose digit is 1 is a common member
digit_common : (s t : EntrySet) (i : ℕ) → bit_and s.bits t.bits / 2 ^ i % 2 ≡ 1 → (member s i ≡ true) × (member t i ≡ true)
digit_common s t i d =
    let both = bit_at_and s.bits t.bits i in
    (eq-eqb (s.bits / 2 ^ i % 2) 1 (omega arith), eq-eqb (t.bits / 2 ^ i % 2) 1 (omega arith))

-- sets whose `&` is 0 have no common member
pub none_common : (s t : EntrySet) → bit_and s.bits t.bits ≡ 0 → (i : ℕ) → member s i ≡ true → member t i ≢ true
none_common s t e i p q = omega (arith, common_digit s t i p q, ap (λ x. x / 2 ^ i % 2) e, bit_at-zero i)

-- sets of 64 bits whose `&` is not 0 have a common member
pub some_common : (s t : EntrySet) → s.bits < 2 ^ 64 → bit_and s.bits t.bits ≢ 0 → (i : ℕ) × (i < 64) × (member s i ≡ true) × (member t i ≡ true)
some_common s t h e =
    let common = bit_and s.bits t.bits in
    let lowest = bit_at-trailing_zeros w64 common (omega arith) (omega (arith, and_le_l s.bits t.bits)) in
    let both = digit_common s t _ lowest.1 in
    (_, lowest.0, both.0, both.1)

-- the place of the highest digit of the `&` of two sets is their greatest common member
pub latest_common : (s t : EntrySet) (top : Option ℕ) → IfNone top (bit_and s.bits t.bits ≡ 0)
    → IfSome top (λ k. 2 ^ k ≤ bit_and s.bits t.bits) → IfSome top (λ k. bit_and s.bits t.bits < 2 * 2 ^ k) → IfSome top (λ k. k < 64) → LatestCommon s t top
latest_common s t None none low high few = none_common s t none
latest_common s t (Some k) none low high few =
    let top = digit_top (bit_and s.bits t.bits) k low high in
    let both = digit_common s t k top.0 in
    (few, both.0, both.1, λ v p q. top.1 v (common_digit s t v p q))

-- what the sets do by the bit of i
module _ (s : EntrySet) (i bit : ℕ) (is-bit : bit ≡ cond (nat_lt i 64) (2 ^ i) 0) (fits : s.bits < 2 ^ 64) where
  low_bit : i < 64 → bit ≡ 2 ^ i
  low_bit l = is-bit ∙ cond-true _ _ _ (lt-ltb i 64 l)

  no_bit : 64 ≤ i → bit ≡ 0
  no_bit l = is-bit ∙ cond-false _ _ _ (le-ltb i 64 l)

  -- a number is a member where its bit is among those of the set
  pub contains_by_bit : not (bit_and s.bits bit == 0) ≡ member s i
  contains_by_bit = elim (cases_lt i 64) [
    | inl l ↦
        let kept : bit_and s.bits bit ≡ (s.bits / 2 ^ i % 2) * 2 ^ i = ap (λ x. bit_and s.bits x) (low_bit l) ∙ and_pow s.bits i in
        elim (cases_Bool (member s i)) [
          | inl e ↦
              ap not (ne_eqb (bit_and s.bits bit) 0 (λ z. omega (arith, z, kept, ap (λ x. x * 2 ^ i) (member_digit s i e), pow_pos i))) ∙ sym e
          | inr e ↦ ap not (eq-eqb (bit_and s.bits bit) 0 (omega (arith, kept, ap (λ x. x * 2 ^ i) (other_digit s i e)))) ∙ sym e
        ]
    | inr l ↦ ap (λ x. not (bit_and s.bits x == 0)) (no_bit l) ∙ ap (λ x. not (x == 0)) (and_zero_r s.bits) ∙ sym (member_beyond s i fits l)
  ]

  -- `|` with the bit puts the number in
  pub with_by_bit : record { bits = bit_or s.bits bit } ≡ inserted s i
  with_by_bit = elim (cases_lt i 64) [
    | inl l ↦ ap (λ x. record { bits = bit_or s.bits x }) (low_bit l) ∙ sym (inserted_below s i l)
    | inr l ↦ ap (λ x. record { bits = bit_or s.bits x }) (no_bit l) ∙ ap (λ x. record { bits = x }) (or_zero_r s.bits) ∙ sym (inserted_beyond s i l)
  ]

  -- `&` with all other bits takes it out
  pub without_by_bit : record { bits = bit_and s.bits (2 ^ 64 - 1 - bit) } ≡ removed s i
  without_by_bit = elim (cases_lt i 64) [
    | inl l ↦ ap (λ x. record { bits = bit_and s.bits (2 ^ 64 - 1 - x) }) (low_bit l) ∙ sym (removed_below s i fits l)
    | inr l ↦
        ap (λ x. record { bits = bit_and s.bits (2 ^ 64 - 1 - x) }) (no_bit l)
        ∙ ap (λ x. record { bits = x }) (omega (arith, and_opposite 64 s.bits 0 fits (omega arith), and_zero_r s.bits))
        ∙ sym (removed_other s i (member_beyond s i fits l))
  ]
