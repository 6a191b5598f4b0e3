-- The binary digits of numbers, once some are taken away.
use Rattle.std.specs.Prelude.{◌≡◌, ℕ, zero, suc, ◌+◌, ◌-◌, ◌*◌, ◌/◌, ◌%◌, ◌^◌, ◌<◌, ◌≤◌, ◌≢◌, bit_and, bit_or, refl}
use Rattle.std.proofs.Common.{ap, sym, subst, inl, inr, pow-suc, arith}
use Rattle.std.proofs.Math.Nat.{div-eq-sub-div}
use Rattle.std.proofs.Math.Arith.{lt-one}
use Rattle.std.specs.Int.Bits.{and_step, or_add_and}
use Rattle.std.proofs.lemmas.Nat.Bits.{and_pow, bit_at-pow_other, bit_at_above, bit_at_or}
use Rattle.std.proofs.lemmas.Nat.{div_below, le-div, pow_below, pow_pos}
use Rattle.std.proofs.lemmas.Bool.{cases_lt}

-- `|` with a power adds it, less the digit that stands at its place
or_power : (n i : ℕ) → bit_or n (2 ^ i) + (n / 2 ^ i % 2) * 2 ^ i ≡ n + 2 ^ i
or_power n i = omega (arith, or_add_and n (2 ^ i), and_pow n i)

-- a number is no less than the power at each of its places of digit 1
digit_le : (n i : ℕ) → n / 2 ^ i % 2 ≡ 1 → 2 ^ i ≤ n
digit_le n i h = elim (cases_lt n (2 ^ i)) [ inl l ↦ omega (arith, bit_at_above n i i l (omega arith)) | inr l ↦ l ]

-- less a power, the digit at its place goes from 1 to 0
pub digit_less : (n i : ℕ) → n / 2 ^ i % 2 ≡ 1 → (n - 2 ^ i) / 2 ^ i % 2 ≡ 0
digit_less n i h = omega (arith, div-eq-sub-div {m = 2 ^ i} {n = n} (pow_pos i) (digit_le n i h))

-- a power that was taken away is put back by `|`
pub or_less : (n i : ℕ) → n / 2 ^ i % 2 ≡ 1 → bit_or (n - 2 ^ i) (2 ^ i) ≡ n
or_less n i h = omega (arith, or_power (n - 2 ^ i) i, ap (λ x. x * 2 ^ i) (digit_less n i h), digit_le n i h)

-- less a power, the digits at other places stay
pub digit_less_other : (n i j : ℕ) → n / 2 ^ i % 2 ≡ 1 → j ≢ i → (n - 2 ^ i) / 2 ^ j % 2 ≡ n / 2 ^ j % 2
digit_less_other n i j h d =
    omega (arith, ap (λ x. x / 2 ^ j % 2) (or_less n i h), bit_at_or (n - 2 ^ i) (2 ^ i) j, bit_at-pow_other i j d)

-- `|` with a power adds it where the digit at its place is 0
pub or_more : (n i : ℕ) → n / 2 ^ i % 2 ≡ 0 → bit_or n (2 ^ i) ≡ n + 2 ^ i
or_more n i h = omega (arith, or_power n i, ap (λ x. x * 2 ^ i) h)

-- the parts of n that the digits of m, and those that are not m's, keep under `&`, make up n
pub and_opposite : (k n m : ℕ) → n < 2 ^ k → m < 2 ^ k → bit_and n (2 ^ k - 1 - m) + bit_and n m ≡ n
and_opposite zero n m h l = subst (λ x. bit_and x (2 ^ 0 - 1 - m) + bit_and x m ≡ x) (sym (lt-one h)) refl
and_opposite (suc k) n m h l =
    let double : 2 ^ suc k ≡ 2 ^ k * 2 = pow-suc 2 k in
    let half : (2 ^ suc k - 1 - m) / 2 ≡ 2 ^ k - 1 - m / 2 = omega arith in
    let rest = and_opposite k (n / 2) (m / 2) (omega arith) (omega arith) in
    omega (arith, rest, ap (λ x. bit_and (n / 2) x) half, and_step n (2 ^ suc k - 1 - m), and_step n m)

-- `&` with every digit but that of a power takes away the digit at its place
pub and_not_power : (k n i : ℕ) → n < 2 ^ k → i < k → bit_and n (2 ^ k - 1 - 2 ^ i) + (n / 2 ^ i % 2) * 2 ^ i ≡ n
and_not_power k n i h l = omega (arith, and_opposite k n (2 ^ i) h (pow_below i k l), and_pow n i)

-- a number from a power up to its double has the digit 1 at the power's place, and a digit 1 at no later place
pub digit_top : (n k : ℕ) → 2 ^ k ≤ n → n < 2 * 2 ^ k → (n / 2 ^ k % 2 ≡ 1) × ((i : ℕ) → n / 2 ^ i % 2 ≡ 1 → i ≤ k)
digit_top n k low high =
    let few : n / 2 ^ k < 2 = div_below n (2 ^ k) 2 (pow_pos k) high in
    let some : 1 ≤ n / 2 ^ k = le-div 1 n (2 ^ k) (pow_pos k) (omega arith) in (
      omega arith,
      λ i d. elim (cases_lt k i) [
        | inl l ↦ omega (arith, bit_at_above n (suc k) i (omega (arith, pow-suc 2 k)) l)
        | inr l ↦ l
      ],
    )
