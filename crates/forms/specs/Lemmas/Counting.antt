-- Sums and counts over the numbers below a bound.
use Rattle.std.specs.Prelude.{◌≡◌, ℕ, zero, suc, ◌+◌, ◌<◌, Bool, true, false, cond, ◌≢◌, sum_by, count_by, refl}
use Rattle.std.proofs.Common.{sym, ◌∙◌, ap, inl, inr, arith}
use Rattle.std.specs.List.{range_with_len}
use Rattle.std.proofs.lemmas.List.FromFn.{sum_by-map-range_with_len_more}
use Rattle.std.proofs.lemmas.List.Sums.{sum-map}
use Rattle.std.proofs.lemmas.Bool.{cases_eq}

-- one number more
pub sum_range_more : (f : ℕ → ℕ) (n : ℕ) → sum_by f (range_with_len 0 (n + 1)) ≡ sum_by f (range_with_len 0 n) + f n
sum_range_more f n =
    sym (sum-map f (range_with_len 0 (n + 1))) ∙ (sum_by-map-range_with_len_more (λ x. x) f 0 n n (omega arith) ∙ ap (λ s. s + f n) (sum-map f (range_with_len 0 n)))

-- the same where the numbers that pass a test are counted
pub count_range_more : (p : ℕ → Bool) (n : ℕ) (b : Bool) → b ≡ p n → count_by p (range_with_len 0 (n + 1)) ≡ count_by p (range_with_len 0 n) + cond b 1 0
count_range_more p n b e = sum_range_more (λ x. cond (p x) 1 0) n ∙ ap (λ t. count_by p (range_with_len 0 n) + cond t 1 0) (sym e)

-- the same, with the number after n as it is in a recursion
pub count_suc : (p : ℕ → Bool) (n : ℕ) (b : Bool) → b ≡ p n → count_by p (range_with_len 0 (suc n)) ≡ count_by p (range_with_len 0 n) + cond b 1 0
count_suc p n b e = let next : suc n ≡ n + 1 = omega arith in ap (λ k. count_by p (range_with_len 0 k)) next ∙ count_range_more p n b e

-- where two tests agree below n, as many numbers pass the one as the other
pub count_same : (p q : ℕ → Bool) (n : ℕ) → ((i : ℕ) → i < n → p i ≡ q i) → count_by p (range_with_len 0 n) ≡ count_by q (range_with_len 0 n)
count_same p q zero agree = refl
count_same p q (suc n) agree =
    let fewer = count_same p q n (λ i below. agree i (omega arith)) in
    omega (arith, count_suc p n (p n) refl, count_suc q n (p n) (agree n (omega arith)), fewer)

-- where e passes the first test only and the two agree at every other number, one more number passes the first
pub count_one_less : (p q : ℕ → Bool) (n e : ℕ) → e < n → p e ≡ true → q e ≡ false → ((i : ℕ) → i ≢ e → p i ≡ q i)
    → count_by p (range_with_len 0 n) ≡ suc (count_by q (range_with_len 0 n))
count_one_less p q zero e below first second agree = absurd (omega arith)
count_one_less p q (suc n) e below first second agree = elim (cases_eq n e) [
  | inl last ↦
      let others = count_same p q n (λ i l. agree i (omega arith)) in
      omega (arith, count_suc p n true (rw last (sym first)), count_suc q n false (rw last (sym second)), others)
  | inr other ↦
      let fewer = count_one_less p q n e (omega arith) first second agree in
      omega (arith, count_suc p n (p n) refl, count_suc q n (p n) (agree n other), fewer)
]
