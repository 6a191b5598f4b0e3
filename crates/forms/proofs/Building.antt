-- Sets of entries, built by one number after the other, and arrays of what a closure gives.
use Rattle.std.proofs.Common.{◌≡◌, ℕ, zero, suc, List, slice_index_or, ◌+◌, ◌<◌, ◌≤◌, Bool, true, false, sym, ap, ◌∙◌, subst, inl, inr, arith}
use Rattle.std.proofs.lemmas.Bool.{cases_eq, cases_lt, false_from_ne_true}
use denote.Param.Members.{Mut, Called}
use Rattle.std.specs.Array.{IsFromFnResult, IsFromFnResultFrom}
use Rattle.forms.specs.declared.entry_set.EntrySet.{EntrySet}
use Rattle.forms.specs.EntrySets.{inserted, member}
use Rattle.forms.specs.Lemmas.Members.{inserted_beyond, member_inserted_other, member_inserted_same}

-- each number below n and below 64 has the right answer by its membership, and no other number is a member
pub record Built (P : ℕ → Bool → Type 0) (s : EntrySet) (n : ℕ) : Type 0 where
  pub within : (k : ℕ) → k < n → k < 64 → P k (member s k)
  pub beyond : (k : ℕ) → n ≤ k → member s k ≡ false
  pub high : (k : ℕ) → 64 ≤ k → member s k ≡ false

module _ (P : ℕ → Bool → Type 0) (s t : EntrySet) (i : ℕ) (built : Built P s i) where
  -- one number more, with the right answer, where the others stay
  more : (i < 64 → P i (member t i)) → (64 ≤ i → member t i ≡ false) → ((k : ℕ) → (k ≡ i → ⊥) → member t k ≡ member s k) → Built P t (i + 1)
  more own past others = record {
    within = λ k below low. elim (cases_eq k i) [
      | inl same ↦ subst (λ n. P n (member t n)) (sym same) (own (omega arith))
      | inr other ↦ subst (λ r. P k r) (sym (others k other)) (built.within k (omega arith) low)
    ];
    beyond = λ k above. others k (λ same. omega arith) ∙ built.beyond k (omega arith);
    high = λ k above. elim (cases_eq k i) [
      | inl same ↦ subst (λ n. member t n ≡ false) (sym same) (past (omega arith))
      | inr other ↦ others k other ∙ built.high k above
    ];
  }

  -- one number more, put in where its answer is yes
  pub built_put : P i true → t ≡ inserted s i → Built P t (i + 1)
  built_put answer put =
      more (λ low. subst (P i) (sym (ap (λ x. member x i) put ∙ member_inserted_same s i low)) answer)
      (λ past. ap (λ x. member x i) (put ∙ inserted_beyond s i past) ∙ built.high i past)
      (λ k other. ap (λ x. member x k) put ∙ member_inserted_other s i k other)

  -- one number more, left out where its answer is no
  pub built_left : P i false → t ≡ s → Built P t (i + 1)
  built_left answer left =
      let absent : member t i ≡ false = ap (λ x. member x i) left ∙ built.beyond i (omega arith) in
      more (λ _. subst (P i) (sym absent) answer) (λ _. absent) (λ k other. ap (λ x. member x k) left)

-- where only numbers below n and below 64 pass a test, the set has exactly the numbers that pass
pub built_all : (f : ℕ → Bool) (s : EntrySet) (n : ℕ) → ((k : ℕ) → f k ≡ true → (k < n) × (k < 64)) → ((k : ℕ) → k < n → k < 64 → member s k ≡ f k)
    → ((k : ℕ) → n ≤ k → member s k ≡ false) → ((k : ℕ) → 64 ≤ k → member s k ≡ false) → (k : ℕ) → member s k ≡ f k
built_all f s n few within beyond high k = elim (cases_lt k n) [
  | inl below ↦ elim (cases_lt k 64) [
    | inl low ↦ within k below low
    | inr past ↦ high k past ∙ sym (false_from_ne_true (f k) (λ passes. omega (arith, (few k passes).1)))
  ]
  | inr past ↦ beyond k past ∙ sym (false_from_ne_true (f k) (λ passes. omega (arith, (few k passes).0)))
]

-- a closure that gives what is right at each index and stays as it is fills an array with what is right
pub each_filled : {F B : Type 0} (g : Mut F (ℕ × Unit {0}) B) (f : F) (P : ℕ → B → Type 0) (ys : List B) (n : ℕ) (d : B)
    → ((i : ℕ) (y : B) (q : F) → Called g f (i, tt) y q → (q ≡ f) × P i y) → IsFromFnResult g f ys n → (k : ℕ) → k < n → P k (slice_index_or ys k d)
each_filled {F} g f P ys n d right filled k below = from 0 n filled.each k (omega arith) (omega arith)
  where
    from : (i n : ℕ) → IsFromFnResultFrom g f ys i n → (k : ℕ) → i ≤ k → k < i + n → P k (slice_index_or ys k d)
    from i zero filled k low high = absurd (omega arith)
    from i (suc n) filled k low high =
        let first = right i filled.1 filled.0 filled.3 in
        elim (cases_eq k i) [
          | inl same ↦ subst (λ j. P j (slice_index_or ys j d)) (sym same) (subst (P i) (sym (filled.2.1 d)) first.1)
          | inr other ↦ from (i + 1) n (subst (λ (h : F). IsFromFnResultFrom g h ys (i + 1) n) first.0 filled.4) k (omega arith) (omega arith)
        ]
