-- The bytes at the front of a list that pass a test.
use Rattle.std.proofs.Common.{◌≡◌, ℕ, ◌+◌, ◌<◌, Bool, true, false, List, [], ◌∷◌, ◌++◌, length, get_or, take, drop, All, refl, ◌∙◌, ⊎_elim, add-zero, length-take, get_or-drop, get_or-take, arith}
use Rattle.std.specs.List.{prefix_len}
use Rattle.std.proofs.lemmas.List.{drop_all}
use Rattle.std.proofs.lemmas.List.Elements.{All-from_get_or, All-head, All-tail}
use Rattle.std.proofs.lemmas.List.Sums.{prefix_len_passes, prefix_len_stops}
use Rattle.std.proofs.lemmas.Bool.{cond-true, cond-false, cases_lt}

module _ (test : ℕ → Bool) where
  -- none pass where the first does not
  pub front_none : (xs : List ℕ) → test (get_or xs 0 0) ≡ false → prefix_len test xs ≡ 0
  front_none [] h = refl
  front_none (x ∷ xs) h = cond-false _ _ _ h

  -- bytes that pass, and then as many as pass behind them
  pub front_behind : (xs ys : List ℕ) → All (λ b. test b ≡ true) xs → prefix_len test (xs ++ ys) ≡ length xs + prefix_len test ys
  front_behind [] ys a = omega arith
  front_behind (x ∷ xs) ys a = let h = front_behind xs ys (All-tail (λ b. test b ≡ true) x xs a) in cond-true _ _ _ (All-head (λ b. test b ≡ true) x xs a) ∙ omega arith

  -- each byte of the front passes
  pub front_passes : (xs : List ℕ) → All (λ b. test b ≡ true) (take (prefix_len test xs) xs)
  front_passes xs =
      All-from_get_or (λ b. test b ≡ true) (take (prefix_len test xs) xs) 0 (λ i l.
      let h : i < prefix_len test xs = omega (arith, length-take (prefix_len test xs) xs) in
      rw get_or-take (prefix_len_passes test xs i 0 h))

  -- the byte behind the front does not pass
  pub front_stops : (xs : List ℕ) → test 0 ≡ false → test (get_or (drop (prefix_len test xs) xs) 0 0) ≡ false
  front_stops xs z =
      ⊎_elim
      (λ l. rw (get_or-drop, add-zero) (prefix_len_stops test xs 0 l))
      (λ g. rw (drop_all (prefix_len test xs) xs g) z)
      (cases_lt (prefix_len test xs) (length xs))
