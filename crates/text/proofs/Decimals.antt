-- Numbers from digits, as a loop reads them.
use Rattle.std.proofs.Common.{◌≡◌, ℕ, ◌+◌, ◌-◌, ◌*◌, ◌^◌, ◌<◌, ◌≤◌, List, [], ◌∷◌, length, get_or, drop, None, sym, ◌∙◌, arith}
use Rattle.std.proofs.lemmas.List.{at_drop_more}
use Rattle.std.proofs.lemmas.Bool.{cond-false, le-ltb}
use Rattle.text.specs.Grammar.{denoted}
use Rattle.text.specs.Lines.{value_of}

decimal_ge : (n : ℕ) (ds : List ℕ) → n ≤ denoted n ds
decimal_ge n [] = omega arith
decimal_ge n (d ∷ ds) = omega (arith, decimal_ge (n * 10 + (d - 48)) ds)

module _ (ds : List ℕ) (n i : ℕ) (so_far : denoted n (drop i ds) ≡ denoted 0 ds) where
  -- one digit more
  pub decimal_more : i < length ds → denoted (n * 10 + (get_or ds i 0 - 48)) (drop (i + 1) ds) ≡ denoted 0 ds
  decimal_more l = sym (at_drop_more (denoted n) ds i 0 l) ∙ so_far

  -- a number that is too large stays so
  pub decimal_large : i < length ds → 2 ^ 64 ≤ n * 10 + (get_or ds i 0 - 48) → None ≡ value_of ds
  decimal_large l big =
      let more = decimal_more l in
      let ge = decimal_ge (n * 10 + (get_or ds i 0 - 48)) (drop (i + 1) ds) in
      sym (cond-false _ _ _ (le-ltb (denoted 0 ds) (2 ^ 64) (omega arith)))
