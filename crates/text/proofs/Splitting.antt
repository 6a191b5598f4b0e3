-- A text is made of its lines, which are the bytes between those that end a line.
use Rattle.std.proofs.Common.{◌≡◌, ℕ, Bool, true, false, cond, eqb, List, [], ◌∷◌, ◌++◌, All, ◌≢◌, sym, refl, ap, ◌∙◌, subst}
use Rattle.std.proofs.lemmas.List.Elements.{All-nil, All-cons, All-head, All-tail}
use Rattle.std.proofs.lemmas.Bool.{cond-false, eqb-true, eqb-false, ne_eqb}
use Rattle.text.specs.Texts.{into_first, lines_of}

-- no byte ends a line
abbrev pub Unbroken : List ℕ → Type 0
Unbroken bs = All (λ b. b ≢ 10) bs

-- that for no bytes, for one byte more in front, for the first byte, and for those behind it
pub unbroken_nil : Unbroken []
unbroken_nil = All-nil (λ b. b ≢ 10)

unbroken_cons : (b : ℕ) (bs : List ℕ) → b ≢ 10 → Unbroken bs → Unbroken (b ∷ bs)
unbroken_cons b bs n u = All-cons (λ b. b ≢ 10) b bs n u

unbroken_head : (b : ℕ) (bs : List ℕ) → Unbroken (b ∷ bs) → b ≢ 10
unbroken_head b bs u = All-head (λ b. b ≢ 10) b bs u

unbroken_tail : (b : ℕ) (bs : List ℕ) → Unbroken (b ∷ bs) → Unbroken bs
unbroken_tail b bs u = All-tail (λ b. b ≢ 10) b bs u

-- a text is made of lines: each ends with byte 10, which the last lacks where it has some byte
pub data Splits : List ℕ → List (List ℕ) → Type 0 where
  no_line : Splits [] []
  one_line : {bs : List ℕ} → Unbroken bs → Splits bs (bs ∷ [])
  line_and : {bs rest : List ℕ} {ls : List (List ℕ)} → Unbroken bs → Splits rest ls → Splits (bs ++ 10 ∷ rest) (bs ∷ ls)

-- one more byte in front, which ends no line
splits_more : (b : ℕ) (bs : List ℕ) (ls : List (List ℕ)) → b ≢ 10 → Splits bs ls → Splits (b ∷ bs) (into_first b ls)
splits_more b bs ls n no_line = one_line (unbroken_cons b [] n unbroken_nil)
splits_more b bs ls n (one_line {bs = cs} u) = one_line (unbroken_cons b cs n u)
splits_more b bs ls n (line_and {bs = cs} u s) = line_and {bs = b ∷ cs} (unbroken_cons b cs n u) s

-- one more byte in front
splits_step : (b : ℕ) (bs : List ℕ) (t : Bool) → eqb b 10 ≡ t → Splits bs (lines_of bs) → Splits (b ∷ bs) (cond t ([] ∷ lines_of bs) (into_first b (lines_of bs)))
splits_step b bs true e h = subst (λ x. Splits (x ∷ bs) ([] ∷ lines_of bs)) (sym (eqb-true b 10 e)) (line_and {bs = []} unbroken_nil h)
splits_step b bs false e h = splits_more b bs (lines_of bs) (eqb-false b 10 e) h

-- the lines of a text make it
pub splits : (bs : List ℕ) → Splits bs (lines_of bs)
unfolding lines_of
splits [] = no_line
splits (b ∷ bs) = splits_step b bs (eqb b 10) refl (splits bs)

-- bytes without byte 10 are one line
pub lines_one : (b : ℕ) (bs : List ℕ) → Unbroken (b ∷ bs) → lines_of (b ∷ bs) ≡ (b ∷ bs) ∷ []
unfolding lines_of
lines_one b [] u = cond-false _ _ _ (ne_eqb b 10 (unbroken_head b [] u))
lines_one b (c ∷ cs) u = cond-false _ _ _ (ne_eqb b 10 (unbroken_head b (c ∷ cs) u)) ∙ ap (into_first b) (lines_one c cs (unbroken_tail b (c ∷ cs) u))

-- bytes without byte 10, with one behind them, are the first line
pub lines_more : (bs rest : List ℕ) → Unbroken bs → lines_of (bs ++ 10 ∷ rest) ≡ bs ∷ lines_of rest
unfolding lines_of
lines_more [] rest u = refl
lines_more (b ∷ bs) rest u = cond-false _ _ _ (ne_eqb b 10 (unbroken_head b bs u)) ∙ ap (into_first b) (lines_more bs rest (unbroken_tail b bs u))
