-- Which tokens a line may go on with, by what its next token is.
use Rattle.std.proofs.Common.{◌≡◌, ℕ, true, false, List, [], ◌∷◌, refl}
use Rattle.std.proofs.lemmas.Bool.{both_ways, eq-eqb}
use Rattle.text.specs.declared.token.Symbol.{Symbol}
use Rattle.text.specs.Grammar.{Spells, a_number, a_symbol, Tok, number, fixed, ends}
use Rattle.text.specs.Lines.{code, is_end, is_symbol}
use Rattle.text.proofs.Wants.{NumberFirst}

-- the tokens ts begin with a token like t: with some number, with the same symbol, or there are none
pub data Like : Tok → List Tok → Type 0 where
  numbers : {ds es : List ℕ} {ts : List Tok} → Like (number ds) (number es ∷ ts)
  symbols : {s : Symbol} {ts : List Tok} → Like (fixed s) (fixed s ∷ ts)
  ending : Like ends []

-- a token that is spelled is like itself
pub like_itself : {w : List ℕ} {t : Tok} → Spells w t → (ts : List Tok) → Like t (t ∷ ts)
like_itself (a_number l a) ts = numbers
like_itself a_symbol ts = symbols

-- a token that fails the test for a symbol is not like it
pub not_symbol : (s : Symbol) (t : Tok) (ts : List Tok) → is_symbol s t ≡ false → Like t (fixed s ∷ ts) → ⊥
not_symbol s t ts e symbols = both_ways _ e (eq-eqb (code s) (code s) refl)

-- a token that fails the test for the end is not like it
pub not_end : (t : Tok) → is_end t ≡ false → Like t [] → ⊥
not_end t e ending = both_ways true e refl

-- what is like a number is a number
pub like_number : (t : Tok) (ts : List Tok) → Like t ts → NumberFirst ts → NumberFirst (t ∷ [])
like_number t ts numbers z = tt
like_number t ts symbols z = z
like_number t ts ending z = z
