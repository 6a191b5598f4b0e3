-- How far the column moves past spaces, and how much shorter the rest gets past a token.
use Rattle.std.proofs.Common.{◌≡◌, ℕ, ◌+◌, eqb, List, length, ap, ◌∙◌, arith, length-append}
use Rattle.std.proofs.lemmas.List.Sums.{prefix_len-le-length}
use Rattle.std.proofs.lemmas.List.{length-drop}
use Rattle.text.specs.Tokens.{At, skipped, spaces, width}
use Rattle.text.specs.Grammar.{Begins, Tok}
use Rattle.text.proofs.Longest.{spells_width}

-- bytes that begin with a token are as long as the token and what follows
pub begins_length : (bs : List ℕ) (t : Tok) (rest : List ℕ) → Begins bs t rest → length bs ≡ width t + length rest
begins_length bs t rest b = ap length b.whole ∙ length-append b.spelled rest ∙ ap (λ k. k + length rest) (spells_width b.spelled t b.spells)

-- skipping spaces moves the column by as much as the rest gets shorter
pub skipped_column : (a : At) → (skipped a).column + length (skipped a).rest ≡ a.column + length a.rest
skipped_column a = omega (arith, length-drop (spaces a.rest) a.rest, prefix_len-le-length (λ b. eqb b 32) a.rest)
