-- The parts of a line, as a loop reads them.
use Rattle.std.proofs.Common.{◌≡◌, ℕ, ◌+◌, ◌<◌, ◌≤◌, List, length, get_or, drop, Ok, Err, Result, sym, ap, ◌∙◌}
use Rattle.std.proofs.lemmas.List.{at_drop_more, at_drop_all}
use Rattle.text.specs.declared.statement.Part.{Part}
use Rattle.text.specs.declared.statement.Fields.{Fields}
use Rattle.text.specs.declared.fault.Fault.{Fault}
use Rattle.text.specs.Tokens.{At, skipped, next_token, past}
use Rattle.text.specs.Grammar.{Tok}
use Rattle.text.specs.Lines.{placed, accepted, parts, fault_at}
use Rattle.traces.specs.Adding.{and_then}

-- i parts of the form are read, and the rest of them from the place a gives the whole
module _ (form : List Part) (i : ℕ) (f : Fields) (a : At) (whole : Result (Fields × At) Fault) (so_far : parts (drop i form) f a ≡ whole) where
  -- the next part is p, and t is the token at the column c
  module _ (p : Part) (inside : i < length form) (t : Tok) (c : ℕ) (same-t : t ≡ next_token a) (same-c : c ≡ (skipped a).column) where
    next_part : and_then (placed (skipped a) (accepted (get_or form i p) f c t)) (λ g. parts (drop (i + 1) form) g (past a)) ≡ whole
    unfolding parts
    next_part =
        ap (λ n. and_then (placed (skipped a) (accepted (get_or form i p) f n t)) (λ g. parts (drop (i + 1) form) g (past a))) same-c
        ∙ ap (λ u. and_then (placed (skipped a) (accepted (get_or form i p) f (skipped a).column u)) (λ g. parts (drop (i + 1) form) g (past a))) same-t
        ∙ sym (at_drop_more (λ ps. parts ps f a) form i p inside)
        ∙ so_far

    -- the token fits, and the rest of the form gives the whole
    pub parts_more : (g : Fields) (b : At) → b ≡ past a → Ok g ≡ accepted (get_or form i p) f c t → parts (drop (i + 1) form) g b ≡ whole
    parts_more g b e h = ap (parts (drop (i + 1) form) g) e ∙ ap (λ r. and_then (placed (skipped a) r) (λ x. parts (drop (i + 1) form) x (past a))) h ∙ next_part

    -- the token does not fit, and the whole is that fault
    pub parts_stop : (e : Fault) → accepted (get_or form i p) f c t ≡ Err e.cause → e.line ≡ a.line → e.column ≡ c → whole ≡ Err e
    parts_stop e h l k =
        let same : fault_at (skipped a) e.cause ≡ e = λ j. record { cause = e.cause; line = sym l j; column = sym (k ∙ same-c) j } in
        sym next_part ∙ ap (λ r. and_then (placed (skipped a) r) (λ x. parts (drop (i + 1) form) x (past a))) h ∙ ap Err same

  -- no part is left
  pub parts_all : length form ≤ i → whole ≡ Ok (f, a)
  unfolding parts
  parts_all l = sym so_far ∙ at_drop_all (λ ps. parts ps f a) form i l
