-- The tokens that lead up to a place of a line, and how two such lists of tokens compare.
use Rattle.std.proofs.Common.{◌≡◌, ℕ, ◌⊎◌, List, [], ◌∷◌, ◌++◌, take, drop, sym, refl, ap, ◌∙◌, subst, inl, inr, arith}
use Rattle.std.proofs.lemmas.List.{append-nil, take-append-drop}
use Rattle.text.specs.Tokens.{spaces, width}
use Rattle.text.specs.Grammar.{Begins, Tokens, done, more, Tok}
use Rattle.text.specs.Faults.{Leads, here, behind}
use Rattle.text.proofs.Longest.{begins_token}
use Rattle.text.proofs.Columns.{begins_length}
use Rattle.text.proofs.Gaps.{unspaced, beyond, gap_spaces, gap_stops, begins_some, begins_apart, unspaced_gap}

-- no token leads past the spaces
pub leads_none : (bs : List ℕ) → Leads bs [] (unspaced bs)
leads_none bs =
    subst (λ l. Leads l [] (unspaced bs)) (take-append-drop (spaces bs) bs)
    (here (take (spaces bs) bs) (unspaced bs) (gap_spaces bs) (gap_stops bs))

-- a token that is read, and the tokens past it
pub leads_more : (bs : List ℕ) (t : Tok) (ts : List Tok) (end : List ℕ) → Begins (unspaced bs) t (beyond bs) → Leads (beyond bs) ts end → Leads bs (t ∷ ts) end
leads_more bs t ts end b h =
    subst (λ l. Leads l (t ∷ ts) end) (take-append-drop (spaces bs) bs)
    (behind (take (spaces bs) bs) (unspaced bs) (beyond bs) end (gap_spaces bs) b h)

-- where no token leads, it is past the spaces
pub leads_end : (bs end : List ℕ) → Leads bs [] end → end ≡ unspaced bs
leads_end bs end (here gap rest s n) = sym (unspaced_gap gap rest s n)

-- the first token stands past the spaces, and the others lead on behind it
leads_next : (bs : List ℕ) (t : Tok) (ts : List Tok) (end : List ℕ) → Leads bs (t ∷ ts) end → (rest : List ℕ) × Begins (unspaced bs) t rest × Leads rest ts end
leads_next bs t ts end (behind gap cs rest _ s b h) = (rest, subst (λ l. Begins l t rest) (sym (unspaced_gap gap cs s (begins_apart cs t rest b))) b, h)

-- all tokens of a line lead to its end
pub tokens_lead : (bs : List ℕ) (ts : List Tok) → Tokens bs ts → Leads bs ts []
tokens_lead bs ts (done s) = subst (λ l. Leads l [] []) (append-nil bs) (here bs [] s (λ e. absurd (omega arith)))
tokens_lead bs ts (more gap cs rest {ts = us} s b h) = behind gap cs rest [] s b (tokens_lead rest us h)

-- bytes begin with one token
pub begins_one : (bs : List ℕ) (t u : Tok) (r q : List ℕ) → Begins bs t r → Begins bs u q → (t ≡ u) × (r ≡ q)
begins_one bs t u r q b c =
    let k = begins_token bs t r b in
    let m = begins_token bs u q c in
    let e = sym k.0 ∙ m.0 in
    (e, sym k.1 ∙ ap (λ v. drop (width v) bs) e ∙ m.1)

-- no token begins where nothing is left
pub begins_none : (t : Tok) (rest : List ℕ) → Begins [] t rest → ⊥
begins_none t rest b = absurd (omega (arith, begins_length [] t rest b, begins_some [] t rest b))

-- the tokens us go on behind ts, with a token that rest begins with
abbrev pub Onward : List Tok → List ℕ → List Tok → Type 0
Onward ts rest us = (t : Tok) × (next : List ℕ) × (vs : List Tok) × Begins rest t next × (us ≡ ts ++ t ∷ vs)

-- two lists of tokens are the same and leave the same, or one goes on behind the other
abbrev pub Compared : List Tok → List ℕ → List Tok → List ℕ → Type 0
Compared ts r us q = ((ts ≡ us) × (r ≡ q)) ⊎ (Onward ts r us ⊎ Onward us q ts)

-- the same with one more token in front of both
compared_more : (t u : Tok) (ts us : List Tok) (r q : List ℕ) → t ≡ u → Compared ts r us q → Compared (t ∷ ts) r (u ∷ us) q
compared_more t u ts us r q e (inl k) = inl ((λ i. e i ∷ k.0 i), k.1)
compared_more t u ts us r q e (inr (inl o)) = inr (inl (o.0, o.1, o.2, o.3, λ i. sym e i ∷ o.4 i))
compared_more t u ts us r q e (inr (inr o)) = inr (inr (o.0, o.1, o.2, o.3, λ i. e i ∷ o.4 i))

-- two lists of tokens that lead into one line compare
pub leads_compare : (bs : List ℕ) (ts us : List Tok) (r q : List ℕ) → Leads bs ts r → Leads bs us q → Compared ts r us q
leads_compare bs [] [] r q h k = inl (refl, leads_end bs r h ∙ sym (leads_end bs q k))
leads_compare bs [] (u ∷ us) r q h k = let m = leads_next bs u us q k in inr (inl (u, m.0, us, subst (λ l. Begins l u m.0) (sym (leads_end bs r h)) m.1, refl))
leads_compare bs (t ∷ ts) [] r q h k = let m = leads_next bs t ts r h in inr (inr (t, m.0, ts, subst (λ l. Begins l t m.0) (sym (leads_end bs q k)) m.1, refl))
leads_compare bs (t ∷ ts) (u ∷ us) r q h k =
    let m = leads_next bs t ts r h in
    let n = leads_next bs u us q k in
    let e = begins_one (unspaced bs) t u m.0 n.0 m.1 n.1 in
    compared_more t u ts us r q e.0 (leads_compare m.0 ts us r q m.2 (subst (λ l. Leads l us q) (sym e.1) n.2))
