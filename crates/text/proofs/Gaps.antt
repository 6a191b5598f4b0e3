-- Tokens with spaces between them, read one by one.
use Rattle.std.proofs.Common.{◌≡◌, ℕ, ◌+◌, ◌<◌, true, eqb, List, [], ◌∷◌, ◌++◌, length, get_or, take, drop, sym, refl, ap, ◌∙◌, subst, arith}
use Rattle.std.proofs.lemmas.List.Elements.{All-weaker}
use Rattle.std.proofs.lemmas.List.{append-nil, take-append-drop, drop_at, drop_all}
use Rattle.std.proofs.lemmas.Bool.{eqb-true, eqb-false, eq-eqb, ne_eqb}
use Rattle.text.specs.Tokens.{token, width, spaces}
use Rattle.text.specs.Grammar.{Begins, Spaces, Tokens, done, more, Tok, ends}
use Rattle.text.proofs.Fronts.{front_behind, front_none, front_passes, front_stops}
use Rattle.text.proofs.Longest.{begins_token, spells_some, spells_width, token_ends, token_plain, token_unknown}

-- the bytes past the spaces
abbrev pub unspaced : List ℕ → List ℕ
unspaced bs = drop (spaces bs) bs

-- the next token, which stands past the spaces
abbrev pub ahead : List ℕ → Tok
ahead bs = token (unspaced bs)

-- the bytes past the next token
abbrev pub beyond : List ℕ → List ℕ
beyond bs = drop (width (ahead bs)) (unspaced bs)

-- what is skipped is spaces
pub gap_spaces : (bs : List ℕ) → Spaces (take (spaces bs) bs)
gap_spaces bs = All-weaker (λ b. eqb b 32 ≡ true) (λ b. b ≡ 32) (λ b e. eqb-true b 32 e) (take (spaces bs) bs) (front_passes (λ b. eqb b 32) bs)

-- no space is left behind what is skipped
pub gap_stops : (bs : List ℕ) → get_or (unspaced bs) 0 0 ≡ 32 → ⊥
gap_stops bs = eqb-false (get_or (unspaced bs) 0 0) 32 (front_stops (λ b. eqb b 32) bs refl)

-- a gap is skipped whole, and then what else is skipped
spaces_behind : (gap bs : List ℕ) → Spaces gap → spaces (gap ++ bs) ≡ length gap + spaces bs
spaces_behind gap bs h = front_behind (λ b. eqb b 32) gap bs (All-weaker (λ b. b ≡ 32) (λ b. eqb b 32 ≡ true) (λ b e. eq-eqb b 32 e) gap h)

-- a token that bytes begin with has some byte
pub begins_some : (bs : List ℕ) (t : Tok) (rest : List ℕ) → Begins bs t rest → 0 < width t
begins_some bs t rest b = omega (arith, spells_some b.spelled t b.spells, spells_width b.spelled t b.spells)

-- no token begins with a space
pub begins_apart : (bs : List ℕ) (t : Tok) (rest : List ℕ) → Begins bs t rest → get_or bs 0 0 ≡ 32 → ⊥
begins_apart [] t rest b e = absurd (omega arith)
begins_apart (x ∷ xs) t rest b e = (token_unknown (x ∷ xs) (ap (λ y. token (y ∷ xs)) e ∙ token_plain 32 xs refl)).1 t rest b

-- behind a gap stand the bytes that begin with no space
pub unspaced_gap : (gap bs : List ℕ) → Spaces gap → (get_or bs 0 0 ≡ 32 → ⊥) → unspaced (gap ++ bs) ≡ bs
unspaced_gap gap bs s none =
    let n = front_none (λ x. eqb x 32) bs (ne_eqb (get_or bs 0 0) 32 none) in
    drop_at gap bs (spaces (gap ++ bs)) (omega (arith, spaces_behind gap bs s))

-- tokens that stand at the front are read one by one
pub tokens_next : (bs : List ℕ) (t : Tok) (ts : List Tok) → Tokens bs (t ∷ ts) → (ahead bs ≡ t) × Tokens (beyond bs) ts × (0 < width t)
tokens_next bs t ts (more gap cs rest s b h) =
    let u = unspaced_gap gap cs s (begins_apart cs t rest b) in
    let k = begins_token cs t rest b in
    let e : ahead (gap ++ cs) ≡ t = ap token u ∙ k.0 in
    (e, subst (λ l. Tokens l ts) (sym ((λ i. drop (width (e i)) (u i)) ∙ k.1)) h, begins_some cs t rest b)

-- where no token stands, the end is read
pub tokens_end : (bs : List ℕ) → Tokens bs [] → ahead bs ≡ ends
tokens_end bs (done s) =
    let u : unspaced bs ≡ [] = drop_all (spaces bs) bs (omega (arith, ap spaces (append-nil bs), spaces_behind bs [] s)) in
    ap token u

-- where the end is read, no token stands
pub tokens_none : (bs : List ℕ) → ahead bs ≡ ends → Tokens bs []
tokens_none bs e =
    let u = token_ends (unspaced bs) e in
    done (subst Spaces (sym (append-nil (take (spaces bs) bs)) ∙ ap (λ l. take (spaces bs) bs ++ l) (sym u) ∙ take-append-drop (spaces bs) bs) (gap_spaces bs))

-- past the end nothing is left
pub beyond_end : (bs : List ℕ) → ahead bs ≡ ends → beyond bs ≡ []
beyond_end bs e = ap (λ t. drop (width t) (unspaced bs)) e ∙ token_ends (unspaced bs) e

-- a token that is read, and the tokens past it
pub tokens_more : (bs : List ℕ) (t : Tok) (ts : List Tok) → Begins (unspaced bs) t (beyond bs) → Tokens (beyond bs) ts → Tokens bs (t ∷ ts)
tokens_more bs t ts b h =
    subst (λ l. Tokens l (t ∷ ts)) (take-append-drop (spaces bs) bs)
    (more (take (spaces bs) bs) (unspaced bs) (beyond bs) (gap_spaces bs) b h)

-- no bytes are no tokens
pub tokens_nil : (ts : List Tok) → Tokens [] ts → ts ≡ []
tokens_nil [] h = refl
tokens_nil (t ∷ ts) h = let k = tokens_next [] t ts h in absurd (omega (arith, ap width k.0))
