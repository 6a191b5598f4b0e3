-- The token that is read is the longest that the bytes begin with.
use Rattle.std.proofs.Common.{◌≡◌, ℕ, ◌<◌, ◌≤◌, Bool, true, false, cond, eqb, ltb, List, [], ◌∷◌, ◌++◌, length, take, drop, Some, None, Option, sym, refl, ap, ◌∙◌, subst, arith, lit<, lit≤}
use Rattle.std.specs.Char.{is_ascii_digit}
use Rattle.std.proofs.lemmas.List.Sums.{prefix_len-le-length}
use Rattle.std.proofs.lemmas.List.{append-nil, take_at, take_all, drop_at, length-take-le, take-append-drop, nil_from_length}
use Rattle.std.proofs.lemmas.Bool.{cond-true, cond-false, cond_both, lt-ltb, ne_eqb, eqb-true, eqb-false, ltb-true}
use Rattle.text.specs.declared.token.Symbol.{Symbol}
use Rattle.text.specs.declared.token.Symbol.TheVariants.{Colon, Assign, Equals, Memory, Open, Close, Less, Greater, Semicolon, Sync}
use Rattle.text.specs.Tokens.{token, width, symbol_width, symbol_at, or_unknown, has, digits}
use Rattle.text.specs.Grammar.{spelling, Spells, a_number, a_symbol, Begins, Tok, number, fixed, ends, unknown}
use Rattle.text.proofs.Fronts.{front_behind, front_passes}

-- bytes that begin with digits are read as a number
token_run : (bs : List ℕ) → 0 < digits bs → token bs ≡ number (take (digits bs) bs)
token_run bs l =
    cond-false _ _ _ (ne_eqb (length bs) 0 (λ z. absurd (omega (arith, prefix_len-le-length is_ascii_digit bs))))
    ∙ cond-true _ _ _ (lt-ltb 0 (digits bs) l)

-- bytes that begin with no digit are read as a symbol, or as unknown
pub token_plain : (b : ℕ) (bs : List ℕ) → is_ascii_digit b ≡ false → token (b ∷ bs) ≡ or_unknown (symbol_at (b ∷ bs))
token_plain b bs e =
    cond-false _ _ _ (ne_eqb (length (b ∷ bs)) 0 (λ z. absurd (omega arith)))
    ∙ cond-false _ _ _ (ap (ltb 0) (cond-false _ _ _ e))

-- a token has as many bytes as are spelled
pub spells_width : (w : List ℕ) (t : Tok) → Spells w t → length w ≡ width t
spells_width w t (a_number some all) = refl
spells_width w t (a_symbol {s = s}) =
    elim s as (λ s. length (spelling s) ≡ symbol_width s) [ Colon ↦ refl | Assign ↦ refl | Equals ↦ refl | Memory ↦ refl | Open ↦ refl | Close ↦ refl | Less ↦ refl | Greater ↦ refl | Semicolon ↦ refl | Sync ↦ refl ]

-- a token has some byte
pub spells_some : (w : List ℕ) (t : Tok) → Spells w t → 0 < length w
spells_some w t (a_number some all) = some
spells_some w t (a_symbol {s = s}) =
    elim s as (λ s. 0 < length (spelling s)) [ Colon ↦ lit< tt | Assign ↦ lit< tt | Equals ↦ lit< tt | Memory ↦ lit< tt | Open ↦ lit< tt | Close ↦ lit< tt | Less ↦ lit< tt | Greater ↦ lit< tt | Semicolon ↦ lit< tt | Sync ↦ lit< tt ]

-- what is read of a token's bytes alone is that token
spells_token : (w : List ℕ) (t : Tok) → Spells w t → token w ≡ t
spells_token w t (a_number some all) =
    let n : digits w ≡ length w = ap digits (sym (append-nil w)) ∙ front_behind is_ascii_digit w [] all ∙ omega arith in
    token_run w (omega arith) ∙ ap number (take_all (digits w) w (omega arith))
spells_token w t (a_symbol {s = s}) =
    elim s as (λ s. token (spelling s) ≡ fixed s) [ Colon ↦ refl | Assign ↦ refl | Equals ↦ refl | Memory ↦ refl | Open ↦ refl | Close ↦ refl | Less ↦ refl | Greater ↦ refl | Semicolon ↦ refl | Sync ↦ refl ]

-- what is read has at least the bytes of each symbol that stands there
symbol_least : (s : Symbol) (rest : List ℕ) → length (spelling s) ≤ width (token (spelling s ++ rest))
symbol_least Colon rest =
    rw (token_plain 58 rest refl) (cond_both (has (58 ∷ rest) 1 61) (Some Assign) (Some Colon) (λ o. 1 ≤ width (or_unknown o)) (λ _. lit≤ tt) (λ _. lit≤ tt))
symbol_least Assign rest = rw (token_plain 58 (61 ∷ rest) refl) (lit≤ tt)
symbol_least Equals rest = rw (token_plain 61 (61 ∷ rest) refl) (lit≤ tt)
symbol_least Memory rest = rw (token_plain 77 rest refl) (lit≤ tt)
symbol_least Open rest = rw (token_plain 91 rest refl) (lit≤ tt)
symbol_least Close rest = rw (token_plain 93 rest refl) (lit≤ tt)
symbol_least Less rest = rw (token_plain 60 rest refl) (lit≤ tt)
symbol_least Greater rest = rw (token_plain 62 rest refl) (lit≤ tt)
symbol_least Semicolon rest = rw (token_plain 59 rest refl) (lit≤ tt)
symbol_least Sync rest = rw (token_plain 115 (121 ∷ 110 ∷ 99 ∷ rest) refl) (lit≤ tt)

-- what is read has at least the bytes of each token that stands there
token_least : (w : List ℕ) (t : Tok) (rest : List ℕ) → Spells w t → length w ≤ width (token (w ++ rest))
token_least w t rest (a_number some all) =
    let bs : List ℕ = w ++ rest in
    let n = front_behind is_ascii_digit w rest all in
    let m = length-take-le (digits bs) bs (prefix_len-le-length is_ascii_digit bs) in
    let e = ap width (token_run bs (omega arith)) in
    omega arith
token_least w t rest (a_symbol {s = s}) = symbol_least s rest

-- the bytes begin with b
one : (bs : List ℕ) (b : ℕ) → 0 < b → has bs 0 b ≡ true → bs ≡ b ∷ drop 1 bs
one [] b l e = absurd (omega (arith, eqb-true 0 b e))
one (x ∷ xs) b l e = ap (λ y. y ∷ xs) (eqb-true x b e)

-- the bytes begin with b and c
two : (bs : List ℕ) (b c : ℕ) → 0 < b → 0 < c → has bs 0 b ≡ true → has bs 1 c ≡ true → bs ≡ b ∷ c ∷ drop 2 bs
two [] b c l k e f = absurd (omega (arith, eqb-true 0 b e))
two (x ∷ xs) b c l k e f = λ i. eqb-true x b e i ∷ one xs c k f i

-- the bytes begin with four given ones
four : (bs : List ℕ) (b c d e : ℕ) → 0 < b → 0 < c → 0 < d → 0 < e → has bs 0 b ≡ true → has bs 1 c ≡ true → has bs 2 d ≡ true → has bs 3 e ≡ true → bs ≡ b ∷ c ∷ d ∷ e ∷ drop 4 bs
four [] b c d e lb lc ld le hb hc hd he = absurd (omega (arith, eqb-true 0 b hb))
four (x ∷ []) b c d e lb lc ld le hb hc hd he = absurd (omega (arith, eqb-true 0 c hc))
four (x ∷ y ∷ ys) b c d e lb lc ld le hb hc hd he = λ i. eqb-true x b hb i ∷ eqb-true y c hc i ∷ two ys d e ld le hd he i

-- what the symbol that is found says of the bytes: it is spelled there
abbrev Spelled : List ℕ → Option Symbol → Type 0
Spelled bs (Some s) = bs ≡ spelling s ++ drop (symbol_width s) bs
Spelled bs None = Unit {0}

-- the same of each way of a test
spelled_if : (bs : List ℕ) (b : Bool) (x y : Option Symbol) → (b ≡ true → Spelled bs x) → (b ≡ false → Spelled bs y) → Spelled bs (cond b x y)
spelled_if bs b x y t f = cond_both b x y (Spelled bs) t f

-- a symbol that is found is spelled there
symbol_spelled : (bs : List ℕ) → Spelled bs (symbol_at bs)
symbol_spelled bs =
    let s3 : Option Symbol = cond (has bs 3 99) (Some Sync) None in
    let s2 : Option Symbol = cond (has bs 2 110) s3 None in
    let s1 : Option Symbol = cond (has bs 1 121) s2 None in
    let o9 : Option Symbol = cond (has bs 0 115) s1 None in
    let o8 : Option Symbol = cond (has bs 0 59) (Some Semicolon) o9 in
    let o7 : Option Symbol = cond (has bs 0 62) (Some Greater) o8 in
    let o6 : Option Symbol = cond (has bs 0 60) (Some Less) o7 in
    let o5 : Option Symbol = cond (has bs 0 93) (Some Close) o6 in
    let o4 : Option Symbol = cond (has bs 0 91) (Some Open) o5 in
    let o3 : Option Symbol = cond (has bs 0 77) (Some Memory) o4 in
    let e2 : Option Symbol = cond (has bs 1 61) (Some Equals) None in
    let o2 : Option Symbol = cond (has bs 0 61) e2 o3 in
    let c1 : Option Symbol = cond (has bs 1 61) (Some Assign) (Some Colon) in
    spelled_if bs (has bs 0 58) c1 o2 (λ a. spelled_if bs (has bs 1 61) (Some Assign) (Some Colon) (two bs 58 61 (lit< tt) (lit< tt) a) (λ _. one bs 58 (lit< tt) a)) (λ _.
    spelled_if bs (has bs 0 61) e2 o3 (λ a. spelled_if bs (has bs 1 61) (Some Equals) None (two bs 61 61 (lit< tt) (lit< tt) a) (λ _. tt)) (λ _.
    spelled_if bs (has bs 0 77) (Some Memory) o4 (one bs 77 (lit< tt)) (λ _.
    spelled_if bs (has bs 0 91) (Some Open) o5 (one bs 91 (lit< tt)) (λ _.
    spelled_if bs (has bs 0 93) (Some Close) o6 (one bs 93 (lit< tt)) (λ _.
    spelled_if bs (has bs 0 60) (Some Less) o7 (one bs 60 (lit< tt)) (λ _.
    spelled_if bs (has bs 0 62) (Some Greater) o8 (one bs 62 (lit< tt)) (λ _.
    spelled_if bs (has bs 0 59) (Some Semicolon) o9 (one bs 59 (lit< tt)) (λ _.
    spelled_if bs (has bs 0 115) s1 None (λ a.
    spelled_if bs (has bs 1 121) s2 None (λ b.
    spelled_if bs (has bs 2 110) s3 None (λ c.
    spelled_if bs (has bs 3 99) (Some Sync) None (four bs 115 121 110 99 (lit< tt) (lit< tt) (lit< tt) (lit< tt) a b c) (λ _. tt)) (λ _. tt)) (λ _. tt)) (λ _. tt)))))))))

-- what the token that is read of bs says of bs: the spelled bytes stand there
abbrev Found : List ℕ → Tok → Type 0
Found bs (number ds) = Spells ds (number ds) × (bs ≡ ds ++ drop (length ds) bs)
Found bs (fixed s) = bs ≡ spelling s ++ drop (symbol_width s) bs
Found bs ends = bs ≡ []
Found bs unknown = 0 < length bs

-- the same of what is read as a symbol or as unknown
found_symbol : (bs : List ℕ) (o : Option Symbol) → 0 < length bs → Spelled bs o → Found bs (or_unknown o)
found_symbol bs (Some s) l h = h
found_symbol bs None l h = l

-- the same of what is read as a number
found_number : (bs : List ℕ) → 0 < digits bs → Found bs (number (take (digits bs) bs))
found_number bs l =
    let n : length (take (digits bs) bs) ≡ digits bs = length-take-le (digits bs) bs (prefix_len-le-length is_ascii_digit bs) in
    (a_number (omega arith) (front_passes is_ascii_digit bs), sym (take-append-drop (digits bs) bs) ∙ ap (λ k. take (digits bs) bs ++ drop k bs) (sym n))

-- the token that is read is spelled there
found : (bs : List ℕ) → Found bs (token bs)
found bs =
    cond_both (eqb (length bs) 0) ends (cond (ltb 0 (digits bs)) (number (take (digits bs) bs)) (or_unknown (symbol_at bs))) (Found bs)
    (λ e. nil_from_length bs (eqb-true (length bs) 0 e))
    (λ e. cond_both (ltb 0 (digits bs)) (number (take (digits bs) bs)) (or_unknown (symbol_at bs)) (Found bs)
    (λ k. found_number bs (ltb-true 0 (digits bs) k))
    (λ k. found_symbol bs (symbol_at bs) (omega (arith, eqb-false (length bs) 0 e)) (symbol_spelled bs)))

module _ (bs : List ℕ) where
  -- no token that stands at the front is longer than the one that is read
  none_longer : (w : List ℕ) (u : Tok) (r : List ℕ) → Spells w u → bs ≡ w ++ r → length w ≤ width (token bs)
  none_longer w u r s e = subst (λ l. length w ≤ width (token l)) (sym e) (token_least w u r s)

  -- what is read stands at the front, as long as possible
  begins_by : (t : Tok) (w : List ℕ) → token bs ≡ t → Spells w t → bs ≡ w ++ drop (width t) bs → Begins bs t (drop (width (token bs)) bs)
  begins_by t w e s h = record {
    spelled = w;
    spells = s;
    whole = h ∙ ap (λ u. w ++ drop (width u) bs) (sym e);
    longest = λ v u r q k. omega (arith, none_longer v u r q k, ap width e, spells_width w t s);
  }

  -- what is read as a number is a run of digits
  pub token_digits : (ds : List ℕ) → token bs ≡ number ds → Spells ds (number ds)
  token_digits ds e = let f : Found bs (number ds) = subst (Found bs) e (found bs) in f.0

  -- where a number is read, the bytes begin with it
  pub token_number : (ds : List ℕ) → token bs ≡ number ds → Begins bs (number ds) (drop (width (token bs)) bs)
  token_number ds e = let f : Found bs (number ds) = subst (Found bs) e (found bs) in begins_by (number ds) ds e f.0 f.1

  -- where a symbol is read, the bytes begin with it
  pub token_fixed : (s : Symbol) → token bs ≡ fixed s → Begins bs (fixed s) (drop (width (token bs)) bs)
  token_fixed s e = begins_by (fixed s) (spelling s) e a_symbol (subst (Found bs) e (found bs))

  -- where the end is read, there are no bytes
  pub token_ends : token bs ≡ ends → bs ≡ []
  token_ends e = subst (Found bs) e (found bs)

  -- where nothing is read of some bytes, no token stands at the front
  pub token_unknown : token bs ≡ unknown → (0 < length bs) × ((t : Tok) (rest : List ℕ) → Begins bs t rest → ⊥)
  token_unknown e = (
    subst (Found bs) e (found bs),
    λ t rest b. absurd (omega (arith, none_longer b.spelled t rest b.spells b.whole, ap width e, spells_some b.spelled t b.spells)),
  )

  -- what is read begins the bytes, where it has some byte
  read_begins : (t : Tok) → token bs ≡ t → 0 < width t → Begins bs t (drop (width (token bs)) bs)
  read_begins (number ds) e l = token_number ds e
  read_begins (fixed s) e l = token_fixed s e
  read_begins ends e l = absurd (omega arith)
  read_begins unknown e l = absurd (omega arith)

  -- the token that bytes begin with is the one that is read
  pub begins_token : (t : Tok) (rest : List ℕ) → Begins bs t rest → (token bs ≡ t) × (drop (width t) bs ≡ rest)
  begins_token t rest b =
      let w : List ℕ = b.spelled in
      let some = spells_some w t b.spells in
      let least = none_longer w t rest b.spells b.whole in
      let c = read_begins (token bs) refl (omega arith) in
      let v : List ℕ = c.spelled in
      let n = spells_width v (token bs) c.spells in
      let k = spells_width w t b.spells in
      let most = b.longest v (token bs) (drop (width (token bs)) bs) c.spells c.whole in
      let same : v ≡ w = sym (take_at v (drop (width (token bs)) bs) (length w) (omega arith)) ∙ ap (take (length w)) (sym c.whole ∙ b.whole) ∙ take_at w rest (length w) refl in
      (sym (spells_token v (token bs) c.spells) ∙ ap token same ∙ spells_token w t b.spells, ap (drop (width t)) b.whole ∙ drop_at w rest (width t) k)
