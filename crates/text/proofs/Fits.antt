-- Parts of a line and the tokens that fit them, whatever the columns.
use Rattle.std.proofs.Common.{◌≡◌, ℕ, ◌^◌, ◌<◌, Bool, true, false, cond, eqb, ltb, List, [], ◌∷◌, get_or, Some, None, Ok, Err, Result, sym, refl, ap, ◌∙◌, subst, arith}
use Rattle.std.proofs.lemmas.Bool.{false≢true, cond-true, lt-ltb, ltb-true, eqb-true, eq-eqb}
use Rattle.traces.specs.declared.entry.Address.{Address}
use Rattle.traces.specs.Kinds.{address}
use Rattle.text.specs.declared.token.Symbol.{Symbol}
use Rattle.text.specs.declared.token.Symbol.TheVariants.{Colon, Assign, Equals, Memory, Open, Close, Less, Greater, Semicolon, Sync}
use Rattle.text.specs.declared.statement.Part.{Part}
use Rattle.text.specs.declared.statement.Part.TheVariants.{Thread, Address as AddressPart, SameAddress, Read, Written, Fixed, LineEnd}
use Rattle.text.specs.declared.statement.Fields.{Fields}
use Rattle.text.specs.declared.fault.Cause.{Cause}
use Rattle.text.specs.declared.fault.Cause.TheVariants.{Misfit, OtherAddress}
use Rattle.text.specs.Tokens.{token, At, skipped, next_token, past}
use Rattle.text.specs.Grammar.{Spells, Tokens, Writes, denoted, Tok, number, fixed, ends, unknown}
use Rattle.text.specs.Lines.{or_too_large, number_in, code, is_symbol, is_end, put, accepted, placed, parts}
use Rattle.traces.specs.Adding.{and_then}
use Rattle.text.proofs.Gaps.{beyond_end, tokens_end, tokens_nil, tokens_more, tokens_next, tokens_none}
use Rattle.text.proofs.Longest.{token_digits, token_fixed, token_number}

-- what is made of the fields of a line: the thread, the address, and the values read and written
abbrev pub Values : Type 0
Values = ℕ × Address × ℕ × ℕ

-- the values of the fields
abbrev pub values : Fields → Values
values f = (f.thread, f.address, f.read, f.written)

-- the tokens ts fit the parts, which turns the values before them into those after them
pub data Fit : List Part → Values → List Tok → Values → Type 0 where
  fit_all : {v : Values} → Fit [] v [] v
  fit_end : {ps : List Part} {v w : Values} → Fit ps v [] w → Fit (LineEnd ∷ ps) v [] w
  fit_symbol : {s : Symbol} {ps : List Part} {v w : Values} {ts : List Tok} → Fit ps v ts w → Fit (Fixed s ∷ ps) v (fixed s ∷ ts) w
  fit_thread : {ds : List ℕ} {n : ℕ} {ps : List Part} {v w : Values} {ts : List Tok} → Writes ds n → Fit ps (n, v.1, v.2, v.3) ts w → Fit (Thread ∷ ps) v (number ds ∷ ts) w
  fit_address : {ds : List ℕ} {n : ℕ} {ps : List Part} {v w : Values} {ts : List Tok} → Writes ds n → Fit ps (v.0, address n, v.2, v.3) ts w → Fit (AddressPart ∷ ps) v (number ds ∷ ts) w
  fit_same : {ds : List ℕ} {ps : List Part} {v w : Values} {ts : List Tok} → Writes ds v.1.number → Fit ps v ts w → Fit (SameAddress ∷ ps) v (number ds ∷ ts) w
  fit_read : {ds : List ℕ} {n : ℕ} {ps : List Part} {v w : Values} {ts : List Tok} → Writes ds n → Fit ps (v.0, v.1, n, v.3) ts w → Fit (Read ∷ ps) v (number ds ∷ ts) w
  fit_written : {ds : List ℕ} {n : ℕ} {ps : List Part} {v w : Values} {ts : List Tok} → Writes ds n → Fit ps (v.0, v.1, v.2, n) ts w → Fit (Written ∷ ps) v (number ds ∷ ts) w

-- what has succeeded in two ways is the same
pub ok_same : {A E : Type 0} (x y : A) → ◌≡◌ {A = Result A E} (Ok x) (Ok y) → x ≡ y
ok_same x y h = cc

-- two steps succeed only if the first does, and then the second
pub then_ok : {A B E : Type 0} (r : Result A E) (k : A → Result B E) (y : B) → and_then r k ≡ Ok y → (x : A) × (r ≡ Ok x) × (k x ≡ Ok y)
then_ok (Ok x) k y h = (x, refl, h)
then_ok (Err e) k y h = cc

-- three steps are taken in either grouping
pub then_then : {A B C E : Type 0} (r : Result A E) (f : A → Result B E) (g : B → Result C E) → and_then (and_then r f) g ≡ and_then r (λ x. and_then (f x) g)
then_then (Ok x) f g = refl
then_then (Err e) f g = refl

-- what goes on in the same way gives the same
pub then_same : {A B E : Type 0} (r : Result A E) (f g : A → Result B E) → ((x : A) → f x ≡ g x) → and_then r f ≡ and_then r g
then_same (Ok x) f g h = h x
then_same (Err e) f g h = refl

-- a test that is to pass has passed
pub test_ok : {A E : Type 0} (b : Bool) (r : Result A E) (e : E) (x : A) → cond b r (Err e) ≡ Ok x → (b ≡ true) × (r ≡ Ok x)
test_ok true r e x h = (refl, h)
test_ok false r e x h = cc

-- what succeeds at a place succeeds anyway
placed_ok : {A : Type 0} (a : At) (r : Result A Cause) (x : A) → placed a r ≡ Ok x → r ≡ Ok x
placed_ok a (Ok y) x h = cc
placed_ok a (Err e) x h = cc

-- the first part is accepted, and the others are read past its token
pub parts_first : (p : Part) (ps : List Part) (f : Fields) (a : At) (x : Fields × At) → parts (p ∷ ps) f a ≡ Ok x → (g : Fields) × (accepted p f (skipped a).column (next_token a) ≡ Ok g) × (parts ps g (past a) ≡ Ok x)
unfolding parts
parts_first p ps f a x h =
    let k = then_ok (placed (skipped a) (accepted p f (skipped a).column (next_token a))) (λ g. parts ps g (past a)) x h in
    (k.0, placed_ok (skipped a) _ k.0 k.1, k.2)

-- past a part that is accepted the others are read
pub parts_next : (p : Part) (ps : List Part) (f g : Fields) (a : At) → accepted p f (skipped a).column (next_token a) ≡ Ok g → parts (p ∷ ps) f a ≡ parts ps g (past a)
unfolding parts
parts_next p ps f g a h = ap (λ r. and_then (placed (skipped a) r) (λ g. parts ps g (past a))) h

-- digits that write a number give it
writes_in : (ds : List ℕ) (n : ℕ) → Writes ds n → number_in (number ds) ≡ Ok n
writes_in ds n w = ap or_too_large (cond-true _ _ _ (lt-ltb (denoted 0 ds) (2 ^ 64) (omega arith))) ∙ ap Ok w.1

-- a number that is given is written by its digits, by whether it has 64 bits
value_writes : (ds : List ℕ) (b : Bool) (n : ℕ) → Spells ds (number ds) → ltb (denoted 0 ds) (2 ^ 64) ≡ b → or_too_large (cond b (Some (denoted 0 ds)) None) ≡ Ok n → Writes ds n
value_writes ds true n s e h = let k : denoted 0 ds ≡ n = cc in (s, k, subst (λ m. m < 2 ^ 64) k (ltb-true (denoted 0 ds) (2 ^ 64) e))
value_writes ds false n s e h = cc

-- a number that is given is written by the digits of the token that is read
pub in_writes : (bs : List ℕ) (n : ℕ) → number_in (token bs) ≡ Ok n → (ds : List ℕ) × (token bs ≡ number ds) × Writes ds n
in_writes bs n = go (token bs) refl
  where
    go : (t : Tok) → token bs ≡ t → number_in t ≡ Ok n → (ds : List ℕ) × (token bs ≡ number ds) × Writes ds n
    go (number ds) e h = (ds, e, value_writes ds (ltb (denoted 0 ds) (2 ^ 64)) n (token_digits bs ds e) refl h)
    go (fixed s) e h = cc
    go ends e h = cc
    go unknown e h = cc

-- the symbol with a number
symbol_of : ℕ → Symbol
symbol_of n = get_or (Colon ∷ Assign ∷ Equals ∷ Memory ∷ Open ∷ Close ∷ Less ∷ Greater ∷ Semicolon ∷ Sync ∷ []) n Colon

-- a symbol is the one with its number
symbol_code : (s : Symbol) → symbol_of (code s) ≡ s
unfolding symbol_of
symbol_code = elim [ Colon ↦ refl | Assign ↦ refl | Equals ↦ refl | Memory ↦ refl | Open ↦ refl | Close ↦ refl | Less ↦ refl | Greater ↦ refl | Semicolon ↦ refl | Sync ↦ refl ]

-- a token that passes for a symbol is that symbol
pub symbol_is : (s : Symbol) (t : Tok) → is_symbol s t ≡ true → t ≡ fixed s
symbol_is s (fixed u) h = ap fixed (sym (symbol_code u) ∙ ap symbol_of (eqb-true (code u) (code s) h) ∙ symbol_code s)
symbol_is s (number ds) h = absurd (false≢true h)
symbol_is s ends h = absurd (false≢true h)
symbol_is s unknown h = absurd (false≢true h)

-- a token that passes for the end is the end
pub end_is : (t : Tok) → is_end t ≡ true → t ≡ ends
end_is (fixed u) h = absurd (false≢true h)
end_is (number ds) h = absurd (false≢true h)
end_is ends h = refl
end_is unknown h = absurd (false≢true h)

-- a wanted symbol is read only where it stands
pub symbol_first : (s : Symbol) (ps : List Part) (f : Fields) (a : At) (x : Fields × At) → parts (Fixed s ∷ ps) f a ≡ Ok x → (next_token a ≡ fixed s) × (parts ps f (past a) ≡ Ok x)
symbol_first s ps f a x h =
    let k = parts_first (Fixed s) ps f a x h in
    let t = test_ok (is_symbol s (next_token a)) (Ok f) Misfit k.0 k.1 in
    let e = ok_same f k.0 t.1 in
    (symbol_is s (next_token a) t.0, subst (λ g. parts ps g (past a) ≡ Ok x) (sym e) k.2)

-- a wanted symbol that stands there is read
pub symbol_next : (s : Symbol) (ps : List Part) (f : Fields) (a : At) → next_token a ≡ fixed s → parts (Fixed s ∷ ps) f a ≡ parts ps f (past a)
symbol_next s ps f a e = parts_next (Fixed s) ps f f a (cond-true _ _ _ (ap (is_symbol s) e ∙ eq-eqb (code s) (code s) refl))

-- the end is read only where it stands
end_first : (ps : List Part) (f : Fields) (a : At) (x : Fields × At) → parts (LineEnd ∷ ps) f a ≡ Ok x → (next_token a ≡ ends) × (parts ps f (past a) ≡ Ok x)
end_first ps f a x h =
    let k = parts_first LineEnd ps f a x h in
    let t = test_ok (is_end (next_token a)) (Ok f) Misfit k.0 k.1 in
    let e = ok_same f k.0 t.1 in
    (end_is (next_token a) t.0, subst (λ g. parts ps g (past a) ≡ Ok x) (sym e) k.2)

-- a list of parts ends with the line's end
abbrev pub Closed : Part → List Part → Type 0
Closed p [] = p ≡ LineEnd
Closed p (q ∷ qs) = Closed q qs

-- past such parts no token is left
pub closed_end : (p : Part) (ps : List Part) (f g : Fields) (a b : At) → Closed p ps → parts (p ∷ ps) f a ≡ Ok (g, b) → Tokens b.rest []
unfolding parts
closed_end p [] f g a b c h =
    let k = end_first [] f a (g, b) (subst (λ q. parts (q ∷ []) f a ≡ Ok (g, b)) c h) in
    let e = ok_same (f, past a) (g, b) k.1 in
    subst (λ l. Tokens l []) (sym (beyond_end a.rest k.0) ∙ ap (λ x. x.1.rest) e) (tokens_none [] refl)
closed_end p (q ∷ qs) f g a b c h = let k = parts_first p (q ∷ qs) f a (g, b) h in closed_end q qs k.0 g (past a) b c k.2

-- the fitting tokens of parts that were read
abbrev Fitting : List Part → Values → Values → List ℕ → Type 0
Fitting ps v w bs = (ts : List Tok) × Fit ps v ts w × Tokens bs ts

module _ (ps : List Part) (f g : Fields) (a b : At) (on : (h : Fields) → parts ps h (past a) ≡ Ok (g, b) → Fitting ps (values h) (values g) (past a).rest) where
  -- parts behind a symbol
  fits_symbol : (s : Symbol) → parts (Fixed s ∷ ps) f a ≡ Ok (g, b) → Fitting (Fixed s ∷ ps) (values f) (values g) a.rest
  fits_symbol s h =
      let k = symbol_first s ps f a (g, b) h in
      let r = on f k.1 in
      (fixed s ∷ r.0, fit_symbol r.1, tokens_more a.rest (fixed s) r.0 (token_fixed (skipped a).rest s k.0) r.2)

  -- parts behind the end
  fits_end : parts (LineEnd ∷ ps) f a ≡ Ok (g, b) → Fitting (LineEnd ∷ ps) (values f) (values g) a.rest
  fits_end h =
      let k = end_first ps f a (g, b) h in
      let r = on f k.1 in
      let none : r.0 ≡ [] = tokens_nil r.0 (subst (λ l. Tokens l r.0) (beyond_end a.rest k.0) r.2) in
      ([], fit_end (subst (λ ts. Fit ps (values f) ts (values g)) none r.1), tokens_none a.rest k.0)

  -- parts behind a number, which is put into the fields
  fits_number : (p : Part) → ((c : ℕ) (t : Tok) → accepted p f c t ≡ and_then (number_in t) (put p f c)) →
      ((c n : ℕ) (h : Fields) (ds : List ℕ) (ts : List Tok) → put p f c n ≡ Ok h → Writes ds n → Fit ps (values h) ts (values g) → Fit (p ∷ ps) (values f) (number ds ∷ ts) (values g)) →
      parts (p ∷ ps) f a ≡ Ok (g, b) → Fitting (p ∷ ps) (values f) (values g) a.rest
  fits_number p e fit h =
      let k = parts_first p ps f a (g, b) h in
      let m = then_ok (number_in (next_token a)) (put p f (skipped a).column) k.0 (sym (e (skipped a).column (next_token a)) ∙ k.1) in
      let d = in_writes (skipped a).rest m.0 m.1 in
      let r = on k.0 k.2 in
      (number d.0 ∷ r.0, fit (skipped a).column m.0 k.0 d.0 r.0 m.2 d.2 r.1, tokens_more a.rest (number d.0) r.0 (token_number (skipped a).rest d.0 d.1) r.2)

-- parts that are read fit the tokens that stand there, where no token is left
pub parts_fit : (ps : List Part) (f g : Fields) (a b : At) → parts ps f a ≡ Ok (g, b) → Tokens b.rest [] → Fitting ps (values f) (values g) a.rest
unfolding parts
parts_fit [] f g a b h z =
    let e = ok_same (f, a) (g, b) h in
    ([], subst (λ x. Fit [] (values f) [] (values x.0)) e fit_all, subst (λ x. Tokens x.1.rest []) (sym e) z)
parts_fit (LineEnd ∷ ps) f g a b h z = fits_end ps f g a b (λ k e. parts_fit ps k g (past a) b e z) h
parts_fit (Fixed s ∷ ps) f g a b h z = fits_symbol ps f g a b (λ k e. parts_fit ps k g (past a) b e z) s h
parts_fit (Thread ∷ ps) f g a b h z =
    fits_number ps f g a b (λ k e. parts_fit ps k g (past a) b e z) Thread (λ c t. refl)
    (λ c n k ds ts e w r. fit_thread w (subst (λ x. Fit ps (values x) ts (values g)) (sym (ok_same _ k e)) r)) h
parts_fit (AddressPart ∷ ps) f g a b h z =
    fits_number ps f g a b (λ k e. parts_fit ps k g (past a) b e z) AddressPart (λ c t. refl)
    (λ c n k ds ts e w r. fit_address w (subst (λ x. Fit ps (values x) ts (values g)) (sym (ok_same _ k e)) r)) h
parts_fit (Read ∷ ps) f g a b h z =
    fits_number ps f g a b (λ k e. parts_fit ps k g (past a) b e z) Read (λ c t. refl)
    (λ c n k ds ts e w r. fit_read w (subst (λ x. Fit ps (values x) ts (values g)) (sym (ok_same _ k e)) r)) h
parts_fit (Written ∷ ps) f g a b h z =
    fits_number ps f g a b (λ k e. parts_fit ps k g (past a) b e z) Written (λ c t. refl)
    (λ c n k ds ts e w r. fit_written w (subst (λ x. Fit ps (values x) ts (values g)) (sym (ok_same _ k e)) r)) h
parts_fit (SameAddress ∷ ps) f g a b h z =
    fits_number ps f g a b (λ k e. parts_fit ps k g (past a) b e z) SameAddress (λ c t. refl)
    (λ c n k ds ts e w r.
    let s = test_ok (eqb n f.address.number) (Ok f) OtherAddress k e in
    fit_same (subst (Writes ds) (eqb-true n f.address.number s.0) w) (subst (λ x. Fit ps (values x) ts (values g)) (sym (ok_same f k s.1)) r)) h

-- parts can be read from a place on, which gives the values
abbrev ReadAs : List Part → Fields → At → Values → Type 0
ReadAs ps f a w = (g : Fields) × (b : At) × (parts ps f a ≡ Ok (g, b)) × (values g ≡ w)

-- parts behind one that is accepted
read_on : (p : Part) (ps : List Part) (f h : Fields) (a : At) (w : Values) → accepted p f (skipped a).column (next_token a) ≡ Ok h → ReadAs ps h (past a) w → ReadAs (p ∷ ps) f a w
read_on p ps f h a w e r = (r.0, r.1, parts_next p ps f h a e ∙ r.2, r.3)

-- a number that stands there is put into the fields
number_put : (t : Tok) (ds : List ℕ) (n : ℕ) (k : ℕ → Result Fields Cause) → t ≡ number ds → Writes ds n → and_then (number_in t) k ≡ k n
number_put t ds n k e w = ap (λ t. and_then (number_in t) k) e ∙ ap (λ r. and_then r k) (writes_in ds n w)

-- parts that fit the tokens that stand there are read
pub fit_parts : (ps : List Part) (f : Fields) (a : At) (ts : List Tok) (w : Values) → Fit ps (values f) ts w → Tokens a.rest ts → ReadAs ps f a w
unfolding parts
fit_parts [] f a ts w fit_all z = (f, a, refl, refl)
fit_parts (LineEnd ∷ ps) f a ts w (fit_end r) z =
    let e = tokens_end a.rest z in
    read_on LineEnd ps f f a w (cond-true _ _ _ (ap is_end e))
    (fit_parts ps f (past a) [] w r (subst (λ l. Tokens l []) (sym (beyond_end a.rest e)) (tokens_none [] refl)))
fit_parts (Fixed s ∷ ps) f a ts w (fit_symbol {ts = us} r) z =
    let k = tokens_next a.rest (fixed s) us z in
    let m = fit_parts ps f (past a) us w r k.1 in
    (m.0, m.1, symbol_next s ps f a k.0 ∙ m.2, m.3)
fit_parts (Thread ∷ ps) f a ts w (fit_thread {ds = ds} {n = n} {ts = us} q r) z =
    let k = tokens_next a.rest (number ds) us z in
    read_on Thread ps f _ a w (number_put (next_token a) ds n (put Thread f (skipped a).column) k.0 q) (fit_parts ps _ (past a) us w r k.1)
fit_parts (AddressPart ∷ ps) f a ts w (fit_address {ds = ds} {n = n} {ts = us} q r) z =
    let k = tokens_next a.rest (number ds) us z in
    read_on AddressPart ps f _ a w (number_put (next_token a) ds n (put AddressPart f (skipped a).column) k.0 q) (fit_parts ps _ (past a) us w r k.1)
fit_parts (Read ∷ ps) f a ts w (fit_read {ds = ds} {n = n} {ts = us} q r) z =
    let k = tokens_next a.rest (number ds) us z in
    read_on Read ps f _ a w (number_put (next_token a) ds n (put Read f (skipped a).column) k.0 q) (fit_parts ps _ (past a) us w r k.1)
fit_parts (Written ∷ ps) f a ts w (fit_written {ds = ds} {n = n} {ts = us} q r) z =
    let k = tokens_next a.rest (number ds) us z in
    read_on Written ps f _ a w (number_put (next_token a) ds n (put Written f (skipped a).column) k.0 q) (fit_parts ps _ (past a) us w r k.1)
fit_parts (SameAddress ∷ ps) f a ts w (fit_same {ds = ds} {ts = us} q r) z =
    let k = tokens_next a.rest (number ds) us z in
    let n : ℕ = f.address.number in
    read_on SameAddress ps f f a w (number_put (next_token a) ds n (put SameAddress f (skipped a).column) k.0 q ∙ cond-true _ _ _ (eq-eqb n n refl)) (fit_parts ps f (past a) us w r k.1)
