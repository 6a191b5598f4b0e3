-- The lines of a text, as a loop reads them one by one.
use Rattle.std.proofs.Common.{◌≡◌, ℕ, suc, one-add, not, unwrap_or, ◌+◌, ◌-◌, ◌<◌, ◌≤◌, Bool, true, false, cond, eqb, ltb, leb, List, [], ◌∷◌, ◌++◌, length, take, drop, Some, None, Ok, Err, Option, Result, sym, refl, ap, ◌∙◌, subst, arith}
use Rattle.std.proofs.lemmas.List.{drop_all, drop-drop, drop-take, length-drop, length-take, take_all, take_rest, take-append-le}
use Rattle.std.proofs.lemmas.List.Folds.{length-prefix_len}
use Rattle.std.proofs.lemmas.List.Sums.{position_or_len_is}
use Rattle.std.specs.List.{after_first, before_first, position_or_len}
use Rattle.traces.specs.First.{First}
use Rattle.traces.specs.declared.entry.Instruction.{Instruction}
use Rattle.traces.specs.declared.entry.Refusal.TheVariants.{TooManyEntries, TooManyThreads, TooManyAddresses}
use Rattle.traces.specs.Adding.{admitted, threads_of, addresses_of, and_then}
use Rattle.text.specs.declared.statement.Statement.{Statement}
use Rattle.text.specs.declared.fault.Fault.{Fault}
use Rattle.text.specs.Lines.{instruction_of, line_from, start_of}
use Rattle.text.specs.Places.{starts}
use Rattle.text.specs.Tokens.{At}
use Rattle.text.specs.Texts.{entered, into_first, line_read, line_read_from, lines_of, lines_read}
use Rattle.text.proofs.Readings.{placed_ok}
use Rattle.text.proofs.Fits.{ok_same, then_ok}

-- a byte that ends a line
abbrev pub feed : ℕ → Bool
feed b = eqb b 10

-- what a search for it answers
pub line_found : (bs : List ℕ) (r : Option ℕ) → First (λ y r. r ≡ eqb y 10) bs r → unwrap_or r (length bs) ≡ position_or_len feed bs
line_found bs (Some i) f = sym (position_or_len_is feed bs i 0 (omega arith) (λ k l. sym (f.2 k 0 (omega arith) l)) (λ l. sym (f.1 0)))
line_found bs None f = sym (position_or_len_is feed bs (length bs) 0 (omega arith) (λ k l. sym (f k 0 (omega arith) l)) (λ l. absurd (omega arith)))

-- the first line by what a search for a line feed answers
pub line_first : (bs : List ℕ) (i : ℕ) → First (λ y r. r ≡ eqb y 10) bs (Some i) → length (before_first feed bs) ≡ i
line_first bs i f = length-prefix_len (λ b. not (feed b)) bs ∙ sym (line_found bs (Some i) f)

pub line_absent : (bs : List ℕ) → First (λ y r. r ≡ eqb y 10) bs None → length (before_first feed bs) ≡ length bs
line_absent bs f = length-prefix_len (λ b. not (feed b)) bs ∙ sym (line_found bs None f)

-- the same where the search is in the text from a place on
pub line_first_from : (t : List ℕ) (place i : ℕ) → First (λ y r. r ≡ eqb y 10) (take (length t - place) (drop place t)) (Some i) → length (before_first feed (drop place t)) ≡ i
line_first_from t place i f = line_first (drop place t) i (subst (λ l. First (λ y r. r ≡ eqb y 10) l (Some i)) (take_rest t place) f)

pub line_absent_from : (t : List ℕ) (place : ℕ) → First (λ y r. r ≡ eqb y 10) (take (length t - place) (drop place t)) None → length (before_first feed (drop place t)) ≡ length t - place
line_absent_from t place f = line_absent (drop place t) (subst (λ l. First (λ y r. r ≡ eqb y 10) l None) (take_rest t place) f) ∙ length-drop place t

-- a move within a line
pub take_moved : (t : List ℕ) (place end width : ℕ) → place + width ≤ end → take (end - (place + width)) (drop (place + width) t) ≡ drop width (take (end - place) (drop place t))
take_moved t place end width h =
    let e : end - place ≡ width + (end - (place + width)) = omega arith in
    ap (take (end - (place + width))) (sym (drop-drop width place t))
    ∙ sym (drop-take width (end - (place + width)) (drop place t))
    ∙ ap (λ n. drop width (take n (drop place t))) (sym e)

first_step : (b : ℕ) (bs : List ℕ) (t : Bool) → (0 < length bs → lines_of bs ≡ before_first feed bs ∷ lines_of (after_first feed bs)) →
    let n = cond (not t) (1 + position_or_len feed bs) 0 in cond t ([] ∷ lines_of bs) (into_first b (lines_of bs)) ≡ take n (b ∷ bs) ∷ lines_of (drop (n + 1) (b ∷ bs))
unfolding lines_of
first_step b bs true h = refl
first_step b [] false h = refl
first_step b (c ∷ bs) false h =
    let n = position_or_len feed (c ∷ bs) in
    let e : suc (n + 1) ≡ 1 + n + 1 = omega arith in
    ap (into_first b) (h (omega arith)) ∙ (λ i. take (sym (one-add n) i) (b ∷ c ∷ bs) ∷ lines_of (drop (e i) (b ∷ c ∷ bs)))

-- the lines of a text are its first line and those behind it
pub lines_first : (bs : List ℕ) → 0 < length bs → lines_of bs ≡ before_first feed bs ∷ lines_of (after_first feed bs)
unfolding lines_of
lines_first [] h = absurd (omega arith)
lines_first (b ∷ bs) h = first_step b bs (eqb b 10) (lines_first bs)

-- no line starts behind a text
pub starts_none : (t : List ℕ) (place n : ℕ) → length t ≤ place → starts n (lines_of (drop place t)) ≡ []
unfolding lines_of
starts_none t place n h = ap (λ l. starts n (lines_of l)) (drop_all place t h)

-- the start of the line at a place, and those behind its end
pub starts_more : (t : List ℕ) (place size n : ℕ) → place < length t → size ≡ position_or_len feed (take (length t - place) (drop place t)) →
    starts n (lines_of (drop place t)) ≡ start_of n (drop place (take (place + size) t)) ∷ starts (n + 1) (lines_of (drop (place + size + 1) t))
starts_more t place size n h e =
    let rest = drop place t in
    let some : 0 < length rest = omega (arith, length-drop place t) in
    let size_is : size ≡ position_or_len feed rest = e ∙ ap (position_or_len feed) (take_rest t place) in
    let line = drop-take place size t ∙ ap (λ k. take k rest) size_is in
    let past : place + size + 1 ≡ place + (size + 1) = omega arith in
    let next = ap (λ k. drop k t) past ∙ sym (drop-drop (size + 1) place t) ∙ ap (λ k. drop (k + 1) rest) size_is in
    ap (starts n) (lines_first rest some) ∙ (λ i. start_of n (sym line i) ∷ starts (n + 1) (lines_of (sym next i)))

-- what the lines from their starts on make of the instructions
abbrev pub read_from : List Instruction → List At → Result (List Instruction) Fault
read_from is [] = Ok is
read_from is (a ∷ more) = and_then (line_read_from a is) (λ js. read_from js more)

-- the same by the lines themselves
pub lines_read_from : (n : ℕ) (is : List Instruction) (ls : List (List ℕ)) → read_from is (starts n ls) ≡ lines_read n is ls
unfolding lines_read
lines_read_from n is [] = refl
lines_read_from n is (l ∷ ls) = λ i. and_then (line_read n is l) (λ js. lines_read_from (n + 1) js ls i)

-- the lines from their starts on make the whole of m
module _ (m : List Instruction) (places : List At) (whole : Result (List Instruction) Fault) (so_far : read_from m places ≡ whole) where
  -- no line is left
  pub lines_none : places ≡ [] → whole ≡ Ok m
  lines_none e = sym so_far ∙ ap (read_from m) e

  module _ (a : At) (more : List At) (first : places ≡ a ∷ more) where
    -- the first line is read, and the rest makes the whole
    pub lines_next : (k : List Instruction) → line_read_from a m ≡ Ok k → read_from k more ≡ whole
    lines_next k e = sym (ap (λ r. and_then r (λ js. read_from js more)) e) ∙ sym (ap (read_from m) first) ∙ so_far

    -- the fault of the first line is that of the whole
    pub lines_stop : (f : Fault) → line_read_from a m ≡ Err f → whole ≡ Err f
    lines_stop f e = sym so_far ∙ ap (read_from m) first ∙ ap (λ r. and_then r (λ js. read_from js more)) e

-- the instructions `after` begin with those before
abbrev pub Grown : List Instruction → List Instruction → Type 0
Grown before after = take (length before) after ≡ before

-- instructions begin with themselves
pub grown_self : (m : List Instruction) → Grown m m
grown_self m = take_all (length m) m (omega arith)

grown_more : (m n k : List Instruction) → Grown m n → Grown m (n ++ k)
grown_more m n k h =
    let fits : length m ≤ length n = omega (arith, ap length h, length-take (length m) n) in
    take-append-le (length m) n k fits ∙ h

admitted_at : (a b c : Bool) (is js : List Instruction) → cond a (Err TooManyEntries) (cond b (Err TooManyThreads) (cond c (Err TooManyAddresses) (Ok is))) ≡ Ok js → js ≡ is
admitted_at true b c is js e = cc
admitted_at false true c is js e = cc
admitted_at false false true is js e = cc
admitted_at false false false is js e = cc

-- an instruction that is added comes last
pub admitted_last : (is : List Instruction) (i : Instruction) (js : List Instruction) → admitted is i ≡ Ok js → js ≡ is ++ i ∷ []
admitted_last is i js e = admitted_at (leb 64 (length is)) (ltb 8 (length (threads_of (is ++ i ∷ [])))) (ltb 16 (length (addresses_of (is ++ i ∷ [])))) (is ++ i ∷ []) js e

grown_entered : (m n : List Instruction) → Grown m n → (l : ℕ) (o : Option Statement) (k : List Instruction) → entered l n o ≡ Ok k → Grown m k
grown_entered m n h l None k e = subst (Grown m) (ok_same n k e) h
grown_entered m n h l (Some s) k e =
    subst (Grown m) (sym (admitted_last n (instruction_of s) k (placed_ok l s (admitted n (instruction_of s)) k e))) (grown_more m n (instruction_of s ∷ []) h)

-- what stands in front stays as a line is read
pub grown_line : (m n : List Instruction) → Grown m n → (a : At) (k : List Instruction) → line_read_from a n ≡ Ok k → Grown m k
grown_line m n h a k e = let x = then_ok (line_from a) (entered a.line n) k e in grown_entered m n h a.line x.0 k x.2
