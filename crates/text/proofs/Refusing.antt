-- A text that is refused is refused with its first fault.
use Rattle.std.proofs.Common.{◌≡◌, ℕ, ◌+◌, ◌≤◌, Bool, true, false, cond, ltb, leb, ◌⊎◌, List, [], ◌∷◌, ◌++◌, length, Some, None, Ok, Err, Option, Result, sym, refl, ap, ◌∙◌, subst, inl, inr, arith}
use Rattle.std.proofs.lemmas.List.{append-nil}
use Rattle.std.proofs.lemmas.Bool.{cases_Bool, cond-false, ltb-true, ltb-false}
use Rattle.traces.specs.declared.entry.Instruction.{Instruction}
use Rattle.traces.specs.declared.entry.Refusal.{Refusal}
use Rattle.traces.specs.declared.entry.Refusal.TheVariants.{UnknownKind, TooManyEntries, TooManyThreads, TooManyAddresses}
use Rattle.traces.specs.Adding.{address_in, addresses_of, admitted, same_address, threads_of, and_then, admitted_all}
use Rattle.traces.specs.Kinds.{addressed}
use Rattle.traces.specs.Slots.{listed_if_any}
use Rattle.traces.proofs.Slotting.{appearing_push}
use Rattle.text.specs.declared.statement.Statement.{Statement}
use Rattle.text.specs.declared.fault.Cause.TheVariants.{Trace}
use Rattle.text.specs.declared.fault.Fault.{Fault}
use Rattle.text.specs.Grammar.{Spaces, blank}
use Rattle.text.specs.Lines.{instruction_of, line_from, start_of}
use Rattle.text.specs.Texts.{column_of, entered, line_read, lines_of, lines_read, placed_in, text_read}
use Rattle.text.specs.Faults.{Faulty, LineOver, RefusedAt, TextFault, in_line, refused, later, too_long}
use Rattle.text.proofs.Fits.{ok_same, then_ok}
use Rattle.text.proofs.Faulting.{first_faults}
use Rattle.text.proofs.Placing.{thread_at, address_at}
use Rattle.text.proofs.Readings.{line_complete, line_of_reading, line_stated}
use Rattle.text.proofs.Splitting.{Unbroken, Splits, no_line, one_line, line_and, splits}

-- two steps fail where the first does, or else the second
then_err : {A B E : Type 0} (r : Result A E) (k : A → Result B E) (e : E) → and_then r k ≡ Err e → (r ≡ Err e) ⊎ ((x : A) × (r ≡ Ok x) × (k x ≡ Err e))
then_err (Ok x) k e h = inr (x, refl, h)
then_err (Err d) k e h = let same : d ≡ e = cc in inl (ap Err same)

-- what three tests answer: too many entries, too many threads, too many addresses, or else the instructions
abbrev by_tests : Bool → Bool → Bool → List Instruction → Result (List Instruction) Refusal
by_tests a b c is = cond a (Err TooManyEntries) (cond b (Err TooManyThreads) (cond c (Err TooManyAddresses) (Ok is)))

-- what an answer tells of the last test and of the instructions
abbrev Told : Bool → List Instruction → Result (List Instruction) Refusal → Type 0
Told c is (Ok js) = (c ≡ false) × (is ≡ js)
Told c is (Err UnknownKind) = ⊥
Told c is (Err TooManyEntries) = Unit {0}
Told c is (Err TooManyThreads) = Unit {0}
Told c is (Err TooManyAddresses) = c ≡ true

-- the same of each way of the tests
told : (a b c : Bool) (is : List Instruction) → Told c is (by_tests a b c is)
told true b c is = tt
told false true c is = tt
told false false true is = refl
told false false false is = (refl, refl)

-- whether there are more than 16 addresses with one more instruction
abbrev many_with : List Instruction → Instruction → Bool
many_with before i = ltb 16 (length (addresses_of (before ++ i ∷ [])))

-- what the answer to one more instruction tells
admitted_tells : (before : List Instruction) (i : Instruction) (r : Result (List Instruction) Refusal) → admitted before i ≡ r → Told (many_with before i) (before ++ i ∷ []) r
admitted_tells before i r h =
    subst (Told (many_with before i) (before ++ i ∷ [])) h
    (told (leb 64 (length before)) (ltb 8 (length (threads_of (before ++ i ∷ [])))) (many_with before i) (before ++ i ∷ []))

-- instructions with one more have at most 16 addresses
few_after : (before : List Instruction) (i : Instruction) (after : List Instruction) → admitted before i ≡ Ok after → length (addresses_of after) ≤ 16
few_after before i after h =
    let k = admitted_tells before i (Ok after) h in
    subst (λ is. length (addresses_of is) ≤ 16) k.1 (ltb-false 16 (length (addresses_of (before ++ i ∷ []))) k.0)

-- the same of several more
few_after_all : (before is after : List Instruction) → length (addresses_of before) ≤ 16 → admitted_all before is ≡ Ok after → length (addresses_of after) ≤ 16
few_after_all before [] after few h = subst (λ is. length (addresses_of is) ≤ 16) (ok_same before after h) few
few_after_all before (i ∷ is) after few h =
    let k = then_ok (admitted before i) (λ ks. admitted_all ks is) after h in
    few_after_all k.0 is after (few_after before i k.0 k.1) k.2

-- an instruction that brings too many addresses has one
brings_address : (before : List Instruction) (i : Instruction) → length (addresses_of before) ≤ 16 → many_with before i ≡ true → addressed i.kind ≡ true
brings_address before i few h =
    elim (cases_Bool (addressed i.kind)) [
      | inl t ↦ t
      | inr t ↦
          let more = ltb-true 16 (length (addresses_of (before ++ i ∷ []))) h in
          let none : address_in i ≡ None = cond-false _ _ _ t in
          let same : addresses_of (before ++ i ∷ []) ≡ addresses_of before = appearing_push same_address address_in [] before i ∙ ap (listed_if_any same_address (addresses_of before)) none in
          absurd (omega (arith, ap length same))
    ]

-- a refusal is placed at the statement's column
refused_at : (before : List Instruction) (n : ℕ) (bs : List ℕ) (s : Statement) (e : Refusal) → length (addresses_of before) ≤ 16 → line_from (start_of n bs) ≡ Ok (Some s) → admitted before (instruction_of s) ≡ Err e →
    RefusedAt e bs (column_of e s)
refused_at before n bs s e few l h = by e (admitted_tells before (instruction_of s) (Err e) h)
  where
    by : (e : Refusal) → Told (many_with before (instruction_of s)) (before ++ instruction_of s ∷ []) (Err e) → RefusedAt e bs (column_of e s)
    by UnknownKind t = t
    by TooManyEntries t = thread_at n bs s l
    by TooManyThreads t = thread_at n bs s l
    by TooManyAddresses t = address_at n bs s l (brings_address before (instruction_of s) few t)

module _ (before : List Instruction) (n : ℕ) (bs rest : List ℕ) (few : length (addresses_of before) ≤ 16) (u : Unbroken bs) (over : LineOver rest) where
  -- a statement that cannot be added is the first fault
  statement_fault : (s : Statement) (r : Result (List Instruction) Refusal) (f : Fault) → line_from (start_of n bs) ≡ Ok (Some s) → admitted before (instruction_of s) ≡ r → placed_in n s r ≡ Err f → TextFault before n (bs ++ rest) f
  statement_fault s (Ok is) f l a h = cc
  statement_fault s (Err e) f l a h =
      let same : record { cause = Trace e; line = n; column = column_of e s } ≡ f = cc in
      subst (TextFault before n (bs ++ rest)) same
      (refused before n bs rest (instruction_of s) e (column_of e s) u over (line_stated n bs s l) a (refused_at before n bs s e few l a))

  -- what a line was read as, and cannot be entered, is the first fault
  entry_fault : (o : Option Statement) (f : Fault) → line_from (start_of n bs) ≡ Ok o → entered n before o ≡ Err f → TextFault before n (bs ++ rest) f
  entry_fault None f l h = cc
  entry_fault (Some s) f l h = statement_fault s (admitted before (instruction_of s)) f l refl h

  -- a line that is refused is not blank
  refused_not_blank : (f : Fault) → line_from (start_of n bs) ≡ Err f → Spaces bs → ⊥
  refused_not_blank f h s = elim (line_complete n bs [] (blank s)) [ inl k ↦ cc (h, k.0) | inr k ↦ cc (h, k.1) ]

  -- the fault of the first line is the first fault
  line_fault : (f : Fault) → line_read n before bs ≡ Err f → TextFault before n (bs ++ rest) f
  line_fault f h =
      elim (then_err (line_from (start_of n bs)) (entered n before) f h) [
        | inl e ↦
            let k = first_faults n bs f e in
            subst (TextFault before n (bs ++ rest)) (ap (λ m. record { cause = f.cause; line = m; column = f.column }) (sym k.1))
            (in_line before n bs rest f.cause f.column u over (refused_not_blank f e) k.0)
        | inr k ↦ entry_fault k.0 f k.1 k.2
      ]

-- lines that are refused make a text with that first fault
lines_fault : (n : ℕ) (before : List Instruction) (bs : List ℕ) (ls : List (List ℕ)) (f : Fault) → length (addresses_of before) ≤ 16 → Splits bs ls → lines_read n before ls ≡ Err f → TextFault before n bs f
unfolding lines_read
lines_fault n before bs ls f few no_line h = cc
lines_fault n before bs ls f few (one_line u) h =
    elim (then_err (line_read n before bs) (λ js. Ok js) f h) [
      | inl e ↦ subst (λ l. TextFault before n l f) (append-nil bs) (line_fault before n bs [] few u (inl refl) f e)
      | inr k ↦ cc (k.2)
    ]
lines_fault n before bs ls f few (line_and {bs = cs} {rest = rest} {ls = ms} u s) h =
    elim (then_err (line_read n before cs) (λ js. lines_read (n + 1) js ms) f h) [
      | inl e ↦ line_fault before n cs (10 ∷ rest) few u (inr (rest, refl)) f e
      | inr k ↦
          let l = line_of_reading n before cs k.0 k.1 in
          later before n cs rest l.0 k.0 f u l.1 l.2 (lines_fault (n + 1) k.0 rest ms f (few_after_all before l.0 k.0 few l.2) s k.2)
    ]

-- a text whose lines are refused has that first fault
pub text_fault : (n : ℕ) (before : List Instruction) (bs : List ℕ) (f : Fault) → length (addresses_of before) ≤ 16 → lines_read n before (lines_of bs) ≡ Err f → TextFault before n bs f
text_fault n before bs f few h = lines_fault n before bs (lines_of bs) f few (splits bs) h

-- a text that was refused is refused with its first fault
pub faulty_from : (before : List Instruction) (bs : List ℕ) (f : Fault) → length (addresses_of before) ≤ 16 → text_read before bs ≡ Err f → Faulty before bs f
faulty_from before bs f few h = go (ltb 16384 (length bs)) refl h
  where
    go : (t : Bool) → ltb 16384 (length bs) ≡ t → cond t (Err too_long) (lines_read 1 before (lines_of bs)) ≡ Err f → Faulty before bs f
    go true e h = let same : too_long ≡ f = cc in inl (ltb-true 16384 (length bs) e, sym same)
    go false e h = inr (ltb-false 16384 (length bs) e, text_fault 1 before bs f few h)
