-- What is read is what the format says.
use Rattle.std.proofs.Common.{◌≡◌, ℕ, ◌+◌, Bool, true, false, cond, ltb, ◌⊎◌, List, [], ◌∷◌, ◌++◌, length, Some, None, Ok, Err, Option, Result, sym, refl, ap, ◌∙◌, subst, inl, inr}
use Rattle.std.specs.List.{flat_map}
use Rattle.std.proofs.lemmas.List.{append-nil}
use Rattle.std.proofs.lemmas.List.Elements.{All-nil}
use Rattle.std.proofs.lemmas.Bool.{cond-true, cond-false, le-ltb, ltb-false}
use Rattle.traces.specs.declared.entry.Instruction.{Instruction}
use Rattle.traces.specs.declared.entry.Kind.{Kind}
use Rattle.traces.specs.declared.entry.Kind.TheVariants.{Load, Store, Swap, Sync as SyncKind}
use Rattle.traces.specs.declared.entry.Refusal.{Refusal}
use Rattle.traces.specs.Adding.{admitted, and_then, admitted_all}
use Rattle.text.specs.declared.token.Symbol.TheVariants.{Colon}
use Rattle.text.specs.declared.statement.Part.TheVariants.{Thread, Fixed}
use Rattle.text.specs.declared.statement.Statement.{Statement}
use Rattle.text.specs.declared.fault.Cause.TheVariants.{TooLong}
use Rattle.text.specs.declared.fault.Fault.{Fault}
use Rattle.text.specs.Grammar.{Spaces, Tokens, done, States, Line, blank, stating, Text, last_line, more_lines, OneReading, Tok}
use Rattle.text.specs.Lines.{is_end, no_fields, line_from, start_of, instruction_of}
use Rattle.text.specs.Texts.{lines_of, entered, placed_in, line_read, lines_read, text_read}
use Rattle.text.specs.Faults.{Readable}
use Rattle.text.proofs.Fits.{values, ok_same, then_ok, then_then, then_same, Closed, closed_end, parts_fit, fit_parts}
use Rattle.text.proofs.Forms.{form_parts, body_parts, stated, fit_states, states_fit, line_form, line_end, form_line}
use Rattle.text.proofs.Gaps.{tokens_none, tokens_end}
use Rattle.text.proofs.Splitting.{Unbroken, unbroken_nil, Splits, no_line, one_line, line_and, splits, lines_one, lines_more}

-- each form ends with the line's end
form_closed : (k : Kind) → Closed Thread (Fixed Colon ∷ body_parts k)
form_closed = elim [ Load ↦ refl | Store ↦ refl | Swap ↦ refl | SyncKind ↦ refl ]

-- bytes with no token are spaces
tokens_spaces : (bs : List ℕ) → Tokens bs [] → Spaces bs
tokens_spaces bs (done s) = s

-- a line that is read as a statement states its instruction
pub line_stated : (n : ℕ) (bs : List ℕ) (s : Statement) → line_from (start_of n bs) ≡ Ok (Some s) → Line bs (instruction_of s ∷ [])
line_stated n bs s h =
    let k = line_form (start_of n bs) s h in
    let z = closed_end Thread (Fixed Colon ∷ body_parts s.kind) no_fields s.fields (start_of n bs) k.0 (form_closed s.kind) k.1 in
    let r = parts_fit (form_parts s.kind) no_fields s.fields (start_of n bs) k.0 k.1 z in
    stating r.2 (fit_states s.kind r.0 (values s.fields) r.1)

-- a line that is read as nothing is blank
pub line_blank : (n : ℕ) (bs : List ℕ) → line_from (start_of n bs) ≡ Ok None → Line bs []
line_blank n bs h = blank (tokens_spaces bs (tokens_none bs (line_end (start_of n bs) h)))

-- the tokens of an instruction are read as a statement of it
line_states : (n : ℕ) (bs : List ℕ) (ts : List Tok) (i : Instruction) → Tokens bs ts → States ts i → (s : Statement) × (line_from (start_of n bs) ≡ Ok (Some s)) × (i ≡ instruction_of s)
line_states n bs ts i h q =
    let m = states_fit ts i q in
    let r = fit_parts (form_parts m.0) no_fields (start_of n bs) ts m.1 m.2 h in
    (record { kind = m.0; fields = r.0 }, form_line m.0 (start_of n bs) r.1 r.0 r.2, m.3 ∙ ap (stated m.0) (sym r.3))

-- a line of the format is read as what it states
pub line_complete : (n : ℕ) (bs : List ℕ) (is : List Instruction) → Line bs is →
    ((line_from (start_of n bs) ≡ Ok None) × (is ≡ [])) ⊎ ((s : Statement) × (line_from (start_of n bs) ≡ Ok (Some s)) × (is ≡ instruction_of s ∷ []))
line_complete n bs is (blank s) = inl (cond-true _ _ _ (ap is_end (tokens_end bs (done s))), refl)
line_complete n bs is (stating {ts = ts} {i = i} h q) = let r = line_states n bs ts i h q in inr (r.0, r.1, ap (λ i. i ∷ []) r.2)

-- what is placed succeeds if it did
pub placed_ok : (n : ℕ) (s : Statement) (r : Result (List Instruction) Refusal) (js : List Instruction) → placed_in n s r ≡ Ok js → r ≡ Ok js
placed_ok n s (Ok is) js h = cc
placed_ok n s (Err e) js h = cc

-- what the line that was read as o states, and that it could be added
entered_stated : (n : ℕ) (before : List Instruction) (bs : List ℕ) (mid : List Instruction) (o : Option Statement) → line_from (start_of n bs) ≡ Ok o → entered n before o ≡ Ok mid →
    (is : List Instruction) × Line bs is × (admitted_all before is ≡ Ok mid)
entered_stated n before bs mid None e h = ([], line_blank n bs e, ap Ok (ok_same before mid h))
entered_stated n before bs mid (Some s) e h =
    (instruction_of s ∷ [], line_stated n bs s e, ap (λ r. and_then r (λ ks. Ok ks)) (placed_ok n s (admitted before (instruction_of s)) mid h))

-- a line that was read is of the format, and what it states could be added
pub line_of_reading : (n : ℕ) (before : List Instruction) (bs : List ℕ) (mid : List Instruction) → line_read n before bs ≡ Ok mid → (is : List Instruction) × Line bs is × (admitted_all before is ≡ Ok mid)
line_of_reading n before bs mid h =
    let k = then_ok (line_from (start_of n bs)) (entered n before) mid h in
    entered_stated n before bs mid k.0 k.1 k.2

-- a line of the format is read where what it states can be added
pub reading_of_line : (n : ℕ) (before : List Instruction) (bs : List ℕ) (is mid : List Instruction) → Line bs is → admitted_all before is ≡ Ok mid → line_read n before bs ≡ Ok mid
reading_of_line n before bs is mid l h =
    elim (line_complete n bs is l) [
      | inl k ↦ ap (λ r. and_then r (entered n before)) k.0 ∙ ap Ok (ok_same before mid (subst (λ js. admitted_all before js ≡ Ok mid) k.1 h))
      | inr k ↦
          let m = then_ok (admitted before (instruction_of k.0)) (λ ks. Ok ks) mid (subst (λ js. admitted_all before js ≡ Ok mid) k.2 h) in
          ap (λ r. and_then r (entered n before)) k.1 ∙ ap (placed_in n k.0) (m.1 ∙ m.2)
    ]

-- instructions and then more are added one after the other
admitted_append : (before is js : List Instruction) → admitted_all before (is ++ js) ≡ and_then (admitted_all before is) (λ ks. admitted_all ks js)
admitted_append before [] js = refl
admitted_append before (i ∷ is) js =
    then_same (admitted before i) _ _ (λ ks. admitted_append ks is js)
    ∙ sym (then_then (admitted before i) (λ ks. admitted_all ks is) (λ ks. admitted_all ks js))

-- what lines make, by what they state
abbrev Stated : List Instruction → List ℕ → List Instruction → Type 0
Stated before bs after = (is : List Instruction) × (Text bs is × (admitted_all before is ≡ Ok after))

-- lines that were read make a text of the format, and what it states could be added
lines_from : (n : ℕ) (before : List Instruction) (bs : List ℕ) (ls : List (List ℕ)) (after : List Instruction) → Splits bs ls → lines_read n before ls ≡ Ok after → Stated before bs after
unfolding lines_read
lines_from n before bs ls after no_line h = ([], (last_line unbroken_nil (blank (All-nil (λ b. b ≡ 32))), ap Ok (ok_same before after h)))
lines_from n before bs ls after (one_line u) h =
    let k = then_ok (line_read n before bs) (λ js. Ok js) after h in
    let l = line_of_reading n before bs after (k.1 ∙ k.2) in
    (l.0, (last_line u l.1, l.2))
lines_from n before bs ls after (line_and {bs = cs} {rest = rest} {ls = ms} u s) h =
    let k = then_ok (line_read n before cs) (λ js. lines_read (n + 1) js ms) after h in
    let l = line_of_reading n before cs k.0 k.1 in
    let r = lines_from (n + 1) k.0 rest ms after s k.2 in
    (l.0 ++ r.0, (more_lines cs rest l.0 r.0 u l.1 r.1.0, admitted_append before l.0 r.0 ∙ ap (λ q. and_then q (λ ks. admitted_all ks r.0)) l.2 ∙ r.1.1))

-- bytes that are one line are read as it
last_read : (n : ℕ) (before : List Instruction) (bs : List ℕ) (is after : List Instruction) → Unbroken bs → Line bs is → admitted_all before is ≡ Ok after → lines_read n before (lines_of bs) ≡ Ok after
unfolding lines_read lines_of
last_read n before [] is after u l h = reading_of_line n before [] is after l h
last_read n before (b ∷ bs) is after u l h =
    ap (lines_read n before) (lines_one b bs u) ∙ ap (λ r. and_then r (λ js. Ok js)) (reading_of_line n before (b ∷ bs) is after l h)

-- a text of the format is read where what it states can be added
reading_of_lines : (n : ℕ) (before : List Instruction) (bs : List ℕ) (is after : List Instruction) → Text bs is → admitted_all before is ≡ Ok after → lines_read n before (lines_of bs) ≡ Ok after
unfolding lines_read
reading_of_lines n before bs is after (last_line u l) h = last_read n before bs is after u l h
reading_of_lines n before bs is after (more_lines cs rest js ks u l t) h =
    let k = then_ok (admitted_all before js) (λ x. admitted_all x ks) after (sym (admitted_append before js ks) ∙ h) in
    ap (lines_read n before) (lines_more cs rest u)
    ∙ ap (λ r. and_then r (λ x. lines_read (n + 1) x (lines_of rest))) (reading_of_line n before cs js k.0 l k.1)
    ∙ reading_of_lines (n + 1) k.0 rest ks after t k.2

-- a text that was read can be read
pub readable_from : (before : List Instruction) (bs : List ℕ) (after : List Instruction) → text_read before bs ≡ Ok after → Readable before bs after
readable_from before bs after h = go (ltb 16384 (length bs)) refl h
  where
    go : (t : Bool) → ltb 16384 (length bs) ≡ t → cond t (Err (record { cause = TooLong; line = 0; column = 0 })) (lines_read 1 before (lines_of bs)) ≡ Ok after → Readable before bs after
    go true e h = cc
    go false e h = (ltb-false 16384 (length bs) e, lines_from 1 before bs (lines_of bs) after (splits bs) h)

-- a text that can be read is read so
pub readable_read : (before : List Instruction) (bs : List ℕ) (after : List Instruction) → Readable before bs after → text_read before bs ≡ Ok after
readable_read before bs after r = cond-false _ _ _ (le-ltb 16384 (length bs) r.0) ∙ reading_of_lines 1 before bs r.1.0 after r.1.1.0 r.1.1.1

-- what a line that was read states
abbrev stated_in_line : Result (Option Statement) Fault → List Instruction
stated_in_line (Ok (Some s)) = instruction_of s ∷ []
stated_in_line (Ok None) = []
stated_in_line (Err e) = []

-- what lines state, one by one
abbrev in_lines : List (List ℕ) → List Instruction
in_lines ls = flat_map (λ l. stated_in_line (line_from (start_of 0 l))) ls

-- a line states what is read of it
line_one : (bs : List ℕ) (is : List Instruction) → Line bs is → is ≡ stated_in_line (line_from (start_of 0 bs))
line_one bs is l = elim (line_complete 0 bs is l) [ inl k ↦ k.1 ∙ ap stated_in_line (sym k.0) | inr k ↦ k.2 ∙ ap stated_in_line (sym k.1) ]

-- the last line states what is read of it
last_one : (bs : List ℕ) (is : List Instruction) → Unbroken bs → Line bs is → is ≡ in_lines (lines_of bs)
unfolding lines_of
last_one [] is u l = line_one [] is l
last_one (b ∷ bs) is u l = line_one (b ∷ bs) is l ∙ sym (append-nil _) ∙ ap in_lines (sym (lines_one b bs u))

-- a text states what is read of its lines
text_one : (bs : List ℕ) (is : List Instruction) → Text bs is → is ≡ in_lines (lines_of bs)
text_one bs is (last_line u l) = last_one bs is u l
text_one bs is (more_lines cs rest js ks u l t) = (λ i. line_one cs js l i ++ text_one rest ks t i) ∙ ap in_lines (sym (lines_more cs rest u))

-- each text has one reading
pub one_reading : (bs : List ℕ) → OneReading bs
one_reading bs is js t u = text_one bs is t ∙ sym (text_one bs js u)
