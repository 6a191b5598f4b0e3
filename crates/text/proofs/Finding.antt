-- The first fault of a text is the one that reading answers.
use Rattle.std.proofs.Common.{◌≡◌, ℕ, ◌+◌, List, [], ◌∷◌, ◌++◌, length, Some, None, Ok, Err, Option, Result, sym, refl, ap, ◌∙◌, subst, inl, inr}
use Rattle.std.proofs.lemmas.List.{append-nil}
use Rattle.std.proofs.lemmas.List.Elements.{All-nil}
use Rattle.std.proofs.lemmas.Bool.{cond-true, cond-false, lt-ltb, le-ltb}
use Rattle.traces.specs.declared.entry.Instruction.{Instruction}
use Rattle.traces.specs.declared.entry.Refusal.{Refusal}
use Rattle.traces.specs.declared.entry.Refusal.TheVariants.{UnknownKind, TooManyEntries, TooManyThreads, TooManyAddresses}
use Rattle.traces.specs.Adding.{admitted, and_then}
use Rattle.text.specs.declared.statement.Statement.{Statement}
use Rattle.text.specs.declared.fault.Cause.{Cause}
use Rattle.text.specs.declared.fault.Cause.TheVariants.{Trace}
use Rattle.text.specs.declared.fault.Fault.{Fault}
use Rattle.text.specs.Grammar.{Line, Spaces, States, Tokens, blank, stating, Tok}
use Rattle.text.specs.Lines.{instruction_of, line_from, start_of}
use Rattle.text.specs.Texts.{column_of, entered, line_read, lines_of, lines_read, placed_in, text_read}
use Rattle.text.specs.Faults.{Faulty, LineFault, LineOver, RefusedAt, TextFault, in_line, refused, later}
use Rattle.text.proofs.Faulting.{first_faults}
use Rattle.text.proofs.Gaps.{tokens_nil}
use Rattle.text.proofs.Placing.{thread_at, address_at}
use Rattle.text.proofs.Readings.{line_blank, line_complete, reading_of_line, line_stated}
use Rattle.text.proofs.Splitting.{Unbroken, lines_one, lines_more}
use Rattle.text.proofs.Unique.{line_fault_one, line_fault_none, thread_one, address_one, address_had}

-- a line that states nothing is blank
line_spaces : (bs : List ℕ) → Line bs [] → Spaces bs
line_spaces bs (blank s) = s

-- a line that states an instruction has its tokens
line_tokens : (bs : List ℕ) (i : Instruction) → Line bs (i ∷ []) → (ts : List Tok) × Tokens bs ts × States ts i
line_tokens bs i (stating {ts = ts} h s) = (ts, h, s)

-- a line that states an instruction has some byte
line_nonempty : (bs : List ℕ) (i : Instruction) → Line bs (i ∷ []) → bs ≡ [] → ⊥
line_nonempty bs i l e =
    let k = line_tokens bs i l in
    let none : k.0 ≡ [] = tokens_nil k.0 (subst (λ b. Tokens b k.0) e k.1) in
    let s : States [] i = subst (λ ts. States ts i) none k.2 in
    elim s [ ]

module _ (n : ℕ) (bs : List ℕ) where
  -- a line is refused with its first fault
  line_refused : (cause : Cause) (column : ℕ) → (Spaces bs → ⊥) → LineFault bs cause column → line_from (start_of n bs) ≡ Err (record { cause = cause; line = n; column = column })
  line_refused cause column some p = go (line_from (start_of n bs)) refl
    where
      go : (r : Result (Option Statement) Fault) → line_from (start_of n bs) ≡ r → r ≡ Err (record { cause = cause; line = n; column = column })
      go (Ok None) e = absurd (some (line_spaces bs (line_blank n bs e)))
      go (Ok (Some s)) e =
          let k = line_tokens bs (instruction_of s) (line_stated n bs s e) in
          absurd (line_fault_none bs k.0 (instruction_of s) cause column k.1 k.2 p)
      go (Err f) e =
          let k = first_faults n bs f e in
          let m = line_fault_one bs f.cause cause f.column column k.0 p in
          λ i. Err (record { cause = m.0 i; line = k.1 i; column = m.1 i })

  -- a refusal is placed at one column, which is that of the statement
  column_found : (s : Statement) (e : Refusal) (column : ℕ) → line_from (start_of n bs) ≡ Ok (Some s) → RefusedAt e bs column → column ≡ column_of e s
  column_found s UnknownKind column l p = absurd p
  column_found s TooManyEntries column l p = thread_one bs column s.fields.thread_column p (thread_at n bs s l)
  column_found s TooManyThreads column l p = thread_one bs column s.fields.thread_column p (thread_at n bs s l)
  column_found s TooManyAddresses column l p =
      let k = line_tokens bs (instruction_of s) (line_stated n bs s l) in
      address_one bs column s.fields.address_column p (address_at n bs s l (address_had bs k.0 (instruction_of s) column k.1 k.2 p))

  -- a statement that cannot be added is refused where it is placed
  refusal_found : (before : List Instruction) (i : Instruction) (e : Refusal) (column : ℕ) → Line bs (i ∷ []) → admitted before i ≡ Err e → RefusedAt e bs column →
      line_read n before bs ≡ Err (record { cause = Trace e; line = n; column = column })
  refusal_found before i e column l h p =
      elim (line_complete n bs (i ∷ []) l) [
        | inl k ↦ cc
        | inr k ↦
            let s : Statement = k.0 in
            let same : i ≡ instruction_of s = cc in
            ap (λ r. and_then r (entered n before)) k.1
            ∙ ap (placed_in n s) (ap (admitted before) (sym same) ∙ h)
            ∙ ap (λ c. Err (record { cause = Trace e; line = n; column = c })) (sym (column_found s e column k.1 p))
      ]

-- the first line of a text, which has some byte
first_line_found : (bs rest : List ℕ) → Unbroken bs → LineOver rest → (bs ≡ [] → ⊥) → (ls : List (List ℕ)) × (lines_of (bs ++ rest) ≡ bs ∷ ls)
first_line_found bs rest u (inr m) some = (lines_of m.0, ap (λ r. lines_of (bs ++ r)) m.1 ∙ lines_more bs m.0 u)
first_line_found [] rest u (inl e) some = absurd (some refl)
first_line_found (b ∷ bs) rest u (inl e) some = ([], ap (λ r. lines_of (b ∷ (bs ++ r))) e ∙ ap (λ l. lines_of (b ∷ l)) (append-nil bs) ∙ lines_one b bs u)

-- a text is refused with the fault of its first line
first_found : (before : List Instruction) (n : ℕ) (bs rest : List ℕ) (f : Fault) → Unbroken bs → LineOver rest → (bs ≡ [] → ⊥) → line_read n before bs ≡ Err f → lines_read n before (lines_of (bs ++ rest)) ≡ Err f
unfolding lines_read
first_found before n bs rest f u over some h =
    let k = first_line_found bs rest u over some in
    ap (lines_read n before) k.1 ∙ ap (λ r. and_then r (λ js. lines_read (n + 1) js k.0)) h

-- the lines of a text are refused with its first fault
pub lines_found : (before : List Instruction) (n : ℕ) (bs : List ℕ) (f : Fault) → TextFault before n bs f → lines_read n before (lines_of bs) ≡ Err f
unfolding lines_read
lines_found before n bs f (in_line _ _ cs rest cause column u over some p) =
    first_found before n cs rest f u over (λ e. some (subst Spaces (sym e) (All-nil (λ b. b ≡ 32)))) (ap (λ r. and_then r (entered n before)) (line_refused n cs cause column some p))
lines_found before n bs f (refused _ _ cs rest i e column u over l h p) =
    first_found before n cs rest f u over (line_nonempty cs i l) (refusal_found n cs before i e column l h p)
lines_found before n bs f (later _ _ cs rest is after _ u l h t) =
    ap (lines_read n before) (lines_more cs rest u)
    ∙ ap (λ r. and_then r (λ js. lines_read (n + 1) js (lines_of rest))) (reading_of_line n before cs is after l h)
    ∙ lines_found after (n + 1) rest f t

-- a text is refused with its first fault
pub fault_found : (before : List Instruction) (bs : List ℕ) (f : Fault) → Faulty before bs f → text_read before bs ≡ Err f
fault_found before bs f (inl k) = cond-true _ _ _ (lt-ltb 16384 (length bs) k.0) ∙ ap Err (sym k.1)
fault_found before bs f (inr k) = cond-false _ _ _ (le-ltb 16384 (length bs) k.0) ∙ lines_found before 1 bs f k.1
