-- The four forms of a line: as parts, as tokens, and as a line is read.
use Rattle.std.proofs.Common.{◌≡◌, Bool, true, false, cond, List, [], ◌∷◌, ◌++◌, Some, None, Ok, Err, Option, Result, sym, refl, ap, ◌∙◌, subst}
use Rattle.std.proofs.lemmas.Bool.{cond-false}
use Rattle.traces.specs.declared.entry.Instruction.{Instruction}
use Rattle.traces.specs.declared.entry.Kind.{Kind}
use Rattle.traces.specs.declared.entry.Kind.TheVariants.{Load, Store, Swap, Sync as SyncKind}
use Rattle.traces.specs.Kinds.{instruction}
use Rattle.text.specs.declared.token.Symbol.{Symbol}
use Rattle.text.specs.declared.token.Symbol.TheVariants.{Colon, Assign, Equals, Memory, Less, Sync}
use Rattle.text.specs.declared.statement.Part.{Part}
use Rattle.text.specs.declared.statement.Part.TheVariants.{Thread, Fixed}
use Rattle.text.specs.declared.statement.Fields.{Fields}
use Rattle.text.specs.declared.statement.Statement.{Statement}
use Rattle.text.specs.declared.fault.Fault.{Fault}
use Rattle.text.specs.Tokens.{At, skipped, next_token, past}
use Rattle.text.specs.Grammar.{States, a_load, a_store, a_swap, a_sync, Tok, fixed, ends}
use Rattle.text.specs.Lines.{number_in, is_symbol, is_end, put, accepted, placed, parts, thread_parts, cell_parts, load_parts, store_parts, swap_parts, sync_parts, no_fields, statement, accessed, body, some_statement, line_from}
use Rattle.traces.specs.Adding.{and_then}
use Rattle.text.proofs.Fits.{Values, values, Fit, fit_all, fit_end, fit_symbol, fit_thread, fit_address, fit_same, fit_read, fit_written, ok_same, then_ok, then_then, then_same, in_writes, parts_first, end_is, symbol_is, symbol_first, symbol_next}

-- the parts of a body of each kind
abbrev pub body_parts : Kind → List Part
body_parts Load = Fixed Memory ∷ (cell_parts ++ Fixed Equals ∷ load_parts)
body_parts Store = Fixed Memory ∷ (cell_parts ++ Fixed Assign ∷ store_parts)
body_parts Swap = Fixed Less ∷ swap_parts
body_parts SyncKind = Fixed Sync ∷ sync_parts

-- the parts of a line of each kind
abbrev pub form_parts : Kind → List Part
form_parts k = thread_parts ++ body_parts k

-- the instruction that values state
abbrev pub stated : Kind → Values → Instruction
stated k v = instruction v.0 k v.1 v.2 v.3

-- tokens that fit a form state an instruction
pub fit_states : (k : Kind) (ts : List Tok) (w : Values) → Fit (form_parts k) (values no_fields) ts w → States ts (stated k w)
fit_states Load ts w (fit_thread t (fit_symbol (fit_symbol (fit_symbol (fit_address a (fit_symbol (fit_symbol (fit_read v (fit_end fit_all))))))))) = a_load t a v
fit_states Store ts w (fit_thread t (fit_symbol (fit_symbol (fit_symbol (fit_address a (fit_symbol (fit_symbol (fit_written v (fit_end fit_all))))))))) = a_store t a v
fit_states Swap ts w (fit_thread t (fit_symbol (fit_symbol (fit_symbol (fit_symbol (fit_address a (fit_symbol (fit_symbol (fit_read v (fit_symbol (fit_symbol (fit_symbol (fit_same b (fit_symbol (fit_symbol (fit_written u (fit_symbol (fit_end fit_all)))))))))))))))))) = a_swap t a b v u
fit_states SyncKind ts w (fit_thread t (fit_symbol (fit_symbol (fit_end fit_all)))) = a_sync t

-- tokens that state an instruction fit a form
pub states_fit : (ts : List Tok) (i : Instruction) → States ts i → (k : Kind) × (w : Values) × Fit (form_parts k) (values no_fields) ts w × (i ≡ stated k w)
states_fit ts i (a_load t a v) = (Load, _, fit_thread t (fit_symbol (fit_symbol (fit_symbol (fit_address a (fit_symbol (fit_symbol (fit_read v (fit_end fit_all)))))))), refl)
states_fit ts i (a_store t a v) = (Store, _, fit_thread t (fit_symbol (fit_symbol (fit_symbol (fit_address a (fit_symbol (fit_symbol (fit_written v (fit_end fit_all)))))))), refl)
states_fit ts i (a_swap t a b v u) = (Swap, _, fit_thread t (fit_symbol (fit_symbol (fit_symbol (fit_symbol (fit_address a (fit_symbol (fit_symbol (fit_read v (fit_symbol (fit_symbol (fit_symbol (fit_same b (fit_symbol (fit_symbol (fit_written u (fit_symbol (fit_end fit_all))))))))))))))))), refl)
states_fit ts i (a_sync t) = (SyncKind, _, fit_thread t (fit_symbol (fit_symbol (fit_end fit_all))), refl)

-- more parts, from where others were read
abbrev on_with : List Part → Fields × At → Result (Fields × At) Fault
on_with qs x = parts qs x.0 x.1

-- parts and then more parts are read one after the other
parts_append : (ps qs : List Part) (f : Fields) (a : At) → parts (ps ++ qs) f a ≡ and_then (parts ps f a) (on_with qs)
unfolding parts
parts_append [] qs f a = refl
parts_append (p ∷ ps) qs f a =
    let r = placed (skipped a) (accepted p f (skipped a).column (next_token a)) in
    then_same r _ _ (λ g. parts_append ps qs g (past a)) ∙ sym (then_then r (λ g. parts ps g (past a)) (on_with qs))

-- the same where both succeed
parts_join : (ps qs : List Part) (f : Fields) (a : At) (x y : Fields × At) → parts ps f a ≡ Ok x → parts qs x.0 x.1 ≡ Ok y → parts (ps ++ qs) f a ≡ Ok y
parts_join ps qs f a x y e h = parts_append ps qs f a ∙ ap (λ r. and_then r (on_with qs)) e ∙ h

-- where both have succeeded, each has
parts_split : (ps qs : List Part) (f : Fields) (a : At) (y : Fields × At) → parts (ps ++ qs) f a ≡ Ok y → (x : Fields × At) × (parts ps f a ≡ Ok x) × (parts qs x.0 x.1 ≡ Ok y)
parts_split ps qs f a y h = then_ok (parts ps f a) (on_with qs) y (sym (parts_append ps qs f a) ∙ h)

-- one of two ways succeeds
either_ok : {A E P : Type 0} (b : Bool) (q r : Result A E) (x : A) → cond b q r ≡ Ok x → (b ≡ true → q ≡ Ok x → P) → (r ≡ Ok x → P) → P
either_ok true q r x h t f = t refl h
either_ok false q r x h t f = f h

-- a body is read as a statement of its kind
abbrev Formed : Fields → At → Statement → Type 0
Formed f a s = (b : At) × (parts (body_parts s.kind) f a ≡ Ok (s.fields, b))

-- what is read as a statement of the kind k, where the parts of that kind are read as well
formed_by : (k : Kind) (f : Fields) (a : At) (r : Result (Fields × At) Fault) (s : Statement) → ((x : Fields × At) → r ≡ Ok x → parts (body_parts k) f a ≡ Ok x) → statement k r ≡ Ok s → Formed f a s
formed_by k f a (Ok x) s h e = subst (Formed f a) (ok_same _ s e) (x.1, h x refl)
formed_by k f a (Err q) s h e = cc

-- a symbol that passes is read
symbol_read : (s : Symbol) (ps : List Part) (f : Fields) (a : At) (x : Fields × At) → is_symbol s (next_token a) ≡ true → parts ps f (past a) ≡ Ok x → parts (Fixed s ∷ ps) f a ≡ Ok x
symbol_read s ps f a x t h = symbol_next s ps f a (symbol_is s (next_token a) t) ∙ h

-- a load or a store that is read behind its address has the parts of its kind
accessed_form : (f : Fields) (a : At) (y : Fields × At) (s : Statement) → is_symbol Memory (next_token a) ≡ true → parts cell_parts f (past a) ≡ Ok y → accessed y.0 y.1 ≡ Ok s → Formed f a s
accessed_form f a y s m c h =
    either_ok (is_symbol Equals (next_token y.1)) _ _ s h
    (λ t e. formed_by Load f a _ s (λ x r. symbol_read Memory _ f a x m (parts_join cell_parts _ f (past a) y x c (symbol_read Equals load_parts y.0 y.1 x t r))) e)
    (λ h. either_ok (is_symbol Assign (next_token y.1)) _ _ s h
    (λ t e. formed_by Store f a _ s (λ x r. symbol_read Memory _ f a x m (parts_join cell_parts _ f (past a) y x c (symbol_read Assign store_parts y.0 y.1 x t r))) e)
    (λ h. cc))

-- a body that is read has the parts of its kind
body_form : (f : Fields) (a : At) (s : Statement) → body f a ≡ Ok s → Formed f a s
body_form f a s h =
    either_ok (is_symbol Memory (next_token a)) _ _ s h
    (λ t e. let k = then_ok (parts cell_parts f (past a)) (λ x. accessed x.0 x.1) s e in accessed_form f a k.0 s t k.1 k.2)
    (λ h. either_ok (is_symbol Less (next_token a)) _ _ s h
    (λ t e. formed_by Swap f a _ s (λ x r. symbol_read Less swap_parts f a x t r) e)
    (λ h. either_ok (is_symbol Sync (next_token a)) _ _ s h
    (λ t e. formed_by SyncKind f a _ s (λ x r. symbol_read Sync sync_parts f a x t r) e)
    (λ h. cc)))

-- the body by its first token
abbrev body_by : {R : Type 0} → R → R → R → R → Tok → R
body_by access swap sync none t = cond (is_symbol Memory t) access (cond (is_symbol Less t) swap (cond (is_symbol Sync t) sync none))

-- the body behind an address by its first token
abbrev access_by : {R : Type 0} → R → R → R → Tok → R
access_by load store none t = cond (is_symbol Equals t) load (cond (is_symbol Assign t) store none)

module _ (f g : Fields) (a b : At) where
  -- parts of a load or of a store, up to the token behind the address and past it
  access_parts : (s : Symbol) (ps : List Part) → parts (Fixed Memory ∷ (cell_parts ++ Fixed s ∷ ps)) f a ≡ Ok (g, b) →
      (y : Fields × At) × (body f a ≡ accessed y.0 y.1) × (next_token y.1 ≡ fixed s) × (parts ps y.0 (past y.1) ≡ Ok (g, b))
  access_parts s ps h =
      let m = symbol_first Memory (cell_parts ++ Fixed s ∷ ps) f a (g, b) h in
      let c = parts_split cell_parts (Fixed s ∷ ps) f (past a) (g, b) m.1 in
      let k = symbol_first s ps c.0.0 c.0.1 (g, b) c.2 in
      (c.0, ap (body_by _ _ _ _) m.0 ∙ ap (λ r. and_then r (λ x. accessed x.0 x.1)) c.1, k.0, k.1)

  -- parts of a body are read as a body of that kind
  form_body : (k : Kind) → parts (body_parts k) f a ≡ Ok (g, b) → body f a ≡ Ok (record { kind = k; fields = g })
  form_body Load h = let k = access_parts Equals load_parts h in k.1 ∙ ap (access_by _ _ _) k.2 ∙ ap (statement Load) k.3
  form_body Store h = let k = access_parts Assign store_parts h in k.1 ∙ ap (access_by _ _ _) k.2 ∙ ap (statement Store) k.3
  form_body Swap h = let k = symbol_first Less swap_parts f a (g, b) h in ap (body_by _ _ _ _) k.0 ∙ ap (statement Swap) k.1
  form_body SyncKind h = let k = symbol_first Sync sync_parts f a (g, b) h in ap (body_by _ _ _ _) k.0 ∙ ap (statement SyncKind) k.1

-- what a line states is a statement that was read
some_ok : (r : Result Statement Fault) (s : Statement) → some_statement r ≡ Ok (Some s) → r ≡ Ok s
some_ok (Ok x) s h = ap Ok (cc)
some_ok (Err e) s h = cc

-- what is read of a line: nothing at its end, else a statement
abbrev line_by : Bool → Result Statement Fault → Result (Option Statement) Fault
line_by t r = cond t (Ok None) (some_statement r)

-- a line that states something was read as that statement
line_some : (t : Bool) (r : Result Statement Fault) (s : Statement) → line_by t r ≡ Ok (Some s) → r ≡ Ok s
line_some true r s h = cc
line_some false r s h = some_ok r s h

-- a line that states nothing was at its end
line_none : (t : Bool) (r : Result Statement Fault) → line_by t r ≡ Ok None → t ≡ true
line_none true r h = refl
line_none false (Ok x) h = cc
line_none false (Err e) h = cc

-- a line that states something has the parts of a form
pub line_form : (a : At) (s : Statement) → line_from a ≡ Ok (Some s) → (b : At) × (parts (form_parts s.kind) no_fields a ≡ Ok (s.fields, b))
line_form a s h =
    let k = then_ok (parts thread_parts no_fields a) (λ x. body x.0 x.1) s (line_some (is_end (next_token a)) _ s h) in
    let m = body_form k.0.0 k.0.1 s k.2 in
    (m.0, parts_join thread_parts (body_parts s.kind) no_fields a k.0 (s.fields, m.0) k.1 m.1)

-- a line that states nothing is at its end
pub line_end : (a : At) → line_from a ≡ Ok None → next_token a ≡ ends
line_end a h = end_is (next_token a) (line_none (is_end (next_token a)) _ h)

-- a line that begins with a thread number is not at its end
thread_on : (ps : List Part) (f : Fields) (a : At) (x : Fields × At) → parts (Thread ∷ ps) f a ≡ Ok x → is_end (next_token a) ≡ false
thread_on ps f a x h =
    let k = parts_first Thread ps f a x h in
    let m = then_ok (number_in (next_token a)) (put Thread f (skipped a).column) k.0 k.1 in
    ap is_end (in_writes (skipped a).rest m.0 m.1).1

-- the parts of a form are read as a line
pub form_line : (k : Kind) (a b : At) (g : Fields) → parts (form_parts k) no_fields a ≡ Ok (g, b) → line_from a ≡ Ok (Some (record { kind = k; fields = g }))
form_line k a b g h =
    let m = parts_split thread_parts (body_parts k) no_fields a (g, b) h in
    cond-false _ _ _ (thread_on (Fixed Colon ∷ []) no_fields a m.0 m.1)
    ∙ ap (λ r. some_statement (and_then r (λ x. body x.0 x.1))) m.1
    ∙ ap some_statement (form_body m.0.0 g m.0.1 b k m.2)
