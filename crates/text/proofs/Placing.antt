-- The columns of a statement are those of its thread number and of its first address.
use Rattle.std.proofs.Common.{◌≡◌, ℕ, ◌+◌, Bool, true, false, ◌&&◌, eqb, List, [], ◌∷◌, ◌++◌, map, length, drop, Some, Ok, sym, refl, ap, ◌∙◌, subst, arith}
use Rattle.std.proofs.lemmas.Bool.{and_parts, both_ways}
use Rattle.traces.specs.declared.entry.Kind.{Kind}
use Rattle.traces.specs.declared.entry.Kind.TheVariants.{Load, Store, Swap, Sync as SyncKind}
use Rattle.traces.specs.Kinds.{addressed}
use Rattle.text.specs.declared.token.Symbol.{Symbol}
use Rattle.text.specs.declared.token.Symbol.TheVariants.{Colon, Assign, Equals, Memory, Open, Close, Less}
use Rattle.text.specs.declared.statement.Part.{Part}
use Rattle.text.specs.declared.statement.Part.TheVariants.{Thread, Address, SameAddress, Read, Written, Fixed, LineEnd}
use Rattle.text.specs.declared.statement.Fields.{Fields}
use Rattle.text.specs.declared.statement.Statement.{Statement}
use Rattle.text.specs.declared.fault.Cause.TheVariants.{Misfit, OtherAddress}
use Rattle.text.specs.Tokens.{At, skipped, next_token, past, width}
use Rattle.text.specs.Grammar.{Begins, Tok, number, fixed}
use Rattle.text.specs.Lines.{number_in, is_symbol, is_end, put, accepted, parts, load_parts, store_parts, swap_parts, no_fields, line_from, start_of}
use Rattle.text.specs.Faults.{Leads, ThreadAt, AddressAt}
use Rattle.text.proofs.Longest.{token_fixed, token_number}
use Rattle.text.proofs.Columns.{begins_length, skipped_column}
use Rattle.text.proofs.Fits.{ok_same, then_ok, test_ok, in_writes, parts_first, symbol_first}
use Rattle.text.proofs.Forms.{form_parts, body_parts, line_form}
use Rattle.text.proofs.Leading.{leads_none, leads_more}

-- what is accepted is put into the fields
accepted_put : (p : Part) (f g : Fields) (c : ℕ) (t : Tok) → accepted p f c t ≡ Ok g → (n : ℕ) × (put p f c n ≡ Ok g)
accepted_put Thread f g c t h = let k = then_ok (number_in t) (put Thread f c) g h in (k.0, k.2)
accepted_put Address f g c t h = let k = then_ok (number_in t) (put Address f c) g h in (k.0, k.2)
accepted_put SameAddress f g c t h = let k = then_ok (number_in t) (put SameAddress f c) g h in (k.0, k.2)
accepted_put Read f g c t h = let k = then_ok (number_in t) (put Read f c) g h in (k.0, k.2)
accepted_put Written f g c t h = let k = then_ok (number_in t) (put Written f c) g h in (k.0, k.2)
accepted_put (Fixed s) f g c t h = (0, (test_ok (is_symbol s t) (Ok f) Misfit g h).1)
accepted_put LineEnd f g c t h = (0, (test_ok (is_end t) (Ok f) Misfit g h).1)

-- each part passes a test
abbrev each : (Part → Bool) → List Part → Bool
each test [] = true
each test (p ∷ ps) = test p && each test ps

-- parts that each leave a column leave it
module _ (column : Fields → ℕ) (leaves : Part → Bool) (left : (p : Part) (f g : Fields) (c n : ℕ) → leaves p ≡ true → put p f c n ≡ Ok g → column g ≡ column f) where
  parts_leave : (ps : List Part) (f g : Fields) (a b : At) → each leaves ps ≡ true → parts ps f a ≡ Ok (g, b) → column g ≡ column f
  unfolding parts
  parts_leave [] f g a b l h = ap (λ x. column x.0) (sym (ok_same (f, a) (g, b) h))
  parts_leave (p ∷ ps) f g a b l h =
      let j = and_parts (leaves p) (each leaves ps) l in
      let k = parts_first p ps f a (g, b) h in
      let m = accepted_put p f k.0 (skipped a).column (next_token a) k.1 in
      parts_leave ps k.0 g (past a) b j.1 k.2 ∙ left p f k.0 (skipped a).column m.0 j.0 m.1

-- all parts but one leave the column of the thread number
abbrev leaves_thread : Part → Bool
leaves_thread Thread = false
leaves_thread Address = true
leaves_thread SameAddress = true
leaves_thread Read = true
leaves_thread Written = true
leaves_thread (Fixed s) = true
leaves_thread LineEnd = true

thread_left : (p : Part) (f g : Fields) (c n : ℕ) → leaves_thread p ≡ true → put p f c n ≡ Ok g → g.thread_column ≡ f.thread_column
thread_left Thread f g c n l h = absurd (both_ways false refl l)
thread_left Address f g c n l h = cc
thread_left SameAddress f g c n l h = cc ((test_ok (eqb n f.address.number) (Ok f) OtherAddress g h).1)
thread_left Read f g c n l h = cc
thread_left Written f g c n l h = cc
thread_left (Fixed s) f g c n l h = cc
thread_left LineEnd f g c n l h = cc

-- all parts but one leave the column of the address
abbrev leaves_address : Part → Bool
leaves_address Thread = true
leaves_address Address = false
leaves_address SameAddress = true
leaves_address Read = true
leaves_address Written = true
leaves_address (Fixed s) = true
leaves_address LineEnd = true

address_left : (p : Part) (f g : Fields) (c n : ℕ) → leaves_address p ≡ true → put p f c n ≡ Ok g → g.address_column ≡ f.address_column
address_left Thread f g c n l h = cc
address_left Address f g c n l h = absurd (both_ways false refl l)
address_left SameAddress f g c n l h = cc ((test_ok (eqb n f.address.number) (Ok f) OtherAddress g h).1)
address_left Read f g c n l h = cc
address_left Written f g c n l h = cc
address_left (Fixed s) f g c n l h = cc
address_left LineEnd f g c n l h = cc

-- the column of the thread number is that of the first token
thread_column : (ps : List Part) (f g : Fields) (a b : At) → each leaves_thread ps ≡ true → parts (Thread ∷ ps) f a ≡ Ok (g, b) → g.thread_column ≡ (skipped a).column
thread_column ps f g a b l h =
    let k = parts_first Thread ps f a (g, b) h in
    let m = then_ok (number_in (next_token a)) (put Thread f (skipped a).column) k.0 k.1 in
    parts_leave (λ x. x.thread_column) leaves_thread thread_left ps k.0 g (past a) b l k.2 ∙ ap (λ x. x.thread_column) (sym (ok_same _ k.0 m.2))

-- no form has a second thread number
one_thread : (k : Kind) → each leaves_thread (Fixed Colon ∷ body_parts k) ≡ true
one_thread = elim [ Load ↦ refl | Store ↦ refl | Swap ↦ refl | SyncKind ↦ refl ]

-- a statement has the column of the thread number of its line
pub thread_at : (n : ℕ) (bs : List ℕ) (s : Statement) → line_from (start_of n bs) ≡ Ok (Some s) → ThreadAt bs s.fields.thread_column
thread_at n bs s h =
    let a : At = start_of n bs in
    let k = line_form a s h in
    let c = thread_column (Fixed Colon ∷ body_parts s.kind) no_fields s.fields a k.0 (one_thread s.kind) k.1 in
    ((skipped a).rest, (leads_none bs, omega (arith, skipped_column a)))

-- the address that parts read behind symbols, and its column
abbrev Behind : List Symbol → List ℕ → ℕ → ℕ → Type 0
Behind ss bs column total = (rest : List ℕ) × (ds : List ℕ) × (more : List ℕ) × Leads bs (map fixed ss) rest × Begins rest (number ds) more × (column + length rest ≡ total)

-- past a token, the column and what is left make as much
past_total : (a : At) (t : Tok) → next_token a ≡ t → Begins (skipped a).rest t (past a).rest → (past a).column + length (past a).rest ≡ a.column + length a.rest
past_total a t e b = omega (arith, skipped_column a, begins_length (skipped a).rest t (past a).rest b, ap width e)

-- the address behind symbols is at its column
address_behind : (ss : List Symbol) (ps : List Part) (f g : Fields) (a b : At) → each leaves_address ps ≡ true → parts (map Fixed ss ++ Address ∷ ps) f a ≡ Ok (g, b) → Behind ss a.rest g.address_column (a.column + length a.rest)
address_behind [] ps f g a b l h =
    let k = parts_first Address ps f a (g, b) h in
    let m = then_ok (number_in (next_token a)) (put Address f (skipped a).column) k.0 k.1 in
    let d = in_writes (skipped a).rest m.0 m.1 in
    let c : g.address_column ≡ (skipped a).column = parts_leave (λ x. x.address_column) leaves_address address_left ps k.0 g (past a) b l k.2 ∙ ap (λ x. x.address_column) (sym (ok_same _ k.0 m.2)) in
    ((skipped a).rest, d.0, (past a).rest, leads_none a.rest, token_number (skipped a).rest d.0 d.1, ap (λ n. n + length (skipped a).rest) c ∙ skipped_column a)
address_behind (s ∷ ss) ps f g a b l h =
    let k = symbol_first s (map Fixed ss ++ Address ∷ ps) f a (g, b) h in
    let t = token_fixed (skipped a).rest s k.0 in
    let r = address_behind ss ps f g (past a) b l k.1 in
    (r.0, r.1, r.2, leads_more a.rest (fixed s) (map fixed ss) r.0 t r.3, r.4, r.5 ∙ past_total a (fixed s) k.0 t)

-- a form with an address has symbols between the thread number and its first address
address_form : (k : Kind) → addressed k ≡ true → (ss : List Symbol) × (ps : List Part) × (form_parts k ≡ Thread ∷ (map Fixed ss ++ Address ∷ ps)) × (each leaves_address ps ≡ true)
address_form Load e = (Colon ∷ Memory ∷ Open ∷ [], Fixed Close ∷ Fixed Equals ∷ load_parts, refl, refl)
address_form Store e = (Colon ∷ Memory ∷ Open ∷ [], Fixed Close ∷ Fixed Assign ∷ store_parts, refl, refl)
address_form Swap e = (Colon ∷ Less ∷ Memory ∷ Open ∷ [], drop 3 swap_parts, refl, refl)
address_form SyncKind e = absurd (both_ways false refl e)

-- a statement with an address has the column of the first address of its line
pub address_at : (n : ℕ) (bs : List ℕ) (s : Statement) → line_from (start_of n bs) ≡ Ok (Some s) → addressed s.kind ≡ true → AddressAt bs s.fields.address_column
address_at n bs s h e =
    let a : At = start_of n bs in
    let k = line_form a s h in
    let w = address_form s.kind e in
    let p = parts_first Thread (map Fixed w.0 ++ Address ∷ w.1) no_fields a (s.fields, k.0) (subst (λ ps. parts ps no_fields a ≡ Ok (s.fields, k.0)) w.2 k.1) in
    let m = then_ok (number_in (next_token a)) (put Thread no_fields (skipped a).column) p.0 p.1 in
    let d = in_writes (skipped a).rest m.0 m.1 in
    let t = token_number (skipped a).rest d.0 d.1 in
    let r = address_behind w.0 w.1 p.0 s.fields (past a) k.0 w.3 p.2 in
    let c = past_total a (number d.0) d.1 t in
    (d.0, (w.0, (r.0, (r.1, (r.2, (leads_more bs (number d.0) (map fixed w.0) r.0 t r.3, r.4, omega (arith, r.5)))))))
