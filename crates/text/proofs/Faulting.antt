-- A line that is refused is refused at its first fault.
use Rattle.std.proofs.Common.{◌≡◌, ℕ, ◌^◌, Bool, true, false, cond, ◌&&◌, eqb, ltb, List, [], ◌∷◌, ◌++◌, take, Some, None, Ok, Err, Result, sym, refl, ap, ◌∙◌, subst, arith}
use Rattle.std.proofs.lemmas.Bool.{and_parts, both_ways, eqb-true, eqb-false, ltb-true, ltb-false}
use Rattle.traces.specs.declared.entry.Instruction.{Instruction}
use Rattle.traces.specs.declared.entry.Kind.{Kind}
use Rattle.traces.specs.declared.entry.Kind.TheVariants.{Load, Store, Swap, Sync as SyncKind}
use Rattle.text.specs.declared.token.Symbol.{Symbol}
use Rattle.text.specs.declared.token.Symbol.TheVariants.{Assign, Equals, Memory, Less, Sync}
use Rattle.text.specs.declared.statement.Part.{Part}
use Rattle.text.specs.declared.statement.Part.TheVariants.{Thread, Address, SameAddress, Read, Written, Fixed, LineEnd}
use Rattle.text.specs.declared.statement.Fields.{Fields}
use Rattle.text.specs.declared.statement.Statement.{Statement}
use Rattle.text.specs.declared.fault.Cause.{Cause}
use Rattle.text.specs.declared.fault.Cause.TheVariants.{Misfit, TooLarge, OtherAddress}
use Rattle.text.specs.declared.fault.Fault.{Fault}
use Rattle.text.specs.Tokens.{At, skipped, next_token, past}
use Rattle.text.specs.Grammar.{Writes, States, denoted, Tok, number, fixed, ends, unknown}
use Rattle.text.specs.Lines.{accepted, accessed, body, cell_parts, fault_at, is_end, is_symbol, load_parts, no_fields, number_in, or_too_large, parts, placed, put, some_statement, start_of, statement, store_parts, swap_parts, sync_parts, thread_parts, line_from}
use Rattle.traces.specs.Adding.{and_then}
use Rattle.text.specs.Faults.{NumberFits, LineFault, too_large, other_address}
use Rattle.text.proofs.Longest.{token_digits, token_number, token_fixed}
use Rattle.text.proofs.Fits.{then_then, symbol_is}
use Rattle.text.proofs.Wants.{Want, finish, any, new, same, symbol, either, Small, Follows, at_end, any_number, new_number, same_number, the_symbol, first, second, completed, naught, naught_small, wanting, plan, access, bodies, whole, states_follow, follow_states, behind_symbol, follows_behind_first, behind_any, behind_new, behind_same, no_equals, no_memory, no_less, NumberFirst, Numeric, any_numeric, new_numeric, same_numeric}
use Rattle.text.proofs.Likes.{Like, numbers, like_number, not_end, not_symbol}
use Rattle.text.proofs.Reaching.{Reached, leads_here, column_here, one_more, one_wanted, misfits, passed}

-- the fault of a statement is the fault of its parts
of_statement : (d : Kind) (r : Result (Fields × At) Fault) (e : Fault) → statement d r ≡ Err e → r ≡ Err e
of_statement d (Ok x) e h = cc
of_statement d (Err x) e h = let same : x ≡ e = cc in ap Err same

-- the fault of a line is the fault of its statement
of_line : (b : Bool) (r : Result Statement Fault) (e : Fault) → cond b (Ok None) (some_statement r) ≡ Err e → r ≡ Err e
of_line true r e h = cc
of_line false (Ok x) e h = cc
of_line false (Err x) e h = let same : x ≡ e = cc in ap Err same

-- a part that is not the line's end
abbrev inner : Part → Bool
inner Thread = true
inner Address = true
inner SameAddress = true
inner Read = true
inner Written = true
inner (Fixed s) = true
inner LineEnd = false

-- the line's end is not among the parts
abbrev inside : List Part → Bool
inside [] = true
inside (p ∷ ps) = inner p && inside ps

module _ (bs : List ℕ) (n : ℕ) where
  -- the fault e is the first of the line bs, which is the n-th
  abbrev Refused : Fault → Type 0
  Refused e = LineFault bs e.cause e.column × (e.line ≡ n)

  -- where w is wanted, each fault of k is the first
  abbrev Faults : {X : Type 0} → Want → (Fields → At → Result X Fault) → Type 0
  Faults w k = (f : Fields) (a : At) → Reached bs n w f a → (e : Fault) → k f a ≡ Err e → Refused e

  -- a fault at the next token
  refused_at : {X : Type 0} (a : At) (c : Cause) → a.line ≡ n → LineFault bs c (skipped a).column → (e : Fault) → ◌≡◌ {A = Result X Fault} (Err (fault_at (skipped a) c)) (Err e) → Refused e
  refused_at a c l h e q = let same : fault_at (skipped a) c ≡ e = cc in subst Refused same (h, l)

  -- at the line's end
  faults_finish : Faults finish (λ f a. parts (LineEnd ∷ []) f a)
  unfolding parts
  faults_finish f a r e = go (is_end (next_token a)) refl
    where
      none : is_end (next_token a) ≡ false → (ts : List Tok) → Like (next_token a) ts → Follows finish r.written ts → ⊥
      none q ts l at_end = not_end (next_token a) q l

      go : (b : Bool) → is_end (next_token a) ≡ b → and_then (placed (skipped a) (cond b (Ok f) (Err Misfit))) (λ g. parts [] g (past a)) ≡ Err e → Refused e
      go true q h = cc
      go false q h = refused_at a Misfit r.line_is (misfits r (none q)) e h

  module _ {X : Type 0} (s : Symbol) (w : Want) (k : Fields → At → Result X Fault) (behind : Faults w k) where
    -- past a symbol that stands where v wants it first
    past_symbol : (v : Want) (f : Fields) (a : At) (r : Reached bs n v f a) → is_symbol s (next_token a) ≡ true →
        ((ts : List Tok) → Follows w r.written ts → Follows v r.written (fixed s ∷ ts)) → ((ts : List Tok) → Follows v r.written (fixed s ∷ ts) → Follows w r.written ts) →
        (e : Fault) → k f (past a) ≡ Err e → Refused e
    past_symbol v f a r q out back e h =
        let i = symbol_is s (next_token a) q in
        behind f (past a) (passed r (fixed s) i (token_fixed (skipped a).rest s i) w f r.written r.small r.address_is out back) e h

    -- at a symbol
    faults_symbol : Faults (symbol s w) (λ f a. cond (is_symbol s (next_token a)) (k f (past a)) (Err (fault_at (skipped a) Misfit)))
    faults_symbol f a r e = go (is_symbol s (next_token a)) refl
      where
        none : is_symbol s (next_token a) ≡ false → (ts : List Tok) → Like (next_token a) ts → Follows (symbol s w) r.written ts → ⊥
        none q ts l (the_symbol {ts = us} h) = not_symbol s (next_token a) us q l

        go : (b : Bool) → is_symbol s (next_token a) ≡ b → cond b (k f (past a)) (Err (fault_at (skipped a) Misfit)) ≡ Err e → Refused e
        go true q h = past_symbol (symbol s w) f a r q (λ ts. the_symbol) (λ ts. behind_symbol) e h
        go false q h = refused_at a Misfit r.line_is (misfits r (none q)) e h

    -- at a symbol, or else at v
    faults_either : (v : Want) (m : Fields → At → Result X Fault) → ((ad : List ℕ) (ts : List Tok) → Follows v ad (fixed s ∷ ts) → ⊥) → Faults v m → Faults (either s w v) (λ f a. cond (is_symbol s (next_token a)) (k f (past a)) (m f a))
    faults_either v m apart other f a r e = go (is_symbol s (next_token a)) refl
      where
        rest : is_symbol s (next_token a) ≡ false → (ts : List Tok) → Like (next_token a) ts → Follows (either s w v) r.written ts → Follows v r.written ts
        rest q ts l (first {ts = us} h) = absurd (not_symbol s (next_token a) us q l)
        rest q ts l (second h) = h

        go : (b : Bool) → is_symbol s (next_token a) ≡ b → cond b (k f (past a)) (m f a) ≡ Err e → Refused e
        go true q h = past_symbol (either s w v) f a r q (λ ts. first) (λ ts. follows_behind_first (apart r.written ts)) e h
        go false q h = other f a (record {
          before = r.before;
          written = r.written;
          small = r.small;
          address_is = r.address_is;
          line_is = r.line_is;
          column_is = r.column_is;
          leads = r.leads;
          onward = λ ts h. r.onward ts (second h);
          only = λ ts i l s. rest q ts l (r.only ts i l s);
        }) e h

  -- the reading of a number that p puts into the fields, and then k
  abbrev numbering : {X : Type 0} → (Fields → ℕ → ℕ → Result Fields Cause) → (Fields → At → Result X Fault) → Fields → At → Result X Fault
  numbering p k f a = and_then (placed (skipped a) (and_then (number_in (next_token a)) (p f (skipped a).column))) (λ g. k g (past a))

  -- where nothing but a number is wanted, some number fits
  number_fits : (w : Want) (f : Fields) (a : At) (r : Reached bs n w f a) → Numeric w → NumberFits r.before
  number_fits w f a r only_numbers =
      let c = completed w r.written r.small in
      let s = r.onward c.0 c.1 in
      go c.0 (only_numbers r.written c.0 c.1) s.0 s.1
    where
      go : (ts : List Tok) → NumberFirst ts → (i : Instruction) → States (r.before ++ ts) i → NumberFits r.before
      go [] z i s = absurd z
      go (number ds ∷ ts) z i s = (ds, one_more r (number ds) ts i s)
      go (fixed u ∷ ts) z i s = absurd z
      go (ends ∷ ts) z i s = absurd z
      go (unknown ∷ ts) z i s = absurd z

  module _ {X : Type 0} (w : Want) (p : Fields → ℕ → ℕ → Result Fields Cause) (k : Fields → At → Result X Fault) (only_numbers : Numeric w)
      (goes_on : (f : Fields) (a : At) → Reached bs n w f a → (ds : List ℕ) → next_token a ≡ number ds → Small ds → (e : Fault) →
      and_then (placed (skipped a) (p f (skipped a).column (denoted 0 ds))) (λ g. k g (past a)) ≡ Err e → Refused e) where
    -- at a number, where it is known how one of 64 bits goes on
    faults_number : Faults w (numbering p k)
    faults_number f a r e = go (next_token a) refl
      where
        wrong : (t : Tok) → next_token a ≡ t → (NumberFirst (t ∷ []) → ⊥) → LineFault bs Misfit (skipped a).column
        wrong t q z = misfits r (λ ts l h. z (like_number t ts (subst (λ u. Like u ts) q l) (only_numbers r.written ts h)))

        sized : (ds : List ℕ) → next_token a ≡ number ds → (b : Bool) → ltb (denoted 0 ds) (2 ^ 64) ≡ b →
            and_then (placed (skipped a) (and_then (or_too_large (cond b (Some (denoted 0 ds)) None)) (p f (skipped a).column))) (λ g. k g (past a)) ≡ Err e → Refused e
        sized ds q true l h = goes_on f a r ds q (token_digits (skipped a).rest ds q, refl, ltb-true (denoted 0 ds) (2 ^ 64) l) e h
        sized ds q false l h =
            refused_at a TooLarge r.line_is
            (too_large r.before (skipped a).rest (skipped a).column (leads_here r) (column_here r) (number_fits w f a r only_numbers) ds (past a).rest (token_number (skipped a).rest ds q) (ltb-false (denoted 0 ds) (2 ^ 64) l)) e h

        go : (t : Tok) → next_token a ≡ t → and_then (placed (skipped a) (and_then (number_in t) (p f (skipped a).column))) (λ g. k g (past a)) ≡ Err e → Refused e
        go (number ds) q h = sized ds q (ltb (denoted 0 ds) (2 ^ 64)) refl h
        go (fixed s) q h = refused_at a Misfit r.line_is (wrong (fixed s) q (λ z. z)) e h
        go ends q h = refused_at a Misfit r.line_is (wrong ends q (λ z. z)) e h
        go unknown q h = refused_at a Misfit r.line_is (wrong unknown q (λ z. z)) e h

  -- past a number that stands where v wants one
  past_number : {X : Type 0} (v w : Want) (k : Fields → At → Result X Fault) → Faults w k → (f g : Fields) (a : At) (r : Reached bs n v f a) (ds ad : List ℕ) → next_token a ≡ number ds →
      Small ad → g.address.number ≡ denoted 0 ad → ((ts : List Tok) → Follows w ad ts → Follows v r.written (number ds ∷ ts)) → ((ts : List Tok) → Follows v r.written (number ds ∷ ts) → Follows w ad ts) →
      (e : Fault) → k g (past a) ≡ Err e → Refused e
  past_number v w k behind f g a r ds ad q l i out back e h = behind g (past a) (passed r (number ds) q (token_number (skipped a).rest ds q) w g ad l i out back) e h

  module _ {X : Type 0} (w : Want) (k : Fields → At → Result X Fault) (behind : Faults w k) where
    -- at any number, which leaves the address
    faults_any : (p : Fields → ℕ → ℕ → Result Fields Cause) → ((f : Fields) (c m : ℕ) → (g : Fields) × (p f c m ≡ Ok g) × (g.address.number ≡ f.address.number)) → Faults (any w) (numbering p k)
    faults_any p leaves =
        faults_number (any w) p k (any_numeric w) (λ f a r ds q l e h.
        let y = leaves f (skipped a).column (denoted 0 ds) in
        past_number (any w) w k behind f y.0 a r ds r.written q r.small (y.2 ∙ r.address_is) (λ ts u. any_number l u) (λ ts. behind_any) e
        (sym (ap (λ x. and_then (placed (skipped a) x) (λ g. k g (past a))) y.1) ∙ h))

    -- at the address
    faults_new : Faults (new w) (numbering (put Address) k)
    faults_new =
        faults_number (new w) (put Address) k (new_numeric w) (λ f a r ds q l e h.
        past_number (new w) w k behind f _ a r ds ds q l refl (λ ts u. new_number l u) (λ ts. behind_new) e h)

    -- at the address once more
    faults_same : Faults (same w) (numbering (put SameAddress) k)
    faults_same =
        faults_number (same w) (put SameAddress) k (same_numeric w) again
      where
        again : (f : Fields) (a : At) (r : Reached bs n (same w) f a) (ds : List ℕ) → next_token a ≡ number ds → Small ds → (e : Fault) →
            and_then (placed (skipped a) (put SameAddress f (skipped a).column (denoted 0 ds))) (λ g. k g (past a)) ≡ Err e → Refused e
        again f a r ds q l e = go (eqb (denoted 0 ds) f.address.number) refl
          where
            go : (b : Bool) → eqb (denoted 0 ds) f.address.number ≡ b → and_then (placed (skipped a) (cond b (Ok f) (Err OtherAddress))) (λ g. k g (past a)) ≡ Err e → Refused e
            go true t h = past_number (same w) w k behind f f a r ds r.written q r.small r.address_is (λ ts u. same_number (subst (Writes ds) (eqb-true (denoted 0 ds) f.address.number t ∙ r.address_is) l) u) (λ ts u. (behind_same u).1) e h
            go false t h =
                refused_at a OtherAddress r.line_is
                (other_address r.before (skipped a).rest (skipped a).column (leads_here r) (column_here r) (number_fits (same w) f a r (same_numeric w)) ds (past a).rest (token_number (skipped a).rest ds q) l.2 (λ v.
                let y = one_wanted r (number ds) (λ ts. subst (λ u. Like u (number ds ∷ ts)) (sym q) numbers) v in
                eqb-false (denoted 0 ds) f.address.number t ((behind_same y.1).0.1 ∙ sym r.address_is))) e h

    -- a symbol that is wanted is tested for
    by_test : (b : Bool) (f : Fields) (a : At) → cond b (k f (past a)) (Err (fault_at (skipped a) Misfit)) ≡ and_then (placed (skipped a) (cond b (Ok f) (Err Misfit))) (λ g. k g (past a))
    by_test true f a = refl
    by_test false f a = refl

    -- at a part other than the line's end
    faults_part : (p : Part) → inner p ≡ true → Faults (wanting p w) (λ f a. and_then (placed (skipped a) (accepted p f (skipped a).column (next_token a))) (λ g. k g (past a)))
    faults_part Thread i = faults_any (put Thread) (λ f c m. (_, refl, refl))
    faults_part Address i = faults_new
    faults_part SameAddress i = faults_same
    faults_part Read i = faults_any (put Read) (λ f c m. (_, refl, refl))
    faults_part Written i = faults_any (put Written) (λ f c m. (_, refl, refl))
    faults_part (Fixed s) i = λ f a r e h. faults_symbol s w k behind f a r e (by_test (is_symbol s (next_token a)) f a ∙ h)
    faults_part LineEnd i = absurd (both_ways false refl i)

  -- at parts, the line's end not among them, and then at w
  faults_parts : {X : Type 0} (w : Want) (k : Fields → At → Result X Fault) → Faults w k → (ps : List Part) → inside ps ≡ true → Faults (plan ps w) (λ f a. and_then (parts ps f a) (λ x. k x.0 x.1))
  unfolding parts
  faults_parts w k behind [] i = behind
  faults_parts w k behind (p ∷ ps) i = λ f a r e h.
      let j = and_parts (inner p) (inside ps) i in
      faults_part (plan ps w) (λ g b. and_then (parts ps g b) (λ x. k x.0 x.1)) (faults_parts w k behind ps j.1) p j.0 f a r e
      (sym (then_then (placed (skipped a) (accepted p f (skipped a).column (next_token a))) (λ g. parts ps g (past a)) (λ x. k x.0 x.1)) ∙ h)

  -- at parts, and then at the line's end
  faults_ending : (ps : List Part) → inside ps ≡ true → Faults (plan (ps ++ LineEnd ∷ []) finish) (λ f a. parts (ps ++ LineEnd ∷ []) f a)
  unfolding parts
  faults_ending [] i = faults_finish
  faults_ending (p ∷ ps) i =
      let j = and_parts (inner p) (inside ps) i in
      faults_part (plan (ps ++ LineEnd ∷ []) finish) (λ f a. parts (ps ++ LineEnd ∷ []) f a) (faults_ending ps j.1) p j.0

  -- the same for a statement of the kind d
  faults_statement : (d : Kind) (ps : List Part) → inside ps ≡ true → Faults (plan (ps ++ LineEnd ∷ []) finish) (λ f a. statement d (parts (ps ++ LineEnd ∷ []) f a))
  faults_statement d ps i f a r e h = faults_ending ps i f a r e (of_statement d (parts (ps ++ LineEnd ∷ []) f a) e h)

  -- at a load or a store behind its address
  faults_access : Faults access accessed
  faults_access =
      faults_either Equals (plan load_parts finish) (λ f a. statement Load (parts load_parts f a)) (faults_statement Load (Read ∷ []) refl)
      (symbol Assign (plan store_parts finish)) _ (no_equals (plan store_parts finish))
      (faults_symbol Assign (plan store_parts finish) (λ f a. statement Store (parts store_parts f a)) (faults_statement Store (Written ∷ []) refl))

  -- at a line behind its thread number
  faults_body : Faults bodies body
  faults_body =
      faults_either Memory (plan cell_parts access) (λ f a. and_then (parts cell_parts f a) (λ x. accessed x.0 x.1)) (faults_parts access accessed faults_access cell_parts refl)
      (either Less (plan swap_parts finish) (symbol Sync (plan sync_parts finish))) _ (no_memory (plan swap_parts finish) (plan sync_parts finish))
      (faults_either Less (plan swap_parts finish) (λ f a. statement Swap (parts swap_parts f a)) (faults_statement Swap (take 14 swap_parts) refl)
      (symbol Sync (plan sync_parts finish)) _ (no_less (plan sync_parts finish))
      (faults_symbol Sync (plan sync_parts finish) (λ f a. statement SyncKind (parts sync_parts f a)) (faults_statement SyncKind [] refl)))

  -- the start of the line
  started : Reached bs n whole no_fields (start_of n bs)
  started = record {
    before = [];
    written = naught;
    small = naught_small;
    address_is = refl;
    line_is = refl;
    column_is = omega arith;
    leads = λ ts end h. h;
    onward = λ ts h. follow_states h;
    only = λ ts i l s. states_follow s;
  }

-- a line that is refused is refused at its first fault
pub first_faults : (n : ℕ) (bs : List ℕ) (f : Fault) → line_from (start_of n bs) ≡ Err f → LineFault bs f.cause f.column × (f.line ≡ n)
first_faults n bs f h =
    faults_parts bs n bodies body (faults_body bs n) thread_parts refl no_fields (start_of n bs) (started bs n) f
    (of_line (is_end (next_token (start_of n bs))) (and_then (parts thread_parts no_fields (start_of n bs)) (λ x. body x.0 x.1)) f h)
