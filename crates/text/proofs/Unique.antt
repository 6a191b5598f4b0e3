-- A line has one first fault, and a line of the format has none.
use Rattle.std.proofs.Common.{◌≡◌, ℕ, ◌+◌, ◌^◌, ◌<◌, true, cond, ltb, ◌⊎◌, List, [], ◌∷◌, ◌++◌, map, length, All, sym, refl, ap, ◌∙◌, subst, inl, inr, arith}
use Rattle.std.proofs.lemmas.List.Elements.{All-nil, All-cons, All-head, All-tail}
use Rattle.std.proofs.lemmas.List.{append-nil, append_assoc}
use Rattle.std.proofs.lemmas.Bool.{cond-true, cond-false, lt-ltb, le-ltb}
use Rattle.traces.specs.declared.entry.Instruction.{Instruction}
use Rattle.traces.specs.Kinds.{addressed}
use Rattle.text.specs.declared.token.Symbol.{Symbol}
use Rattle.text.specs.declared.token.Symbol.TheVariants.{Colon, Sync}
use Rattle.text.specs.declared.fault.Cause.{Cause}
use Rattle.text.specs.declared.fault.Cause.TheVariants.{Misfit, TooLarge, OtherAddress}
use Rattle.text.specs.Grammar.{Begins, Tokens, States, a_load, a_store, a_swap, a_sync, denoted, Tok, number, fixed, ends, unknown}
use Rattle.text.specs.Faults.{Viable, NumberFits, Leads, LineFault, misfit, too_large, other_address, ThreadAt, AddressAt}
use Rattle.text.proofs.Wants.{Want, Follows, at_end, any_number, new_number, same_number, the_symbol, first, second, states_follow}
use Rattle.text.proofs.Leading.{Onward, begins_none, begins_one, leads_compare, leads_end, tokens_lead}

-- a front of tokens that begin some line begins it too
viable_front : (ts us : List Tok) → Viable (ts ++ us) → Viable ts
viable_front ts us v = (us ++ v.0, (v.1.0, subst (λ l. States l v.1.0) (append_assoc ts us v.0) v.1.1))

-- the same of a front and one token more
viable_next : (ts : List Tok) (t : Tok) (us : List Tok) → Viable (ts ++ t ∷ us) → Viable (ts ++ t ∷ [])
viable_next ts t us v = viable_front (ts ++ t ∷ []) us (subst Viable (sym (append_assoc ts (t ∷ []) us)) v)

-- what holds of all elements holds of one between others
all_between : {X : Type 0} (P : X → Type 0) (xs : List X) (y : X) (ys : List X) → All P (xs ++ y ∷ ys) → P y
all_between P [] y ys a = All-head P y ys a
all_between P (x ∷ xs) y ys a = all_between P xs y ys (All-tail P x (xs ++ y ∷ ys) a)

-- a number has 64 bits
abbrev Sized : Tok → Type 0
Sized (number ds) = denoted 0 ds < 2 ^ 64
Sized (fixed s) = Unit {0}
Sized ends = Unit {0}
Sized unknown = Unit {0}

-- the numbers of what is wanted have 64 bits
follows_sized : {w : Want} {ad : List ℕ} {ts : List Tok} → Follows w ad ts → All Sized ts
follows_sized at_end = All-nil Sized
follows_sized (any_number l h) = All-cons Sized _ _ l.2 (follows_sized h)
follows_sized (new_number l h) = All-cons Sized _ _ l.2 (follows_sized h)
follows_sized (same_number l h) = All-cons Sized _ _ (subst (λ n. n < 2 ^ 64) (sym l.1) l.2) (follows_sized h)
follows_sized (the_symbol h) = All-cons Sized _ _ tt (follows_sized h)
follows_sized (first h) = All-cons Sized _ _ tt (follows_sized h)
follows_sized (second h) = follows_sized h

-- a number with which some line goes on has 64 bits
viable_sized : (ts : List Tok) (ds : List ℕ) → Viable (ts ++ number ds ∷ []) → denoted 0 ds < 2 ^ 64
viable_sized ts ds v = all_between Sized ts (number ds) v.0 (subst (All Sized) (append_assoc ts (number ds ∷ []) v.0) (follows_sized (states_follow v.1.1)))

-- the cause at rest, behind the tokens ts: no number stands where one fits, or one stands there, by its size
abbrev Why : Cause → List Tok → List ℕ → Type 0
Why cause ts rest =
    (((ds more : List ℕ) → Begins rest (number ds) more → NumberFits ts → ⊥) × (cause ≡ Misfit))
    ⊎ ((ds : List ℕ) × (more : List ℕ) × Begins rest (number ds) more × NumberFits ts × (cause ≡ cond (ltb (denoted 0 ds) (2 ^ 64)) OtherAddress TooLarge))

-- there is one cause
why_one : (c d : Cause) (ts : List Tok) (rest : List ℕ) → Why c ts rest → Why d ts rest → c ≡ d
why_one c d ts rest (inl p) (inl q) = p.1 ∙ sym q.1
why_one c d ts rest (inl p) (inr q) = absurd (p.0 q.0 q.1 q.2 q.3)
why_one c d ts rest (inr p) (inl q) = absurd (q.0 p.0 p.1 p.2 p.3)
why_one c d ts rest (inr p) (inr q) =
    let e = begins_one rest (number p.0) (number q.0) p.1 q.1 p.2 q.2 in
    let same : p.0 ≡ q.0 = cc in
    p.4 ∙ ap (λ ds. cond (ltb (denoted 0 ds) (2 ^ 64)) OtherAddress TooLarge) same ∙ sym q.4

-- the tokens behind which the line bs does not go on, and why
record Stops (bs : List ℕ) (cause : Cause) (column : ℕ) : Type 0 where
  tokens : List Tok
  left : List ℕ
  leads : Leads bs tokens left
  column_is : column + length left ≡ length bs + 1
  viable : Viable tokens
  early : left ≡ [] → (i : Instruction) → States tokens i → ⊥
  stray : (t : Tok) (more : List ℕ) → Begins left t more → Viable (tokens ++ t ∷ []) → ⊥
  why : Why cause tokens left

-- a number stands there that does not go on
stops_number : (bs : List ℕ) (cause : Cause) (column : ℕ) (ts : List Tok) (rest : List ℕ) → Leads bs ts rest → column + length rest ≡ length bs + 1 → NumberFits ts →
    (ds more : List ℕ) → Begins rest (number ds) more → (Viable (ts ++ number ds ∷ []) → ⊥) → cause ≡ cond (ltb (denoted 0 ds) (2 ^ 64)) OtherAddress TooLarge → Stops bs cause column
stops_number bs cause column ts rest l c fits ds more b none e = record {
  tokens = ts;
  left = rest;
  leads = l;
  column_is = c;
  viable = viable_front ts (number fits.0 ∷ []) fits.1;
  early = λ z i s. begins_none (number ds) more (subst (λ k. Begins k (number ds) more) z b);
  stray = λ t q d v. none (subst (λ u. Viable (ts ++ u ∷ [])) (begins_one rest t (number ds) q more d b).0 v);
  why = inr (ds, more, b, fits, e);
}

-- a line stops at its first fault
fault_stops : (bs : List ℕ) (cause : Cause) (column : ℕ) → LineFault bs cause column → Stops bs cause column
fault_stops bs cause column (misfit ts rest _ l c v m) = record {
  tokens = ts;
  left = rest;
  leads = l;
  column_is = c;
  viable = v;
  early = m.early;
  stray = m.stray;
  why = inl (m.no_number, refl);
}
fault_stops bs cause column (too_large ts rest _ l c fits ds more b big) =
    stops_number bs cause column ts rest l c fits ds more b (λ v. absurd (omega (arith, viable_sized ts ds v)))
    (sym (cond-false _ _ _ (le-ltb (denoted 0 ds) (2 ^ 64) big)))
fault_stops bs cause column (other_address ts rest _ l c fits ds more b small none) =
    stops_number bs cause column ts rest l c fits ds more b none
    (sym (cond-true _ _ _ (lt-ltb (denoted 0 ds) (2 ^ 64) small)))

module _ {bs : List ℕ} {c : Cause} {k : ℕ} (p : Stops bs c k) where
  -- no tokens of a line go on behind those where it stops
  none_onward : (us : List Tok) → Onward p.tokens p.left us → Viable us → ⊥
  none_onward us o v = p.stray o.0 o.1 o.3 (viable_next p.tokens o.0 o.2 (subst Viable o.4 v))

  -- a line that stops states no instruction
  stops_unstated : (ts : List Tok) (i : Instruction) → Tokens bs ts → States ts i → ⊥
  stops_unstated ts i t s =
      elim (leads_compare bs p.tokens ts p.left [] p.leads (tokens_lead bs ts t)) [
        | inl e ↦ p.early e.1 i (subst (λ l. States l i) (sym e.0) s)
        | inr (inl o) ↦ none_onward ts o ([], (i, subst (λ l. States l i) (sym (append-nil ts)) s))
        | inr (inr o) ↦ begins_none o.0 o.1 o.3
      ]

-- a line stops at one column, by one cause
stops_one : (bs : List ℕ) (c d : Cause) (k m : ℕ) → Stops bs c k → Stops bs d m → (c ≡ d) × (k ≡ m)
stops_one bs c d k m p q =
    elim (leads_compare bs p.tokens q.tokens p.left q.left p.leads q.leads) [
      | inl e ↦ (
        why_one c d q.tokens q.left (subst (λ l. Why c q.tokens l) e.1 (subst (λ ts. Why c ts p.left) e.0 p.why)) q.why,
        omega (arith, ap length e.1, p.column_is, q.column_is),
      )
      | inr (inl o) ↦ absurd (none_onward p q.tokens o q.viable)
      | inr (inr o) ↦ absurd (none_onward q p.tokens o p.viable)
    ]

-- a line has one first fault
pub line_fault_one : (bs : List ℕ) (c d : Cause) (k m : ℕ) → LineFault bs c k → LineFault bs d m → (c ≡ d) × (k ≡ m)
line_fault_one bs c d k m p q = stops_one bs c d k m (fault_stops bs c k p) (fault_stops bs d m q)

-- a line that states an instruction has no fault
pub line_fault_none : (bs : List ℕ) (ts : List Tok) (i : Instruction) (c : Cause) (k : ℕ) → Tokens bs ts → States ts i → LineFault bs c k → ⊥
line_fault_none bs ts i c k t s p = stops_unstated (fault_stops bs c k p) ts i t s

-- the thread number stands at one column
pub thread_one : (bs : List ℕ) (c d : ℕ) → ThreadAt bs c → ThreadAt bs d → c ≡ d
thread_one bs c d p q =
    let e : p.0 ≡ q.0 = leads_end bs p.0 p.1.0 ∙ sym (leads_end bs q.0 q.1.0) in
    omega (arith, ap length e, p.1.1, q.1.1)

-- a token is a symbol
abbrev IsFixed : Tok → Type 0
IsFixed (number ds) = ⊥
IsFixed (fixed s) = Unit {0}
IsFixed ends = ⊥
IsFixed unknown = ⊥

-- symbols are symbols
all_fixed : (ss : List Symbol) → All IsFixed (map fixed ss)
all_fixed [] = All-nil IsFixed
all_fixed (s ∷ ss) = All-cons IsFixed (fixed s) (map fixed ss) tt (all_fixed ss)

-- tokens with symbols alone behind the thread number do not go on with a second number
no_second : (t u : Tok) (ss : List Symbol) (us : List Tok) (rest ds more : List ℕ) → Begins rest (number ds) more → Onward (t ∷ us) rest (u ∷ map fixed ss) → ⊥
no_second t u ss us rest ds more b o =
    let same = (begins_one rest o.0 (number ds) o.1 more o.3 b).0 in
    let e : map fixed ss ≡ us ++ number ds ∷ o.2 = cc in
    all_between IsFixed us (number ds) o.2 (subst (All IsFixed) e (all_fixed ss))

-- the first address stands at one column
pub address_one : (bs : List ℕ) (c d : ℕ) → AddressAt bs c → AddressAt bs d → c ≡ d
address_one bs c d (t, (ss, (r, (ds, (x, (l, b, k)))))) (u, (us, (q, (es, (y, (m, e, n)))))) =
    elim (leads_compare bs (number t ∷ map fixed ss) (number u ∷ map fixed us) r q l m) [
      | inl z ↦ omega (arith, ap length z.1)
      | inr (inl o) ↦ absurd (no_second (number t) (number u) us (map fixed ss) r ds x b o)
      | inr (inr o) ↦ absurd (no_second (number u) (number t) ss (map fixed us) q es y e o)
    ]

-- a line with a first address states an instruction that has one
pub address_had : (bs : List ℕ) (ts : List Tok) (i : Instruction) (c : ℕ) → Tokens bs ts → States ts i → AddressAt bs c → addressed i.kind ≡ true
address_had bs ts i c h (a_load t a v) p = refl
address_had bs ts i c h (a_store t a v) p = refl
address_had bs ts i c h (a_swap t a b v w) p = refl
address_had bs ts i c h (a_sync {td = td} w) (u, (us, (q, (es, (y, (m, e, n)))))) =
    elim (leads_compare bs (number td ∷ map fixed (Colon ∷ Sync ∷ [])) (number u ∷ map fixed us) [] q (tokens_lead bs ts h) m) [
      | inl z ↦ absurd (begins_none (number es) y (subst (λ l. Begins l (number es) y) (sym z.1) e))
      | inr (inl o) ↦ absurd (begins_none o.0 o.1 o.3)
      | inr (inr o) ↦ absurd (no_second (number u) (number td) (Colon ∷ Sync ∷ []) (map fixed us) q es y e o)
    ]
