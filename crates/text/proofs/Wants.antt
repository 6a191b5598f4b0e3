-- The format as a tree: what can stand next on a line, from each place on.
use Rattle.std.proofs.Common.{◌≡◌, ℕ, true, List, [], ◌∷◌, sym, refl, subst, lit<}
use Rattle.std.specs.Char.{is_ascii_digit}
use Rattle.std.proofs.lemmas.List.Elements.{All-nil, All-cons}
use Rattle.traces.specs.declared.entry.Instruction.{Instruction}
use Rattle.text.specs.declared.token.Symbol.{Symbol}
use Rattle.text.specs.declared.token.Symbol.TheVariants.{Assign, Equals, Memory, Less, Sync}
use Rattle.text.specs.declared.statement.Part.{Part}
use Rattle.text.specs.declared.statement.Part.TheVariants.{Thread, Address, SameAddress, Read, Written, Fixed, LineEnd}
use Rattle.text.specs.Grammar.{a_number, denoted, Writes, States, a_load, a_store, a_swap, a_sync, Tok, number, fixed, ends, unknown}
use Rattle.text.specs.Lines.{thread_parts, cell_parts, load_parts, store_parts, swap_parts, sync_parts}

-- what is wanted next: the line's end, any number, the address, the address once more, a symbol, or one of several symbols
pub data Want : Type 0 where
  finish : Want
  any : Want → Want
  new : Want → Want
  same : Want → Want
  symbol : Symbol → Want → Want
  either : Symbol → Want → Want → Want

-- ds is a run of digits, and writes a number of 64 bits
abbrev pub Small : List ℕ → Type 0
Small ds = Writes ds (denoted 0 ds)

-- the tokens are what is wanted, up to the line's end; the digits ad wrote the address
pub data Follows : Want → List ℕ → List Tok → Type 0 where
  at_end : {ad : List ℕ} → Follows finish ad []
  any_number : {w : Want} {ad ds : List ℕ} {ts : List Tok} → Small ds → Follows w ad ts → Follows (any w) ad (number ds ∷ ts)
  new_number : {w : Want} {ad ds : List ℕ} {ts : List Tok} → Small ds → Follows w ds ts → Follows (new w) ad (number ds ∷ ts)
  same_number : {w : Want} {ad ds : List ℕ} {ts : List Tok} → Writes ds (denoted 0 ad) → Follows w ad ts → Follows (same w) ad (number ds ∷ ts)
  the_symbol : {s : Symbol} {w : Want} {ad : List ℕ} {ts : List Tok} → Follows w ad ts → Follows (symbol s w) ad (fixed s ∷ ts)
  first : {s : Symbol} {w v : Want} {ad : List ℕ} {ts : List Tok} → Follows w ad ts → Follows (either s w v) ad (fixed s ∷ ts)
  second : {s : Symbol} {w v : Want} {ad : List ℕ} {ts : List Tok} → Follows v ad ts → Follows (either s w v) ad ts

-- the digits of 0
abbrev pub naught : List ℕ
naught = 48 ∷ []

-- they are a run of digits, and 0 has 64 bits
pub naught_small : Small naught
naught_small = (a_number (lit< tt) (All-cons (λ b. is_ascii_digit b ≡ true) 48 [] refl (All-nil (λ b. is_ascii_digit b ≡ true))), refl, lit< tt)

-- something always fits what is wanted
pub completed : (w : Want) (ad : List ℕ) → Small ad → (ts : List Tok) × Follows w ad ts
completed finish ad l = ([], at_end)
completed (any w) ad l = let h = completed w ad l in (number naught ∷ h.0, any_number naught_small h.1)
completed (new w) ad l = let h = completed w naught naught_small in (number naught ∷ h.0, new_number naught_small h.1)
completed (same w) ad l = let h = completed w ad l in (number ad ∷ h.0, same_number l h.1)
completed (symbol s w) ad l = let h = completed w ad l in (fixed s ∷ h.0, the_symbol h.1)
completed (either s w v) ad l = let h = completed w ad l in (fixed s ∷ h.0, first h.1)

-- a part, and then w
abbrev pub wanting : Part → Want → Want
wanting Thread w = any w
wanting Address w = new w
wanting SameAddress w = same w
wanting Read w = any w
wanting Written w = any w
wanting (Fixed s) w = symbol s w
wanting LineEnd w = finish

-- parts, one after the other, and then w
abbrev pub plan : List Part → Want → Want
plan [] w = w
plan (p ∷ ps) w = wanting p (plan ps w)

-- a load or a store behind its address
abbrev pub access : Want
access = either Equals (plan load_parts finish) (symbol Assign (plan store_parts finish))

-- a line behind its thread number
abbrev pub bodies : Want
bodies = either Memory (plan cell_parts access) (either Less (plan swap_parts finish) (symbol Sync (plan sync_parts finish)))

-- a line
abbrev pub whole : Want
whole = plan thread_parts bodies

-- digits that write some number write one of 64 bits
writes_small : {ds : List ℕ} {n : ℕ} → Writes ds n → Small ds
writes_small {ds = ds} w = subst (Writes ds) (sym w.1) w

-- the tokens of a line are what is wanted
pub states_follow : {ts : List Tok} {i : Instruction} → States ts i → Follows whole naught ts
states_follow (a_load t a v) = any_number (writes_small t) (the_symbol (first (the_symbol (new_number (writes_small a) (the_symbol (first (any_number (writes_small v) at_end)))))))
states_follow (a_store t a v) = any_number (writes_small t) (the_symbol (first (the_symbol (new_number (writes_small a) (the_symbol (second (the_symbol (any_number (writes_small v) at_end))))))))
states_follow (a_swap {bd = bd} t a b v w) =
    any_number (writes_small t) (the_symbol (second (first (the_symbol (the_symbol (new_number (writes_small a) (the_symbol (the_symbol (any_number (writes_small v) (the_symbol
    (the_symbol (the_symbol (same_number (subst (Writes bd) (sym a.1) b) (the_symbol (the_symbol (any_number (writes_small w) (the_symbol at_end)))))))))))))))))
states_follow (a_sync t) = any_number (writes_small t) (the_symbol (second (second (the_symbol at_end))))

-- tokens that are wanted state an instruction
pub follow_states : {ts : List Tok} → Follows whole naught ts → (i : Instruction) × States ts i
follow_states (any_number t (the_symbol (first (the_symbol (new_number a (the_symbol (first (any_number v at_end)))))))) = (_, a_load t a v)
follow_states (any_number t (the_symbol (first (the_symbol (new_number a (the_symbol (second (the_symbol (any_number v at_end))))))))) = (_, a_store t a v)
follow_states (any_number t (the_symbol (second (first (the_symbol (the_symbol (new_number a (the_symbol (the_symbol (any_number v (the_symbol (the_symbol (the_symbol (same_number b (the_symbol (the_symbol (any_number w (the_symbol at_end)))))))))))))))))) =
    (_, a_swap t a b v w)
follow_states (any_number t (the_symbol (second (second (the_symbol at_end))))) = (_, a_sync t)

-- what follows a symbol
pub behind_symbol : {s u : Symbol} {w : Want} {ad : List ℕ} {ts : List Tok} → Follows (symbol s w) ad (fixed u ∷ ts) → Follows w ad ts
behind_symbol (the_symbol h) = h

-- what follows the first of several symbols, where the others are not the same
pub follows_behind_first : {s u : Symbol} {w v : Want} {ad : List ℕ} {ts : List Tok} → (Follows v ad (fixed u ∷ ts) → ⊥) → Follows (either s w v) ad (fixed u ∷ ts) → Follows w ad ts
follows_behind_first no_other (first h) = h
follows_behind_first no_other (second h) = absurd (no_other h)

-- `:=` is not `==`
pub no_equals : (w : Want) (ad : List ℕ) (ts : List Tok) → Follows (symbol Assign w) ad (fixed Equals ∷ ts) → ⊥
no_equals w ad ts h = elim h [ ]

-- `<` and `sync` are not `M`
pub no_memory : (w v : Want) (ad : List ℕ) (ts : List Tok) → Follows (either Less w (symbol Sync v)) ad (fixed Memory ∷ ts) → ⊥
no_memory w v ad ts (second h) = elim h [ ]

-- `sync` is not `<`
pub no_less : (w : Want) (ad : List ℕ) (ts : List Tok) → Follows (symbol Sync w) ad (fixed Less ∷ ts) → ⊥
no_less w ad ts h = elim h [ ]

-- the first token is a number
abbrev pub NumberFirst : List Tok → Type 0
NumberFirst [] = ⊥
NumberFirst (number ds ∷ ts) = Unit {0}
NumberFirst (fixed s ∷ ts) = ⊥
NumberFirst (ends ∷ ts) = ⊥
NumberFirst (unknown ∷ ts) = ⊥

-- nothing but a number is wanted
abbrev pub Numeric : Want → Type 0
Numeric w = (ad : List ℕ) (ts : List Tok) → Follows w ad ts → NumberFirst ts

-- what follows any number
pub behind_any : {w : Want} {ad ds : List ℕ} {ts : List Tok} → Follows (any w) ad (number ds ∷ ts) → Follows w ad ts
behind_any (any_number l h) = h

-- what follows the address
pub behind_new : {w : Want} {ad ds : List ℕ} {ts : List Tok} → Follows (new w) ad (number ds ∷ ts) → Follows w ds ts
behind_new (new_number l h) = h

-- what follows the address once more, which has the same value
pub behind_same : {w : Want} {ad ds : List ℕ} {ts : List Tok} → Follows (same w) ad (number ds ∷ ts) → Writes ds (denoted 0 ad) × Follows w ad ts
behind_same (same_number e h) = (e, h)

-- any number is a number, and so are the address and the address once more
pub any_numeric : (w : Want) → Numeric (any w)
any_numeric w ad ts (any_number l h) = tt

pub new_numeric : (w : Want) → Numeric (new w)
new_numeric w ad ts (new_number l h) = tt

pub same_numeric : (w : Want) → Numeric (same w)
same_numeric w ad ts (same_number l h) = tt
