-- The instructions that entries stand for, as entries come and go.
use Rattle.std.proofs.Common.{◌≡◌, ℕ, zero, suc, ◌+◌, ◌<◌, max, Bool, true, false, cond, eqb, ◌⊎◌, fold, List, [], ◌∷◌, ◌++◌, map, length, get_or, take, Some, None, Option, sym, refl, ap, ◌∙◌, subst, ⊎_elim, arith, Bor}
use Rattle.std.specs.List.{slice_get}
use Rattle.std.specs.Iterator.{PicksByCmp}
use Rattle.std.specs.Option.{option_map, unwrap_or}
use Rattle.std.specs.Ordering.{max_by_ordering, nat_cmp}
use Rattle.std.specs.Slice.{IsGetResult}
use Rattle.std.proofs.lemmas.List.{length_push, get_or_push, get_or_append_left}
use Rattle.std.proofs.lemmas.Iterator.{YieldsList}
use Rattle.std.proofs.lemmas.Iterator.Consumers.{reduce_from_yields_List}
use Rattle.std.proofs.lemmas.List.Folds.{max_of_map}
use Rattle.std.proofs.lemmas.Option.{slice_get-get_or, slice_get_past}
use Rattle.std.proofs.lemmas.Bool.{cases_lt, eq-eqb, eqb-true}
use Rattle.traces.specs.declared.entry.Address.{Address}
use Rattle.traces.specs.declared.entry.Entry.{Entry}
use Rattle.traces.specs.declared.entry.Instruction.{Instruction}
use Rattle.traces.specs.Adding.{same_address}
use Rattle.traces.specs.Kinds.{address, addressed}
use Rattle.traces.specs.Slots.{slot, listed, listed_if_any, appearing, Distinct}
use Rattle.traces.specs.Stated.{stated_by, stated, entry_of, ThreadsNamed, AddressesNamed, cleared, reach}
use Rattle.traces.proofs.Slotting.{Sameness, slot_own, slot_appearing, length_listed}

-- numbers are compared rightly
pub same_numbers : Sameness eqb
same_numbers = record { reflexive = λ x. eq-eqb x x refl; faithful = λ x y. eqb-true x y }

-- addresses are compared rightly
pub same_addresses : Sameness same_address
same_addresses = record { reflexive = λ x. eq-eqb x.number x.number refl; faithful = λ x y e. ap address (eqb-true x.number y.number e) }

-- what holds of each entry holds of the first and of each behind it
each_head : (P : Entry → Type 0) (e : Entry) (es : List Entry) → ((k : ℕ) (d : Entry) → k < length (e ∷ es) → P (get_or (e ∷ es) k d)) → P e
each_head P e es h = h 0 e (omega arith)

each_tail : (P : Entry → Type 0) (e : Entry) (es : List Entry) → ((k : ℕ) (d : Entry) → k < length (e ∷ es) → P (get_or (e ∷ es) k d)) → (k : ℕ) (d : Entry) → k < length es → P (get_or es k d)
each_tail P e es h k d l = h (suc k) d (omega arith)

-- what holds of each entry, once one more is there
pub each_push : (P : Entry → Type 0) (es : List Entry) (e : Entry) → ((k : ℕ) (d : Entry) → k < length es → P (get_or es k d)) → P e → (k : ℕ) (d : Entry) → k < length (es ++ e ∷ []) → P (get_or (es ++ e ∷ []) k d)
each_push P es e h p k d l =
    ⊎_elim
    (λ old. subst P (sym (get_or_append_left es (e ∷ []) d k old)) (h k d old))
    (λ past. let at : length es ≡ k = omega (arith, length_push es e) in subst P (sym (get_or_push es e d k at)) p)
    (cases_lt k (length es))

-- the tables ts and us of thread numbers, and ds and fs of addresses, name the same for an entry
abbrev pub Agree : List ℕ → List Address → List ℕ → List Address → Entry → Type 0
Agree ts ds us fs e = (get_or ts e.thread 0 ≡ get_or us e.thread 0) × (addressed e.kind ≡ true → get_or ds e.address (address 0) ≡ get_or fs e.address (address 0))

address_agree : (b : Bool) (x y : Address) → (b ≡ true → x ≡ y) → cond b x (address 0) ≡ cond b y (address 0)
address_agree true x y h = h refl
address_agree false x y h = refl

-- tables that agree for each entry give the same instructions
pub stated_same : (ts : List ℕ) (ds : List Address) (us : List ℕ) (fs : List Address) (es : List Entry) → ((k : ℕ) (d : Entry) → k < length es → Agree ts ds us fs (get_or es k d)) → stated ts ds es ≡ stated us fs es
stated_same ts ds us fs [] h = refl
stated_same ts ds us fs (e ∷ es) h =
    let here = each_head (Agree ts ds us fs) e es h in
    let there = stated_same ts ds us fs es (each_tail (Agree ts ds us fs) e es h) in
    ap (λ t. record { thread = t; kind = e.kind; address = cond (addressed e.kind) (get_or ds e.address (address 0)) (address 0); read = e.read; written = e.written } ∷ stated ts ds es) here.0
    ∙ ap (λ a. record { thread = get_or us e.thread 0; kind = e.kind; address = a; read = e.read; written = e.written } ∷ stated ts ds es) (address_agree (addressed e.kind) _ _ here.1)
    ∙ ap (λ l. stated_by us fs e ∷ l) there

-- an entry is told again from its instruction by the slots
address_again : (b : Bool) (s a : ℕ) (x : Address) (ds : List Address) → (b ≡ true → slot same_address ds x ≡ a) → cond b a 0 ≡ a → cond b (slot same_address ds (cond b x (address 0))) 0 ≡ a
address_again true s a x ds h e = h refl
address_again false s a x ds h e = e

pub entry_again : (ts : List ℕ) (ds : List Address) (e : Entry) → Distinct 0 ts → Distinct (address 0) ds → e.thread < length ts → (addressed e.kind ≡ true → e.address < length ds) → cleared e ≡ e → entry_of ts ds (stated_by ts ds e) ≡ e
entry_again ts ds e dt dd lt la plain =
    ap (λ t. record { thread = t; kind = e.kind; address = cond (addressed e.kind) (slot same_address ds (cond (addressed e.kind) (get_or ds e.address (address 0)) (address 0))) 0; read = e.read; written = e.written }) (slot_own eqb same_numbers 0 ts dt e.thread lt)
    ∙ ap (λ a. record { thread = e.thread; kind = e.kind; address = a; read = e.read; written = e.written }) (address_again (addressed e.kind) 0 e.address (get_or ds e.address (address 0)) ds (λ t. slot_own same_address same_addresses (address 0) ds dd e.address (la t)) (ap (λ (x : Entry). x.address) plain))

-- entries are told again from their instructions
pub entries_again : (ts : List ℕ) (ds : List Address) (es : List Entry) → Distinct 0 ts → Distinct (address 0) ds → ThreadsNamed (length ts) es → AddressesNamed (length ds) es → map cleared es ≡ es → map (entry_of ts ds) (stated ts ds es) ≡ es
entries_again ts ds [] dt dd nt nd plain = refl
entries_again ts ds (e ∷ es) dt dd nt nd plain =
    let here : cleared e ≡ e = cc in
    let there : map cleared es ≡ es = cc in
    ap (λ x. x ∷ map (entry_of ts ds) (stated ts ds es)) (entry_again ts ds e dt dd (each_head (λ x. x.thread < length ts) e es nt) (each_head (λ x. addressed x.kind ≡ true → x.address < length ds) e es nd) here)
    ∙ ap (λ l. e ∷ l) (entries_again ts ds es dt dd (each_tail (λ x. x.thread < length ts) e es nt) (each_tail (λ x. addressed x.kind ≡ true → x.address < length ds) e es nd) there)

-- the most that is needed, from a number on
most_from : (of : Entry → ℕ) (n : ℕ) (es : List Entry) → fold (λ most e. max most (of e)) n es ≡ max n (reach of es)
most_from of n [] = omega arith
most_from of n (e ∷ es) = omega (arith, most_from of (max n (of e)) es)

-- the greatest of what is needed, or 0, as an iterator over it finds it
pub reach_picked : {S : Type 0} {steps : S → Option ℕ → S → Type 0} (of : Entry → ℕ) (es : List Entry) (s : S) (r : Option ℕ)
    → PicksByCmp steps max_by_ordering nat_cmp s r → YieldsList steps (λ x. x) s (map of es) → unwrap_or r 0 ≡ reach of es
reach_picked of es s r picks yields = ap (λ o. unwrap_or o 0) (reduce_from_yields_List _ s r picks yields) ∙ max_of_map of es ∙ most_from of 0 es ∙ omega arith

-- how much the entries that are kept need is how much they bring
module _ {X : Type 0} (same : X → X → Bool) (law : Sameness same) (brings : Instruction → Option X) (of : Entry → ℕ) (f : Entry → Instruction) (whole : List X) where
  -- what an entry brings has the slot that it needs
  abbrev pub Needs : Entry → Type 0
  Needs e = ((brings (f e) ≡ None) × (of e ≡ 0)) ⊎ ((x : X) × (brings (f e) ≡ Some x) × (of e ≡ slot same whole x + 1))

  -- the first n entries need as many elements as they bring
  pub reach_appearing : (xs : List X) (es : List Entry) → appearing same brings xs (map f es) ≡ whole → ((k : ℕ) (d : Entry) → k < length es → Needs (get_or es k d)) → (n : ℕ) → length (appearing same brings xs (take n (map f es))) ≡ max (length xs) (reach of (take n es))
  reach_appearing xs es w h zero = omega arith
  reach_appearing xs [] w h (suc n) = omega arith
  reach_appearing xs (e ∷ es) w h (suc n) =
      let more = reach_appearing (listed_if_any same xs (brings (f e))) es w (each_tail Needs e es h) n in
      ⊎_elim
      (λ none. let same_length = ap (λ o. length (listed_if_any same xs o)) none.0 in more ∙ omega (arith, none.1))
      (λ some.
      let w' : appearing same brings (listed same xs some.0) (map f es) ≡ whole = ap (λ o. appearing same brings (listed_if_any same xs o) (map f es)) (sym some.1) ∙ w in
      let at : slot same whole some.0 ≡ slot same xs some.0 = ap (λ l. slot same l some.0) (sym w') ∙ slot_appearing same law brings xs (map f es) some.0 in
      let same_length : length (listed_if_any same xs (brings (f e))) ≡ max (length xs) (slot same xs some.0 + 1) = ap (λ o. length (listed_if_any same xs o)) some.1 ∙ length_listed same xs some.0 in
      more ∙ omega (arith, some.2))
      (each_head Needs e es h)

-- what a look at a place lends is what stands there
pub item_nth : {X : Type 0} (xs : List X) (i : ℕ) (o : Option (Bor X)) → IsGetResult xs i i o → option_map (λ x. x.now) o ≡ slice_get xs i
item_nth xs i None h = sym (slice_get_past xs i h.3)
item_nth xs i (Some r) h = sym (slice_get-get_or xs i r.now h.3.0 ∙ ap Some (sym (h.3.1 r.now)))
