-- One more instruction: when it is refused, and what is held once it is there.
use Rattle.std.proofs.Common.{◌≡◌, ℕ, ◌<◌, ◌≤◌, Bool, true, false, cond, eqb, ltb, leb, List, [], ◌∷◌, ◌++◌, map, length, get_or, Some, None, Ok, Err, Option, ok_or, nat_lt, sym, refl, ap, ap₂, ◌∙◌, arith}
use Rattle.std.proofs.lemmas.List.{map-append, length-map}
use Rattle.std.proofs.lemmas.Bool.{cond-true, cond-false, lt-leb, lt-ltb, le-ltb, ltb-true, ltb-false, both_ways}
use Rattle.traces.specs.declared.entry.Address.{Address}
use Rattle.traces.specs.declared.entry.Entry.{Entry}
use Rattle.traces.specs.declared.entry.Instruction.{Instruction}
use Rattle.traces.specs.declared.entry.Kind.{Kind}
use Rattle.traces.specs.declared.entry.Refusal.TheVariants.{TooManyThreads, TooManyAddresses}
use Rattle.traces.specs.Adding.{same_address, thread_in, address_in, threads_of, addresses_of, admitted}
use Rattle.traces.specs.First.{SlotOf, SlotWithin}
use Rattle.traces.specs.Kinds.{address, addressed, instruction, reads, writes}
use Rattle.traces.specs.Slots.{slot, listed, listed_if_any, grown}
use Rattle.traces.specs.Stated.{stated_by, stated, ThreadsNamed, AddressesNamed, cleared}
use Rattle.traces.proofs.Slotting.{Sameness, slot_listed, get_d_slot, length_listed, get_d_listed, appearing_push, slot_search}
use Rattle.traces.proofs.Stating.{same_numbers, same_addresses, each_push, stated_same}

-- the slot of what is brought, 0 where nothing is
abbrev pub slot_in : {X : Type 0} → (X → X → Bool) → List X → Option X → ℕ
slot_in same xs None = 0
slot_in same xs (Some x) = slot same xs x

-- putting what is brought at its slot lists it
pub grown_joined : {X : Type 0} (same : X → X → Bool) (xs : List X) (o : Option X) (s : ℕ) → s ≡ slot_in same xs o → grown xs o s ≡ listed_if_any same xs o
grown_joined same xs None s e = refl
grown_joined same xs (Some x) s e = ap (λ n. cond (ltb n (length xs)) xs (xs ++ x ∷ [])) e

-- what a search finds is the slot
module _ {X : Type 0} (same : X → X → Bool) (law : Sameness same) (d : X) where
  pub slot_searched : (xs : List X) (o : Option X) (s : ℕ) → SlotOf (λ y x r. r ≡ same y x) xs o s → s ≡ slot_in same xs o
  slot_searched xs None s h = h
  slot_searched xs (Some x) s h = sym (slot_search same law (λ y r. r ≡ same y x) x (λ y e. sym e) (λ y e. sym e) d xs s h)

  -- where it is below the room, and where it is not
  module _ {E : Type 0} (room : ℕ) (xs : List X) (o p : Option X) (is : p ≡ o) (r : Option ℕ) (h : SlotWithin (λ y x r. r ≡ same y x) room xs p r) (e : E) where
    at : h.0 ≡ slot_in same xs o
    at = slot_searched xs p h.0 h.1 ∙ ap (slot_in same xs) is

    free : (b : Bool) → nat_lt h.0 room ≡ b → (k : ℕ) → ok_or (cond b (Some h.0) None) e ≡ Ok k → (k ≡ slot_in same xs o) × (k < room)
    free true l k y = let z : h.0 ≡ k = cc in (sym z ∙ at, omega (arith, ltb-true _ _ l))
    free false l k y = absurd cc

    pub slot_free : (k : ℕ) → ok_or r e ≡ Ok k → (k ≡ slot_in same xs o) × (k < room)
    slot_free k y = free (nat_lt h.0 room) refl k (ap (λ x. ok_or x e) (sym h.2) ∙ y)

    full : (b : Bool) → nat_lt h.0 room ≡ b → (f : E) → ok_or (cond b (Some h.0) None) e ≡ Err f → (room ≤ slot_in same xs o) × (f ≡ e)
    full true l f y = absurd cc
    full false l f y = (omega (arith, ltb-false _ _ l, at), cc)

    pub slot_full : (f : E) → ok_or r e ≡ Err f → (room ≤ slot_in same xs o) × (f ≡ e)
    slot_full f y = full (nat_lt h.0 room) refl f (ap (λ x. ok_or x e) (sym h.2) ∙ y)

-- the same at thread numbers and at addresses, and where the list that is searched equals another
pub slot_number : (xs : List ℕ) (o : Option ℕ) (s : ℕ) → SlotOf (λ y x r. r ≡ eqb y x) xs o s → s ≡ slot_in eqb xs o
slot_number = slot_searched eqb same_numbers 0

pub slot_address : (xs : List Address) (o : Option Address) (s : ℕ) → SlotOf (λ y x r. r ≡ same_address y x) xs o s → s ≡ slot_in same_address xs o
slot_address = slot_searched same_address same_addresses (address 0)

pub slot_number_at : (ys xs : List ℕ) (x s : ℕ) → ys ≡ xs → SlotOf (λ y z r. r ≡ eqb y z) ys (Some x) s → s ≡ slot eqb xs x
slot_number_at ys xs x s e h = slot_number ys (Some x) s h ∙ ap (λ l. slot eqb l x) e

pub slot_address_at : (ys xs : List Address) (p o : Option Address) (s : ℕ) → ys ≡ xs → p ≡ o → SlotOf (λ y z r. r ≡ same_address y z) ys p s → s ≡ slot_in same_address xs o
slot_address_at ys xs p o s e f h = slot_address ys p s h ∙ ap₂ (slot_in same_address) e f

-- how long a list is once something is brought, if anything is
pub length_joined : {X : Type 0} (same : X → X → Bool) (xs : List X) (o : Option X) (n : ℕ) → length xs ≤ n → slot_in same xs o < n → (length (listed_if_any same xs o) ≤ n) × (length xs ≤ length (listed_if_any same xs o))
length_joined same xs None n h l = (h, omega arith)
length_joined same xs (Some x) n h l = let e = length_listed same xs x in (omega arith, omega arith)

pub length_joined_over : {X : Type 0} (same : X → X → Bool) (xs : List X) (o : Option X) (n : ℕ) → 0 < n → n ≤ slot_in same xs o → n < length (listed_if_any same xs o)
length_joined_over same xs None n z h = absurd (omega arith)
length_joined_over same xs (Some x) n z h = omega (arith, length_listed same xs x)

-- what was listed stays where it was
pub get_d_joined : {X : Type 0} (same : X → X → Bool) (xs : List X) (o : Option X) (d : X) (k : ℕ) → k < length xs → get_or (listed_if_any same xs o) k d ≡ get_or xs k d
get_d_joined same xs None d k h = refl
get_d_joined same xs (Some x) d k h = get_d_listed same xs x d k h

-- what is brought is then at its slot
pub slot_inside : {X : Type 0} (same : X → X → Bool) (xs : List X) (x : X) → slot same xs x < length (listed same xs x)
slot_inside same xs x = omega (arith, length_listed same xs x)

pub get_d_brought : {X : Type 0} (same : X → X → Bool) (law : Sameness same) (xs : List X) (x d : X) → get_or (listed same xs x) (slot same xs x) d ≡ x
get_d_brought same law xs x d =
    let e = slot_listed same law xs x in
    let l = slot_inside same xs x in
    ap (λ n. get_or (listed same xs x) n d) (sym e) ∙ get_d_slot same law (listed same xs x) x d (omega arith)

-- the address of an instruction, where b says whether it has one
abbrev brought : Bool → Address → Option Address
brought b a = cond b (Some (cond b a (address 0))) None

address_stated : (b : Bool) (a : Address) (ds : List Address) → cond b (get_or (listed_if_any same_address ds (brought b a)) (slot_in same_address ds (brought b a)) (address 0)) (address 0) ≡ cond b a (address 0)
address_stated true a ds = get_d_brought same_address same_addresses ds a (address 0)
address_stated false a ds = refl

address_inside : (b : Bool) (a : Address) (ds : List Address) → b ≡ true → slot_in same_address ds (brought b a) < length (listed_if_any same_address ds (brought b a))
address_inside true a ds e = slot_inside same_address ds a
address_inside false a ds e = absurd (both_ways false refl e)

address_plain : (b : Bool) (a : Address) (ds : List Address) → cond b (slot_in same_address ds (brought b a)) 0 ≡ slot_in same_address ds (brought b a)
address_plain true a ds = refl
address_plain false a ds = refl

cond_again : (b : Bool) (x : ℕ) → cond b (cond b x 0) 0 ≡ cond b x 0
cond_again true x = refl
cond_again false x = refl

-- the entry of the new instruction
abbrev pub new_entry : List ℕ → List Address → ℕ → Kind → Address → ℕ → ℕ → Entry
new_entry ts ds t k a r w = record {
  thread = slot eqb ts t;
  kind = k;
  address = slot_in same_address ds (address_in (instruction t k a r w));
  read = cond (reads k) r 0;
  written = cond (writes k) w 0;
}

module _ (ts : List ℕ) (ds : List Address) (es : List Entry) (t : ℕ) (k : Kind) (a : Address) (r w : ℕ) where
  abbrev new : Instruction
  new = instruction t k a r w

  abbrev before : List Instruction
  before = stated ts ds es

  abbrev pub more_threads : List ℕ
  more_threads = listed eqb ts t

  abbrev pub more_addresses : List Address
  more_addresses = listed_if_any same_address ds (address_in new)

  abbrev pub more_entries : List Entry
  more_entries = es ++ new_entry ts ds t k a r w ∷ []

  -- the new entry stands for the new instruction
  pub entry_states : stated_by more_threads more_addresses (new_entry ts ds t k a r w) ≡ new
  entry_states =
      ap (λ n. record { thread = n; kind = k; address = cond (addressed k) (get_or more_addresses (slot_in same_address ds (address_in new)) (address 0)) (address 0); read = new.read; written = new.written }) (get_d_brought eqb same_numbers ts t 0)
      ∙ ap (λ x. record { thread = t; kind = k; address = x; read = new.read; written = new.written }) (address_stated (addressed k) a ds)

  -- the new entry has 0 in the fields that its kind lacks
  pub entry_plain : cleared (new_entry ts ds t k a r w) ≡ new_entry ts ds t k a r w
  entry_plain =
      ap (λ x. record { thread = slot eqb ts t; kind = k; address = x; read = cond (reads k) (cond (reads k) r 0) 0; written = cond (writes k) (cond (writes k) w 0) 0 }) (address_plain (addressed k) a ds)
      ∙ ap (λ x. record { thread = slot eqb ts t; kind = k; address = slot_in same_address ds (address_in new); read = x; written = cond (writes k) (cond (writes k) w 0) 0 }) (cond_again (reads k) r)
      ∙ ap (λ x. record { thread = slot eqb ts t; kind = k; address = slot_in same_address ds (address_in new); read = cond (reads k) r 0; written = x }) (cond_again (writes k) w)

  pub plain_more : map cleared es ≡ es → map cleared more_entries ≡ more_entries
  plain_more h = map-append cleared es _ ∙ ap (λ l. l ++ cleared (new_entry ts ds t k a r w) ∷ []) h ∙ ap (λ e. es ++ e ∷ []) entry_plain

  -- each entry, the new one too, has the slot of a listed thread number
  pub threads_named_more : ThreadsNamed (length ts) es → ThreadsNamed (length more_threads) more_entries
  threads_named_more h =
      let l = length_listed eqb ts t in
      each_push (λ e. e.thread < length more_threads) es (new_entry ts ds t k a r w) (λ n d b. omega (arith, h n d b)) (slot_inside eqb ts t)

  -- the same of addresses
  pub addresses_named_more : length ds ≤ length more_addresses → AddressesNamed (length ds) es → AddressesNamed (length more_addresses) more_entries
  addresses_named_more le h =
      each_push (λ e. addressed e.kind ≡ true → e.address < length more_addresses) es (new_entry ts ds t k a r w) (λ n d b y. omega (arith, h n d b y)) (address_inside (addressed k) a ds)

  -- the instructions are those before and the new one
  pub stated_more : ThreadsNamed (length ts) es → AddressesNamed (length ds) es → stated more_threads more_addresses more_entries ≡ before ++ new ∷ []
  stated_more nt nd =
      map-append (stated_by more_threads more_addresses) es _
      ∙ ap (λ l. l ++ stated_by more_threads more_addresses (new_entry ts ds t k a r w) ∷ []) (stated_same more_threads more_addresses ts ds es (λ n d b. (get_d_listed eqb ts t 0 _ (nt n d b), λ y. get_d_joined same_address ds (address_in new) (address 0) _ (nd n d b y))))
      ∙ ap (λ i. before ++ i ∷ []) entry_states

  module _ (appear_t : ts ≡ threads_of before) (appear_d : ds ≡ addresses_of before) where
    -- the thread numbers by first appearance, with the new instruction
    pub threads_more : threads_of (before ++ new ∷ []) ≡ more_threads
    threads_more = appearing_push eqb thread_in [] before new ∙ ap (λ l. listed eqb l t) (sym appear_t)

    -- the same of addresses
    pub addresses_more : addresses_of (before ++ new ∷ []) ≡ more_addresses
    addresses_more = appearing_push same_address address_in [] before new ∙ ap (λ l. listed_if_any same_address l (address_in new)) (sym appear_d)

    module _ (few : length es < 64) where
      some_left : leb 64 (length before) ≡ false
      some_left = lt-leb 64 (length before) (omega (arith, length-map es (stated_by ts ds)))

      -- a thread number without a free slot is refused
      pub refused_thread : 8 ≤ slot eqb ts t → admitted before new ≡ Err TooManyThreads
      refused_thread h = cond-false _ _ _ some_left ∙ cond-true _ _ _ (lt-ltb 8 (length (threads_of (before ++ new ∷ []))) (omega (arith, ap length threads_more, length_listed eqb ts t)))

      module _ (few-t : length ts ≤ 8) (slot-t : slot eqb ts t < 8) where
        threads_left : ltb 8 (length (threads_of (before ++ new ∷ []))) ≡ false
        threads_left = le-ltb 8 (length (threads_of (before ++ new ∷ []))) (omega (arith, ap length threads_more, length_listed eqb ts t))

        -- an address without a free slot is refused
        pub refused_address : 16 ≤ slot_in same_address ds (address_in new) → admitted before new ≡ Err TooManyAddresses
        refused_address h =
            let over = length_joined_over same_address ds (address_in new) 16 (omega arith) h in
            cond-false _ _ _ some_left ∙ cond-false _ _ _ threads_left ∙ cond-true _ _ _ (lt-ltb 16 (length (addresses_of (before ++ new ∷ []))) (omega (arith, ap length addresses_more)))

        -- else the instruction is added
        pub accepted_all : length ds ≤ 16 → slot_in same_address ds (address_in new) < 16 → admitted before new ≡ Ok (before ++ new ∷ [])
        accepted_all few-d slot-d =
            let within = length_joined same_address ds (address_in new) 16 few-d slot-d in
            cond-false _ _ _ some_left ∙ cond-false _ _ _ threads_left ∙ cond-false _ _ _ (le-ltb 16 (length (addresses_of (before ++ new ∷ []))) (omega (arith, ap length addresses_more, within.0)))
