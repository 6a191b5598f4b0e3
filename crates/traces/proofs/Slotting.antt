-- Slots and first appearances, for every type of element with a test of sameness.
use Rattle.std.proofs.Common.{◌≡◌, ℕ, zero, suc, ◌+◌, ◌<◌, ◌≤◌, max, Bool, true, false, cond, ltb, List, [], ◌∷◌, ◌++◌, length, get_or, take, drop, Some, None, Option, sym, refl, ap, ◌∙◌, subst, ⊎_elim, arith}
use Rattle.std.proofs.lemmas.List.{append_assoc, append-nil, length_push, get_or_push, get_or_append_left, take_at, take-append-drop}
use Rattle.std.proofs.lemmas.Bool.{cases_Bool, cases_lt, cond-true, cond-false, ltb-true, ltb-false, both_ways}
use Rattle.traces.specs.First.{FirstOrEnd}
use Rattle.traces.specs.Slots.{slot, listed, listed_if_any, appearing, Distinct}

-- a test of sameness that answers true exactly at equal elements
pub record Sameness {X : Type 0} (same : X → X → Bool) : Type 0 where
  pub reflexive : (x : X) → same x x ≡ true
  pub faithful : (x y : X) → same x y ≡ true → x ≡ y

module _ {X : Type 0} (same : X → X → Bool) where
  -- a slot is a place of the list or the next free one
  pub slot_le : (xs : List X) (x : X) → slot same xs x ≤ length xs
  slot_le [] x = omega arith
  slot_le (y ∷ ys) x = let h = slot_le ys x in elim (same y x) as (λ b. cond b 0 (suc (slot same ys x)) ≤ suc (length ys)) [ true ↦ omega arith | false ↦ omega arith ]

  old_step : (b : Bool) (s t n : ℕ) → (s < n → t ≡ s) → cond b 0 (suc s) < suc n → cond b 0 (suc t) ≡ cond b 0 (suc s)
  old_step true s t n f h = refl
  old_step false s t n f h = ap suc (f (omega arith))

  -- the slot of an element that is there stays as more come behind
  pub slot_old : (xs ys : List X) (x : X) → slot same xs x < length xs → slot same (xs ++ ys) x ≡ slot same xs x
  slot_old [] ys x h = absurd (omega arith)
  slot_old (z ∷ zs) ys x h = old_step (same z x) (slot same zs x) (slot same (zs ++ ys) x) (length zs) (slot_old zs ys x) h

  new_step : (b : Bool) (s t n : ℕ) → (n ≤ s → t ≡ n) → suc n ≤ cond b 0 (suc s) → cond b 0 (suc t) ≡ suc n
  new_step true s t n f h = absurd (omega arith)
  new_step false s t n f h = ap suc (f (omega arith))

  -- how long a list is with one more element
  pub length_listed : (xs : List X) (x : X) → length (listed same xs x) ≡ max (length xs) (slot same xs x + 1)
  length_listed xs x =
      let le = slot_le xs x in
      ⊎_elim
      (λ t. let l = ltb-true _ _ t in ap length (cond-true _ xs (xs ++ x ∷ []) t) ∙ omega arith)
      (λ f. let g = ltb-false _ _ f in ap length (cond-false _ xs (xs ++ x ∷ []) f) ∙ length_push xs x ∙ omega arith)
      (cases_Bool (ltb (slot same xs x) (length xs)))

  -- what is in a list keeps its place as one more element comes
  pub get_d_listed : (xs : List X) (x d : X) (k : ℕ) → k < length xs → get_or (listed same xs x) k d ≡ get_or xs k d
  get_d_listed xs x d k h =
      ⊎_elim
      (λ t. ap (λ l. get_or l k d) (cond-true _ xs (xs ++ x ∷ []) t))
      (λ f. ap (λ l. get_or l k d) (cond-false _ xs (xs ++ x ∷ []) f) ∙ get_or_append_left xs (x ∷ []) d k h)
      (cases_Bool (ltb (slot same xs x) (length xs)))

  -- a list is a front of the list with one more element
  pub listed_front : (xs : List X) (x : X) → (zs : List X) × (listed same xs x ≡ xs ++ zs)
  listed_front xs x =
      ⊎_elim
      (λ t. ([], cond-true _ xs (xs ++ x ∷ []) t ∙ sym (append-nil xs)))
      (λ f. (x ∷ [], cond-false _ xs (xs ++ x ∷ []) f))
      (cases_Bool (ltb (slot same xs x) (length xs)))

  joined_front : (xs : List X) (o : Option X) → (zs : List X) × (listed_if_any same xs o ≡ xs ++ zs)
  joined_front xs None = ([], sym (append-nil xs))
  joined_front xs (Some x) = listed_front xs x

  module _ {Y : Type 0} (brings : Y → Option X) where
    -- one more instruction, at the end
    pub appearing_push : (xs : List X) (ys : List Y) (y : Y) → appearing same brings xs (ys ++ y ∷ []) ≡ listed_if_any same (appearing same brings xs ys) (brings y)
    appearing_push xs [] y = refl
    appearing_push xs (z ∷ zs) y = appearing_push (listed_if_any same xs (brings z)) zs y

    pub appearing_append : (xs : List X) (ys zs : List Y) → appearing same brings xs (ys ++ zs) ≡ appearing same brings (appearing same brings xs ys) zs
    appearing_append xs [] zs = refl
    appearing_append xs (y ∷ ys) zs = appearing_append (listed_if_any same xs (brings y)) ys zs

    -- what has appeared is a front of all that appears
    pub appearing_front : (xs : List X) (ys : List Y) → (zs : List X) × (appearing same brings xs ys ≡ xs ++ zs)
    appearing_front xs [] = ([], sym (append-nil xs))
    appearing_front xs (y ∷ ys) =
        let one = joined_front xs (brings y) in
        let more = appearing_front (listed_if_any same xs (brings y)) ys in
        (one.0 ++ more.0, more.1 ∙ ap (λ l. l ++ more.0) one.1 ∙ append_assoc xs one.0 more.0)

    -- what the first n instructions bring is a front of all that is brought
    pub appearing_take : (xs : List X) (ys : List Y) (n : ℕ) → take (length (appearing same brings xs (take n ys))) (appearing same brings xs ys) ≡ appearing same brings xs (take n ys)
    appearing_take xs ys n =
        let front = appearing_front (appearing same brings xs (take n ys)) (drop n ys) in
        ap (λ l. take (length (appearing same brings xs (take n ys))) (appearing same brings xs l)) (sym (take-append-drop n ys))
        ∙ ap (take (length (appearing same brings xs (take n ys)))) (appearing_append xs (take n ys) (drop n ys) ∙ front.1)
        ∙ take_at (appearing same brings xs (take n ys)) front.0 _ refl

  module _ (law : Sameness same) where
    -- a new element comes at the end
    pub slot_new : (xs : List X) (x : X) → length xs ≤ slot same xs x → slot same (xs ++ x ∷ []) x ≡ length xs
    slot_new [] x h = cond-true _ _ _ (law.reflexive x)
    slot_new (z ∷ zs) x h = new_step (same z x) (slot same zs x) (slot same (zs ++ x ∷ []) x) (length zs) (slot_new zs x) h

    -- an element is at its slot, once it is listed
    pub slot_listed : (xs : List X) (x : X) → slot same (listed same xs x) x ≡ slot same xs x
    slot_listed xs x =
        let le = slot_le xs x in
        ⊎_elim
        (λ t. ap (λ l. slot same l x) (cond-true _ xs (xs ++ x ∷ []) t))
        (λ f. let g = ltb-false _ _ f in ap (λ l. slot same l x) (cond-false _ xs (xs ++ x ∷ []) f) ∙ slot_new xs x g ∙ omega arith)
        (cases_Bool (ltb (slot same xs x) (length xs)))

    at_step : (b : Bool) (y x d : X) (s : ℕ) (ys : List X) → (b ≡ true → y ≡ x) → (s < length ys → get_or ys s d ≡ x) → cond b 0 (suc s) < suc (length ys) → get_or (y ∷ ys) (cond b 0 (suc s)) d ≡ x
    at_step true y x d s ys e f h = e refl
    at_step false y x d s ys e f h = f (omega arith)

    -- an element that is there is at its slot
    pub get_d_slot : (xs : List X) (x d : X) → slot same xs x < length xs → get_or xs (slot same xs x) d ≡ x
    get_d_slot [] x d h = absurd (omega arith)
    get_d_slot (y ∷ ys) x d h = at_step (same y x) y x d (slot same ys x) ys (law.faithful y x) (get_d_slot ys x d) h

    -- the slot is the first place of the element
    pub slot_found : (xs : List X) (x d : X) (i : ℕ) → i < length xs → get_or xs i d ≡ x → ((k : ℕ) → k < i → get_or xs k d ≡ x → ⊥) → slot same xs x ≡ i
    slot_found [] x d i h e b = absurd (omega arith)
    slot_found (y ∷ ys) x d zero h e b = cond-true _ _ _ (ap (λ z. same z x) e ∙ law.reflexive x)
    slot_found (y ∷ ys) x d (suc i) h e b =
        cond-false _ _ _ (⊎_elim (λ t. absurd (b 0 (omega arith) (law.faithful y x t))) (λ f. f) (cases_Bool (same y x)))
        ∙ ap suc (slot_found ys x d i (omega arith) e (λ k l. b (suc k) (omega arith)))

    -- the slot of an element of a list without repeats is its place
    pub slot_own : (d : X) (xs : List X) → Distinct d xs → (i : ℕ) → i < length xs → slot same xs (get_or xs i d) ≡ i
    slot_own d xs distinct i h = slot_found xs (get_or xs i d) d i h refl (λ k l e. distinct k i (l, h) e)

    -- elements still differ when a new one comes
    pub distinct_push : (d : X) (xs : List X) (x : X) → Distinct d xs → length xs ≤ slot same xs x → Distinct d (xs ++ x ∷ [])
    distinct_push d xs x distinct new i j h e =
        let small : i < length xs = omega (arith, h.0, h.1, length_push xs x) in
        ⊎_elim
        (λ old. distinct i j (h.0, old) (sym (get_or_append_left xs (x ∷ []) d i small) ∙ e ∙ get_or_append_left xs (x ∷ []) d j old))
        (λ past.
        let at : length xs ≡ j = omega (arith, h.1, length_push xs x) in
        let same-x : get_or xs i d ≡ x = sym (get_or_append_left xs (x ∷ []) d i small) ∙ e ∙ get_or_push xs x d j at in
        let there : slot same xs x ≡ i = ap (slot same xs) (sym same-x) ∙ slot_own d xs distinct i small in
        omega arith)
        (cases_lt j (length xs))

    pub distinct_listed : (d : X) (xs : List X) (x : X) → Distinct d xs → Distinct d (listed same xs x)
    distinct_listed d xs x distinct =
        ⊎_elim
        (λ t. subst (Distinct d) (sym (cond-true _ xs (xs ++ x ∷ []) t)) distinct)
        (λ f. subst (Distinct d) (sym (cond-false _ xs (xs ++ x ∷ []) f)) (distinct_push d xs x distinct (ltb-false _ _ f)))
        (cases_Bool (ltb (slot same xs x) (length xs)))

    pub distinct_joined : (d : X) (xs : List X) (o : Option X) → Distinct d xs → Distinct d (listed_if_any same xs o)
    distinct_joined d xs None distinct = distinct
    distinct_joined d xs (Some x) distinct = distinct_listed d xs x distinct

    -- elements that are listed by first appearance differ
    pub distinct_appearing : {Y : Type 0} (brings : Y → Option X) (d : X) (xs : List X) (ys : List Y) → Distinct d xs → Distinct d (appearing same brings xs ys)
    distinct_appearing brings d xs [] distinct = distinct
    distinct_appearing brings d xs (y ∷ ys) distinct = distinct_appearing brings d (listed_if_any same xs (brings y)) ys (distinct_joined d xs (brings y) distinct)

    -- an element's slot is the same in the list so far and in the list of all that appears
    pub slot_appearing : {Y : Type 0} (brings : Y → Option X) (xs : List X) (ys : List Y) (x : X) → slot same (appearing same brings (listed same xs x) ys) x ≡ slot same xs x
    slot_appearing brings xs ys x =
        let front = appearing_front brings (listed same xs x) ys in
        let there = slot_listed xs x in
        let le = slot_le xs x in
        let l = length_listed xs x in
        ap (λ l. slot same l x) front.1 ∙ slot_old (listed same xs x) front.0 x (omega arith) ∙ there

    -- what a search for the first equal element finds is the slot
    pub slot_search : (equals : X → Bool → Type 0) (x : X) → ((y : X) → equals y true → same y x ≡ true) → ((y : X) → equals y false → same y x ≡ false) → (d : X) (xs : List X) (r : ℕ) → FirstOrEnd equals xs r → slot same xs x ≡ r
    slot_search equals x hit miss d xs r f =
        ⊎_elim
        (λ inside. slot_found xs x d r inside (law.faithful _ _ (hit _ (f.passes inside d))) (λ k l e. both_ways (same (get_or xs k d) x) (miss _ (f.before k d (omega arith) l)) (ap (λ y. same y x) e ∙ law.reflexive x)))
        (λ past. none xs (λ k l. miss _ (f.before k d (omega arith) (omega arith))) ∙ omega (arith, f.within))
        (cases_lt r (length xs))
      where
        none : (ys : List X) → ((k : ℕ) → k < length ys → same (get_or ys k d) x ≡ false) → slot same ys x ≡ length ys
        none [] h = refl
        none (y ∷ ys) h = cond-false _ _ _ (h 0 (omega arith)) ∙ ap suc (none ys (λ k l. h (suc k) (omega arith)))
