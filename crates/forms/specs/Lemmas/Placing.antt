-- The machine that places the entries of a trace one by one: the lists that it takes from its opening to the end are the lawful orders.
use Rattle.std.specs.Prelude.{◌≡◌, ℕ, ◌<◌, true, ◌&&◌, ◌||◌, List, [], ◌∷◌, length, Some, None, Option, ◌==◌, nat_lt, refl}
use Rattle.std.proofs.Common.{sym, ◌∙◌, ap, subst, inl, inr}
use Rattle.std.proofs.lemmas.Bool.{and_from, and_parts, both_ways, cases_Bool, cond-false, cond-true, eq-eqb, lt-ltb, ltb-true, ne_eqb, not-false, not_from_false, not_from_true, not-true, or_left}
use Rattle.traces.specs.declared.entry.Instruction.{Instruction}
use Rattle.forms.specs.Carrying.{contents, may_carry_out}
use Rattle.forms.specs.Lawful.{Lawful}
use Rattle.forms.specs.OrderMachine.{OrderPosition, all_placed, order_opening, place, places, placing, unplaced}
use Rattle.forms.specs.PreservedOrder.{Laws, Preserved}
use Rattle.forms.specs.Runs.{carried_out, listed_from, onward, run}
use Rattle.forms.specs.Lemmas.Basics.{some_below_fails, some_below_none}
use Rattle.forms.specs.Lemmas.Carry.{may_free, may_from, may_value, stored_here, stored_other}
use Rattle.forms.specs.Lemmas.Steps.{Effect, From, Ready, backward, end_from, forward, from_end, lawful_in, lawful_out, ready_here}

-- an entry that is placed was ready
pub place_ready : (is : List Instruction) (p : Preserved) (q after : OrderPosition) (e : ℕ) → place is p q e ≡ Some after
    → Ready is p q.placed (contents is q.memory) e × (after ≡ placing is q e)
unfolding place
place_ready is p q after e h = elim (cases_Bool (nat_lt e (length is) && (unplaced q e && may_carry_out is p (unplaced q) q.memory e))) [
  | inl passes ↦
      let a = and_parts _ _ passes in
      let b = and_parts _ _ a.1 in
      let same : Some (placing is q e) ≡ Some after = sym (cond-true _ _ _ passes) ∙ h in (
        record {
          below = ltb-true _ _ a.0;
          fresh = not-true _ b.0;
          free = may_free is p q.placed (unplaced q) q.memory e (λ _ _. refl) b.1;
          value = may_value is p q.placed (unplaced q) q.memory e (λ _ _. refl) b.1;
        },
        cc,
      )
  | inr fails ↦
      let none : None ≡ Some after = sym (cond-false _ _ _ fails) ∙ h in
      absurd cc
]

-- an entry that is ready is placed
pub place_does : (is : List Instruction) (p : Preserved) (q : OrderPosition) (e : ℕ) → Ready is p q.placed (contents is q.memory) e
    → place is p q e ≡ Some (placing is q e)
unfolding place
place_does is p q e ready =
    let may_be : may_carry_out is p (unplaced q) q.memory e ≡ true =
    may_from is p q.placed (unplaced q) q.memory e (λ _ _. refl) ready.free ready.value in
    cond-true _ _ _ (and_from _ _ (lt-ltb _ _ ready.below) (and_from _ _ (not_from_false _ ready.fresh) may_be))

-- placing an entry has the effect of a step
pub place_effect : (is : List Instruction) (q : OrderPosition) (e : ℕ)
    → Effect is q.placed (contents is q.memory) e (placing is q e).placed (contents is (placing is q e).memory)
unfolding placing
place_effect is q e = record {
  placed = or_left (e == e) (q.placed e) (eq-eqb e e refl);
  others = λ i other. ap (λ b. b || q.placed i) (ne_eqb i e other);
  written = λ writes r _ _ address. stored_here is q.memory e r writes address;
  same = λ r _ _ writes-not. stored_other is q.memory e r writes-not;
}

-- where all entries are placed, each one is
pub all_placed_each : (is : List Instruction) (q : OrderPosition) → all_placed is q ≡ true → (e : ℕ) → e < length is → q.placed e ≡ true
unfolding all_placed
all_placed_each is q all e below = not-false _ (some_below_fails (unplaced q) (length is) (not-true _ all) e below)

-- where each entry is placed, all are
pub each_all_placed : (is : List Instruction) (q : OrderPosition) → ((e : ℕ) → e < length is → q.placed e ≡ true) → all_placed is q ≡ true
unfolding all_placed
each_all_placed is q each =
    not_from_false _
    (some_below_none (unplaced q) (length is) (λ e below h. both_ways (unplaced q e) (not_from_true (q.placed e) (each e below)) h))

module _ (is : List Instruction) (p : Preserved) (laws : Laws is p) where
  -- entries that lead from s to the end are what is left of a lawful order at s
  run_from : (o : List ℕ) (s q : OrderPosition) → run (place is p) s o ≡ Some q → all_placed is q ≡ true
      → From is p s.placed (contents is s.memory) o
  run_from [] s q h all =
      let same : s ≡ q = cc in
      from_end is p s.placed (contents is s.memory) (rw same (all_placed_each is q all))
  run_from (e ∷ o) s q h all = go (place is p s e) refl h (λ after h'. run_from o after q h' all)
    where
      go : (next : Option OrderPosition) → place is p s e ≡ next → onward next (λ after. run (place is p) after o) ≡ Some q
          → ((after : OrderPosition) → run (place is p) after o ≡ Some q → From is p after.placed (contents is after.memory) o)
          → From is p s.placed (contents is s.memory) (e ∷ o)
      go None a b rest = absurd cc
      go (Some after) a b rest =
          let step = place_ready is p s after e a in
          let onwards : run (place is p) (placing is s e) o ≡ Some q = subst (λ (x : OrderPosition). run (place is p) x o ≡ Some q) step.1 b in
          forward is p laws s.placed (placing is s e).placed (contents is s.memory) (contents is (placing is s e).memory) e o
          (place_effect is s e) step.0 (rest (placing is s e) onwards)

  -- what is left of a lawful order at s leads from s to the end
  from_run : (o : List ℕ) (s : OrderPosition) → From is p s.placed (contents is s.memory) o
      → (q : OrderPosition) × (run (place is p) s o ≡ Some q) × (all_placed is q ≡ true)
  from_run [] s from = (s, refl, each_all_placed is s (end_from is p s.placed (contents is s.memory) from))
  from_run (e ∷ o) s from =
      let ready = ready_here is p laws s.placed (contents is s.memory) e o from in
      let left =
      backward is p laws s.placed (placing is s e).placed (contents is s.memory) (contents is (placing is s e).memory) e o
      (place_effect is s e) ready from in
      let rest = from_run o (placing is s e) left in
      (rest.0, ap (λ (x : Option OrderPosition). onward x (λ after. run (place is p) after o)) (place_does is p s e ready) ∙ rest.1, rest.2)

  -- entries that lead from the opening to the end are a lawful order
  pub order_lawful : (o : List ℕ) (q : OrderPosition) → run (place is p) order_opening o ≡ Some q → all_placed is q ≡ true → Lawful is p o
  unfolding order_opening
  order_lawful o q h all =
      lawful_out is p order_opening.placed (contents is order_opening.memory) o (λ _. refl) (λ _. refl) (run_from o order_opening q h all)

  -- a lawful order leads from the opening to the end
  pub lawful_order : (o : List ℕ) → Lawful is p o → (q : OrderPosition) × (run (place is p) order_opening o ≡ Some q) × (all_placed is q ≡ true)
  unfolding order_opening
  lawful_order o lawful =
      from_run o order_opening (lawful_in is p order_opening.placed (contents is order_opening.memory) o (λ _. refl) (λ _. refl) lawful)

-- each code carries out the entry with its number
pub carried_places : (is : List Instruction) (p : Preserved) (s : OrderPosition) (o : List ℕ) (q : OrderPosition)
    → run (place is p) s o ≡ Some q → carried_out (place is p) places s o ≡ o
carried_places is p s [] q h = refl
carried_places is p s (e ∷ o) q h = ap (λ (x : List ℕ). e ∷ x) (go (place is p s e) h (λ after h'. carried_places is p after o q h'))
  where
    go : (next : Option OrderPosition) → onward next (λ after. run (place is p) after o) ≡ Some q
        → ((after : OrderPosition) → run (place is p) after o ≡ Some q → carried_out (place is p) places after o ≡ o)
        → listed_from next (λ after. carried_out (place is p) places after o) ≡ o
    go None h' rest = absurd cc
    go (Some after) h' rest = rest after h'
