-- Whether a lawful order exists, by trying each entry at each place.
-- It computes at instructions that are written out and tables that compute: `refl` closes `allowed m is ≡ true` and `≡ false` under the line
--   unfolding allowed
-- which opens all that the search computes with. For `decides is p` alone, where p computes, the line is `unfolding decides`.
use Rattle.std.proofs.Common.{◌≡◌, ℕ, zero, suc, ◌<◌, Bool, true, false, not, ◌↔◌, List, [], ◌∷◌, length, Some, None, count_by, Option, sym, refl, ap, ◌∙◌, subst, arith}
use Rattle.std.specs.List.{range_with_len}
use Rattle.std.proofs.lemmas.Bool.{both_ways, not_from_false, not_from_true}
use Rattle.traces.specs.declared.entry.Instruction.{Instruction}
use Rattle.traces.specs.Kinds.{addressed, writes}
use Rattle.models.specs.declared.access.Access.{Access}
use Rattle.models.specs.Tables.{Tables}
use Rattle.forms.specs.Carrying.{forwarding, keeping, may_carry_out, seen, some_below, stored}
use Rattle.forms.specs.Lawful.{Allows, Lawful}
use Rattle.forms.specs.OrderMachine.{OrderPosition, all_placed, order_opening, place, placing, unplaced}
use Rattle.forms.specs.PreservedOrder.{Laws, Preserved, preserved}
use Rattle.forms.specs.Runs.{onward, run}
use Rattle.forms.specs.Lemmas.Basics.{some_below_decides}
use Rattle.forms.specs.Lemmas.Counting.{count_one_less, count_suc}
use Rattle.forms.specs.Lemmas.Placing.{all_placed_each, lawful_order, order_lawful, place_effect, place_ready}
use Rattle.forms.proofs.Preserving.{preserved_laws}

-- where every number below n passes, n are counted
pub count_all : (p : ℕ → Bool) (n : ℕ) → ((i : ℕ) → i < n → p i ≡ true) → count_by p (range_with_len 0 n) ≡ n
count_all p zero all = refl
count_all p (suc n) all =
    omega (arith, count_suc p n true (sym (all n (omega arith))), count_all p n (λ i below. all i (omega arith)))

-- where no number below n passes, none is counted
pub count_none : (p : ℕ → Bool) (n : ℕ) → ((i : ℕ) → i < n → p i ≡ false) → count_by p (range_with_len 0 n) ≡ 0
count_none p zero none = refl
count_none p (suc n) none =
    omega (arith, count_suc p n false (sym (none n (omega arith))), count_none p n (λ i below. none i (omega arith)))

-- what a test says of a position, if there is one
abbrev pub passes : Option OrderPosition → (OrderPosition → Bool) → Bool
passes None test = false
passes (Some q) test = test q

-- whether k entries can be placed from q on, after which all are placed
abbrev pub ends_after : List Instruction → Preserved → ℕ → OrderPosition → Bool
ends_after is p zero q = all_placed is q
ends_after is p (suc k) q = some_below (λ e. passes (place is p q e) (λ after. ends_after is p k after)) (length is)

-- whether a lawful order exists
unfoldable pub decides : List Instruction → Preserved → Bool
unfolding keeping forwarding seen may_carry_out stored order_opening placing place all_placed
decides is p = ends_after is p (length is) order_opening

-- whether a model allows a trace
unfoldable pub allowed : Tables → List Instruction → Bool
unfolding preserved decides
allowed m is = decides is (preserved m is)

-- how many entries are left to place
abbrev left : List Instruction → OrderPosition → ℕ
left is q = count_by (unplaced q) (range_with_len 0 (length is))

-- at the opening, all are left
left_opening : (is : List Instruction) → left is order_opening ≡ length is
unfolding order_opening
left_opening is = count_all (unplaced order_opening) (length is) (λ _ _. refl)

-- where all are placed, none is left
left_none : (is : List Instruction) (q : OrderPosition) → all_placed is q ≡ true → left is q ≡ 0
left_none is q all = count_none (unplaced q) (length is) (λ e below. not_from_true (q.placed e) (all_placed_each is q all e below))

-- one less is left after an entry that was unplaced
left_less : (is : List Instruction) (q : OrderPosition) (e : ℕ) → e < length is → q.placed e ≡ false → left is q ≡ suc (left is (placing is q e))
left_less is q e below fresh =
    let effect = place_effect is q e in
    count_one_less (unplaced q) (unplaced (placing is q e)) (length is) e below (not_from_false _ fresh) (not_from_true _ effect.placed)
    (λ i other. ap not (sym (effect.others i other)))

module _ (is : List Instruction) (p : Preserved) where
  -- some entries lead from s to the end
  Reaches : OrderPosition → Type 0
  Reaches s = (o : List ℕ) × (q : OrderPosition) × (run (place is p) s o ≡ Some q) × (all_placed is q ≡ true)

  -- where the search says yes, there are such entries
  found : (k : ℕ) (s : OrderPosition) → ends_after is p k s ≡ true → Reaches s
  unfolding Reaches
  found zero s h = ([], s, refl, h)
  found (suc k) s h =
      let some = (some_below_decides (λ e. passes (place is p s e) (λ after. ends_after is p k after)) (length is)).0 h in
      go some.0 (place is p s some.0) refl some.2 (λ after. found k after)
    where
      go : (e : ℕ) (next : Option OrderPosition) → place is p s e ≡ next → passes next (λ after. ends_after is p k after) ≡ true
          → ((after : OrderPosition) → ends_after is p k after ≡ true → Reaches after) → Reaches s
      go e None a b rest = absurd (both_ways false refl b)
      go e (Some after) a b rest =
          let reached = rest after b in (
            e ∷ reached.0,
            reached.1,
            ap (λ (x : Option OrderPosition). onward x (λ y. run (place is p) y reached.0)) a ∙ reached.2,
            reached.3,
          )

  -- where there are such entries, the search over as many entries as are left says yes
  finds : (o : List ℕ) (s q : OrderPosition) → run (place is p) s o ≡ Some q → all_placed is q ≡ true → ends_after is p (left is s) s ≡ true
  finds [] s q h all =
      let same : q ≡ s = cc in
      let ended : all_placed is s ≡ true = subst (λ (x : OrderPosition). all_placed is x ≡ true) same all in
      ap (λ k. ends_after is p k s) (left_none is s ended) ∙ ended
  finds (e ∷ o) s q h all = go (place is p s e) refl h (λ after h'. finds o after q h' all)
    where
      go : (next : Option OrderPosition) → place is p s e ≡ next → onward next (λ after. run (place is p) after o) ≡ Some q
          → ((after : OrderPosition) → run (place is p) after o ≡ Some q → ends_after is p (left is after) after ≡ true)
          → ends_after is p (left is s) s ≡ true
      go None a b rest = absurd cc
      go (Some after) a b rest =
          let step = place_ready is p s after e a in
          let one_less : left is s ≡ suc (left is after) =
          left_less is s e step.0.below step.0.fresh ∙ ap (λ (x : OrderPosition). suc (left is x)) (sym step.1) in
          let yes : passes (place is p s e) (λ x. ends_after is p (left is after) x) ≡ true =
          ap (λ (x : Option OrderPosition). passes x (λ y. ends_after is p (left is after) y)) a ∙ rest after b in
          ap (λ k. ends_after is p k s) one_less
          ∙ (some_below_decides (λ i. passes (place is p s i) (λ x. ends_after is p (left is after) x)) (length is)).1 (e, step.0.below, yes)

-- the search says yes exactly if a lawful order exists
pub decides_lawful : (is : List Instruction) (p : Preserved) → Laws is p → (decides is p ≡ true) ↔ ((o : List ℕ) × Lawful is p o)
unfolding decides Reaches
decides_lawful is p laws = (
  λ yes.
      let reached = found is p (length is) order_opening yes in
      (reached.0, order_lawful is p laws reached.0 reached.1 reached.2 reached.3),
  λ lawful.
      let complete = lawful_order is p laws lawful.0 lawful.1 in
      ap (λ k. ends_after is p k order_opening) (sym (left_opening is))
      ∙ finds is p lawful.0 order_opening complete.0 complete.1 complete.2,
)

-- the search says yes exactly if the model allows the trace, for every model with the two laws
pub allowed_lawful : (m : Tables)
    → ((i j : Access) → m.waiting i.kind ≡ false → m.ahead i j ≡ true)
    → ((i j : Access) → addressed i.kind ≡ true → writes j.kind ≡ true → i.address ≡ j.address → m.ahead i j ≡ true)
    → (is : List Instruction) → (allowed m is ≡ true) ↔ Allows m is
unfolding allowed
allowed_lawful m prompt coherent is = decides_lawful is (preserved m is) (preserved_laws m prompt coherent is)
