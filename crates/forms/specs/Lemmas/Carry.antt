-- Whether an entry may be carried out, by the test of it, and what memory holds after it; for any pending entries and any memory.
use Rattle.std.specs.Prelude.{◌≡◌, ℕ, ◌<◌, ◌≤◌, Bool, true, false, not, ◌&&◌, List, Some, None, Option, ◌==◌, ◌≢◌}
use Rattle.std.proofs.Math.Path.{refl, subst}
use Rattle.std.proofs.Common.{sym, ◌∙◌, ap, arith}
use Rattle.std.proofs.Math.Logic.{inl, inr}
use Rattle.std.proofs.lemmas.Bool.{and_from, and_parts, both_ways, cases_Bool, cond-false, cond-true, eq-eqb, eqb-true, not_from_false, not-true, or_cases, or_left, or_right}
use Rattle.traces.specs.declared.entry.Address.{Address}
use Rattle.traces.specs.declared.entry.Instruction.{Instruction}
use Rattle.traces.specs.Adding.{same_address}
use Rattle.forms.specs.Carrying.{contents, forwarded, forwarding, keeping, last_below, may_carry_out, seen, some_below, stored}
use Rattle.forms.specs.Entries.{Earlier, SameAddress, instruction_at, reads_at, writes_at}
use Rattle.forms.specs.PreservedOrder.{Preserved}
use Rattle.forms.specs.Lemmas.Basics.{decides_same_address, last_below_none, last_below_some, some_below_fails, some_below_none}
use Rattle.forms.specs.Lemmas.Steps.{Own, Sees}

-- an entry sees one value only
pub sees_one : (is : List Instruction) (P : ℕ → Bool) (M : ℕ → ℕ) (e x y : ℕ) → Sees is P M e x → Sees is P M e y → x ≡ y
sees_one is P M e x y (inl a) (inl b) =
    let at_most : a.0 ≤ b.0 = b.2 a.0 a.1 in
    let at_least : b.0 ≤ a.0 = a.2 b.0 b.1 in
    let same : a.0 ≡ b.0 = omega arith in
    a.3 ∙ ap (λ w. (instruction_at is w).written) same ∙ sym b.3
sees_one is P M e x y (inl a) (inr b) = absurd (b.0 a.0 a.1)
sees_one is P M e x y (inr a) (inl b) = absurd (a.0 b.0 b.1)
sees_one is P M e x y (inr a) (inr b) = a.1 ∙ sym b.1

-- what the test of e says, where the pending entries earlier on e's thread are the unplaced ones; P says which entries are placed
module _ (is : List Instruction) (p : Preserved) (P pending : ℕ → Bool) (memory : Address → ℕ) (e : ℕ)
    (agree : (i : ℕ) → Earlier is i e → pending i ≡ not (P i)) where
  -- what is known of an entry that passes the test of keeping ahead
  keeping_parts : (i : ℕ) → i < e → keeping is p pending e i ≡ true → Earlier is i e × (P i ≡ false) × (p.ahead i e ≡ true)
  unfolding keeping
  keeping_parts i before h =
      let a = and_parts ((instruction_at is i).thread == (instruction_at is e).thread) (pending i && p.ahead i e) h in
      let b = and_parts (pending i) (p.ahead i e) a.1 in
      let earlier : Earlier is i e = (before, eqb-true _ _ a.0) in
      (earlier, not-true (P i) (sym (agree i earlier) ∙ b.0), b.1)

  -- what passes the test of keeping ahead
  keeping_from : (i : ℕ) → Earlier is i e → P i ≡ false → p.ahead i e ≡ true → keeping is p pending e i ≡ true
  unfolding keeping
  keeping_from i earlier unplaced ahead =
      and_from _ _ (eq-eqb _ _ earlier.1) (and_from _ _ (agree i earlier ∙ not_from_false (P i) unplaced) ahead)

  -- what is known of an entry that passes the test of forwarding
  forwarding_parts : (i : ℕ) → i < e → forwarding is pending e i ≡ true → Own is P e i
  unfolding forwarding
  forwarding_parts i before h =
      let same : Bool = same_address (instruction_at is i).address (instruction_at is e).address in
      let a = and_parts ((instruction_at is i).thread == (instruction_at is e).thread) (pending i && (writes_at is i && same)) h in
      let b = and_parts (pending i) (writes_at is i && same) a.1 in
      let c = and_parts (writes_at is i) same b.1 in
      let earlier : Earlier is i e = (before, eqb-true _ _ a.0) in
      (earlier, not-true (P i) (sym (agree i earlier) ∙ b.0), c.0, (decides_same_address _ _).0 c.1)

  -- what passes the test of forwarding
  forwarding_from : (i : ℕ) → Own is P e i → forwarding is pending e i ≡ true
  unfolding forwarding
  forwarding_from i own =
      and_from _ _ (eq-eqb _ _ own.0.1)
      (and_from _ _ (agree i own.0 ∙ not_from_false (P i) own.1) (and_from _ _ own.2 ((decides_same_address _ _).1 own.3)))

  -- what the search for the latest entry that forwards gives is what e sees
  sees_forwarded : (found : Option ℕ) → last_below (forwarding is pending e) e ≡ found
      → Sees is P (contents is memory) e (forwarded is found (contents is memory e))
  sees_forwarded None h = inr (λ w own. last_below_none (forwarding is pending e) e h w own.0.0 (forwarding_from w own), refl)
  sees_forwarded (Some w) h =
      let latest = last_below_some (forwarding is pending e) e w h in
      inl (w, forwarding_parts w latest.0 latest.1, λ v own. latest.2 v own.0.0 (forwarding_from v own), refl)

  -- what the rules say e sees is what e sees
  sees_seen : Sees is P (contents is memory) e (seen is pending memory e)
  unfolding seen
  sees_seen = sees_forwarded (last_below (forwarding is pending e) e) refl

  -- nothing unplaced keeps ahead of an entry that may be carried out
  pub may_free : may_carry_out is p pending memory e ≡ true → (i : ℕ) → Earlier is i e → P i ≡ false → p.ahead i e ≢ true
  unfolding may_carry_out
  may_free passes i earlier unplaced ahead =
      let none-keeps = not-true _ (and_parts _ _ passes).0 in
      both_ways (keeping is p pending e i) (some_below_fails (keeping is p pending e) e none-keeps i earlier.0) (keeping_from i earlier unplaced ahead)

  -- an entry that may be carried out and reads has read what it sees
  pub may_value : may_carry_out is p pending memory e ≡ true → reads_at is e ≡ true → Sees is P (contents is memory) e (instruction_at is e).read
  unfolding may_carry_out
  may_value passes reads =
      elim (or_cases (not (reads_at is e)) ((instruction_at is e).read == seen is pending memory e) (and_parts _ _ passes).1) [
        | inl reads-not ↦ absurd (both_ways (reads_at is e) (not-true _ reads-not) reads)
        | inr same ↦ let S : ℕ → Type 0 = λ x. Sees is P (contents is memory) e x in subst S (sym (eqb-true _ _ same)) sees_seen
      ]

  -- an entry of which both hold may be carried out
  pub may_from : ((i : ℕ) → Earlier is i e → P i ≡ false → p.ahead i e ≢ true)
      → (reads_at is e ≡ true → Sees is P (contents is memory) e (instruction_at is e).read) → may_carry_out is p pending memory e ≡ true
  unfolding may_carry_out
  may_from free value =
      let none-keeps : some_below (keeping is p pending e) e ≡ false =
      some_below_none (keeping is p pending e) e (λ i before h. let keeps = keeping_parts i before h in free i keeps.0 keeps.1 keeps.2) in
      and_from _ _ (not_from_false _ none-keeps)
      (elim (cases_Bool (reads_at is e)) [
        | inl reads ↦ or_right _ _ (eq-eqb _ _ (sees_one is P (contents is memory) e _ _ (value reads) sees_seen))
        | inr reads-not ↦ or_left _ _ (not_from_false _ reads-not)
      ])

-- what an entry wrote is what memory holds at its address afterwards
pub stored_here : (is : List Instruction) (memory : Address → ℕ) (e r : ℕ) → writes_at is e ≡ true → SameAddress is e r
    → contents is (stored is memory e) r ≡ (instruction_at is e).written
unfolding stored
stored_here is memory e r writes address =
    ap (λ (m : Address → ℕ). contents is m r) (cond-true (writes_at is e) _ _ writes)
    ∙ cond-true _ _ _ ((decides_same_address _ _).1 (sym address))

-- and memory holds what it held at every other address
pub stored_other : (is : List Instruction) (memory : Address → ℕ) (e r : ℕ) → (writes_at is e ≡ true → SameAddress is e r → ⊥)
    → contents is (stored is memory e) r ≡ contents is memory r
unfolding stored
stored_other is memory e r writes-not = elim (cases_Bool (writes_at is e)) [
  | inl writes ↦
      ap (λ (m : Address → ℕ). contents is m r) (cond-true (writes_at is e) _ _ writes)
      ∙ elim (cases_Bool (same_address (instruction_at is r).address (instruction_at is e).address)) [
        | inl same ↦ absurd (writes-not writes (sym ((decides_same_address _ _).0 same)))
        | inr different ↦ cond-false _ _ _ different
      ]
  | inr no_write ↦ ap (λ (m : Address → ℕ). contents is m r) (cond-false (writes_at is e) _ _ no_write)
]
