-- What each change of the rules machine's position does to the set of entries that are carried out: those that are issued and do not wait.
use Rattle.std.proofs.Common.{◌≡◌, ℕ, suc, ◌<◌, ◌≤◌, Bool, true, false, not, ◌&&◌, ◌||◌, ltb, ◌≢◌, List, length, Some, None, sym, refl, ap, ◌∙◌, subst, ap₂, inl, inr, arith}
use Rattle.std.proofs.lemmas.Bool.{and_from, and_left, and_parts, and_right, both_ways, cases_Bool, cases_eq, cases_lt, cond-false, cond-true, eq-eqb, le-ltb, lt-ltb, ltb-true, ne_eqb, not_from_false, not_from_true, or_left}
use Rattle.traces.specs.declared.entry.Instruction.{Instruction}
use Rattle.forms.specs.Carrying.{contents, may_carry_out}
use Rattle.forms.specs.Entries.{Earlier, instruction_at}
use Rattle.forms.specs.PreservedOrder.{Preserved}
use Rattle.forms.specs.RulesMachine.{RulesPosition, carry, counted, departed, is_issued, joined, rank, stepped, thread_slot}
use Rattle.forms.specs.Lemmas.Carry.{may_free, may_from, may_value, stored_here, stored_other}
use Rattle.forms.proofs.Ranks.{Slotted, issued_by, rank_one, rank_up, same_slot}
use Rattle.forms.specs.Lemmas.Steps.{Effect, Ready}

-- whether there is an entry i, and it is issued
abbrev pub is_out : List Instruction → RulesPosition → ℕ → Bool
is_out is q i = ltb i (length is) && is_issued is q i

-- whether entry i is carried out: it is issued and does not wait
abbrev pub is_done : List Instruction → RulesPosition → ℕ → Bool
is_done is q i = is_out is q i && not (q.waiting i)

-- what a position's memory holds at the address of r
abbrev pub holds : List Instruction → RulesPosition → ℕ → ℕ
holds is q r = contents is q.memory r

-- only issued entries wait
pub record Queued (is : List Instruction) (q : RulesPosition) : Type 0 where
  pub waiting_out : (i : ℕ) → q.waiting i ≡ true → is_out is q i ≡ true

-- a test against one more is the same, unless it is against the number itself
ltb_suc : (a b : ℕ) → a ≢ b → ltb a (suc b) ≡ ltb a b
ltb_suc a b different = elim (cases_lt a b) [
  | inl less ↦ lt-ltb a (suc b) (omega arith) ∙ sym (lt-ltb a b less)
  | inr more ↦ le-ltb a (suc b) (omega arith) ∙ sym (le-ltb a b more)
]

-- an entry whose rank is below the number that its thread has issued is issued
pub out_from : (is : List Instruction) (q : RulesPosition) (i : ℕ) → i < length is → rank is i < issued_by is q i → is_out is q i ≡ true
out_from is q i below less = and_from _ _ (lt-ltb _ _ below) (lt-ltb _ _ less)

-- an issued entry exists, and its rank is below that number
pub out_parts : (is : List Instruction) (q : RulesPosition) (i : ℕ) → is_out is q i ≡ true → (i < length is) × (rank is i < issued_by is q i)
out_parts is q i out = let both = and_parts (ltb i (length is)) (is_issued is q i) out in (ltb-true _ _ both.0, ltb-true _ _ both.1)

-- an issued entry that does not wait is carried out
pub done_out : (is : List Instruction) (q : RulesPosition) (i : ℕ) → is_out is q i ≡ true → q.waiting i ≡ false → is_done is q i ≡ true
done_out is q i out waits-not = and_from _ _ out (not_from_false _ waits-not)

-- an entry that waits is not
pub done_waiting : (is : List Instruction) (q : RulesPosition) (i : ℕ) → q.waiting i ≡ true → is_done is q i ≡ false
done_waiting is q i waits = and_right _ _ (not_from_true _ waits)

-- an issued entry waits exactly if it is not carried out
pub waiting_not_done : (is : List Instruction) (q : RulesPosition) (i : ℕ) → is_out is q i ≡ true → q.waiting i ≡ not (is_done is q i)
waiting_not_done is q i out = elim (cases_Bool (q.waiting i)) [
  | inl waits ↦ waits ∙ sym (not_from_false _ (done_waiting is q i waits))
  | inr waits-not ↦ waits-not ∙ sym (not_from_true _ (done_out is q i out waits-not))
]

module _ (is : List Instruction) (slotted : Slotted is) (q : RulesPosition) (queued : Queued is q) (e : ℕ) (below : e < length is) where
  -- where e is issued or the next of its thread, all earlier ones of the thread are issued
  out_before : (i : ℕ) → Earlier is i e → rank is e ≤ issued_by is q e → is_out is q i ≡ true
  out_before i earlier reached =
      let same : issued_by is q i ≡ issued_by is q e = ap (λ t. q.issued t) (same_slot is i e earlier.1) in
      out_from is q i (omega (arith, earlier.0)) (omega (arith, rank_up is i e earlier))

  -- e is the next entry of its thread
  module _ (is-next : rank is e ≡ issued_by is q e) where
    -- it is not issued, does not wait, and is not carried out
    next_not_out : is_out is q e ≡ false
    next_not_out = and_right _ _ (le-ltb (rank is e) (issued_by is q e) (omega arith))

    next_waits_not : q.waiting e ≡ false
    next_waits_not = elim (cases_Bool (q.waiting e)) [
      | inl waits ↦ absurd (both_ways (is_out is q e) next_not_out (queued.waiting_out e waits))
      | inr waits-not ↦ waits-not
    ]

    pub next_not_done : is_done is q e ≡ false
    next_not_done = and_left _ _ next_not_out

    -- where e is counted, its thread has issued one more
    counted_issued : (i : ℕ) → (instruction_at is i).thread ≡ (instruction_at is e).thread → issued_by is (counted q (thread_slot is e)) i ≡ suc (issued_by is q e)
    unfolding counted
    counted_issued i thread = cond-true _ _ _ (eq-eqb _ _ (same_slot is i e thread))

    -- so e is issued
    counted_out : is_out is (counted q (thread_slot is e)) e ≡ true
    counted_out = out_from is (counted q (thread_slot is e)) e below (omega (arith, counted_issued e refl))

    -- and nothing changes of what else is issued
    counted_others : (i : ℕ) → i ≢ e → is_out is (counted q (thread_slot is e)) i ≡ is_out is q i
    unfolding counted
    counted_others i other = elim (cases_lt i (length is)) [
      | inl i-below ↦ elim (cases_eq (thread_slot is i) (thread_slot is e)) [
        | inl slot ↦
            let thread : (instruction_at is i).thread ≡ (instruction_at is e).thread = slotted.same_thread i e i-below below slot in
            let different : rank is i ≢ issued_by is q e = λ same. other (rank_one is i e thread (same ∙ sym is-next)) in
            let once_more = ap (ltb (rank is i)) (counted_issued i thread) in
            let back = ap (ltb (rank is i)) (ap (λ t. q.issued t) (sym slot)) in
            ap (λ b. ltb i (length is) && b) (once_more ∙ (ltb_suc (rank is i) (issued_by is q e) different ∙ back))
        | inr slot ↦ ap (λ n. ltb i (length is) && ltb (rank is i) n) (cond-false _ _ _ (ne_eqb _ _ slot))
      ]
      | inr past ↦ and_left _ _ (le-ltb _ _ past) ∙ sym (and_left _ _ (le-ltb _ _ past))
    ]

    -- still only issued entries wait
    pub counted_queued : Queued is (counted q (thread_slot is e))
    unfolding counted
    counted_queued = record {
      waiting_out = λ i waits. elim (cases_eq i e) [
        | inl same ↦ let R : ℕ → Type 0 = λ x. is_out is (counted q (thread_slot is e)) x ≡ true in subst R (sym same) counted_out
        | inr other ↦ counted_others i other ∙ queued.waiting_out i waits
      ];
    }

    -- e counts as carried out, and nothing changes of what else is
    pub counted_done : is_done is (counted q (thread_slot is e)) e ≡ true
    unfolding counted
    counted_done = and_from _ _ counted_out (not_from_false _ next_waits_not)

    pub counted_rest : (i : ℕ) → i ≢ e → is_done is (counted q (thread_slot is e)) i ≡ is_done is q i
    unfolding counted
    counted_rest i other = ap (λ b. b && not (q.waiting i)) (counted_others i other)

    -- the waiting entries earlier on e's thread are those that are not carried out
    pub counted_agree : (i : ℕ) → Earlier is i e → (counted q (thread_slot is e)).waiting i ≡ not (is_done is q i)
    unfolding counted
    counted_agree i earlier = waiting_not_done is q i (out_before i earlier (omega arith))

    -- where e is counted and joined to those that wait, it waits
    pub joined_waits : (joined (counted q (thread_slot is e)) e).waiting e ≡ true
    unfolding counted joined
    joined_waits = or_left _ _ (eq-eqb e e refl)

    -- nothing changes of what else waits
    joined_others : (i : ℕ) → i ≢ e → (joined (counted q (thread_slot is e)) e).waiting i ≡ q.waiting i
    unfolding counted joined
    joined_others i other = ap (λ b. b || q.waiting i) (ne_eqb i e other)

    -- nothing changes of what is carried out
    pub joined_done : (i : ℕ) → is_done is (joined (counted q (thread_slot is e)) e) i ≡ is_done is q i
    unfolding counted joined
    joined_done i = elim (cases_eq i e) [
      | inl same ↦
          let R : ℕ → Type 0 = λ x. is_done is (joined (counted q (thread_slot is e)) e) x ≡ is_done is q x in
          subst R (sym same) (done_waiting is (joined (counted q (thread_slot is e)) e) e joined_waits ∙ sym next_not_done)
      | inr other ↦ ap₂ (λ x y. x && not y) (counted_others i other) (joined_others i other)
    ]

    -- still only issued entries wait
    pub joined_queued : Queued is (joined (counted q (thread_slot is e)) e)
    unfolding counted joined
    joined_queued = record {
      waiting_out = λ i waits. elim (cases_eq i e) [
        | inl same ↦ let R : ℕ → Type 0 = λ x. is_out is (counted q (thread_slot is e)) x ≡ true in subst R (sym same) counted_out
        | inr other ↦ counted_others i other ∙ queued.waiting_out i (sym (joined_others i other) ∙ waits)
      ];
    }

    -- e's thread has issued one more
    pub joined_issued : (i : ℕ) → (instruction_at is i).thread ≡ (instruction_at is e).thread
        → issued_by is (joined (counted q (thread_slot is e)) e) i ≡ suc (issued_by is q e)
    unfolding joined
    joined_issued i thread = counted_issued i thread

  -- e waits
  module _ (waits : q.waiting e ≡ true) where
    -- where e departs, it waits no longer
    departed_here : (departed q e).waiting e ≡ false
    unfolding departed
    departed_here = and_left _ _ (not_from_true _ (eq-eqb e e refl))

    -- nothing changes of what else waits
    departed_others : (i : ℕ) → i ≢ e → (departed q e).waiting i ≡ q.waiting i
    unfolding departed
    departed_others i other = ap (λ b. not b && q.waiting i) (ne_eqb i e other)

    -- e counts as carried out, and nothing changes of what else is
    pub departed_done : is_done is (departed q e) e ≡ true
    unfolding departed
    departed_done = and_from _ _ (queued.waiting_out e waits) (not_from_false _ departed_here)

    pub departed_rest : (i : ℕ) → i ≢ e → is_done is (departed q e) i ≡ is_done is q i
    unfolding departed
    departed_rest i other = ap (λ b. is_out is q i && not b) (departed_others i other)

    -- the waiting entries earlier on e's thread are those that are not carried out
    pub departed_agree : (i : ℕ) → Earlier is i e → (departed q e).waiting i ≡ not (is_done is q i)
    unfolding departed
    departed_agree i earlier =
        let other : i ≢ e = omega (arith, earlier.0) in
        let less : rank is e < issued_by is q e = (out_parts is q e (queued.waiting_out e waits)).1 in
        departed_others i other ∙ waiting_not_done is q i (out_before i earlier (omega arith))

    -- still only issued entries wait
    pub departed_queued : Queued is (departed q e)
    unfolding departed
    departed_queued = record { waiting_out = λ i waits-still. queued.waiting_out i (and_parts _ _ waits-still).1 }

-- e is carried out at q, where P says what was carried out before
module _ (is : List Instruction) (p : Preserved) (q : RulesPosition) (P : ℕ → Bool) (e : ℕ) (below : e < length is)
    (agree : (i : ℕ) → Earlier is i e → q.waiting i ≡ not (P i)) where
  -- an entry that is carried out was ready
  pub carry_ready : (u : RulesPosition) → P e ≡ false → carry is p q e ≡ Some u → Ready is p P (holds is q) e × (u ≡ stepped is q e)
  unfolding carry
  carry_ready u fresh h = elim (cases_Bool (may_carry_out is p q.waiting q.memory e)) [
    | inl may ↦
        let same : Some (stepped is q e) ≡ Some u = sym (cond-true _ _ _ may) ∙ h in (
          record {
            below = below;
            fresh = fresh;
            free = may_free is p P q.waiting q.memory e agree may;
            value = may_value is p P q.waiting q.memory e agree may;
          },
          cc,
        )
    | inr may-not ↦
        let none : None ≡ Some u = sym (cond-false _ _ _ may-not) ∙ h in
        absurd cc
  ]

  -- an entry that is ready is carried out
  pub carry_does : Ready is p P (holds is q) e → carry is p q e ≡ Some (stepped is q e)
  unfolding carry
  carry_does ready = cond-true _ _ _ (may_from is p P q.waiting q.memory e agree ready.free ready.value)

-- carrying e out has the effect of a step
pub stepped_effect : (is : List Instruction) (q : RulesPosition) (P : ℕ → Bool) (e : ℕ) → is_done is q e ≡ true
    → ((i : ℕ) → i ≢ e → is_done is q i ≡ P i) → Effect is P (holds is q) e (is_done is (stepped is q e)) (holds is (stepped is q e))
unfolding stepped
stepped_effect is q P e done others = record {
  placed = done;
  others = others;
  written = λ writes r _ _ address. stored_here is q.memory e r writes address;
  same = λ r _ _ writes-not. stored_other is q.memory e r writes-not;
}

-- and still only issued entries wait
pub stepped_queued : (is : List Instruction) (q : RulesPosition) (e : ℕ) → Queued is q → Queued is (stepped is q e)
unfolding stepped
stepped_queued is q e queued = record { waiting_out = queued.waiting_out }
