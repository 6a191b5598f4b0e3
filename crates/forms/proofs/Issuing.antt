-- Whatever the rules machine carries out to its end is a lawful order, and it can carry out each lawful order.
-- At each position that it reaches, only entries of the trace wait.
use Rattle.std.proofs.Common.{◌≡◌, ℕ, zero, suc, ◌+◌, ◌-◌, ◌<◌, ◌≤◌, Bool, true, false, not, ◌||◌, eqb, ltb, ◌⊎◌, List, [], ◌∷◌, ◌++◌, length, Some, None, Option, sym, refl, ap, ◌∙◌, subst, ap₂, inl, inr, append_assoc, append-nil, arith}
use mathlib.Core.Path.{fun_ext}
use Rattle.std.proofs.lemmas.Bool.{and_from, and_left, and_parts, and_right, both_ways, cases_Bool, cases_lt, cond-false, cond-true, eqb-true, le-ltb, lt-ltb, not-false, not_from_false, not_from_true, not-true, or_cases, or_from, or_parts}
use Rattle.traces.specs.declared.entry.Instruction.{Instruction}
use Rattle.forms.specs.Carrying.{may_carry_out}
use Rattle.forms.specs.Lawful.{Lawful}
use Rattle.forms.specs.PreservedOrder.{Laws, Preserved}
use Rattle.forms.specs.RulesMachine.{RulesPosition, act, acts, all_out, carried_at_once, carry, counted, departed, is_issued, issue, joined, leave, next}
use Rattle.forms.specs.RulesMachine.{rank, rules_opening, stepped, thread_slot}
use Rattle.forms.specs.Runs.{carried_out, listed_from, onward, run}
use Rattle.forms.specs.Lemmas.Basics.{some_below_fails, some_below_none}
use Rattle.forms.proofs.Queues.{Queued, carry_does, carry_ready, counted_agree, counted_done, counted_queued, counted_rest, departed_agree}
use Rattle.forms.proofs.Queues.{departed_done, departed_queued, departed_rest, done_out, done_waiting, holds, is_done, is_out, joined_done, joined_issued}
use Rattle.forms.proofs.Queues.{joined_queued, joined_waits, next_not_done, out_from, out_parts, stepped_effect, stepped_queued, waiting_not_done}
use Rattle.forms.proofs.Ranks.{Slotted, issued_by, next_is, next_parts, rank_find, same_slot}
use Rattle.forms.specs.Lemmas.Steps.{From, backward, end_from, forward, from_end, lawful_in, lawful_out, ready_here}

-- runs of any machine over two lists of codes, one after the other
module _ {S : Type 0} (step : S → ℕ → Option S) (carries : S → ℕ → List ℕ) where
  -- the second list goes on from the position to which the first leads
  run_append : (cs ds : List ℕ) (s u : S) → run step s cs ≡ Some u → run step s (cs ++ ds) ≡ run step u ds
  run_append [] ds s u h = let same : s ≡ u = cc in ap (λ x. run step x ds) same
  run_append (c ∷ cs) ds s u h = go (step s c) h (λ v. run_append cs ds v u)
    where
      go : (found : Option S) → onward found (λ v. run step v cs) ≡ Some u
          → ((v : S) → run step v cs ≡ Some u → run step v (cs ++ ds) ≡ run step u ds)
          → onward found (λ v. run step v (cs ++ ds)) ≡ run step u ds
      go None h rest = absurd cc
      go (Some v) h rest = rest v h

  -- what both carry out is what the first does and then the second
  carried_append : (cs ds : List ℕ) (s u : S) → run step s cs ≡ Some u
      → carried_out step carries s (cs ++ ds) ≡ carried_out step carries s cs ++ carried_out step carries u ds
  carried_append [] ds s u h = let same : s ≡ u = cc in ap (λ x. carried_out step carries x ds) same
  carried_append (c ∷ cs) ds s u h = go (step s c) h (λ v. carried_append cs ds v u)
    where
      go : (found : Option S) → onward found (λ v. run step v cs) ≡ Some u
          → ((v : S) → run step v cs ≡ Some u → carried_out step carries v (cs ++ ds) ≡ carried_out step carries v cs ++ carried_out step carries u ds)
          → carries s c ++ listed_from found (λ v. carried_out step carries v (cs ++ ds))
          ≡ (carries s c ++ listed_from found (λ v. carried_out step carries v cs)) ++ carried_out step carries u ds
      go None h rest = absurd cc
      go (Some v) h rest =
          ap (λ x. carries s c ++ x) (rest v h)
          ∙ sym (append_assoc (carries s c) (carried_out step carries v cs) (carried_out step carries u ds))

-- what a code that is not refused does
module _ (is : List Instruction) (p : Preserved) where
  -- it issues an entry or lets one leave
  act_cases : (q u : RulesPosition) (c : ℕ) → act is p q c ≡ Some u
      → ((c < 8) × (issue is p q c (next is q c) ≡ Some u)) ⊎ ((8 ≤ c) × (leave is p q (c - 8) ≡ Some u))
  unfolding act
  act_cases q u c h = elim (cases_lt c 8) [
    | inl low ↦ inl (low, sym (cond-true _ _ _ (lt-ltb c 8 low)) ∙ h)
    | inr high ↦ inr (high, sym (cond-false _ _ _ (le-ltb c 8 high)) ∙ h)
  ]

  -- an entry that is issued joins those that wait, or is carried out at once
  issue_cases : (q u : RulesPosition) (t : ℕ) (found : Option ℕ) → issue is p q t found ≡ Some u
      → (e : ℕ) × (found ≡ Some e)
      × (((p.waits e ≡ true) × (u ≡ joined (counted q t) e)) ⊎ ((p.waits e ≡ false) × (carry is p (counted q t) e ≡ Some u)))
  unfolding issue
  issue_cases q u t None h = absurd cc
  issue_cases q u t (Some e) h = (
    e,
    refl,
    elim (cases_Bool (p.waits e)) [
      | inl waits ↦
          let same : Some (joined (counted q t) e) ≡ Some u = sym (cond-true _ _ _ waits) ∙ h in
          let after : u ≡ joined (counted q t) e = cc in
          inl (waits, after)
      | inr waits-not ↦ inr (waits-not, sym (cond-false _ _ _ waits-not) ∙ h)
    ],
  )

  -- an entry that leaves was waiting
  leave_parts : (q u : RulesPosition) (e : ℕ) → leave is p q e ≡ Some u → (q.waiting e ≡ true) × (carry is p (departed q e) e ≡ Some u)
  unfolding leave
  leave_parts q u e h = elim (cases_Bool (q.waiting e)) [
    | inl waits ↦ (waits, sym (cond-true _ _ _ waits) ∙ h)
    | inr waits-not ↦
        let none : None ≡ Some u = sym (cond-false _ _ _ waits-not) ∙ h in
        absurd cc
  ]

  -- an entry that is carried out changes nothing of what waits
  carry_waiting : (q u : RulesPosition) (e : ℕ) → carry is p q e ≡ Some u → u.waiting ≡ q.waiting
  unfolding carry stepped
  carry_waiting q u e h = elim (cases_Bool (may_carry_out is p q.waiting q.memory e)) [
    | inl may ↦
        let same : Some (stepped is q e) ≡ Some u = sym (cond-true _ _ _ may) ∙ h in
        let after : u ≡ stepped is q e = cc in
        ap (λ (x : RulesPosition). x.waiting) after
    | inr may-not ↦
        let none : None ≡ Some u = sym (cond-false _ _ _ may-not) ∙ h in
        absurd cc
  ]

-- every waiting entry is one of the trace
abbrev pub WaitingBelow : List Instruction → RulesPosition → Type 0
WaitingBelow is q = (i : ℕ) → q.waiting i ≡ true → i < length is

-- so it is at the opening
pub opening_waiting_below : (is : List Instruction) → WaitingBelow is rules_opening
unfolding rules_opening
opening_waiting_below is i waits = absurd (both_ways false refl waits)

-- so it is after each step from a position where it is so
module _ (is : List Instruction) (p : Preserved) (q u : RulesPosition) (below : WaitingBelow is q) where
  -- an entry is issued
  issue_waiting_below : (t : ℕ) → issue is p q t (next is q t) ≡ Some u → WaitingBelow is u
  unfolding counted joined
  issue_waiting_below t h i waits =
      let issued = issue_cases is p q u t (next is q t) h in
      let e : ℕ = issued.0 in
      elim issued.2 [
        | inl joins ↦
            let after : u.waiting i ≡ (eqb i e || q.waiting i) = ap (λ (x : RulesPosition). x.waiting i) joins.1 in
            elim (or_cases (eqb i e) (q.waiting i) (sym after ∙ waits)) [
              | inl same ↦
                  let equal : i ≡ e = eqb-true _ _ same in
                  let e-below : e < length is = (next_parts is q t e issued.1).0 in
                  omega arith
              | inr before ↦ below i before
            ]
        | inr carried ↦
            let after : u.waiting i ≡ q.waiting i = ap (λ (w : ℕ → Bool). w i) (carry_waiting is p (counted q t) u e carried.1) in
            below i (sym after ∙ waits)
      ]

  -- an entry leaves
  leave_waiting_below : (e : ℕ) → leave is p q e ≡ Some u → WaitingBelow is u
  unfolding departed
  leave_waiting_below e h i waits =
      let left = leave_parts is p q u e h in
      let after : u.waiting i ≡ (departed q e).waiting i = ap (λ (w : ℕ → Bool). w i) (carry_waiting is p (departed q e) u e left.1) in
      below i (and_parts _ _ (sym after ∙ waits)).1

  -- any code
  pub act_waiting_below : (c : ℕ) → act is p q c ≡ Some u → WaitingBelow is u
  act_waiting_below c h = elim (act_cases is p q u c h) [
    | inl issues ↦ issue_waiting_below c issues.1
    | inr leaves ↦ leave_waiting_below (c - 8) leaves.1
  ]

  -- of a trace with at most 64 entries, only codes below 72 are not refused
  pub act_code_below : (c : ℕ) → length is ≤ 64 → act is p q c ≡ Some u → c < 72
  act_code_below c few h = elim (act_cases is p q u c h) [
    | inl issues ↦ omega (arith, issues.0)
    | inr leaves ↦ omega (arith, leaves.0, below (c - 8) (leave_parts is p q u (c - 8) leaves.1).0)
  ]

-- so it is wherever codes lead from such a position
run_waiting_below : (is : List Instruction) (p : Preserved) (cs : List ℕ) (q u : RulesPosition) → WaitingBelow is q → run (act is p) q cs ≡ Some u
    → WaitingBelow is u
run_waiting_below is p [] q u below h = let same : q ≡ u = cc in subst (λ (x : RulesPosition). WaitingBelow is x) same below
run_waiting_below is p (c ∷ cs) q u below h = go (act is p q c) refl h (λ v v_below. run_waiting_below is p cs v u v_below)
  where
    go : (found : Option RulesPosition) → act is p q c ≡ found → onward found (λ v. run (act is p) v cs) ≡ Some u
        → ((v : RulesPosition) → WaitingBelow is v → run (act is p) v cs ≡ Some u → WaitingBelow is u)
        → WaitingBelow is u
    go None a h rest = absurd cc
    go (Some v) a h rest = rest v (act_waiting_below is p q v below c a) h

-- every position that codes reach from the opening has only entries of the trace waiting
pub waiting_below : (is : List Instruction) (p : Preserved) (cs : List ℕ) (q : RulesPosition) → run (act is p) rules_opening cs ≡ Some q
    → WaitingBelow is q
waiting_below is p cs q h = run_waiting_below is p cs rules_opening q (opening_waiting_below is) h

-- at the opening nothing is carried out
opening_done : (is : List Instruction) (i : ℕ) → is_done is rules_opening i ≡ false
unfolding rules_opening
opening_done is i =
    let zero-issued : is_issued is rules_opening i ≡ false = le-ltb (rank is i) 0 (omega arith) in
    and_left _ _ (and_right _ _ zero-issued)

-- memory holds 0 everywhere
opening_holds : (is : List Instruction) (r : ℕ) → holds is rules_opening r ≡ 0
unfolding rules_opening
opening_holds is r = refl

-- and nothing waits
opening_queued : (is : List Instruction) → Queued is rules_opening
unfolding rules_opening
opening_queued is = record { waiting_out = λ i waits. absurd (both_ways false refl waits) }

-- at the end every entry is carried out
all_out_done : (is : List Instruction) (q : RulesPosition) → all_out is q ≡ true → (e : ℕ) → e < length is → is_done is q e ≡ true
unfolding all_out
all_out_done is q h e below =
    let fails = some_below_fails (λ i. not (is_issued is q i) || q.waiting i) (length is) (not-true _ h) e below in
    let parts = or_parts (not (is_issued is q e)) (q.waiting e) fails in
    done_out is q e (and_from _ _ (lt-ltb _ _ below) (not-false _ parts.0)) parts.1

-- an entry that is carried out is issued, and does not wait
done_not_pending : (is : List Instruction) (q : RulesPosition) (e : ℕ) → is_done is q e ≡ true → (not (is_issued is q e) || q.waiting e) ≡ false
done_not_pending is q e done =
    let parts = and_parts (is_out is q e) (not (q.waiting e)) done in
    let issued = (and_parts (ltb e (length is)) (is_issued is q e) parts.0).1 in
    or_from _ _ (not_from_true _ issued) (not-true _ parts.1)

-- where every entry is carried out, it is the end
done_all_out : (is : List Instruction) (q : RulesPosition) → ((e : ℕ) → e < length is → is_done is q e ≡ true) → all_out is q ≡ true
unfolding all_out
done_all_out is q all =
    not_from_false _ (some_below_none (λ i. not (is_issued is q i) || q.waiting i) (length is)
    (λ e below pending. both_ways _ (done_not_pending is q e (all e below)) pending))

-- what is left of a lawful order at a position
abbrev Left : List Instruction → Preserved → RulesPosition → List ℕ → Type 0
Left is p q o = From is p (is_done is q) (holds is q) o

-- the same is left where the same is carried out
from_same : (is : List Instruction) (p : Preserved) (P P' : ℕ → Bool) (M : ℕ → ℕ) (o : List ℕ) → ((i : ℕ) → P i ≡ P' i)
    → From is p P M o → From is p P' M o
from_same is p P P' M o same from = let F : (ℕ → Bool) → Type 0 = λ X. From is p X M o in subst F (fun_ext same) from

module _ (is : List Instruction) (p : Preserved) (slotted : Slotted is) (laws : Laws is p) where
  -- what is left after an entry is issued and waits was left before
  before_joined : (q : RulesPosition) (e : ℕ) (o : List ℕ) → Queued is q → e < length is → rank is e ≡ issued_by is q e
      → (Queued is (joined (counted q (thread_slot is e)) e) → Left is p (joined (counted q (thread_slot is e)) e) o) → Left is p q o
  unfolding counted joined
  before_joined q e o queued below is-next rest =
      from_same is p _ _ (holds is q) o (joined_done is slotted q queued e below is-next) (rest (joined_queued is slotted q queued e below is-next))

  -- what is left after an entry is issued and carried out at once was left behind it
  before_counted : (q u : RulesPosition) (e : ℕ) (o : List ℕ) → Queued is q → e < length is → rank is e ≡ issued_by is q e
      → carry is p (counted q (thread_slot is e)) e ≡ Some u → (Queued is u → Left is p u o) → Left is p q (e ∷ o)
  unfolding counted
  before_counted q u e o queued below is-next carried rest =
      let v : RulesPosition = counted q (thread_slot is e) in
      let v-queued = counted_queued is slotted q queued e below is-next in
      let agree = counted_agree is slotted q queued e below is-next in
      let step = carry_ready is p v (is_done is q) e below agree u (next_not_done is slotted q queued e below is-next) carried in
      let effect =
      stepped_effect is v (is_done is q) e (counted_done is slotted q queued e below is-next) (counted_rest is slotted q queued e below is-next) in
      let R : RulesPosition → Type 0 = λ x. Queued is x → Left is p x o in
      forward is p laws (is_done is q) (is_done is (stepped is v e)) (holds is q) (holds is (stepped is v e)) e o effect step.0
      (subst R step.1 rest (stepped_queued is v e v-queued))

  -- what is left after an entry leaves was left behind it
  before_departed : (q u : RulesPosition) (e : ℕ) (o : List ℕ) → Queued is q → q.waiting e ≡ true → carry is p (departed q e) e ≡ Some u
      → (Queued is u → Left is p u o) → Left is p q (e ∷ o)
  unfolding departed
  before_departed q u e o queued waits carried rest =
      let below = (out_parts is q e (queued.waiting_out e waits)).0 in
      let v : RulesPosition = departed q e in
      let v-queued = departed_queued is slotted q queued e below waits in
      let agree = departed_agree is slotted q queued e below waits in
      let step = carry_ready is p v (is_done is q) e below agree u (done_waiting is q e waits) carried in
      let effect =
      stepped_effect is v (is_done is q) e (departed_done is slotted q queued e below waits) (departed_rest is slotted q queued e below waits) in
      let R : RulesPosition → Type 0 = λ x. Queued is x → Left is p x o in
      forward is p laws (is_done is q) (is_done is (stepped is v e)) (holds is q) (holds is (stepped is v e)) e o effect step.0
      (subst R step.1 rest (stepped_queued is v e v-queued))

  -- the same for the entry that a thread issues
  before_issue : (q u : RulesPosition) (t : ℕ) (o : List ℕ) → Queued is q → issue is p q t (next is q t) ≡ Some u
      → (Queued is u → Left is p u o) → Left is p q (carried_at_once p (next is q t) ++ o)
  before_issue q u t o queued h rest =
      let issued = issue_cases is p q u t (next is q t) h in
      let e : ℕ = issued.0 in
      let parts = next_parts is q t e issued.1 in
      let L : List ℕ → Type 0 = λ x. Left is p q (x ++ o) in
      let R : RulesPosition → Type 0 = λ x. Queued is x → Left is p x o in
      elim issued.2 [
        | inl joins ↦
            let at_once : carried_at_once p (next is q t) ≡ [] = ap (carried_at_once p) issued.1 ∙ cond-true _ _ _ joins.0 in
            let after : u ≡ joined (counted q (thread_slot is e)) e = joins.1 ∙ ap (λ s. joined (counted q s) e) (sym parts.1) in
            subst L (sym at_once) (before_joined q e o queued parts.0 parts.2 (subst R after rest))
        | inr carried ↦
            let at_once : carried_at_once p (next is q t) ≡ e ∷ [] = ap (carried_at_once p) issued.1 ∙ cond-false _ _ _ carried.0 in
            let carries : carry is p (counted q (thread_slot is e)) e ≡ Some u = ap (λ s. carry is p (counted q s) e) parts.1 ∙ carried.1 in
            subst L (sym at_once) (before_counted q u e o queued parts.0 parts.2 carries rest)
      ]

  -- and for each code
  before_act : (q u : RulesPosition) (c : ℕ) (o : List ℕ) → Queued is q → act is p q c ≡ Some u → (Queued is u → Left is p u o)
      → Left is p q (acts is p q c ++ o)
  unfolding acts
  before_act q u c o queued h rest =
      let L : List ℕ → Type 0 = λ x. Left is p q (x ++ o) in
      elim (act_cases is p q u c h) [
        | inl issues ↦ subst L (sym (cond-true _ _ _ (lt-ltb c 8 issues.0))) (before_issue q u c o queued issues.1 rest)
        | inr leaves ↦
            let parts = leave_parts is p q u (c - 8) leaves.1 in
            subst L (sym (cond-false _ _ _ (le-ltb c 8 leaves.0))) (before_departed q u (c - 8) o queued parts.0 parts.1 rest)
      ]

  -- what codes carry out from a position to the end is what is left of a lawful order there
  carried_left : (cs : List ℕ) (q end : RulesPosition) → Queued is q → run (act is p) q cs ≡ Some end → all_out is end ≡ true
      → Left is p q (carried_out (act is p) (acts is p) q cs)
  carried_left [] q end queued h all =
      let same : end ≡ q = cc in
      let here : all_out is q ≡ true = subst (λ (x : RulesPosition). all_out is x ≡ true) same all in
      from_end is p (is_done is q) (holds is q) (all_out_done is q here)
  carried_left (c ∷ cs) q end queued h all = go (act is p q c) refl h (λ v v-queued h'. carried_left cs v end v-queued h' all)
    where
      go : (found : Option RulesPosition) → act is p q c ≡ found → onward found (λ v. run (act is p) v cs) ≡ Some end
          → ((v : RulesPosition) → Queued is v → run (act is p) v cs ≡ Some end → Left is p v (carried_out (act is p) (acts is p) v cs))
          → Left is p q (carried_out (act is p) (acts is p) q (c ∷ cs))
      go None a h rest = absurd cc
      go (Some v) a h rest =
          let A : Option RulesPosition → Type 0 =
          λ x. Left is p q (acts is p q c ++ listed_from x (λ w. carried_out (act is p) (acts is p) w cs)) in
          subst A (sym a) (before_act q v c (carried_out (act is p) (acts is p) v cs) queued a (λ v-queued. rest v v-queued h))

  -- codes that lead from q to u and carry out the entries es
  abbrev Trip : RulesPosition → RulesPosition → List ℕ → Type 0
  Trip q u es = (cs : List ℕ) × (run (act is p) q cs ≡ Some u) × (carried_out (act is p) (acts is p) q cs ≡ es)

  -- one trip after the other
  trip_join : (q u v : RulesPosition) (es fs : List ℕ) → Trip q u es → Trip u v fs → Trip q v (es ++ fs)
  trip_join q u v es fs a b = (
    a.0 ++ b.0,
    run_append (act is p) (acts is p) a.0 b.0 q u a.1 ∙ b.1,
    carried_append (act is p) (acts is p) a.0 b.0 q u a.1 ∙ ap₂ (λ x y. x ++ y) a.2 b.2,
  )

  -- a trip by one code
  trip_act : (q u : RulesPosition) (c : ℕ) (es : List ℕ) → act is p q c ≡ Some u → acts is p q c ≡ es → Trip q u es
  trip_act q u c es a d = (
    c ∷ [],
    ap (λ (x : Option RulesPosition). onward x (λ v. Some v)) a,
    ap₂ (λ (x : List ℕ) (y : Option RulesPosition). x ++ listed_from y (λ v. [])) d a ∙ append-nil es,
  )

  -- the code of e's thread issues e where e is its next entry
  act_issue : (q : RulesPosition) (e : ℕ) → e < length is → rank is e ≡ issued_by is q e
      → act is p q (thread_slot is e) ≡ issue is p q (thread_slot is e) (Some e)
  unfolding act
  act_issue q e below is-next =
      cond-true _ _ _ (lt-ltb _ _ (slotted.few e below)) ∙ ap (issue is p q (thread_slot is e)) (next_is is slotted q e below is-next)

  -- and carries it out unless it waits
  acts_issue : (q : RulesPosition) (e : ℕ) → e < length is → rank is e ≡ issued_by is q e
      → acts is p q (thread_slot is e) ≡ carried_at_once p (Some e)
  unfolding acts
  acts_issue q e below is-next =
      cond-true _ _ _ (lt-ltb _ _ (slotted.few e below)) ∙ ap (carried_at_once p) (next_is is slotted q e below is-next)

  -- the next entry of a thread is issued and waits
  trip_joined : (q : RulesPosition) (e : ℕ) → e < length is → rank is e ≡ issued_by is q e → p.waits e ≡ true
      → Trip q (joined (counted q (thread_slot is e)) e) []
  unfolding issue
  trip_joined q e below is-next waits =
      trip_act q (joined (counted q (thread_slot is e)) e) (thread_slot is e) [] (act_issue q e below is-next ∙ cond-true _ _ _ waits)
      (acts_issue q e below is-next ∙ cond-true _ _ _ waits)

  -- the next entry of a thread is issued and carried out at once
  trip_counted : (q u : RulesPosition) (e : ℕ) → e < length is → rank is e ≡ issued_by is q e → p.waits e ≡ false
      → carry is p (counted q (thread_slot is e)) e ≡ Some u → Trip q u (e ∷ [])
  unfolding issue
  trip_counted q u e below is-next waits-not carried =
      trip_act q u (thread_slot is e) (e ∷ []) (act_issue q e below is-next ∙ (cond-false _ _ _ waits-not ∙ carried))
      (acts_issue q e below is-next ∙ cond-false _ _ _ waits-not)

  -- a waiting entry leaves
  trip_departed : (q u : RulesPosition) (e : ℕ) → q.waiting e ≡ true → carry is p (departed q e) e ≡ Some u → Trip q u (e ∷ [])
  unfolding act acts leave
  trip_departed q u e waits carried =
      let high : ltb (8 + e) 8 ≡ false = le-ltb (8 + e) 8 (omega arith) in
      let number : (8 + e) - 8 ≡ e = omega arith in
      trip_act q u (8 + e) (e ∷ []) (cond-false _ _ _ high ∙ (ap (leave is p q) number ∙ (cond-true _ _ _ waits ∙ carried)))
      (cond-false _ _ _ high ∙ ap (λ x. x ∷ []) number)

  -- codes that carry out e alone, after which o is left
  abbrev One : RulesPosition → ℕ → List ℕ → Type 0
  One q e o = (u : RulesPosition) × Trip q u (e ∷ []) × Queued is u × Left is p u o

  -- codes that carry out nothing may come first
  one_after : (q u : RulesPosition) (e : ℕ) (o : List ℕ) → Trip q u [] → One u e o → One q e o
  one_after q u e o a b = (b.0, trip_join q u b.0 [] (e ∷ []) a b.1, b.2, b.3)

  -- where the first entry of what is left waits, it leaves
  one_waiting : (q : RulesPosition) (e : ℕ) (o : List ℕ) → Queued is q → q.waiting e ≡ true → Left is p q (e ∷ o) → One q e o
  unfolding departed
  one_waiting q e o queued waits left =
      let ready = ready_here is p laws (is_done is q) (holds is q) e o left in
      let below = ready.below in
      let v : RulesPosition = departed q e in
      let v-queued = departed_queued is slotted q queued e below waits in
      let agree = departed_agree is slotted q queued e below waits in
      let effect =
      stepped_effect is v (is_done is q) e (departed_done is slotted q queued e below waits) (departed_rest is slotted q queued e below waits) in (
        stepped is v e,
        trip_departed q (stepped is v e) e waits (carry_does is p v (is_done is q) e below agree ready),
        stepped_queued is v e v-queued,
        backward is p laws (is_done is q) (is_done is (stepped is v e)) (holds is q) (holds is (stepped is v e)) e o effect ready left,
      )

  -- what is left stays left where an entry is issued and waits
  left_joined : (q : RulesPosition) (e : ℕ) (o : List ℕ) → Queued is q → e < length is → rank is e ≡ issued_by is q e → Left is p q o
      → Left is p (joined (counted q (thread_slot is e)) e) o
  unfolding counted joined
  left_joined q e o queued below is-next left =
      from_same is p _ _ (holds is q) o (λ i. sym (joined_done is slotted q queued e below is-next i)) left

  -- where it is the next of its thread, it is issued, and leaves if it waits
  one_next : (q : RulesPosition) (e : ℕ) (o : List ℕ) → Queued is q → e < length is → rank is e ≡ issued_by is q e → Left is p q (e ∷ o) → One q e o
  unfolding counted
  one_next q e o queued below is-next left = elim (cases_Bool (p.waits e)) [
    | inl waits ↦
        let v : RulesPosition = joined (counted q (thread_slot is e)) e in
        let v-waits : v.waiting e ≡ true = joined_waits is slotted q queued e below is-next in
        one_after q v e o (trip_joined q e below is-next waits)
        (one_waiting v e o (joined_queued is slotted q queued e below is-next) v-waits (left_joined q e (e ∷ o) queued below is-next left))
    | inr waits-not ↦
        let ready = ready_here is p laws (is_done is q) (holds is q) e o left in
        let v : RulesPosition = counted q (thread_slot is e) in
        let v-queued = counted_queued is slotted q queued e below is-next in
        let agree = counted_agree is slotted q queued e below is-next in
        let effect =
        stepped_effect is v (is_done is q) e (counted_done is slotted q queued e below is-next) (counted_rest is slotted q queued e below is-next) in (
          stepped is v e,
          trip_counted q (stepped is v e) e below is-next waits-not (carry_does is p v (is_done is q) e below agree ready),
          stepped_queued is v e v-queued,
          backward is p laws (is_done is q) (is_done is (stepped is v e)) (holds is q) (holds is (stepped is v e)) e o effect ready left,
        )
  ]

  -- where d others of its thread are to be issued before it, these wait
  one_behind : (d : ℕ) (q : RulesPosition) (e : ℕ) (o : List ℕ) → Queued is q → rank is e ≡ issued_by is q e + d → Left is p q (e ∷ o) → One q e o
  one_behind zero q e o queued distance left =
      one_next q e o queued (ready_here is p laws (is_done is q) (holds is q) e o left).below (omega arith) left
  one_behind (suc d) q e o queued distance left =
      let ready = ready_here is p laws (is_done is q) (holds is q) e o left in
      let found = rank_find is e (issued_by is q e) (omega arith) in
      let i : ℕ = found.0 in
      let earlier = found.1 in
      let below : i < length is = omega (arith, ready.below, earlier.0) in
      let is-next : rank is i ≡ issued_by is q i = found.2 ∙ ap (λ t. q.issued t) (sym (same_slot is i e earlier.1)) in
      let waits : p.waits i ≡ true = elim (cases_Bool (p.waits i)) [
        | inl waits ↦ waits
        | inr waits-not ↦ absurd (ready.free i earlier (next_not_done is slotted q queued i below is-next) (laws.prompt i e earlier ready.below waits-not))
      ] in
      let v : RulesPosition = joined (counted q (thread_slot is i)) i in
      let one_more : issued_by is v e ≡ suc (issued_by is q i) = joined_issued is slotted q queued i below is-next e (sym earlier.1) in
      let nearer : rank is e ≡ issued_by is v e + d = omega (arith, one_more, is-next, found.2, distance) in
      one_after q v e o (trip_joined q i below is-next waits)
      (one_behind d v e o (joined_queued is slotted q queued i below is-next) nearer (left_joined q i (e ∷ o) queued below is-next left))

  -- so the first entry of what is left can be carried out
  one : (q : RulesPosition) (e : ℕ) (o : List ℕ) → Queued is q → Left is p q (e ∷ o) → One q e o
  one q e o queued left =
      let ready = ready_here is p laws (is_done is q) (holds is q) e o left in
      elim (cases_lt (rank is e) (issued_by is q e)) [
        | inl issued ↦
            let waits : q.waiting e ≡ true =
            waiting_not_done is q e (out_from is q e ready.below issued) ∙ not_from_false _ ready.fresh in
            one_waiting q e o queued waits left
        | inr behind ↦ one_behind (rank is e - issued_by is q e) q e o queued (omega arith) left
      ]

  -- and one after the other all that is left
  whole : (o : List ℕ) (q : RulesPosition) → Queued is q → Left is p q o → (u : RulesPosition) × Trip q u o × (all_out is u ≡ true)
  whole [] q queued left = (q, ([], refl, refl), done_all_out is q (end_from is p (is_done is q) (holds is q) left))
  whole (e ∷ o) q queued left =
      let first = one q e o queued left in
      let rest = whole o first.0 first.2 first.3 in
      (rest.0, trip_join q first.0 rest.0 (e ∷ []) o first.1 rest.1, rest.2)

-- what the machine carries out to its end is a lawful order
pub rules_lawful : (is : List Instruction) (p : Preserved) → Slotted is → Laws is p → (cs : List ℕ) (q : RulesPosition)
    → run (act is p) rules_opening cs ≡ Some q → all_out is q ≡ true → Lawful is p (carried_out (act is p) (acts is p) rules_opening cs)
rules_lawful is p slotted laws cs q h all =
    lawful_out is p (is_done is rules_opening) (holds is rules_opening) (carried_out (act is p) (acts is p) rules_opening cs)
    (opening_done is) (opening_holds is) (carried_left is p slotted laws cs rules_opening q (opening_queued is) h all)

-- each lawful order is what some codes carry out to the end
pub lawful_rules : (is : List Instruction) (p : Preserved) → Slotted is → Laws is p → (o : List ℕ) → Lawful is p o
    → (cs : List ℕ) × (q : RulesPosition) × (run (act is p) rules_opening cs ≡ Some q) × (all_out is q ≡ true)
    × (carried_out (act is p) (acts is p) rules_opening cs ≡ o)
lawful_rules is p slotted laws o lawful =
    let left = lawful_in is p (is_done is rules_opening) (holds is rules_opening) o (opening_done is) (opening_holds is) lawful in
    let all = whole is p slotted laws o rules_opening (opening_queued is) left in
    (all.1.0, all.0, all.1.1, all.2, all.1.2)
