-- The rank of an entry on its thread, the slots of threads, and the next entry that a thread issues.
use Rattle.std.proofs.Common.{◌≡◌, ℕ, zero, suc, ◌+◌, ◌<◌, ◌≤◌, cond, ◌&&◌, eqb, List, length, Some, None, count_by, Option, sym, refl, ap, ◌∙◌, inl, inr, arith}
use Rattle.std.specs.List.{range_with_len}
use Rattle.std.proofs.lemmas.Bool.{and_from, and_parts, cases_eq, cases_lt, cases_order, cond-false, cond-true, eq-eqb, eqb-true, ne_eqb}
use Rattle.traces.specs.declared.entry.Instruction.{Instruction}
use Rattle.traces.specs.Adding.{threads_of}
use Rattle.traces.specs.Slots.{slot}
use Rattle.forms.specs.Entries.{Earlier, instruction_at}
use Rattle.forms.specs.RulesMachine.{RulesPosition, next, rank, thread_slot}
use Rattle.forms.specs.Lemmas.Basics.{last_below_none, last_below_some}
use Rattle.forms.specs.Lemmas.Counting.{count_suc}

-- the slots of the threads of a trace: there are at most 8, and different threads have different ones
pub record Slotted (is : List Instruction) : Type 0 where
  pub few : (i : ℕ) → i < length is → thread_slot is i < 8
  pub same_thread : (i j : ℕ) → i < length is → j < length is → thread_slot is i ≡ thread_slot is j → (instruction_at is i).thread ≡ (instruction_at is j).thread

-- entries of one thread have one slot
pub same_slot : (is : List Instruction) (i j : ℕ) → (instruction_at is i).thread ≡ (instruction_at is j).thread → thread_slot is i ≡ thread_slot is j
same_slot is i j thread = ap (λ t. slot eqb (threads_of is) t) thread

-- how many numbers below k are entries of a thread
abbrev on_thread : List Instruction → ℕ → ℕ → ℕ
on_thread is thread k = count_by (λ i. eqb (instruction_at is i).thread thread) (range_with_len 0 k)

-- one number more
thread_more : (is : List Instruction) (thread k : ℕ) → on_thread is thread (suc k) ≡ on_thread is thread k + cond (eqb (instruction_at is k).thread thread) 1 0
thread_more is thread k = count_suc (λ i. eqb (instruction_at is i).thread thread) k (eqb (instruction_at is k).thread thread) refl

-- an entry of the thread counts
thread_here : (is : List Instruction) (thread k : ℕ) → (instruction_at is k).thread ≡ thread → on_thread is thread (suc k) ≡ suc (on_thread is thread k)
thread_here is thread k same =
    omega (arith, thread_more is thread k, cond-true {A = ℕ} (eqb (instruction_at is k).thread thread) 1 0 (eq-eqb (instruction_at is k).thread thread same))

-- an entry of another thread does not
thread_other : (is : List Instruction) (thread k : ℕ) → ((instruction_at is k).thread ≡ thread → ⊥) → on_thread is thread (suc k) ≡ on_thread is thread k
thread_other is thread k other =
    omega (arith, thread_more is thread k, cond-false {A = ℕ} (eqb (instruction_at is k).thread thread) 1 0 (ne_eqb (instruction_at is k).thread thread other))

-- no fewer entries stand below a larger number
thread_up : (is : List Instruction) (thread i j : ℕ) → i ≤ j → on_thread is thread i ≤ on_thread is thread j
thread_up is thread i zero at_most = let same : i ≡ 0 = omega arith in rw same (omega arith)
thread_up is thread i (suc j) at_most = elim (cases_eq i (suc j)) [
  | inl same ↦ rw same (omega arith)
  | inr less ↦
      let up = thread_up is thread i j (omega arith) in
      elim (cases_eq (instruction_at is j).thread thread) [
        | inl here ↦ omega (arith, thread_here is thread j here)
        | inr other ↦ omega (arith, thread_other is thread j other)
      ]
]

-- a later entry of a thread has a larger rank
pub rank_up : (is : List Instruction) (i j : ℕ) → Earlier is i j → rank is i < rank is j
rank_up is i j earlier =
    let up = thread_up is (instruction_at is j).thread (suc i) j earlier.0 in
    let here = thread_here is (instruction_at is j).thread i earlier.1 in
    let same : rank is i ≡ on_thread is (instruction_at is j).thread i = ap (λ t. on_thread is t i) earlier.1 in
    omega arith

-- an entry is known by its thread and its rank
pub rank_one : (is : List Instruction) (i j : ℕ) → (instruction_at is i).thread ≡ (instruction_at is j).thread → rank is i ≡ rank is j → i ≡ j
rank_one is i j thread same = elim (cases_order i j) [
  | inl equal ↦ equal
  | inr different ↦ elim different [
    | inl less ↦ absurd (omega (arith, rank_up is i j (less, thread)))
    | inr more ↦ absurd (omega (arith, rank_up is j i (more, sym thread)))
  ]
]

-- each number below that of a thread's entries is the rank of one of them
rank_search : (is : List Instruction) (thread j k : ℕ) → k < on_thread is thread j
    → (i : ℕ) × (i < j) × ((instruction_at is i).thread ≡ thread) × (rank is i ≡ k)
rank_search is thread zero k below = absurd (omega arith)
rank_search is thread (suc j) k below = elim (cases_lt k (on_thread is thread j)) [
  | inl lower ↦ let found = rank_search is thread j k lower in (found.0, omega (arith, found.1), found.2, found.3)
  | inr reached ↦ elim (cases_eq (instruction_at is j).thread thread) [
    | inl here ↦
        let same : rank is j ≡ on_thread is thread j = ap (λ t. on_thread is t j) here in
        (j, omega arith, here, omega (arith, thread_here is thread j here))
    | inr other ↦ absurd (omega (arith, thread_other is thread j other))
  ]
]

-- each number below the rank of e is the rank of an earlier entry of e's thread
pub rank_find : (is : List Instruction) (e k : ℕ) → k < rank is e → (i : ℕ) × Earlier is i e × (rank is i ≡ k)
rank_find is e k below =
    let found = rank_search is (instruction_at is e).thread e k below in
    (found.0, (found.1, found.2), found.3)

-- how many entries the thread of e has issued
abbrev pub issued_by : List Instruction → RulesPosition → ℕ → ℕ
issued_by is q e = q.issued (thread_slot is e)

-- what is known of a thread's next entry
pub next_parts : (is : List Instruction) (q : RulesPosition) (t e : ℕ) → next is q t ≡ Some e
    → (e < length is) × (thread_slot is e ≡ t) × (rank is e ≡ issued_by is q e)
unfolding next
next_parts is q t e h =
    let found = last_below_some (λ x. eqb (thread_slot is x) t && eqb (rank is x) (q.issued t)) (length is) e h in
    let both = and_parts (eqb (thread_slot is e) t) (eqb (rank is e) (q.issued t)) found.1 in
    let on-slot : thread_slot is e ≡ t = eqb-true _ _ both.0 in
    (found.0, on-slot, eqb-true _ _ both.1 ∙ ap (λ x. q.issued x) (sym on-slot))

-- an entry with as many before it on its thread as the thread has issued is the thread's next entry
pub next_is : (is : List Instruction) → Slotted is → (q : RulesPosition) (e : ℕ) → e < length is → rank is e ≡ issued_by is q e
    → next is q (thread_slot is e) ≡ Some e
unfolding next
next_is is slotted q e below reached = go (next is q (thread_slot is e)) refl
  where
    go : (found : Option ℕ) → next is q (thread_slot is e) ≡ found → next is q (thread_slot is e) ≡ Some e
    go None h =
        absurd (last_below_none (λ x. eqb (thread_slot is x) (thread_slot is e) && eqb (rank is x) (issued_by is q e)) (length is) h e below
        (and_from _ _ (eq-eqb _ _ refl) (eq-eqb _ _ reached)))
    go (Some w) h =
        let parts = next_parts is q (thread_slot is e) w h in
        let thread : (instruction_at is w).thread ≡ (instruction_at is e).thread = slotted.same_thread w e parts.0 below parts.1 in
        let same : w ≡ e = rank_one is w e thread (parts.2 ∙ ap (λ x. q.issued x) parts.1 ∙ sym reached) in
        h ∙ ap Some same
