-- The rules of the rules form: each thread issues its entries in their sequence, and those that wait are carried out later.
use Rattle.std.specs.Prelude.{ℕ, suc, ◌-◌, Bool, false, cond, not, ◌&&◌, ◌||◌, List, [], ◌∷◌, length, Some, None, count_by, Option, ◌==◌, nat_eq, nat_lt}
use Rattle.std.specs.List.{range_with_len}
use Rattle.traces.specs.declared.entry.Address.{Address}
use Rattle.traces.specs.declared.entry.Instruction.{Instruction}
use Rattle.traces.specs.Adding.{threads_of}
use Rattle.traces.specs.Slots.{slot}
use Rattle.forms.specs.Carrying.{last_below, may_carry_out, some_below, stored}
use Rattle.forms.specs.Entries.{instruction_at}
use Rattle.forms.specs.PreservedOrder.{Preserved}

-- how many entries each thread, by its slot, has issued, which entries wait, and what memory holds
pub record RulesPosition : Type 0 where
  pub issued : ℕ → ℕ
  pub waiting : ℕ → Bool
  pub memory : Address → ℕ

-- nothing is issued, nothing waits, and memory holds 0 everywhere
unfoldable pub rules_opening : RulesPosition
rules_opening = record { issued = λ t. 0; waiting = λ i. false; memory = λ a. 0 }

-- the slot of e's thread
abbrev pub thread_slot : List Instruction → ℕ → ℕ
thread_slot is e = slot nat_eq (threads_of is) (instruction_at is e).thread

-- how many entries of e's thread stand before e
abbrev pub rank : List Instruction → ℕ → ℕ
rank is e = count_by (λ i. nat_eq (instruction_at is i).thread (instruction_at is e).thread) (range_with_len 0 e)

-- the entry of the thread with slot t that has k before it on its thread, if there is one
abbrev pub ranked : List Instruction → ℕ → ℕ → Option ℕ
ranked is t k = last_below (λ e. (thread_slot is e == t) && rank is e == k) (length is)

-- the next entry of the thread with slot t: the one with as many before it on its thread as the thread has issued
unfoldable pub next : List Instruction → RulesPosition → ℕ → Option ℕ
next is q t = ranked is t (q.issued t)

-- one entry more is issued by the thread with slot t
unfoldable pub counted : RulesPosition → ℕ → RulesPosition
counted q t = record { issued = λ s. cond (s == t) (suc (q.issued t)) (q.issued s); waiting = q.waiting; memory = q.memory }

-- e waits
unfoldable pub joined : RulesPosition → ℕ → RulesPosition
joined q e = record { issued = q.issued; waiting = λ i. (i == e) || q.waiting i; memory = q.memory }

-- e waits no longer
unfoldable pub departed : RulesPosition → ℕ → RulesPosition
departed q e = record { issued = q.issued; waiting = λ i. not (i == e) && q.waiting i; memory = q.memory }

-- e has been carried out
unfoldable pub stepped : List Instruction → RulesPosition → ℕ → RulesPosition
stepped is q e = record { issued = q.issued; waiting = q.waiting; memory = stored is q.memory e }

-- e is carried out, unless it may not be while the waiting entries are pending
unfoldable pub carry : List Instruction → Preserved → RulesPosition → ℕ → Option RulesPosition
carry is p q e = cond (may_carry_out is p q.waiting q.memory e) (Some (stepped is q e)) None

-- the next entry of the thread with slot t, if there is one, is issued: it joins those that wait, or is carried out at once
unfoldable pub issue : List Instruction → Preserved → RulesPosition → ℕ → Option ℕ → Option RulesPosition
issue is p q t None = None
issue is p q t (Some e) = cond (p.waits e) (Some (joined (counted q t) e)) (carry is p (counted q t) e)

-- e leaves those that wait and is carried out, unless it does not wait
unfoldable pub leave : List Instruction → Preserved → RulesPosition → ℕ → Option RulesPosition
leave is p q e = cond (q.waiting e) (carry is p (departed q e) e) None

-- code t below 8 issues the next entry of the thread with slot t; code 8 + e lets e leave
unfoldable pub act : List Instruction → Preserved → RulesPosition → ℕ → Option RulesPosition
act is p q c = cond (nat_lt c 8) (issue is p q c (next is q c)) (leave is p q (c - 8))

-- what issuing carries out: an entry that does not wait
abbrev pub carried_at_once : Preserved → Option ℕ → List ℕ
carried_at_once p None = []
carried_at_once p (Some e) = cond (p.waits e) [] (e ∷ [])

-- the entry, if any, that a code carries out
unfoldable pub acts : List Instruction → Preserved → RulesPosition → ℕ → List ℕ
acts is p q c = cond (nat_lt c 8) (carried_at_once p (next is q c)) ((c - 8) ∷ [])

-- whether entry e is issued
abbrev pub is_issued : List Instruction → RulesPosition → ℕ → Bool
is_issued is q e = nat_lt (rank is e) (q.issued (thread_slot is e))

-- all entries are issued, and none waits
unfoldable pub all_out : List Instruction → RulesPosition → Bool
all_out is q = not (some_below (λ e. not (is_issued is q e) || q.waiting e) (length is))
