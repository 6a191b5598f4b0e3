-- Entries of a trace by their slots: the slots are few, and stand for thread numbers and addresses one to one.
use Rattle.std.specs.Prelude.{◌≡◌, ℕ, ◌<◌, ◌≤◌, true, List, map, length, get_or, Some, None, slice_index, slice_index_or}
use Rattle.std.proofs.Common.{sym, ◌∙◌, ap, inl, inr, arith}
use Rattle.std.specs.List.{slice_get}
use Rattle.std.proofs.lemmas.List.{get_or-map, length-map}
use Rattle.std.proofs.lemmas.Option.{get_or_from_slice_get, slice_get-get_or, slice_get_within}
use Rattle.std.proofs.lemmas.Bool.{cases_lt, cond-true}
use Rattle.traces.specs.declared.contents.Contents.{Contents}
use Rattle.traces.specs.declared.entry.Entry.{Entry}
use Rattle.traces.specs.declared.entry.Instruction.{Instruction}
use Rattle.traces.specs.declared.entry.Kind.TheVariants.{Sync}
use Rattle.traces.specs.Adding.{addresses_of, threads_of}
use Rattle.traces.specs.Instructions.{instructions}
use Rattle.traces.specs.Kinds.{address, instruction}
use Rattle.traces.specs.Stated.{entries_of, entry_of, stated_by}
use Rattle.traces.proofs.Holding.{held, threads_in, addresses_in, entries_in}
use Rattle.forms.specs.Entries.{SameAddress, addressed_at, instruction_at}
use Rattle.forms.specs.Memories.{address_slot, held_entry}
use Rattle.forms.specs.RulesMachine.{thread_slot}
use Rattle.forms.specs.Lemmas.Entered.{entry_address, here, within}

-- an entry that is found is that of its instruction
pub entry_found : (is : List Instruction) (e : ℕ) (r : Entry) → slice_get (entries_of is) e ≡ Some r → (e < length is) × (r ≡ held_entry is e)
entry_found is e r h =
    let f = entry_of (threads_of is) (addresses_of is) in
    let l : e < length is = omega (arith, slice_get_within (map f is) e r h, length-map is f) in
    (l, sym (get_or_from_slice_get (map f is) e r r h) ∙ get_or-map f is e (instruction 0 Sync (address 0) 0 0) r l)

-- an entry that is not found is past the end
pub entry_missing : (is : List Instruction) (e : ℕ) → slice_get (entries_of is) e ≡ None → length is ≤ e
entry_missing is e h = elim (cases_lt e (length is)) [
  | inl l ↦
      let f = entry_of (threads_of is) (addresses_of is) in
      let n : None ≡ Some (slice_index_or (map f is) e (held_entry is e)) = sym h ∙ slice_get-get_or (map f is) e (held_entry is e) (omega (arith, l, length-map is f)) in
      absurd cc
  | inr l ↦ l
]

module _ (x : Contents) (e : ℕ) (below : e < length (instructions x)) where
  -- the instruction at the place e by the slots of the entry
  stands : instruction_at (instructions x) e ≡ stated_by (threads_in x) (addresses_in x) (held_entry (instructions x) e)
  stands =
      get_or-map (stated_by (threads_in x) (addresses_in x)) (entries_in x) e (held_entry (instructions x) e) (instruction 0 Sync (address 0) 0 0) (within x e below)
      ∙ ap (stated_by (threads_in x) (addresses_in x)) (here x e below)

  -- a thread's slot is below 8
  pub thread_slot_below : thread_slot (instructions x) e < 8
  thread_slot_below =
      let n = (held x).named_t e (held_entry (instructions x) e) (within x e below) in
      let s = ap (λ (r : Entry). r.thread) (here x e below) in
      omega (arith, n, s, x.threads.items.ok.0, x.threads.few)

  -- the thread number is the one that the slot names
  pub thread_named : (instruction_at (instructions x) e).thread ≡ slice_index (threads_in x) (thread_slot (instructions x) e)
  thread_named = ap (λ (i : Instruction). i.thread) stands

  module _ (on : addressed_at (instructions x) e ≡ true) where
    -- the address is the one that the slot names
    pub address_named : (instruction_at (instructions x) e).address ≡ slice_index_or (addresses_in x) (address_slot (instructions x) (instruction_at (instructions x) e).address) (address 0)
    address_named =
        ap (λ (i : Instruction). i.address) stands
        ∙ cond-true (addressed_at (instructions x) e) _ (address 0) on
        ∙ ap (λ n. get_or (addresses_in x) n (address 0)) (entry_address x e below on)

-- two entries with one slot are of one thread
pub same_thread : (x : Contents) (i j : ℕ) → i < length (instructions x) → j < length (instructions x)
    → thread_slot (instructions x) i ≡ thread_slot (instructions x) j → (instruction_at (instructions x) i).thread ≡ (instruction_at (instructions x) j).thread
same_thread x i j l m h = thread_named x i l ∙ ap (λ n. slice_index (threads_in x) n) h ∙ sym (thread_named x j m)

-- two entries with one slot are on one address
pub same_address_held : (x : Contents) (i j : ℕ) → i < length (instructions x) → j < length (instructions x)
    → addressed_at (instructions x) i ≡ true → addressed_at (instructions x) j ≡ true
    → address_slot (instructions x) (instruction_at (instructions x) i).address ≡ address_slot (instructions x) (instruction_at (instructions x) j).address → SameAddress (instructions x) i j
same_address_held x i j l m a b h = address_named x i l a ∙ ap (λ n. get_or (addresses_in x) n (address 0)) h ∙ sym (address_named x j m b)
