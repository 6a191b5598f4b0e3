-- Entries of a trace by their slots: the slot of an entry's address is small.
use Rattle.std.specs.Prelude.{◌≡◌, ℕ, ◌<◌, true, List, length, get_or, slice_index_or}
use Rattle.std.proofs.Common.{◌∙◌, ap, subst, arith}
use Rattle.std.proofs.lemmas.List.{get_or-map}
use Rattle.std.proofs.lemmas.Bool.{cond-true}
use Rattle.traces.specs.declared.contents.Contents.{Contents}
use Rattle.traces.specs.declared.entry.Entry.{Entry}
use Rattle.traces.specs.declared.entry.Kind.TheVariants.{Sync}
use Rattle.traces.specs.Adding.{addresses_of, threads_of}
use Rattle.traces.specs.Instructions.{instructions}
use Rattle.traces.specs.Kinds.{address, addressed, instruction}
use Rattle.traces.specs.Stated.{entry_of}
use Rattle.traces.proofs.Holding.{entries_are, few_addresses, held, length_held, entries_in}
use Rattle.forms.specs.Entries.{addressed_at, instruction_at}
use Rattle.forms.specs.Memories.{address_slot, held_entry}

module _ (x : Contents) (e : ℕ) (below : e < length (instructions x)) where
  abbrev es : List Entry
  es = entries_in x

  -- the entry at the place e
  pub here : get_or es e (held_entry (instructions x) e) ≡ held_entry (instructions x) e
  here =
      let f = entry_of (threads_of (instructions x)) (addresses_of (instructions x)) in
      subst (λ l. slice_index_or l e (held_entry (instructions x) e) ≡ held_entry (instructions x) e) (entries_are x)
      (get_or-map f (instructions x) e (instruction 0 Sync (address 0) 0 0) (held_entry (instructions x) e) below)

  -- it is there
  pub within : e < length es
  within = omega (arith, below, length_held x, x.entries.ok.0)

  module _ (on : addressed_at (instructions x) e ≡ true) where
    -- the entry holds the slot of its address
    pub entry_address : (held_entry (instructions x) e).address ≡ address_slot (instructions x) (instruction_at (instructions x) e).address
    entry_address = cond-true (addressed_at (instructions x) e) (address_slot (instructions x) (instruction_at (instructions x) e).address) 0 on

    -- an address's slot names a listed address
    pub address_slot_within : address_slot (instructions x) (instruction_at (instructions x) e).address < length (addresses_of (instructions x))
    address_slot_within =
        let k : addressed (get_or es e (held_entry (instructions x) e)).kind ≡ true = ap (λ (r : Entry). addressed r.kind) here ∙ on in
        let n = (held x).named_d e (held_entry (instructions x) e) within k in
        let s = ap (λ (r : Entry). r.address) here ∙ entry_address in
        omega (arith, n, s, ap length (held x).appear_d)

    -- an address's slot is below 16
    pub address_slot_below : address_slot (instructions x) (instruction_at (instructions x) e).address < 16
    address_slot_below = omega (arith, address_slot_within, few_addresses x)
