use Rattle.std.proofs.Common.{◌≡◌, ℕ, ◌<◌, ◌≤◌, eqb, List, [], ◌∷◌, ◌++◌, length, Some, Ok, Err, vec_items, sym, refl, ap, ◌∙◌, subst, arith}
use Rattle.std.proofs.lemmas.Result.{err_from_is_err_and}
use Rattle.traces.specs.declared.entry.Address.{Address}
use Rattle.traces.specs.declared.entry.Entry.{Entry}
use Rattle.traces.specs.declared.entry.Instruction.{Instruction}
use Rattle.traces.specs.declared.entry.Refusal.TheVariants.{TooManyThreads, TooManyAddresses}
use Rattle.traces.specs.Adding.{address_in, admitted, same_address}
use Rattle.traces.specs.Kinds.{address, normalized}
use Rattle.traces.specs.Slots.{grown, listed_if_any, slot}
use Rattle.traces.specs.Stated.{ThreadsNamed, AddressesNamed, stated}
use Rattle.traces.proofs.Stating.{same_addresses, same_numbers}
use Rattle.traces.proofs.Admitting.{slot_in, slot_free, slot_full, grown_joined, more_threads, more_addresses, more_entries, refused_thread, refused_address, accepted_all, length_joined, stated_more}
use Rattle.traces.proofs.Holding.{Held, held, length_held, held_more, held_at, stated_at, threads_in, addresses_in, entries_in}
use Rattle.traces.proofs.contents.Contents.add.Goals as goal
use Rattle.traces.proofs.contents.Contents.add.Goals.{After-push_reserved}

pub returns-in_err-thread_slot : goal.returns-in_err-thread_slot
returns-in_err-thread_slot c =
    let p = err_from_is_err_and c.from_residual.result c.from_residual.ensures.1 in
    let old = c.args.self.now in
    let i = c.args.instruction in
    let h = held old in
    let full = slot_full eqb same_numbers 0 8 (threads_in old) (Some i.thread) _ (ap (λ (n : Instruction). Some n.thread) c.normalized-added.ensures) c.slot_of.result c.slot_of.ensures TooManyThreads _ (sym c.ok_or.ensures.value ∙ c.in_err-thread_slot.was) in
    rw (p.1, p.2) (refused_thread (threads_in old) (addresses_in old) (entries_in old) i.thread i.kind i.address i.read i.written h.appear_t h.appear_d (omega (arith, c.len.ensures, length_held old, old.entries.ok.0)) full.0 ∙ ap Err (sym full.1), refl)

pub returns-in_err-address_slot : goal.returns-in_err-address_slot
returns-in_err-address_slot c =
    let p = err_from_is_err_and c.from_residual-in_err-address_slot.result c.from_residual-in_err-address_slot.ensures.1 in
    let old = c.args.self.now in
    let i = c.args.instruction in
    let h = held old in
    let thread = slot_free eqb same_numbers 0 8 (threads_in old) (Some i.thread) _ (ap (λ (n : Instruction). Some n.thread) c.normalized-added.ensures) c.slot_of.result c.slot_of.ensures TooManyThreads _ (sym c.ok_or.ensures.value ∙ c.in_ok-thread_slot.was) in
    let full = slot_full same_address same_addresses (address 0) 16 (addresses_in old) (address_in (normalized i)) _ (c.location-location.ensures ∙ ap address_in c.normalized-added.ensures) c.slot_of-2.result c.slot_of-2.ensures TooManyAddresses _ (sym c.ok_or-2.ensures.value ∙ c.in_err-address_slot.was) in
    rw (p.1, p.2) (refused_address (threads_in old) (addresses_in old) (entries_in old) i.thread i.kind i.address i.read i.written h.appear_t h.appear_d (omega (arith, c.len.ensures, length_held old, old.entries.ok.0)) (omega (arith, old.threads.few, old.threads.items.ok.0)) (omega (arith, thread)) full.0 ∙ ap Err (sym full.1), refl)

-- what is held once the instruction is there
module _ (c : After-push_reserved) where
  abbrev ts : List ℕ
  ts = threads_in c.args.self.now

  abbrev ds : List Address
  ds = addresses_in c.args.self.now

  abbrev es : List Entry
  es = entries_in c.args.self.now

  abbrev i : Instruction
  i = c.args.instruction

  thread : Some c.normalized-added.result.thread ≡ Some i.thread
  thread = ap (λ (n : Instruction). Some n.thread) c.normalized-added.ensures

  location : c.location-location.result ≡ address_in (normalized i)
  location = c.location-location.ensures ∙ ap address_in c.normalized-added.ensures

  thread_slot_found : (c.in_ok-thread_slot.thread_slot ≡ slot eqb ts i.thread) × (c.in_ok-thread_slot.thread_slot < 8)
  thread_slot_found = slot_free eqb same_numbers 0 8 ts (Some i.thread) _ thread c.slot_of.result c.slot_of.ensures TooManyThreads _ (sym c.ok_or.ensures.value ∙ c.in_ok-thread_slot.was)

  address_slot_found : (c.in_ok-address_slot.address_slot ≡ slot_in same_address ds (address_in (normalized i))) × (c.in_ok-address_slot.address_slot < 16)
  address_slot_found = slot_free same_address same_addresses (address 0) 16 ds (address_in (normalized i)) _ location c.slot_of-2.result c.slot_of-2.ensures TooManyAddresses _ (sym c.ok_or-2.ensures.value ∙ c.in_ok-address_slot.was)

  threads_now : vec_items c.enlist.new.self.items ≡ more_threads ts ds es i.thread i.kind i.address i.read i.written
  threads_now = c.enlist.ensures.items ∙ ap (λ o. grown ts o c.in_ok-thread_slot.thread_slot) thread ∙ grown_joined eqb ts (Some i.thread) c.in_ok-thread_slot.thread_slot thread_slot_found.0

  addresses_now : vec_items c.enlist-2.new.self.items ≡ more_addresses ts ds es i.thread i.kind i.address i.read i.written
  addresses_now = c.enlist-2.ensures.items ∙ ap (λ o. grown ds o c.in_ok-address_slot.address_slot) location ∙ grown_joined same_address ds (address_in (normalized i)) c.in_ok-address_slot.address_slot address_slot_found.0

  entries_now : vec_items c.push_reserved.new.self ≡ more_entries ts ds es i.thread i.kind i.address i.read i.written
  entries_now =
      c.push_reserved.ensures.items
      ∙ ap (λ n. es ++ record { thread = n; kind = c.normalized-added.result.kind; address = c.in_ok-address_slot.address_slot; read = c.normalized-added.result.read; written = c.normalized-added.result.written } ∷ []) thread_slot_found.0
      ∙ ap (λ n. es ++ record { thread = slot eqb ts i.thread; kind = c.normalized-added.result.kind; address = n; read = c.normalized-added.result.read; written = c.normalized-added.result.written } ∷ []) address_slot_found.0
      ∙ ap (λ (n : Instruction). es ++ record { thread = slot eqb ts i.thread; kind = n.kind; address = slot_in same_address ds (address_in (normalized i)); read = n.read; written = n.written } ∷ []) c.normalized-added.ensures

  few : (length ts ≤ 8) × (length ds ≤ 16) × (length es < 64)
  few =
      let old = c.args.self.now in
      (omega (arith, old.threads.few, old.threads.items.ok.0), omega (arith, old.addresses.few, old.addresses.items.ok.0), omega (arith, c.len.ensures, length_held old, old.entries.ok.0))

  few_addresses : (length (listed_if_any same_address ds (address_in (normalized i))) ≤ 16) × (length ds ≤ length (listed_if_any same_address ds (address_in (normalized i))))
  few_addresses = length_joined same_address ds (address_in (normalized i)) 16 few.1 (omega (arith, address_slot_found))

  held_now : Held (vec_items c.enlist.new.self.items) (vec_items c.enlist-2.new.self.items) (vec_items c.push_reserved.new.self)
  held_now = held_at _ _ _ _ _ _ threads_now addresses_now entries_now (held_more ts ds es (held c.args.self.now) i.thread i.kind i.address i.read i.written few_addresses.1)

  admitted_now : admitted (stated ts ds es) (normalized i) ≡ Ok (stated (vec_items c.enlist.new.self.items) (vec_items c.enlist-2.new.self.items) (vec_items c.push_reserved.new.self))
  admitted_now =
      let h = held c.args.self.now in
      accepted_all ts ds es i.thread i.kind i.address i.read i.written h.appear_t h.appear_d few.2 few.0 (omega (arith, thread_slot_found)) few.1 (omega (arith, address_slot_found))
      ∙ ap Ok (sym (stated_at _ _ _ _ _ _ threads_now addresses_now entries_now ∙ stated_more ts ds es i.thread i.kind i.address i.read i.written h.named_t h.named_d))

pub invariant_of-self : goal.invariant_of-self
invariant_of-self c =
    let h = held_now c in
    let f = few c in record {
      few_entries = omega arith;
      room = omega arith;
      threads_named = subst (λ n. ThreadsNamed n (vec_items c.push_reserved.new.self)) (sym c.enlist.new.self.items.ok.0) h.named_t;
      addresses_named = subst (λ n. AddressesNamed n (vec_items c.push_reserved.new.self)) (sym c.enlist-2.new.self.items.ok.0) h.named_d;
      plain = h.plain;
      threads_appear = h.appear_t;
      addresses_appear = h.appear_d;
    }

pub returns : goal.returns
returns c = admitted_now (goal.at.returns c).After-push_reserved
