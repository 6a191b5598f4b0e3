use Rattle.std.proofs.Common.{◌≡◌, ℕ, List, take, vec_items, sym, ap, ◌∙◌, subst, arith}
use Rattle.traces.specs.declared.entry.Address.{Address}
use Rattle.traces.specs.declared.entry.Entry.{Entry}
use Rattle.traces.specs.Kinds.{address}
use Rattle.traces.specs.Stated.{ThreadsNamed, AddressesNamed, address_reach, reach, thread_reach}
use Rattle.traces.proofs.Holding.{Held, held, held_fewer, fewer_threads, fewer_addresses, stated_fewer, held_at, stated_at, threads_in, addresses_in, entries_in}
use Rattle.traces.proofs.contents.Contents.truncate.Goals as goal
use Rattle.traces.proofs.contents.Contents.truncate.Goals.{After-truncate-3}

-- what is held once entries are taken away
module _ (c : After-truncate-3) where
  abbrev ts : List ℕ
  ts = threads_in c.args.self.now

  abbrev ds : List Address
  ds = addresses_in c.args.self.now

  abbrev es : List Entry
  es = entries_in c.args.self.now

  entries_now : vec_items c.truncate.new.self ≡ take c.args.len es
  entries_now = c.truncate.ensures.items

  seen : c.as_slice.result.now ≡ take c.args.len es
  seen = c.as_slice.ensures.value ∙ entries_now

  threads_now : vec_items c.truncate-2.new.self.items ≡ fewer_threads ts es c.args.len
  threads_now = c.truncate-2.ensures ∙ ap (λ n. take n ts) (c.named-threads.ensures.threads ∙ ap (reach thread_reach) seen)

  addresses_now : vec_items c.truncate-3.new.self.items ≡ fewer_addresses ds es c.args.len
  addresses_now = c.truncate-3.ensures ∙ ap (λ n. take n ds) (c.named-threads.ensures.addresses ∙ ap (reach address_reach) seen)

  held_now : Held (vec_items c.truncate-2.new.self.items) (vec_items c.truncate-3.new.self.items) (vec_items c.truncate.new.self)
  held_now = held_at _ _ _ _ _ _ threads_now addresses_now entries_now (held_fewer ts ds es (held c.args.self.now) (c.args.self.now.threads.distinct 0) (c.args.self.now.addresses.distinct (address 0)) c.args.len)

pub invariant_of-self : goal.invariant_of-self
invariant_of-self c =
    let h = held_now c in record {
      few_entries = omega arith;
      room = omega arith;
      threads_named = subst (λ n. ThreadsNamed n (vec_items c.truncate.new.self)) (sym c.truncate-2.new.self.items.ok.0) h.named_t;
      addresses_named = subst (λ n. AddressesNamed n (vec_items c.truncate.new.self)) (sym c.truncate-3.new.self.items.ok.0) h.named_d;
      plain = h.plain;
      threads_appear = h.appear_t;
      addresses_appear = h.appear_d;
    }

pub returns : goal.returns
returns c =
    let d = (goal.at.returns c).After-truncate-3 in
    let old = c.args.self.now in
    stated_at _ _ _ _ _ _ (threads_now d) (addresses_now d) (entries_now d) ∙ stated_fewer (ts d) (ds d) (es d) (held old) (old.threads.distinct 0) (old.addresses.distinct (address 0)) c.args.len
