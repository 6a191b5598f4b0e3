-- What is always true of what drafts and traces hold, kept as instructions come and go.
use Rattle.std.proofs.Common.{◌≡◌, ℕ, zero, suc, ◌+◌, ◌<◌, ◌≤◌, Bool, true, false, cond, eqb, ◌⊎◌, List, [], ◌∷◌, map, length, get_or, take, Some, None, vec_items, vec_len, sym, refl, ap, ◌∙◌, subst, inl, inr, arith}
use Rattle.std.proofs.lemmas.List.{take-map, get_or-take, length-map}
use Rattle.std.proofs.lemmas.Bool.{both_ways}
use Rattle.traces.specs.declared.contents.Contents.{Contents}
use Rattle.traces.specs.declared.entry.Address.{Address}
use Rattle.traces.specs.declared.entry.Entry.{Entry}
use Rattle.traces.specs.declared.entry.Kind.{Kind}
use Rattle.traces.specs.Adding.{same_address, thread_in, address_in, threads_of, addresses_of}
use Rattle.traces.specs.Kinds.{address, addressed}
use Rattle.traces.specs.Slots.{slot, Distinct}
use Rattle.traces.specs.Instructions.{instructions}
use Rattle.traces.specs.Stated.{stated_by, stated, entry_of, entries_of, ThreadsNamed, AddressesNamed, cleared, thread_reach, address_reach, reach}
use Rattle.traces.proofs.Slotting.{slot_own, appearing_take}
use Rattle.traces.proofs.Stating.{same_numbers, same_addresses, stated_same, entries_again, Needs, reach_appearing}
use Rattle.traces.proofs.Admitting.{more_threads, more_addresses, more_entries, plain_more, threads_named_more, addresses_named_more, stated_more, threads_more, addresses_more}

-- the thread numbers, addresses and entries of a value
abbrev pub threads_in : Contents → List ℕ
threads_in x = vec_items x.threads.items

abbrev pub addresses_in : Contents → List Address
addresses_in x = vec_items x.addresses.items

abbrev pub entries_in : Contents → List Entry
entries_in x = vec_items x.entries

-- what entries have to do with thread numbers and addresses
pub record Held (ts : List ℕ) (ds : List Address) (es : List Entry) : Type 0 where
  pub named_t : ThreadsNamed (length ts) es
  pub named_d : AddressesNamed (length ds) es
  pub plain : map cleared es ≡ es
  pub appear_t : ts ≡ threads_of (stated ts ds es)
  pub appear_d : ds ≡ addresses_of (stated ts ds es)

-- it is true of every value of the type
pub held : (x : Contents) → Held (threads_in x) (addresses_in x) (entries_in x)
held x = record {
  named_t = subst (λ n. ThreadsNamed n (entries_in x)) x.threads.items.ok.0 x.threads_named;
  named_d = subst (λ n. AddressesNamed n (entries_in x)) x.addresses.items.ok.0 x.addresses_named;
  plain = x.plain;
  appear_t = x.threads_appear;
  appear_d = x.addresses_appear;
}

-- the thread numbers and the addresses that the first n entries need
abbrev pub fewer_threads : List ℕ → List Entry → ℕ → List ℕ
fewer_threads ts es n = take (reach thread_reach (take n es)) ts

abbrev pub fewer_addresses : List Address → List Entry → ℕ → List Address
fewer_addresses ds es n = take (reach address_reach (take n es)) ds

module _ (ts : List ℕ) (ds : List Address) (es : List Entry) (h : Held ts ds es) where
  -- one more instruction
  pub held_more : (t : ℕ) (k : Kind) (a : Address) (r w : ℕ) → length ds ≤ length (more_addresses ts ds es t k a r w) → Held (more_threads ts ds es t k a r w) (more_addresses ts ds es t k a r w) (more_entries ts ds es t k a r w)
  held_more t k a r w le =
      let is = stated_more ts ds es t k a r w h.named_t h.named_d in
      record {
        named_t = threads_named_more ts ds es t k a r w h.named_t;
        named_d = addresses_named_more ts ds es t k a r w le h.named_d;
        plain = plain_more ts ds es t k a r w h.plain;
        appear_t = sym (ap threads_of is ∙ threads_more ts ds es t k a r w h.appear_t h.appear_d);
        appear_d = sym (ap addresses_of is ∙ addresses_more ts ds es t k a r w h.appear_t h.appear_d);
      }

  module _ (distinct_t : Distinct 0 ts) (distinct_d : Distinct (address 0) ds) where
    thread_needs : (k : ℕ) (d : Entry) → k < length es → Needs eqb same_numbers thread_in thread_reach (stated_by ts ds) ts (get_or es k d)
    thread_needs k d l = inr (get_or ts (get_or es k d).thread 0, refl, ap (λ n. n + 1) (sym (slot_own eqb same_numbers 0 ts distinct_t (get_or es k d).thread (h.named_t k d l))))

    address_needs_at : (b : Bool) (s : ℕ) → (b ≡ true → s < length ds) →
        ((cond b (Some (cond b (get_or ds s (address 0)) (address 0))) None ≡ None) × (cond b (s + 1) 0 ≡ 0)) ⊎ ((x : Address) × (cond b (Some (cond b (get_or ds s (address 0)) (address 0))) None ≡ Some x) × (cond b (s + 1) 0 ≡ slot same_address ds x + 1))
    address_needs_at true s l = inr (get_or ds s (address 0), refl, ap (λ n. n + 1) (sym (slot_own same_address same_addresses (address 0) ds distinct_d s (l refl))))
    address_needs_at false s l = inl (refl, refl)

    address_needs : (k : ℕ) (d : Entry) → k < length es → Needs same_address same_addresses address_in address_reach (stated_by ts ds) ds (get_or es k d)
    address_needs k d l = address_needs_at (addressed (get_or es k d).kind) (get_or es k d).address (h.named_d k d l)

    module _ (n : ℕ) where
      -- what is kept of the tables is what the entries that are kept bring
      threads_kept : (length (threads_of (take n (stated ts ds es))) ≡ reach thread_reach (take n es)) × (fewer_threads ts es n ≡ threads_of (take n (stated ts ds es)))
      threads_kept =
          let e = reach_appearing eqb same_numbers thread_in thread_reach (stated_by ts ds) ts [] es (sym h.appear_t) thread_needs n in
          let l : length (threads_of (take n (stated ts ds es))) ≡ reach thread_reach (take n es) = e ∙ omega arith in
          (l, ap (λ k. take k ts) (sym l) ∙ ap (take (length (threads_of (take n (stated ts ds es))))) h.appear_t ∙ appearing_take eqb thread_in [] (stated ts ds es) n)

      addresses_kept : (length (addresses_of (take n (stated ts ds es))) ≡ reach address_reach (take n es)) × (fewer_addresses ds es n ≡ addresses_of (take n (stated ts ds es)))
      addresses_kept =
          let e = reach_appearing same_address same_addresses address_in address_reach (stated_by ts ds) ds [] es (sym h.appear_d) address_needs n in
          let l : length (addresses_of (take n (stated ts ds es))) ≡ reach address_reach (take n es) = e ∙ omega arith in
          (l, ap (λ k. take k ds) (sym l) ∙ ap (take (length (addresses_of (take n (stated ts ds es))))) h.appear_d ∙ appearing_take same_address address_in [] (stated ts ds es) n)

      -- each entry is within the reach of its list
      reach_each : (of : Entry → ℕ) (l : List Entry) (k : ℕ) (d : Entry) → k < length l → of (get_or l k d) ≤ reach of l
      reach_each of [] k d b = absurd (omega arith)
      reach_each of (e ∷ l) zero d b = omega arith
      reach_each of (e ∷ l) (suc k) d b = omega (arith, reach_each of l k d (omega arith))

      threads_length : length (fewer_threads ts es n) ≡ reach thread_reach (take n es)
      threads_length = ap length threads_kept.1 ∙ threads_kept.0

      addresses_length : length (fewer_addresses ds es n) ≡ reach address_reach (take n es)
      addresses_length = ap length addresses_kept.1 ∙ addresses_kept.0

      reach_at : (b : Bool) (s m : ℕ) → cond b (s + 1) 0 ≤ m → b ≡ true → s < m
      reach_at true s m l e = omega arith
      reach_at false s m l e = absurd (both_ways false refl e)

      kept_t : (k : ℕ) (d : Entry) → k < length (take n es) → (get_or (take n es) k d).thread < reach thread_reach (take n es)
      kept_t k d l = omega (arith, reach_each thread_reach (take n es) k d l)

      kept_d : (k : ℕ) (d : Entry) → k < length (take n es) → addressed (get_or (take n es) k d).kind ≡ true → (get_or (take n es) k d).address < reach address_reach (take n es)
      kept_d k d l = reach_at (addressed (get_or (take n es) k d).kind) (get_or (take n es) k d).address _ (reach_each address_reach (take n es) k d l)

      -- the instructions that are kept are the first n
      pub stated_fewer : stated (fewer_threads ts es n) (fewer_addresses ds es n) (take n es) ≡ take n (stated ts ds es)
      stated_fewer =
          stated_same (fewer_threads ts es n) (fewer_addresses ds es n) ts ds (take n es) (λ k d l. (get_or-take (reach thread_reach (take n es)) ts _ 0 (kept_t k d l), λ y. get_or-take (reach address_reach (take n es)) ds _ (address 0) (kept_d k d l y)))
          ∙ sym (take-map (stated_by ts ds) n es)

      -- what is true stays true where entries are taken away
      pub held_fewer : Held (fewer_threads ts es n) (fewer_addresses ds es n) (take n es)
      held_fewer = record {
        named_t = subst (λ m. ThreadsNamed m (take n es)) (sym threads_length) kept_t;
        named_d = subst (λ m. AddressesNamed m (take n es)) (sym addresses_length) kept_d;
        plain = sym (take-map cleared n es) ∙ ap (take n) h.plain;
        appear_t = threads_kept.1 ∙ ap threads_of (sym stated_fewer);
        appear_d = addresses_kept.1 ∙ ap addresses_of (sym stated_fewer);
      }

-- the same of equal lists
pub held_at : (ts us : List ℕ) (ds fs : List Address) (es gs : List Entry) → us ≡ ts → fs ≡ ds → gs ≡ es → Held ts ds es → Held us fs gs
held_at ts us ds fs es gs et ed ee h = subst (λ x. Held x fs gs) (sym et) (subst (λ x. Held ts x gs) (sym ed) (subst (Held ts ds) (sym ee) h))

pub stated_at : (ts us : List ℕ) (ds fs : List Address) (es gs : List Entry) → us ≡ ts → fs ≡ ds → gs ≡ es → stated us fs gs ≡ stated ts ds es
stated_at ts us ds fs es gs et ed ee = ap (λ x. stated x fs gs) et ∙ ap (λ x. stated ts x gs) ed ∙ ap (stated ts ds) ee

-- the entries are those of the instructions
pub entries_are : (x : Contents) → entries_of (instructions x) ≡ entries_in x
entries_are x =
    let h = held x in
    ap (λ l. map (entry_of l (addresses_of (instructions x))) (instructions x)) (sym h.appear_t)
    ∙ ap (λ l. map (entry_of (threads_in x) l) (instructions x)) (sym h.appear_d)
    ∙ entries_again (threads_in x) (addresses_in x) (entries_in x) (x.threads.distinct 0) (x.addresses.distinct (address 0)) h.named_t h.named_d h.plain

-- there are no more addresses than a draft may have
pub few_addresses : (x : Contents) → length (addresses_of (instructions x)) ≤ 16
few_addresses x = subst (λ n. n ≤ 16) (x.addresses.items.ok.0 ∙ ap length x.addresses_appear) x.addresses.few

-- there are as many instructions as entries
pub length_held : (x : Contents) → length (instructions x) ≡ vec_len x.entries
length_held x = length-map (entries_in x) (stated_by (threads_in x) (addresses_in x)) ∙ sym x.entries.ok.0

-- and at most 64
pub few_entries : (x : Contents) → length (instructions x) ≤ 64
few_entries x = subst (λ n. n ≤ 64) (sym (length_held x)) x.few_entries
