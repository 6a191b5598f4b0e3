-- The tables of a preserved order: which entries are in their sets, and what they have by that.
use Rattle.std.specs.Prelude.{◌≡◌, ℕ, ◌<◌, ◌≤◌, Bool, true, false, not, ◌&&◌, ltb, List, length, Some, nat_lt, slice_get}
use Rattle.std.proofs.Common.{sym, ◌∙◌, ap, ap₂, inl, inr, arith}
use Rattle.std.proofs.lemmas.List.{get_or_past}
use Rattle.std.proofs.Math.Path.{fun_ext}
use Rattle.std.proofs.lemmas.Option.{get_or_from_slice_get, slice_get_within}
use Rattle.std.proofs.lemmas.Bool.{and_from, and_parts, cases_lt, eq-eqb, false_from_ne_true, lt-ltb, ltb-true, not-true}
use Rattle.traces.specs.declared.contents.Contents.{Contents}
use Rattle.traces.specs.declared.entry.Instruction.{Instruction}
use Rattle.traces.specs.Adding.{same_address}
use Rattle.traces.specs.Instructions.{instructions}
use Rattle.traces.specs.Kinds.{writes}
use Rattle.traces.proofs.Holding.{few_entries}
use Rattle.forms.specs.declared.entry_links.EntryLinks.{EntryLinks}
use Rattle.forms.specs.declared.entry_set.EntrySet.{EntrySet}
use Rattle.forms.specs.Entries.{addressed_at, instruction_at, writes_at}
use Rattle.forms.specs.EntrySets.{member}
use Rattle.forms.specs.KeptPairs.{clipped, is_earlier, keeps, waiting}
use Rattle.forms.specs.OrderTables.{CoherentInTable, Linked, OnlyEarlier, PromptInTable, is_writer_before, links_at, no_links, tabled}
use Rattle.forms.specs.PreservedOrder.{Laws, Preserved}
use Rattle.forms.specs.Lemmas.Basics.{decides_same_address}
use Rattle.forms.specs.Lemmas.Members.{member_none}
use Rattle.forms.proofs.Building.{built_all}
use Rattle.forms.proofs.Preserving.{earlier_parts, keeps_from, keeps_parts}

-- an entry that waits is one of the trace
pub waiting_below : (is : List Instruction) (p : Preserved) (i : ℕ) → waiting is p i ≡ true → i < length is
waiting_below is p i h = ltb-true i (length is) (and_parts (nat_lt i (length is)) (p.waits i) h).0

-- a set that tells below 64 which of the entries wait tells it of every number, as a trace has no more
pub waiting_members : (x : Contents) (p : Preserved) (s : EntrySet) (n : ℕ) → n ≡ length (instructions x)
    → ((i : ℕ) → i < n → i < 64 → member s i ≡ waiting (instructions x) p i) → ((i : ℕ) → n ≤ i → member s i ≡ false) → ((i : ℕ) → 64 ≤ i → member s i ≡ false)
    → (i : ℕ) → member s i ≡ waiting (instructions x) p i
waiting_members x p s n all =
    built_all (waiting (instructions x) p) s n (λ i passes. let below = waiting_below (instructions x) p i passes in (omega arith, omega (arith, few_entries x)))

-- an entry that writes before another of its thread has a lower number, and the other is one of the trace
pub writer_below : (is : List Instruction) (e i : ℕ) → is_writer_before is e i ≡ true → (i < e) × (e < length is)
writer_below is e i h = let a = earlier_parts is i e (and_parts (is_earlier is i e) _ h).0 in (a.0.0, a.1)

-- once the links of 64 entries are there, which are all that a trace has, they tell of every pair what keeps ahead
pub linked_ahead : (is : List Instruction) (p : Preserved) (links : List EntryLinks) → length is ≤ 64 → length links ≡ 64
    → ((j : ℕ) → j < 64 → Linked is p j (links_at links j)) → (i j : ℕ) → member (links_at links j).ahead i ≡ keeps is p i j
linked_ahead is p links few long linked i j = elim (cases_lt j 64) [
  | inl below ↦ (linked j below).ahead i
  | inr past ↦ ap (λ (l : EntryLinks). member l.ahead i) (get_or_past links j no_links (omega arith)) ∙ member_none i ∙ sym (false_from_ne_true (keeps is p i j) (λ kept. omega (arith, (keeps_parts is p i j kept).1)))
]

module _ (is : List Instruction) (p : Preserved) (s : EntrySet) (links : List EntryLinks)
    (waits : (i : ℕ) → member s i ≡ waiting is p i) (ahead : (i j : ℕ) → member (links_at links j).ahead i ≡ keeps is p i j) where
  -- only earlier entries of its thread keep ahead of an entry
  pub only_earlier : OnlyEarlier is links
  only_earlier i j h = (and_parts (is_earlier is i j) (p.ahead i j) (sym (ahead i j) ∙ h)).0

  -- an entry that does not wait keeps ahead of every later one of its thread
  pub prompt_in_table : Laws is p → PromptInTable is s links
  prompt_in_table laws i j h =
      let a = and_parts (is_earlier is i j) (not (member s i)) h in
      let b = earlier_parts is i j a.0 in
      let there : ltb i (length is) ≡ true = lt-ltb i (length is) (omega (arith, b.0.0, b.1)) in
      let prompt = sym (ap (λ t. t && p.waits i) there) ∙ sym (waits i) ∙ not-true (member s i) a.1 in
      ahead i j ∙ keeps_from is p i j b.0 b.1 (laws.prompt i j b.0 b.1 prompt)

  -- an entry on an address keeps ahead of every later one of its thread that writes that address
  pub coherent_in_table : Laws is p → CoherentInTable is links
  coherent_in_table laws i j h =
      let a = and_parts (is_earlier is i j) _ h in
      let b = earlier_parts is i j a.0 in
      let c = and_parts (addressed_at is i) _ a.1 in
      let d = and_parts (writes_at is j) _ c.1 in
      let same = (decides_same_address (instruction_at is i).address (instruction_at is j).address).0 d.1 in
      ahead i j ∙ keeps_from is p i j b.0 b.1 (laws.coherent i j b.0 b.1 c.0 d.0 same)

  -- the tables have the preserved order, told of the entries of the trace alone
  pub tabled_clipped : tabled s links ≡ clipped is p
  tabled_clipped = ap₂ (λ f g. record { waits = f; ahead = g }) (fun_ext waits) (fun_ext (λ i. fun_ext (ahead i)))

-- an entry that is found
pub found : (is : List Instruction) (i : ℕ) (x : Instruction) → slice_get is i ≡ Some x → (i < length is) × (instruction_at is i ≡ x)
found is i x h = (slice_get_within is i x h, get_or_from_slice_get is i x _ h)

module _ (is : List Instruction) (e i : ℕ) (x y : Instruction) (at_i : slice_get is i ≡ Some x) (at_e : slice_get is e ≡ Some y)
    (below : i < e) (thread : x.thread ≡ y.thread) where
  pub earlier_found : is_earlier is i e ≡ true
  earlier_found =
      let a = found is i x at_i in
      let b = found is e y at_e in
      and_from _ _ (and_from _ _ (lt-ltb _ _ below) (lt-ltb _ _ b.0)) (eq-eqb _ _ (rw (a.1, b.1) thread))

  -- an earlier entry of the thread is a writer where it writes and the addresses are the same
  writer_found : (writes x.kind && same_address x.address y.address) ≡ is_writer_before is e i
  writer_found =
      let h : (writes_at is i && same_address (instruction_at is i).address (instruction_at is e).address) ≡ is_writer_before is e i = rw earlier_found in
      rw (← (found is i x at_i).1, ← (found is e y at_e).1) h

  -- where the earlier entry writes, a test of the two addresses tells
  pub writer_tested : true ≡ writes x.kind → (b : Bool) → b ≡ same_address x.address y.address → b ≡ is_writer_before is e i
  writer_tested writing b test = test ∙ ap (λ t. t && same_address x.address y.address) writing ∙ writer_found
