-- The entry that forwards a value and those that keep an entry back, found by sets of entries.
use Rattle.std.proofs.Common.{◌≡◌, ℕ, ◌<◌, ◌≤◌, Bool, true, false, ◌&&◌, eqb, List, length, Some, None, Option, sym, refl, ap, ◌∙◌, arith, MatchOption}
use Rattle.std.specs.List.{slice_get}
use Rattle.std.proofs.lemmas.List.{get_or_past}
use Rattle.std.proofs.lemmas.Bool.{and_from, and_parts, eq-eqb, lt-ltb}
use Rattle.traces.specs.declared.contents.Contents.{Contents}
use Rattle.traces.specs.declared.entry.Address.{Address}
use Rattle.traces.specs.declared.entry.Entry.{Entry}
use Rattle.traces.specs.declared.entry.Instruction.{Instruction}
use Rattle.traces.specs.Adding.{same_address}
use Rattle.traces.specs.Instructions.{instructions}
use Rattle.traces.specs.Kinds.{reads}
use Rattle.traces.specs.Stated.{entries_of}
use Rattle.forms.specs.declared.entry_links.EntryLinks.{EntryLinks}
use Rattle.forms.specs.declared.entry_set.EntrySet.{EntrySet}
use Rattle.forms.specs.Carrying.{contents, forwarded, forwarding, keeping, last_below, may_carry_out, seen, some_below}
use Rattle.forms.specs.Entries.{instruction_at, reads_at, writes_at}
use Rattle.forms.specs.EntrySets.{LatestCommon, member}
use Rattle.forms.specs.KeptPairs.{is_earlier}
use Rattle.forms.specs.Memories.{address_slot}
use Rattle.forms.specs.OrderTables.{OnlyEarlier, WritersInTable, links_at, tabled}
use Rattle.forms.specs.Lemmas.Basics.{last_below_none, last_below_some, reads_addressed, some_below_decides, some_below_none}
use Rattle.forms.specs.Lemmas.Entered.{address_slot_below, entry_address}
use Rattle.forms.proofs.Entered.{entry_found, entry_missing}
use Rattle.forms.proofs.Preserving.{earlier_parts}

-- r is the largest number below k that passes, or `None` where no number below k passes
abbrev Latest : (ℕ → Bool) → ℕ → Option ℕ → Type 0
Latest f k r =
    MatchOption r ((v : ℕ) → v < k → f v ≡ true → ⊥) (λ w. (w < k) × (f w ≡ true) × ((v : ℕ) → v < k → f v ≡ true → v ≤ w))

-- such a number is the one that is found
latest_found : (f : ℕ → Bool) (k : ℕ) (r found : Option ℕ) → last_below f k ≡ found → Latest f k r → r ≡ found
latest_found f k None None given latest = refl
latest_found f k None (Some w) given latest = let largest = last_below_some f k w given in absurd (latest w largest.0 largest.1)
latest_found f k (Some w) None given latest = absurd (last_below_none f k given w latest.0 latest.1)
latest_found f k (Some w) (Some v) given latest =
    let largest = last_below_some f k v given in
    let at_most : w ≤ v = largest.2 w latest.0 latest.1 in
    let at_least : v ≤ w = latest.2 v largest.0 largest.1 in
    let same : w ≡ v = omega arith in
    ap Some same

-- and so it is what the search gives
last_below_is : (f : ℕ → Bool) (k : ℕ) (r : Option ℕ) → Latest f k r → r ≡ last_below f k
last_below_is f k r latest = latest_found f k r (last_below f k) refl latest

-- the pending ones of the entries in the table of writers are those that forward
module _ (is : List Instruction) (links : List EntryLinks) (pending : EntrySet) (e : ℕ) (there : e < length is) (in_table : WritersInTable is links) where
  -- a pending entry in the set of e forwards
  writer_forwards : (i : ℕ) → member (links_at links e).writers i ≡ true → member pending i ≡ true → (i < e) × (forwarding is (member pending) e i ≡ true)
  unfolding forwarding
  writer_forwards i writer pends =
      let a = and_parts (is_earlier is i e) (writes_at is i && same_address (instruction_at is i).address (instruction_at is e).address) (sym (in_table e i there) ∙ writer) in
      let b = earlier_parts is i e a.0 in
      (b.0.0, and_from _ _ (eq-eqb _ _ b.0.1) (and_from _ _ pends a.1))

  -- an entry that forwards is in the set of e, and pending
  forwards_writer : (i : ℕ) → i < e → forwarding is (member pending) e i ≡ true → (member (links_at links e).writers i ≡ true) × (member pending i ≡ true)
  unfolding forwarding
  forwards_writer i before h =
      let writes : Bool = writes_at is i && same_address (instruction_at is i).address (instruction_at is e).address in
      let a = and_parts (eqb (instruction_at is i).thread (instruction_at is e).thread) (member pending i && writes) h in
      let b = and_parts (member pending i) writes a.1 in
      let earlier : is_earlier is i e ≡ true = and_from _ _ (and_from _ _ (lt-ltb i e before) (lt-ltb e (length is) there)) a.0 in
      (in_table e i there ∙ and_from _ _ earlier b.1, b.0)

  -- the greatest one in common is the latest that forwards
  latest_forwards : (r : Option ℕ) → LatestCommon (links_at links e).writers pending r → Latest (forwarding is (member pending) e) e r
  latest_forwards None none = λ v before h. let w = forwards_writer v before h in none v w.0 w.1
  latest_forwards (Some w) common =
      let here = writer_forwards w common.1 common.2 in
      (here.0, here.1, λ v before h. let b = forwards_writer v before h in common.3 v b.0 b.1)

  -- and so it is the one that is searched for
  pub common_forwards : (r : Option ℕ) → LatestCommon (links_at links e).writers pending r → r ≡ last_below (forwarding is (member pending) e) e
  common_forwards r common = last_below_is (forwarding is (member pending) e) e r (latest_forwards r common)

-- past the end of a trace nothing is written
pub written_past : (is : List Instruction) (w : ℕ) → length is ≤ w → 0 ≡ (instruction_at is w).written
written_past is w past = ap (λ (i : Instruction). i.written) (sym (get_or_past is w _ past))

-- what an entry sees
module _ (is : List Instruction) (pending : ℕ → Bool) (memory : Address → ℕ) (e : ℕ) where
  -- where one forwards, what that one wrote
  pub seen_forwarded : (w : ℕ) → last_below (forwarding is pending e) e ≡ Some w → (instruction_at is w).written ≡ seen is pending memory e
  unfolding seen
  seen_forwarded w h = sym (ap (λ r. forwarded is r (contents is memory e)) h)

  -- where none forwards, what memory holds
  pub seen_memory : last_below (forwarding is pending e) e ≡ None → contents is memory e ≡ seen is pending memory e
  unfolding seen
  seen_memory h = sym (ap (λ r. forwarded is r (contents is memory e)) h)

-- an entry that is found reads where its instruction does
found_reads : (is : List Instruction) (e : ℕ) (r : Entry) → slice_get (entries_of is) e ≡ Some r → reads_at is e ≡ reads r.kind
found_reads is e r h = ap (λ (s : Entry). reads s.kind) (sym (entry_found is e r h).1)

-- an entry that reads holds the slot of its address, which is below 16
pub reading_slot : (x : Contents) (e : ℕ) (r : Entry) → slice_get (entries_of (instructions x)) e ≡ Some r → reads r.kind ≡ true
    → (r.address ≡ address_slot (instructions x) (instruction_at (instructions x) e).address) × (r.address < 16)
reading_slot x e r h reading =
    let found = entry_found (instructions x) e r h in
    let on = reads_addressed (instructions x) e (found_reads (instructions x) e r h ∙ reading) in
    let same = ap (λ (s : Entry). s.address) found.1 ∙ entry_address x e found.0 on in
    (same, omega (arith, same, address_slot_below x e found.0 on))

-- the pending ones of the entries in the table of those that keep ahead keep an entry back
module _ (is : List Instruction) (waiting : EntrySet) (links : List EntryLinks) (pending : EntrySet) (memory : Address → ℕ) (e : ℕ) where
  -- a pending entry in the set of e keeps e back
  keeps_back : OnlyEarlier is links → (i : ℕ) → member (links_at links e).ahead i ≡ true → member pending i ≡ true
      → some_below (keeping is (tabled waiting links) (member pending) e) e ≡ true
  unfolding keeping
  keeps_back only i keeps pends =
      let a = earlier_parts is i e (only i e keeps) in
      (some_below_decides (keeping is (tabled waiting links) (member pending) e) e).1
      (i, a.0.0, and_from _ _ (eq-eqb _ _ a.0.1) (and_from _ _ pends keeps))

  -- an entry that keeps e back is in the set of e, and pending
  keeping_parts : (i : ℕ) → keeping is (tabled waiting links) (member pending) e i ≡ true → (member (links_at links e).ahead i ≡ true) × (member pending i ≡ true)
  unfolding keeping
  keeping_parts i h =
      let b = and_parts (member pending i) (member (links_at links e).ahead i) (and_parts _ _ h).1 in
      (b.1, b.0)

  -- an entry that is kept back may not be carried out
  pub kept_back : OnlyEarlier is links → ((i : ℕ) × (i < 64) × (member (links_at links e).ahead i ≡ true) × (member pending i ≡ true))
      → false ≡ may_carry_out is (tabled waiting links) (member pending) memory e
  unfolding may_carry_out
  kept_back only (i, _, keeps, pends) = rw (keeps_back only i keeps pends)

  module _ (none : (i : ℕ) → member (links_at links e).ahead i ≡ true → member pending i ≡ true → ⊥) where
    -- nothing keeps e back
    nothing_keeps : some_below (keeping is (tabled waiting links) (member pending) e) e ≡ false
    nothing_keeps = some_below_none (keeping is (tabled waiting links) (member pending) e) e (λ i _ h. let a = keeping_parts i h in none i a.0 a.1)

    module _ (r : Entry) (found : slice_get (entries_of is) e ≡ Some r) where
      -- an entry that is not kept back and does not read may be carried out
      pub free_no_read : reads r.kind ≡ false → true ≡ may_carry_out is (tabled waiting links) (member pending) memory e
      unfolding may_carry_out
      free_no_read no_read = let no-read-at = found_reads is e r found ∙ no_read in rw (nothing_keeps, no-read-at)

      -- one that reads may be carried out where it has read what it sees
      pub free_reads : reads r.kind ≡ true → (x : ℕ) → x ≡ seen is (member pending) memory e
          → eqb r.read x ≡ may_carry_out is (tabled waiting links) (member pending) memory e
      unfolding may_carry_out
      free_reads reading x sees =
          let reads_at = found_reads is e r found ∙ reading in
          let same = ap (λ (s : Entry). s.read) (entry_found is e r found).1 in
          rw (nothing_keeps, reads_at, same, sees)

-- what tells the value that an entry writes
pub ruleset writing = (entry_found, entry_missing, written_past)

-- what tells the value that an entry sees
pub ruleset seeing = (reading_slot, seen_forwarded, seen_memory)

-- what tells whether an entry is kept back
pub ruleset carrying = (kept_back, free_no_read, free_reads)
