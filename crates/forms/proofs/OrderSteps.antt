-- The steps of the order form, as its code makes them.
use Rattle.std.proofs.Common.{◌≡◌, ℕ, ◌<◌, ◌≤◌, Bool, true, false, cond, not, ◌&&◌, ltb, List, length, Some, None, Option, set-set, sym, refl, ap, ◌∙◌, subst, arith}
use Rattle.std.specs.Prelude.{slice_index, slice_set}
use Rattle.std.specs.List.{slice_get}
use Rattle.std.proofs.lemmas.List.{set-get_or}
use Rattle.std.proofs.lemmas.Bool.{and_from, and_left, and_right, cond-false, cond-true, le-ltb, lt-ltb, ltb-true, not_from_false, not_from_true}
use Rattle.traces.specs.declared.entry.Entry.{Entry}
use Rattle.traces.specs.Kinds.{writes}
use Rattle.traces.specs.Stated.{entries_of}
use Rattle.traces.proofs.Holding.{few_entries}
use Rattle.forms.specs.declared.entry_set.EntrySet.{EntrySet}
use Rattle.forms.specs.declared.memory.Memory.{Memory}
use Rattle.forms.specs.declared.order_form.OrderForm.{OrderForm}
use Rattle.forms.specs.Carrying.{may_carry_out, some_below}
use Rattle.forms.specs.EntrySets.{inserted, member, removed}
use Rattle.forms.specs.Memories.{held_entry, with_word, word_at, word_of}
use Rattle.forms.specs.OrderForms.{after_placing, kept_in, order_done, order_note, order_step, shown, traced}
use Rattle.forms.specs.OrderMachine.{all_placed, place, placing, unplaced}
use Rattle.forms.specs.Runs.{ruled}
use Rattle.forms.specs.Lemmas.Basics.{some_below_decides, some_below_none, writes_addressed}
use Rattle.forms.specs.Lemmas.Entered.{address_slot_below, entry_address}
use Rattle.forms.proofs.Entered.{entry_found, entry_missing}
use Rattle.forms.proofs.Members.{removed_inserted}
use Rattle.forms.specs.Lemmas.OrderRuns.{order_within, step_below, step_fresh}
use Rattle.forms.specs.Lemmas.Simulation.{ruled_some}
use Rattle.forms.proofs.Agreeing.{may_agree}

-- a step that the rules allow
pub ruled_from : {S T : Type 0} (answer : Option T) (u : S) (v : T) → answer ≡ Some v → ruled answer u ≡ Some u
ruled_from answer u v h = ap (λ a. ruled a u) h

-- a step that the rules refuse
pub ruled_none : {S T : Type 0} (answer : Option T) (u : S) → answer ≡ None → ruled answer u ≡ None
ruled_none answer u h = ap (λ a. ruled a u) h

-- memory with another word, where a test says so
abbrev changed : Memory → ℕ → ℕ → Bool → Memory
changed m n w b = cond b (record { words = slice_set m.words n w }) m

-- the word put back is the one that was there
pub word_put_back : (m : Memory) (e : Entry) (w : ℕ) → with_word (with_word m e w) e (word_of m e) ≡ m
word_put_back m e w = go (writes e.kind)
  where
    go : (b : Bool) → changed (changed m e.address w b) e.address (cond b (slice_index m.words e.address) 0) b ≡ m
    go true = ap (λ (l : List ℕ). record { words = l }) (set-set m.words e.address w (slice_index m.words e.address) ∙ set-get_or m.words e.address 0)
    go false = refl

module _ {X : Type 0} (f : OrderForm X) (e : ℕ) where
  -- whether the rules allow entry e
  abbrev allows : Bool
  allows = ltb e (length (traced f)) && (unplaced (shown f) e && may_carry_out (traced f) (kept_in f) (unplaced (shown f)) (shown f).memory e)

  refused : allows ≡ false → order_step f e ≡ None
  unfolding place
  refused h = ruled_none _ (after_placing f e) (cond-false allows _ None h)

  -- an entry that does not exist is refused
  pub step_missing : slice_get (entries_of (traced f)) e ≡ None → order_step f e ≡ None
  step_missing h = refused (and_left (ltb e (length (traced f))) _ (le-ltb _ _ (entry_missing (traced f) e h)))

  -- a placed entry is refused
  pub step_placed : member f.placed e ≡ true → order_step f e ≡ None
  step_placed h = refused (and_right (ltb e (length (traced f))) _ (and_left (unplaced (shown f) e) _ (not_from_true _ h)))

  module _ (r : Entry) (found : slice_get (entries_of (traced f)) e ≡ Some r) where
    below : e < length (traced f)
    below = (entry_found (traced f) e r found).0

    -- the slot of an entry that writes is one of memory's words
    pub slot_below : writes r.kind ≡ true → r.address < 16
    slot_below written =
        let same = (entry_found (traced f) e r found).1 in
        let on = writes_addressed (traced f) e (sym (ap (λ (x : Entry). writes x.kind) same) ∙ written) in
        let at = ap (λ (x : Entry). x.address) same ∙ entry_address f.ordered.trace.contents e below on in
        omega (arith, at, address_slot_below f.ordered.trace.contents e below on)

    module _ (pending : EntrySet) (complement : (i : ℕ) → i < 64 → member pending i ≡ not (member f.placed i)) (answer : Bool)
        (may : answer ≡ may_carry_out (traced f) (kept_in f) (member pending) (word_at (traced f) f.memory) e) where
      may_be : may_carry_out (traced f) (kept_in f) (unplaced (shown f)) (shown f).memory e ≡ answer
      may_be =
          sym (may ∙ may_agree (traced f) (kept_in f) (member pending) (unplaced (shown f)) (word_at (traced f) f.memory) e
          (λ i l. complement i (omega (arith, l, below, few_entries f.ordered.trace.contents))))

      -- an entry that may not be carried out is refused
      pub step_kept_back : answer ≡ false → order_step f e ≡ None
      step_kept_back h = refused (and_right (ltb e (length (traced f))) _ (and_right (unplaced (shown f) e) _ (may_be ∙ h)))

      -- any other is placed
      pub step_placing : member f.placed e ≡ false → answer ≡ true → (placed : EntrySet) (memory : Memory) → placed ≡ inserted f.placed e
          → memory ≡ with_word f.memory r r.written
          → order_step f e ≡ Some (record { ordered = f.ordered; model = f.model; placed = placed; memory = memory })
      unfolding place
      step_placing fresh h placed memory p m =
          let allowed : allows ≡ true = and_from _ _ (lt-ltb _ _ below) (and_from _ _ (not_from_false _ fresh) (may_be ∙ h)) in
          let m₂ : memory ≡ (after_placing f e).memory = m ∙ ap (λ (x : Entry). with_word f.memory x x.written) (entry_found (traced f) e r found).1 in
          ruled_from _ (after_placing f e) (placing (traced f) (shown f) e) (cond-true allows _ None allowed)
          ∙ ap (λ (s : EntrySet). Some (record { ordered = f.ordered; model = f.model; placed = s; memory = (after_placing f e).memory })) (sym p)
          ∙ ap (λ (n : Memory). Some (record { ordered = f.ordered; model = f.model; placed = placed; memory = n })) (sym m₂)

    -- the note is the word that the entry overwrites
    pub note_is : word_of f.memory r ≡ order_note f e
    note_is = ap (λ (x : Entry). word_of f.memory x) (entry_found (traced f) e r found).1

-- a step taken back
module _ {X : Type 0} (p : OrderForm X) (e : ℕ) (r : Entry) (told : ℕ) (note : told ≡ order_note p e) (placed : EntrySet) (memory : Memory) where
  -- the step is undone in the set and in memory
  undone : e < 64 → member p.placed e ≡ false → slice_get (entries_of (traced p)) e ≡ Some r → placed ≡ removed (inserted p.placed e) e
      → memory ≡ with_word (after_placing p e).memory r told
      → record { ordered = p.ordered; model = p.model; placed = placed; memory = memory } ≡ p
  undone few fresh found s m =
      let same = (entry_found (traced p) e r found).1 in
      let s₂ : placed ≡ p.placed = s ∙ removed_inserted p.placed e few fresh in
      let m₂ : memory ≡ p.memory =
      m ∙ ap (λ (x : Entry). with_word (after_placing p e).memory x told) same ∙ ap (with_word (after_placing p e).memory (held_entry (traced p) e)) note
      ∙ word_put_back p.memory (held_entry (traced p) e) (held_entry (traced p) e).written in
      ap (λ (x : EntrySet). record { ordered = p.ordered; model = p.model; placed = x; memory = memory }) s₂
      ∙ ap (λ (x : Memory). record { ordered = p.ordered; model = p.model; placed = p.placed; memory = x }) m₂

  pub step_back : (f : OrderForm X) → order_step p e ≡ Some f → slice_get (entries_of (traced f)) e ≡ Some r → placed ≡ removed f.placed e
      → memory ≡ with_word f.memory r told
      → record { ordered = f.ordered; model = f.model; placed = placed; memory = memory } ≡ p
  step_back f step =
      let a = ruled_some (place (traced p) (kept_in p) (shown p) e) (after_placing p e) f step in
      let Back : OrderForm X → Type 0 = λ q. slice_get (entries_of (traced q)) e ≡ Some r → placed ≡ removed q.placed e → memory ≡ with_word q.memory r told
      → record { ordered = q.ordered; model = q.model; placed = placed; memory = memory } ≡ p in
      subst Back (sym a.2) (undone (order_within p f e step) (step_fresh p e a.0 a.1))

-- from an entry that does not exist no step was made
apart : (e m n : ℕ) → m ≡ n → e < n → m ≤ e → ⊥
apart e m n same below past = omega arith

pub no_step_back : {X : Type 0} (f p : OrderForm X) (e : ℕ) → slice_get (entries_of (traced f)) e ≡ None → order_step p e ≡ Some f → ⊥
no_step_back {X} f p e missing step =
    let a = ruled_some (place (traced p) (kept_in p) (shown p) e) (after_placing p e) f step in
    let same : length (traced f) ≡ length (traced p) = ap (λ (q : OrderForm X). length (traced q)) a.2 in
    let below : e < length (traced p) = step_below p e a.0 a.1 in
    let past : length (traced f) ≤ e = entry_missing (traced f) e missing in
    apart e (length (traced f)) (length (traced p)) same below past

-- all entries are placed where none is outside
pub done_is : {X : Type 0} (f : OrderForm X) (outside : EntrySet) (b : Bool)
    → ((i : ℕ) → i < 64 → member outside i ≡ not (member f.placed i))
    → (b ≡ true → (i : ℕ) × (i < 64) × (member f.ordered.all i ≡ true) × (member outside i ≡ true))
    → (b ≡ false → (i : ℕ) → member f.ordered.all i ≡ true → member outside i ≡ true → ⊥)
    → not b ≡ order_done f
unfolding all_placed
done_is f outside b complement common apart = ap not (go b common apart)
  where
    go : (b : Bool) → (b ≡ true → (i : ℕ) × (i < 64) × (member f.ordered.all i ≡ true) × (member outside i ≡ true))
        → (b ≡ false → (i : ℕ) → member f.ordered.all i ≡ true → member outside i ≡ true → ⊥)
        → b ≡ some_below (unplaced (shown f)) (length (traced f))
    go true common apart =
        let i = common refl in
        sym ((some_below_decides (unplaced (shown f)) (length (traced f))).1
        (i.0, ltb-true _ _ (sym (f.ordered.whole i.0) ∙ i.2), sym (complement i.0 i.1) ∙ i.3))
    go false common apart = sym (some_below_none (unplaced (shown f)) (length (traced f)) (λ i l u. apart refl i
        (f.ordered.whole i ∙ lt-ltb _ _ l) (complement i (omega (arith, l, few_entries f.ordered.trace.contents)) ∙ u)))

-- what the moves need of an entry that is found, and of one that is not
pub ruleset moving = (slot_below, step_missing, no_step_back)
