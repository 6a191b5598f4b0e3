-- The order form makes the runs of the order machine.
use Rattle.std.specs.Prelude.{◌≡◌, ℕ, suc, ◌<◌, ◌≤◌, Bool, true, false, not, ◌||◌, List, length, Some, Option, ◌==◌, refl}
use Rattle.std.proofs.Common.{sym, ◌∙◌, subst, inl, inr, arith}
use Rattle.std.proofs.Math.Path.{ap, fun_ext}
use Rattle.std.specs.List.{range_with_len}
use Rattle.std.proofs.lemmas.List.FromFn.{length-range_with_len}
use Rattle.std.proofs.lemmas.List.Sums.{count_by-le-length}
use Rattle.std.proofs.lemmas.Bool.{cases_eq, eq-eqb, ne_eqb}
use Rattle.traces.specs.declared.entry.Address.{Address}
use Rattle.traces.proofs.Holding.{few_entries}
use Rattle.forms.specs.declared.entry_set.EntrySet.{EntrySet}
use Rattle.forms.specs.declared.order_form.OrderForm.{OrderForm}
use Rattle.forms.specs.EntrySets.{inserted, member}
use Rattle.forms.specs.Lawful.{Lawful}
use Rattle.forms.specs.Memories.{blank, held_entry, word_at}
use Rattle.forms.specs.OrderForms.{after_placing, kept_in, order_carries, order_done, order_left, order_start, order_step, shown, traced}
use Rattle.forms.specs.OrderMachine.{OrderPosition, all_placed, order_opening, place, placing, places}
use Rattle.forms.specs.PreservedOrder.{Laws}
use Rattle.forms.specs.Runs.{Reaches, carried_out, run}
use Rattle.forms.specs.Lemmas.Counting.{count_one_less}
use Rattle.forms.specs.Lemmas.Members.{member_inserted_other, member_inserted_same, member_none}
use Rattle.forms.specs.Lemmas.Placing.{carried_places, lawful_order, order_lawful, place_ready}
use Rattle.forms.specs.Lemmas.Remembering.{blank_at, with_word_length, word_stored}
use Rattle.forms.specs.Lemmas.Simulation.{carried_alike, ruled_some, run_back, run_forth, run_keeps}
use Rattle.forms.specs.Lemmas.Tabled.{tabled_laws}

-- a set with one number more, by membership
member_more : (s : EntrySet) (e : ℕ) → e < 64 → (i : ℕ) → member (inserted s e) i ≡ (i == e || member s i)
member_more s e below i = elim (cases_eq i e) [
  | inl same ↦ subst (λ n. member (inserted s e) n ≡ (n == e || member s n)) (sym same)
      (member_inserted_same s e below ∙ sym (ap (λ b. b || member s e) (eq-eqb e e refl)))
  | inr other ↦ member_inserted_other s e i other ∙ sym (ap (λ b. b || member s i) (ne_eqb i e other))
]

-- a number that is one less
one_less : (a b c : ℕ) → a ≡ suc b → c ≡ b → c < a
one_less a b c more same = omega arith

module _ {X : Type 0} where
  -- memory has its sixteen words
  abbrev Sized : OrderForm X → Type 0
  Sized f = length f.memory.words ≡ 16

  -- the rules at a form
  abbrev rules : OrderForm X → OrderPosition → ℕ → Option OrderPosition
  rules f = place (traced f) (kept_in f)

  -- a step that the rules allow places an entry of the trace
  pub step_below : (f : OrderForm X) (e : ℕ) (v : OrderPosition) → rules f (shown f) e ≡ Some v → e < length (traced f)
  step_below f e v h = (place_ready (traced f) (kept_in f) (shown f) v e h).0.below

  pub step_fresh : (f : OrderForm X) (e : ℕ) (v : OrderPosition) → rules f (shown f) e ≡ Some v → member f.placed e ≡ false
  step_fresh f e v h = (place_ready (traced f) (kept_in f) (shown f) v e h).0.fresh

  -- the form after an entry shows the position after it
  placing_shows : (f : OrderForm X) (e : ℕ) → Sized f → e < length (traced f) → shown (after_placing f e) ≡ placing (traced f) (shown f) e
  unfolding placing
  placing_shows f e sized below =
      let few : e < 64 = omega (arith, below, few_entries f.ordered.trace.contents) in
      ap (λ (g : ℕ → Bool). record { placed = g; memory = word_at (traced f) (after_placing f e).memory }) (fun_ext (member_more f.placed e few))
      ∙ ap (λ (g : Address → ℕ). record { placed = λ i. (i == e) || member f.placed i; memory = g })
      (word_stored f.ordered.trace.contents e below f.memory sized)

  after_shows : (f : OrderForm X) (e : ℕ) (v : OrderPosition) → Sized f → rules f (shown f) e ≡ Some v
      → (shown (after_placing f e) ≡ v) × Sized (after_placing f e)
  after_shows f e v sized h = (
    placing_shows f e sized (step_below f e v h) ∙ sym (place_ready (traced f) (kept_in f) (shown f) v e h).1,
    with_word_length f.memory (held_entry (traced f) e) (held_entry (traced f) e).written sized,
  )

  -- the opening shows the machine's opening
  start_shows : (f : OrderForm X) → shown (order_start f) ≡ order_opening
  unfolding order_opening
  start_shows f =
      ap (λ (g : ℕ → Bool). record { placed = g; memory = word_at (traced f) blank }) (fun_ext member_none)
      ∙ ap (λ (g : Address → ℕ). record { placed = λ i. false; memory = g }) (fun_ext (blank_at (traced f)))

  -- the preserved order of a form has the two laws
  laws : (f : OrderForm X) → Laws (traced f) (kept_in f)
  laws f = tabled_laws (traced f) f.ordered.waiting f.ordered.links f.ordered.prompt f.ordered.coherent

  -- codes that lead from the opening to a form show a run of the machine
  shown_run : (f q : OrderForm X) (cs : List ℕ) → run order_step (order_start f) cs ≡ Some q → run (rules f) order_opening cs ≡ Some (shown q)
  shown_run f q cs h =
      subst (λ s. run (rules f) s cs ≡ Some (shown q)) (start_shows f)
      (run_forth rules shown after_placing Sized (λ s c. refl) after_shows cs (order_start f) q refl h)

  carried : (f : OrderForm X) (cs : List ℕ) (v : OrderPosition) → run (rules f) order_opening cs ≡ Some v
      → carried_out order_step order_carries (order_start f) cs ≡ cs
  carried f cs v h =
      carried_alike rules shown after_placing Sized (λ s c. refl) after_shows (λ s. places) (λ s c. refl) cs (order_start f) refl
      ∙ ap (λ s. carried_out (rules f) places s cs) (start_shows f)
      ∙ carried_places (traced f) (kept_in f) order_opening cs v h

  -- codes that lead from the opening to a finished form carry out a lawful order
  pub order_sound : (f q : OrderForm X) (cs : List ℕ) → run order_step (order_start f) cs ≡ Some q → order_done q ≡ true
      → Lawful (traced f) (kept_in f) (carried_out order_step order_carries (order_start f) cs)
  order_sound f q cs h done =
      let shown-h = shown_run f q cs h in
      let same : traced q ≡ traced f = run_keeps rules shown after_placing traced (λ s c. refl) cs (order_start f) q h in
      let all : all_placed (traced f) (shown q) ≡ true = subst (λ is. all_placed is (shown q) ≡ true) same done in
      subst (Lawful (traced f) (kept_in f)) (sym (carried f cs (shown q) shown-h)) (order_lawful (traced f) (kept_in f) (laws f) cs (shown q) shown-h all)

  -- and every lawful order is carried out by some
  pub order_complete : (f : OrderForm X) (o : List ℕ) → Lawful (traced f) (kept_in f) o → Reaches order_step order_carries order_done (order_start f) o
  order_complete f o lawful =
      let reached = lawful_order (traced f) (kept_in f) (laws f) o lawful in
      let from_start : run (rules f) (shown (order_start f)) o ≡ Some reached.0 = subst (λ s. run (rules f) s o ≡ Some reached.0) (sym (start_shows f)) reached.1 in
      let found = run_back rules shown after_placing Sized (λ s c. refl) after_shows o (order_start f) reached.0 refl from_start in
      let same : traced found.0 ≡ traced f = run_keeps rules shown after_placing traced (λ s c. refl) o (order_start f) found.0 found.1 in
      let done : all_placed (traced f) (shown found.0) ≡ true = subst (λ s. all_placed (traced f) s ≡ true) (sym found.2) reached.2 in (
        o,
        found.0,
        found.1,
        subst (λ is. all_placed is (shown found.0) ≡ true) (sym same) done,
        carried f o reached.0 reached.1,
      )

  -- at most the entries that a trace can have are left to place
  pub order_bounded : (p : OrderForm X) → order_left p ≤ 128
  order_bounded p = omega (arith, count_by-le-length (λ i. not (member p.placed i)) (range_with_len 0 64), length-range_with_len 0 64)

  module _ (p q : OrderForm X) (e : ℕ) (h : order_step p e ≡ Some q) where
    allowed : (v : OrderPosition) × (rules p (shown p) e ≡ Some v) × (q ≡ after_placing p e)
    allowed = ruled_some (rules p (shown p) e) (after_placing p e) q h

    -- a step has a code below 64
    pub order_within : e < 64
    order_within = omega (arith, step_below p e allowed.0 allowed.1, few_entries p.ordered.trace.contents)

    -- a step leaves one fewer to place
    pub order_lowers : order_left q < order_left p
    order_lowers =
        let fresh = step_fresh p e allowed.0 allowed.1 in
        let less = count_one_less (λ i. not (member p.placed i)) (λ i. not (member (inserted p.placed e) i)) 64 e order_within
        (ap not fresh) (ap not (member_inserted_same p.placed e order_within))
        (λ i other. ap not (sym (member_inserted_other p.placed e i other))) in
        one_less (order_left p) (order_left (after_placing p e)) (order_left q) less (ap order_left allowed.2)
