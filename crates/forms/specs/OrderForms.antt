-- The order form: what its positions show, and its steps by the rules of the order machine.
use Rattle.std.specs.Prelude.{◌≡◌, ℕ, Bool, true, not, List, [], ◌∷◌, Some, count_by, Option}
use Rattle.std.specs.List.{range_with_len}
use Rattle.traces.specs.declared.entry.Instruction.{Instruction}
use Rattle.forms.specs.declared.order_form.OrderForm.{OrderForm}
use Rattle.forms.specs.EntrySets.{empty_set, inserted, member}
use Rattle.forms.specs.Memories.{blank, held_entry, with_word, word_at, word_of}
use Rattle.forms.specs.OrderMachine.{OrderPosition, all_placed, place}
use Rattle.forms.specs.OrderTables.{tabled}
use Rattle.forms.specs.PreservedOrder.{Preserved}
use Rattle.forms.specs.Runs.{ruled, run}
use Rattle.forms.specs.Traced.{instructions_of}

-- the instructions of its trace
abbrev pub traced : {X : Type 0} → OrderForm X → List Instruction
traced f = instructions_of f.ordered.trace

-- the preserved order of its trace
abbrev pub kept_in : {X : Type 0} → OrderForm X → Preserved
kept_in f = tabled f.ordered.waiting f.ordered.links

-- its position: which entries are placed, and what memory holds at each address
abbrev pub shown : {X : Type 0} → OrderForm X → OrderPosition
shown f = record { placed = member f.placed; memory = word_at (traced f) f.memory }

-- the same trace, order and model with nothing placed and memory all 0
abbrev pub order_start : {X : Type 0} → OrderForm X → OrderForm X
order_start f = record { ordered = f.ordered; model = f.model; placed = empty_set; memory = blank }

-- the form after entry e
abbrev pub after_placing : {X : Type 0} → OrderForm X → ℕ → OrderForm X
after_placing f e = record {
  ordered = f.ordered;
  model = f.model;
  placed = inserted f.placed e;
  memory = with_word f.memory (held_entry (traced f) e) (held_entry (traced f) e).written;
}

-- code e places entry e, unless the rules refuse it
abbrev pub order_step : {X : Type 0} → OrderForm X → ℕ → Option (OrderForm X)
order_step f e = ruled (place (traced f) (kept_in f) (shown f) e) (after_placing f e)

-- the word that entry e overwrites
abbrev pub order_note : {X : Type 0} → OrderForm X → ℕ → ℕ
order_note f e = word_of f.memory (held_entry (traced f) e)

-- code e carries out entry e
abbrev pub order_carries : {X : Type 0} → OrderForm X → ℕ → List ℕ
order_carries f e = e ∷ []

-- all entries are placed
abbrev pub order_done : {X : Type 0} → OrderForm X → Bool
order_done f = all_placed (traced f) (shown f)

-- some codes lead from the opening to where all entries are placed
abbrev pub CanFinish : {X : Type 0} → OrderForm X → Type 0
CanFinish {X} f = (codes : List ℕ) × (q : OrderForm X) × (run order_step (order_start f) codes ≡ Some q) × (order_done q ≡ true)

-- how many numbers below 64 are not placed
abbrev pub order_left : {X : Type 0} → OrderForm X → ℕ
order_left f = count_by (λ i. not (member f.placed i)) (range_with_len 0 64)
