-- Memory by slots is memory by addresses.
use Rattle.std.specs.Prelude.{◌≡◌, ℕ, ◌<◌, true, cond, ◌≢◌, List, length, replicate, slice_index, slice_index_or, slice_set}
use Rattle.std.proofs.Math.Path.{sym, ap, fun_ext}
use Rattle.std.proofs.Common.{◌∙◌, subst, arith}
use Rattle.std.proofs.Math.Logic.{inl, inr}
use Rattle.std.proofs.lemmas.List.{get_or_past, get_or-replicate, get_or-set_other, get_or-set_same, length-replicate, length-set}
use Rattle.std.proofs.lemmas.Bool.{both_ways, cases_Bool, cases_lt, cond-false, cond-true}
use Rattle.traces.specs.declared.contents.Contents.{Contents}
use Rattle.traces.specs.declared.entry.Address.{Address}
use Rattle.traces.specs.declared.entry.Entry.{Entry}
use Rattle.traces.specs.declared.entry.Instruction.{Instruction}
use Rattle.traces.specs.Adding.{addresses_of, same_address}
use Rattle.traces.specs.Instructions.{instructions}
use Rattle.traces.specs.Kinds.{address, writes}
use Rattle.traces.proofs.Slotting.{get_d_slot}
use Rattle.traces.proofs.Stating.{same_addresses}
use Rattle.forms.specs.declared.memory.Memory.{Memory}
use Rattle.forms.specs.Carrying.{stored}
use Rattle.forms.specs.Entries.{instruction_at, writes_at}
use Rattle.forms.specs.Memories.{address_slot, blank, held_entry, with_word, word_at}
use Rattle.forms.specs.Lemmas.Basics.{writes_addressed}
use Rattle.forms.specs.Lemmas.Entered.{address_slot_below, address_slot_within, entry_address}

-- addresses with one listed slot are the same
slot_apart : (is : List Instruction) (a b : Address) → address_slot is b < length (addresses_of is) → address_slot is a ≡ address_slot is b → a ≡ b
slot_apart is a b within same =
    sym (get_d_slot same_address same_addresses (addresses_of is) a (address 0) (omega arith))
    ∙ ap (λ n. slice_index_or (addresses_of is) n (address 0)) same
    ∙ get_d_slot same_address same_addresses (addresses_of is) b (address 0) within

-- a list of one value has that value everywhere, and 0 is that of what is past its end
pub blank_at : (is : List Instruction) (a : Address) → word_at is blank a ≡ 0
blank_at is a = elim (cases_lt (address_slot is a) 16) [
  | inl below ↦ get_or-replicate 16 (address_slot is a) 0 0 below
  | inr past ↦ get_or_past (replicate 16 0) (address_slot is a) 0 (omega (arith, length-replicate {A = ℕ} 16 0))
]

module _ (x : Contents) (e : ℕ) (below : e < length (instructions x)) (m : Memory) (sized : length m.words ≡ 16) where
  abbrev is : List Instruction
  is = instructions x

  abbrev place : ℕ
  place = address_slot is (instruction_at is e).address

  -- what a write of w leaves at an address
  written_at : (w : ℕ) → writes_at is e ≡ true → (a : Address)
      → slice_index (slice_set m.words place w) (address_slot is a) ≡ cond (same_address a (instruction_at is e).address) w (slice_index m.words (address_slot is a))
  written_at w written a =
      let on = writes_addressed is e written in
      elim (cases_Bool (same_address a (instruction_at is e).address)) [
        | inl same ↦
            let at : address_slot is a ≡ place = ap (address_slot is) (same_addresses.faithful a (instruction_at is e).address same) in
            ap (λ n. slice_index (slice_set m.words place w) n) at
            ∙ get_or-set_same m.words place w 0 (omega (arith, address_slot_below x e below on, sized))
            ∙ sym (cond-true (same_address a (instruction_at is e).address) w _ same)
        | inr other ↦
            let apart : address_slot is a ≢ place =
            λ at. both_ways (same_address a (instruction_at is e).address) other
            (subst (λ b. same_address a b ≡ true) (slot_apart is a (instruction_at is e).address (address_slot_within x e below on) at) (same_addresses.reflexive a)) in
            get_or-set_other m.words place (address_slot is a) w 0 apart ∙ sym (cond-false (same_address a (instruction_at is e).address) w _ other)
      ]

  -- memory after an entry, by addresses
  pub word_stored : word_at is (with_word m (held_entry is e) (held_entry is e).written) ≡ stored is (word_at is m) e
  unfolding stored
  word_stored = elim (cases_Bool (writes_at is e)) [
    | inl written ↦
        let at : (held_entry is e).address ≡ place = entry_address x e below (writes_addressed is e written) in
        ap (word_at is) (cond-true (writes_at is e) (record { words = slice_set m.words (held_entry is e).address (instruction_at is e).written }) m written)
        ∙ ap (λ n. word_at is (record { words = slice_set m.words n (instruction_at is e).written })) at
        ∙ fun_ext (λ a. written_at (instruction_at is e).written written a)
        ∙ sym (cond-true (writes_at is e) _ (word_at is m) written)
    | inr silent ↦
        ap (word_at is) (cond-false (writes_at is e) (record { words = slice_set m.words (held_entry is e).address (instruction_at is e).written }) m silent)
        ∙ sym (cond-false (writes_at is e) _ (word_at is m) silent)
  ]

-- a write leaves the number of words
pub with_word_length : (m : Memory) (e : Entry) (w : ℕ) → length m.words ≡ 16 → length (with_word m e w).words ≡ 16
with_word_length m e w sized = elim (cases_Bool (writes e.kind)) [
  | inl written ↦ ap (λ (x : Memory). length x.words) (cond-true (writes e.kind) _ m written) ∙ length-set m.words e.address w ∙ sized
  | inr silent ↦ ap (λ (x : Memory). length x.words) (cond-false (writes e.kind) _ m silent) ∙ sized
]
