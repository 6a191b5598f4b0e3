-- The preserved order under a model: its laws, and what a stricter model keeps.
use Rattle.std.specs.Prelude.{◌≡◌, ℕ, ◌<◌, ◌≤◌, Bool, true, false, cond, not, ◌&&◌, ◌||◌, ◌↔◌, List, length, nat_lt, slice_index_or}
use Rattle.std.proofs.Common.{sym, subst, ◌∙◌, inl, inr, arith}
use Rattle.std.specs.List.{list_all, range_with_len}
use Rattle.std.proofs.lemmas.Bool.{and_from, and_parts, both_ways, cases_Bool, cases_lt, eqb-true, false_from_ne_true, ltb-true, not-true, not_from_false, or_cases, or_left, or_right}
use Rattle.std.proofs.lemmas.List.Sums.{AllPass-from_list_all, count_by-le-length, list_all-from_AllPass, sum_by-le}
use Rattle.std.proofs.lemmas.List.FromFn.{get_or-range_with_len, length-range_with_len}
use Rattle.traces.specs.declared.contents.Contents.{Contents}
use Rattle.traces.specs.declared.entry.Instruction.{Instruction}
use Rattle.traces.specs.Instructions.{instructions}
use Rattle.traces.proofs.Holding.{few_entries}
use Rattle.traces.specs.Kinds.{addressed, writes}
use Rattle.models.specs.declared.access.Access.{Access}
use Rattle.models.specs.Tables.{AtLeastAsStrict, Tables}
use Rattle.forms.specs.Entries.{Earlier}
use Rattle.forms.specs.KeptPairs.{is_earlier, keeps, kept_before, no_fewer_before}
use Rattle.forms.specs.PreservedOrder.{KeepsNoFewer, Laws, Preserved, preserved}
use Rattle.forms.specs.Lemmas.Tabled.{earlier_from}

-- the two laws of a model, at the entries of a trace
pub preserved_laws : (m : Tables)
    → ((i j : Access) → m.waiting i.kind ≡ false → m.ahead i j ≡ true)
    → ((i j : Access) → addressed i.kind ≡ true → writes j.kind ≡ true → i.address ≡ j.address → m.ahead i j ≡ true)
    → (is : List Instruction) → Laws is (preserved m is)
unfolding preserved
preserved_laws m prompt coherent is = record {
  prompt = λ i j er l w. prompt _ _ w;
  coherent = λ i j er l a w s. coherent _ _ a w s;
}

-- a stricter model keeps ahead no fewer pairs of a trace
pub preserved_strict : (a b : Tables) → AtLeastAsStrict a b → (is : List Instruction) → KeepsNoFewer is (preserved a is) (preserved b is)
unfolding preserved
preserved_strict a b h is i j er l k = h _ _ k

-- what it is for an entry to be an earlier one of another's thread
pub earlier_parts : (is : List Instruction) (i j : ℕ) → is_earlier is i j ≡ true → Earlier is i j × (j < length is)
earlier_parts is i j h =
    let a = and_parts (nat_lt i j && nat_lt j (length is)) _ h in
    let b = and_parts (nat_lt i j) (nat_lt j (length is)) a.0 in
    ((ltb-true _ _ b.0, eqb-true _ _ a.1), ltb-true _ _ b.1)

-- what it is for a pair to be kept
pub keeps_parts : (is : List Instruction) (p : Preserved) (i j : ℕ) → keeps is p i j ≡ true
    → Earlier is i j × (j < length is) × (p.ahead i j ≡ true)
keeps_parts is p i j h =
    let a = and_parts (is_earlier is i j) (p.ahead i j) h in
    let b = earlier_parts is i j a.0 in
    (b.0, b.1, a.1)

pub keeps_from : (is : List Instruction) (p : Preserved) (i j : ℕ) → Earlier is i j → j < length is → p.ahead i j ≡ true → keeps is p i j ≡ true
keeps_from is p i j er l h = and_from _ _ (earlier_from is i j er l) h

-- the number at a place of those from 0 on is that of the place
at_place : (n i d : ℕ) → i < n → slice_index_or (range_with_len 0 n) i d ≡ i
at_place n i d below = get_or-range_with_len 0 n i d below ∙ omega arith

-- a test passes at all numbers below n exactly where it passes at each
all_below : (test : ℕ → Bool) (n : ℕ) → (list_all test (range_with_len 0 n) ≡ true) ↔ ((i : ℕ) → i < n → test i ≡ true)
all_below test n = (
  λ h i below. subst (λ k. test k ≡ true) (at_place n i 0 below)
      (AllPass-from_list_all test (range_with_len 0 n) h i 0 (omega (arith, below, length-range_with_len 0 n))),
  λ h. list_all-from_AllPass test (range_with_len 0 n) (λ k d l.
      let below : k < n = omega (arith, l, length-range_with_len 0 n) in
      subst (λ i. test i ≡ true) (sym (at_place n k d below)) (h k below)),
)

-- no fewer pairs are kept exactly where no fewer entries are kept ahead of each one
pub no_fewer : (is : List Instruction) (p q : Preserved)
    → (list_all (no_fewer_before (keeps is p) (keeps is q)) (range_with_len 0 (length is)) ≡ true) ↔ KeepsNoFewer is p q
no_fewer is p q = (
  λ all i j er l a.
      let each = (all_below (λ i. not (keeps is q i j) || keeps is p i j) j).0 ((all_below (no_fewer_before (keeps is p) (keeps is q)) (length is)).0 all j l) i er.0 in
      elim (or_cases _ _ each) [
        | inl kept-not ↦ absurd (both_ways (keeps is q i j) (not-true _ kept-not) (keeps_from is q i j er l a))
        | inr kept ↦ (keeps_parts is p i j kept).2
      ],
  λ h. (all_below (no_fewer_before (keeps is p) (keeps is q)) (length is)).1
      (λ j l. (all_below (λ i. not (keeps is q i j) || keeps is p i j) j).1
      (λ i before. elim (cases_Bool (keeps is q i j)) [
        | inl kept ↦ let a = keeps_parts is q i j kept in or_right _ _ (keeps_from is p i j a.0 a.1 (h i j a.0 a.1 a.2))
        | inr kept-not ↦ or_left _ _ (not_from_false _ kept-not)
      ])),
)

-- at most 64 entries keep ahead of one, as a trace has no more
pub kept_before_few : (x : Contents) (p : Preserved) (j : ℕ) → kept_before (instructions x) p j ≤ 64
kept_before_few x p j = elim (cases_lt j 64) [
  | inl low ↦ omega (arith, count_by-le-length (λ i. keeps (instructions x) p i j) (range_with_len 0 j), length-range_with_len 0 j)
  | inr past ↦
      let none : (i : ℕ) → keeps (instructions x) p i j ≡ false =
      λ i. false_from_ne_true _ (λ e. omega (arith, (keeps_parts (instructions x) p i j e).1, few_entries x)) in
      omega (
        arith,
        sum_by-le (λ i. cond (keeps (instructions x) p i j) 1 0) 0 (range_with_len 0 j)
            (λ k d l. rw (none (slice_index_or (range_with_len 0 j) k d)) (omega arith)),
      )
]
