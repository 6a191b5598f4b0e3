-- What is left of a lawful order after some of its entries are placed, and what one more entry changes.
-- P says which entries are placed, and M r is what memory holds at the address of r: both are any functions.
use Rattle.std.specs.Prelude.{◌≡◌, ℕ, ◌<◌, ◌≤◌, Bool, true, false, ◌≢◌, ◌⊎◌, List, [], ◌∷◌, length, refl}
use Rattle.std.proofs.Common.{sym, ◌∙◌, ap, subst, inl, inr, arith}
use Rattle.std.proofs.lemmas.Bool.{both_ways, cases_Bool, cases_eq, cases_lt}
use Rattle.traces.specs.declared.entry.Instruction.{Instruction}
use Rattle.forms.specs.Entries.{Earlier, SameAddress, addressed_at, instruction_at, reads_at, writes_at}
use Rattle.forms.specs.Lawful.{Candidate, Lawful, Precedes, Right, times}
use Rattle.forms.specs.PreservedOrder.{Laws, Preserved}
use Rattle.forms.specs.Lemmas.Basics.{cases_address, reads_addressed, slot_absent, slot_first, slot_rest, times_first, times_rest, writes_addressed}

-- w writes the address of r, and precedes r in what is left of the order or is an unplaced entry earlier on r's thread
abbrev pub CandidateFrom : List Instruction → (ℕ → Bool) → List ℕ → ℕ → ℕ → Type 0
CandidateFrom is P o r w =
    (w < length is) × (writes_at is w ≡ true) × SameAddress is w r × (Precedes o w r ⊎ (Earlier is w r × (P w ≡ false)))

-- r has read what the latest candidate left wrote; with no candidate left, what memory holds
abbrev pub RightFrom : List Instruction → (ℕ → Bool) → (ℕ → ℕ) → List ℕ → ℕ → Type 0
RightFrom is P M o r =
    ((w : ℕ) × CandidateFrom is P o r w × ((v : ℕ) → CandidateFrom is P o r v → v ≢ w → Precedes o v w) × ((instruction_at is r).read ≡ (instruction_at is w).written))
    ⊎ (((w : ℕ) → CandidateFrom is P o r w → ⊥) × ((instruction_at is r).read ≡ M r))

-- o is what is left of a lawful order
pub record From (is : List Instruction) (p : Preserved) (P : ℕ → Bool) (M : ℕ → ℕ) (o : List ℕ) : Type 0 where
  -- every unplaced entry stands in it exactly once
  pub once : (e : ℕ) → e < length is → P e ≡ false → times e o ≡ 1
  -- and nothing else does
  pub gone : (e : ℕ) → e < length is → P e ≡ true → times e o ≡ 0
  pub none : (e : ℕ) → length is ≤ e → times e o ≡ 0
  -- every unplaced entry precedes the unplaced ones that it keeps ahead of
  pub kept : (i j : ℕ) → Earlier is i j → j < length is → p.ahead i j ≡ true → P i ≡ false → P j ≡ false → Precedes o i j
  -- each unplaced entry that reads has the right value
  pub right : (r : ℕ) → r < length is → reads_at is r ≡ true → P r ≡ false → RightFrom is P M o r

-- w is an unplaced entry earlier on e's thread that writes e's address
abbrev pub Own : List Instruction → (ℕ → Bool) → ℕ → ℕ → Type 0
Own is P e w = Earlier is w e × (P w ≡ false) × (writes_at is w ≡ true) × SameAddress is w e

-- x is the value that e sees: that of the latest such entry; with none, what memory holds
abbrev pub Sees : List Instruction → (ℕ → Bool) → (ℕ → ℕ) → ℕ → ℕ → Type 0
Sees is P M e x =
    ((w : ℕ) × Own is P e w × ((v : ℕ) → Own is P e v → v ≤ w) × (x ≡ (instruction_at is w).written))
    ⊎ (((w : ℕ) → Own is P e w → ⊥) × (x ≡ M e))

-- e can be placed now
pub record Ready (is : List Instruction) (p : Preserved) (P : ℕ → Bool) (M : ℕ → ℕ) (e : ℕ) : Type 0 where
  -- it is an unplaced entry
  pub below : e < length is
  pub fresh : P e ≡ false
  -- nothing unplaced keeps ahead of it
  pub free : (i : ℕ) → Earlier is i e → P i ≡ false → p.ahead i e ≢ true
  -- if it reads, it has read what it sees
  pub value : reads_at is e ≡ true → Sees is P M e (instruction_at is e).read

-- placing e leads from P and M to P' and M'
pub record Effect (is : List Instruction) (P : ℕ → Bool) (M : ℕ → ℕ) (e : ℕ) (P' : ℕ → Bool) (M' : ℕ → ℕ) : Type 0 where
  -- e is placed, and the others are as they were
  pub placed : P' e ≡ true
  pub others : (i : ℕ) → i ≢ e → P' i ≡ P i
  -- memory holds what e wrote at the address that it writes, and the rest is as it was
  pub written : writes_at is e ≡ true → (r : ℕ) → r < length is → addressed_at is r ≡ true → SameAddress is e r → M' r ≡ (instruction_at is e).written
  pub same : (r : ℕ) → r < length is → addressed_at is r ≡ true → (writes_at is e ≡ true → SameAddress is e r → ⊥) → M' r ≡ M r

-- where nothing is placed and memory holds 0 everywhere, a whole lawful order is left
module _ (is : List Instruction) (p : Preserved) (P : ℕ → Bool) (M : ℕ → ℕ) (o : List ℕ)
    (none-placed : (i : ℕ) → P i ≡ false) (zeros : (r : ℕ) → M r ≡ 0) where
  -- the candidates, and so the right values, are the same
  candidate_in : (r w : ℕ) → Candidate is o r w → CandidateFrom is P o r w
  candidate_in r w c = (c.0, c.1, c.2, elim c.3 [ inl before ↦ inl before | inr earlier ↦ inr (earlier, none-placed w) ])

  candidate_out : (r w : ℕ) → CandidateFrom is P o r w → Candidate is o r w
  candidate_out r w c = (c.0, c.1, c.2, elim c.3 [ inl before ↦ inl before | inr own ↦ inr own.0 ])

  right_in : (r : ℕ) → Right is o r → RightFrom is P M o r
  right_in r (inl latest) = inl (latest.0, candidate_in r latest.0 latest.1, λ v c. latest.2 v (candidate_out r v c), latest.3)
  right_in r (inr none) = inr (λ w c. none.0 w (candidate_out r w c), none.1 ∙ sym (zeros r))

  right_out : (r : ℕ) → RightFrom is P M o r → Right is o r
  right_out r (inl latest) = inl (latest.0, candidate_out r latest.0 latest.1, λ v c. latest.2 v (candidate_in r v c), latest.3)
  right_out r (inr none) = inr (λ w c. none.0 w (candidate_in r w c), none.1 ∙ zeros r)

  -- a lawful order is what is left
  pub lawful_in : Lawful is p o → From is p P M o
  lawful_in lawful = record {
    once = λ e below _. lawful.once e below;
    gone = λ e below placed. absurd (both_ways (P e) (none-placed e) placed);
    none = lawful.none;
    kept = λ i j earlier below ahead _ _. lawful.kept i j earlier below ahead;
    right = λ r below reads _. right_in r (lawful.right r below reads);
  }

  -- what is left is a lawful order
  pub lawful_out : From is p P M o → Lawful is p o
  lawful_out from = record {
    once = λ e below. from.once e below (none-placed e);
    none = from.none;
    kept = λ i j earlier below ahead. from.kept i j earlier below ahead (none-placed i) (none-placed j);
    right = λ r below reads. right_out r (from.right r below reads (none-placed r));
  }

-- where every entry is placed, nothing is left
pub from_end : (is : List Instruction) (p : Preserved) (P : ℕ → Bool) (M : ℕ → ℕ) → ((e : ℕ) → e < length is → P e ≡ true) → From is p P M []
from_end is p P M all = record {
  once = λ e below unplaced. absurd (both_ways (P e) unplaced (all e below));
  gone = λ _ _ _. refl;
  none = λ _ _. refl;
  kept = λ i j earlier below ahead _ unplaced. absurd (both_ways (P j) unplaced (all j below));
  right = λ r below reads unplaced. absurd (both_ways (P r) unplaced (all r below));
}

-- where nothing is left, every entry is placed
pub end_from : (is : List Instruction) (p : Preserved) (P : ℕ → Bool) (M : ℕ → ℕ) → From is p P M [] → (e : ℕ) → e < length is → P e ≡ true
end_from is p P M from e below = elim (cases_Bool (P e)) [
  | inl placed ↦ placed
  | inr unplaced ↦ absurd (omega (arith, from.once e below unplaced))
]

-- one step: e is placed, and o is left after it
module _ (is : List Instruction) (p : Preserved) (laws : Laws is p) (P P' : ℕ → Bool) (M M' : ℕ → ℕ) (e : ℕ) (o : List ℕ)
    (effect : Effect is P M e P' M') where
  -- an entry unplaced afterwards is another than e and was unplaced
  unplaced_before : (i : ℕ) → P' i ≡ false → (i ≢ e) × (P i ≡ false)
  unplaced_before i unplaced =
      let other : i ≢ e = λ same. both_ways (P' e) (rw same at unplaced) effect.placed in
      (other, sym (effect.others i other) ∙ unplaced)

  -- an entry unplaced before and other than e is unplaced afterwards
  unplaced_after : (i : ℕ) → P i ≡ false → i ≢ e → P' i ≡ false
  unplaced_after i unplaced other = effect.others i other ∙ unplaced

  -- a candidate left after the step is one before it
  candidate_before : (r w : ℕ) → r ≢ e → CandidateFrom is P' o r w → CandidateFrom is P (e ∷ o) r w
  candidate_before r w other c = (
    c.0,
    c.1,
    c.2,
    elim c.3 [
      | inl before ↦ inl (elim (cases_eq w e) [
        | inl first ↦ omega (arith, slot_first e w o first, slot_rest e r o other)
        | inr rest ↦ omega (arith, slot_rest e w o rest, slot_rest e r o other)
      ])
      | inr own ↦ inr (own.0, (unplaced_before w own.1).1)
    ],
  )

  -- a candidate before the step other than e is one after it
  candidate_after : (r w : ℕ) → r ≢ e → w ≢ e → CandidateFrom is P (e ∷ o) r w → CandidateFrom is P' o r w
  candidate_after r w other rest c = (
    c.0,
    c.1,
    c.2,
    elim c.3 [
      | inl before ↦ inl (omega (arith, slot_rest e w o rest, slot_rest e r o other))
      | inr own ↦ inr (own.0, unplaced_after w own.1 rest)
    ],
  )

  -- e is no candidate once it is placed
  placed_no_candidate : (r w : ℕ) → w ≡ e → times w o ≡ 0 → CandidateFrom is P' o r w → ⊥
  placed_no_candidate r w same absent c = elim c.3 [
    | inl before ↦ omega (arith, slot_absent o w r absent)
    | inr own ↦ (unplaced_before w own.1).0 same
  ]

  -- e is a candidate of each other entry whose address it writes
  first_candidate : (r : ℕ) → e < length is → r ≢ e → writes_at is e ≡ true → SameAddress is e r → CandidateFrom is P (e ∷ o) r e
  first_candidate r below other writes address = (below, writes, address, inl (omega (arith, slot_first e e o refl, slot_rest e r o other)))

  -- whether e writes the address of r
  cases_writes : (r : ℕ) → ((writes_at is e ≡ true) × SameAddress is e r) ⊎ (writes_at is e ≡ true → SameAddress is e r → ⊥)
  cases_writes r = elim (cases_Bool (writes_at is e)) [
    | inl writes ↦ elim (cases_address is e r) [ inl address ↦ inl (writes, address) | inr different ↦ inr (λ _ address. different address) ]
    | inr writes-not ↦ inr (λ writes _. both_ways (writes_at is e) writes-not writes)
  ]

  module _ (ready : Ready is p P M e) (from : From is p P' M' o) where
    -- e is not in what is left after it
    first_absent : times e o ≡ 0
    first_absent = from.gone e ready.below effect.placed

    -- e has read the right value
    right_first : reads_at is e ≡ true → RightFrom is P M (e ∷ o) e
    right_first reads = elim (ready.value reads) [
      | inl latest ↦ inl (
        latest.0,
        (omega (arith, ready.below, latest.1.0.0), latest.1.2, latest.1.3, inr (latest.1.0, latest.1.1)),
        λ v c another. elim c.3 [
          | inl before ↦ absurd (omega (arith, slot_first e e o refl))
          | inr own ↦
              let w : ℕ = latest.0 in
              let at_most : v ≤ w = latest.2 v (own.0, own.1, c.1, c.2) in
              let less : v < w = omega arith in
              let w-early : w < e = latest.1.0.0 in
              let w-below : w < length is = omega (arith, ready.below) in
              let v-other : v ≢ e = omega arith in
              let w-other : w ≢ e = omega arith in
              let earlier : Earlier is v w = (less, own.0.1 ∙ sym latest.1.0.1) in
              let ahead = laws.coherent v w earlier w-below (writes_addressed is v c.1) latest.1.2 (c.2 ∙ sym latest.1.3) in
              let precedes = from.kept v w earlier w-below ahead (unplaced_after v own.1 v-other) (unplaced_after w latest.1.1 w-other) in
              omega (arith, slot_rest e v o v-other, slot_rest e w o w-other, precedes)
        ],
        latest.3,
      )
      | inr none ↦ inr (
        λ w c. elim c.3 [
          | inl before ↦ omega (arith, slot_first e e o refl)
          | inr own ↦ none.0 w (own.0, own.1, c.1, c.2)
        ],
        none.1,
      )
    ]

    -- each other entry has read the right value
    right_before : (r : ℕ) → r < length is → reads_at is r ≡ true → r ≢ e → RightFrom is P' M' o r → RightFrom is P M (e ∷ o) r
    right_before r below reads other (inl latest) =
        let rest : latest.0 ≢ e = λ same. placed_no_candidate r latest.0 same (rw same first_absent) latest.1 in
        inl (
          latest.0,
          candidate_before r latest.0 other latest.1,
          λ v c another. elim (cases_eq v e) [
            | inl first ↦ omega (arith, slot_first e v o first, slot_rest e latest.0 o rest)
            | inr v-rest ↦
                omega (arith, slot_rest e v o v-rest, slot_rest e latest.0 o rest, latest.2 v (candidate_after r v other v-rest c) another)
          ],
          latest.3,
        )
    right_before r below reads other (inr none) =
        elim (cases_writes r) [
          | inl writes ↦ inl (
            e,
            first_candidate r ready.below other writes.0 writes.1,
            λ v c another. absurd (none.0 v (candidate_after r v other another c)),
            none.1 ∙ effect.written writes.0 r below (reads_addressed is r reads) writes.1,
          )
          | inr writes-not ↦ inr (
            λ w c. elim (cases_eq w e) [
              | inl first ↦ writes-not (rw first at c.1) (rw first at c.2)
              | inr rest ↦ none.0 w (candidate_after r w other rest c)
            ],
            none.1 ∙ effect.same r below (reads_addressed is r reads) writes-not,
          )
        ]

    -- where e can be placed and o is left after it, e before o is left before it
    pub forward : From is p P M (e ∷ o)
    forward = record {
      once = λ i below unplaced. elim (cases_eq i e) [
        | inl first ↦ let absent : times i o ≡ 0 = rw first first_absent in omega (arith, times_first e i o first)
        | inr rest ↦ times_rest e i o rest ∙ from.once i below (unplaced_after i unplaced rest)
      ];
      gone = λ i below placed.
          let rest : i ≢ e = λ same. both_ways (P e) ready.fresh (rw same at placed) in
          times_rest e i o rest ∙ from.gone i below (effect.others i rest ∙ placed);
      none = λ i past.
          let rest : i ≢ e = omega (arith, ready.below) in
          times_rest e i o rest ∙ from.none i past;
      kept = λ i j earlier below ahead i-unplaced j-unplaced.
          elim (cases_eq j e) [
            | inl first ↦ absurd (ready.free i (rw first at earlier) i-unplaced (rw first at ahead))
            | inr j-rest ↦ elim (cases_eq i e) [
              | inl first ↦ omega (arith, slot_first e i o first, slot_rest e j o j-rest)
              | inr i-rest ↦
                  let precedes = from.kept i j earlier below ahead (unplaced_after i i-unplaced i-rest) (unplaced_after j j-unplaced j-rest) in
                  omega (arith, slot_rest e i o i-rest, slot_rest e j o j-rest, precedes)
            ]
          ];
      right = λ r below reads unplaced. elim (cases_eq r e) [
        | inl first ↦ let R : ℕ → Type 0 = λ x. RightFrom is P M (e ∷ o) x in subst R (sym first) (right_first (rw first at reads))
        | inr rest ↦ right_before r below reads rest (from.right r below reads (unplaced_after r unplaced rest))
      ];
    }

  module _ (ready : Ready is p P M e) (from : From is p P M (e ∷ o)) where
    -- e is not in what is left after it
    absent_after : times e o ≡ 0
    absent_after = omega (arith, times_first e e o refl, from.once e ready.below ready.fresh)

    -- each other entry has the right value in what is left
    right_after : (r : ℕ) → r < length is → reads_at is r ≡ true → r ≢ e → RightFrom is P M (e ∷ o) r → RightFrom is P' M' o r
    right_after r below reads other (inl latest) = elim (cases_eq latest.0 e) [
      | inl first ↦ inr (
        λ v c.
            let v-rest : v ≢ e = λ same. placed_no_candidate r v same (rw same absent_after) c in
            let another : v ≢ latest.0 = λ same. v-rest (same ∙ first) in
            omega (arith, latest.2 v (candidate_before r v other c) another, slot_first e latest.0 o first),
        let writes : writes_at is e ≡ true = rw first at latest.1.1 in
            let address : SameAddress is e r = rw first at latest.1.2 in
            latest.3 ∙ ap (λ i. (instruction_at is i).written) first ∙ sym (effect.written writes r below (reads_addressed is r reads) address),
      )
      | inr rest ↦ inl (
        latest.0,
        candidate_after r latest.0 other rest latest.1,
        λ v c another.
            let v-rest : v ≢ e = λ same. placed_no_candidate r v same (rw same absent_after) c in
            omega (arith, latest.2 v (candidate_before r v other c) another, slot_rest e v o v-rest, slot_rest e latest.0 o rest),
        latest.3,
      )
    ]
    right_after r below reads other (inr none) =
        let writes-not : writes_at is e ≡ true → SameAddress is e r → ⊥ =
        λ writes address. none.0 e (first_candidate r ready.below other writes address) in
        inr (λ w c. none.0 w (candidate_before r w other c), none.1 ∙ sym (effect.same r below (reads_addressed is r reads) writes-not))

    -- where e can be placed and e before o is left before it, o is left after it
    pub backward : From is p P' M' o
    backward = record {
      once = λ i below unplaced.
          let before = unplaced_before i unplaced in
          sym (times_rest e i o before.0) ∙ from.once i below before.1;
      gone = λ i below placed. elim (cases_eq i e) [
        | inl first ↦ rw first absent_after
        | inr rest ↦ sym (times_rest e i o rest) ∙ from.gone i below (sym (effect.others i rest) ∙ placed)
      ];
      none = λ i past.
          let rest : i ≢ e = omega (arith, ready.below) in
          sym (times_rest e i o rest) ∙ from.none i past;
      kept = λ i j earlier below ahead i-unplaced j-unplaced.
          let i-before = unplaced_before i i-unplaced in
          let j-before = unplaced_before j j-unplaced in
          let precedes = from.kept i j earlier below ahead i-before.1 j-before.1 in
          omega (arith, slot_rest e i o i-before.0, slot_rest e j o j-before.0, precedes);
      right = λ r below reads unplaced.
          let before = unplaced_before r unplaced in
          right_after r below reads before.0 (from.right r below reads before.1);
    }

-- the first entry of what is left
module _ (is : List Instruction) (p : Preserved) (laws : Laws is p) (P : ℕ → Bool) (M : ℕ → ℕ) (e : ℕ) (o : List ℕ)
    (from : From is p P M (e ∷ o)) where
  -- it is an entry
  below_first : e < length is
  below_first = elim (cases_lt e (length is)) [
    | inl below ↦ below
    | inr past ↦ absurd (omega (arith, times_first e e o refl, from.none e past))
  ]

  -- it is unplaced
  fresh_first : P e ≡ false
  fresh_first = elim (cases_Bool (P e)) [
    | inl placed ↦ absurd (omega (arith, times_first e e o refl, from.gone e below_first placed))
    | inr unplaced ↦ unplaced
  ]

  -- it can be placed
  pub ready_here : Ready is p P M e
  ready_here = record {
    below = below_first;
    fresh = fresh_first;
    free = λ i earlier unplaced ahead. omega (arith, from.kept i e earlier below_first ahead unplaced fresh_first, slot_first e e o refl);
    value = λ reads. elim (from.right e below_first reads fresh_first) [
      | inl latest ↦ elim latest.1.3 [
        | inl before ↦ absurd (omega (arith, slot_first e e o refl))
        | inr own ↦ inl (
          latest.0,
          (own.0, own.1, latest.1.1, latest.1.2),
          λ v another. elim (cases_lt latest.0 v) [
            | inl later ↦
                let w : ℕ = latest.0 in
                let v_below : v < length is = omega (arith, below_first, another.0.0) in
                let earlier : Earlier is w v = (later, own.0.1 ∙ sym another.0.1) in
                let ahead = laws.coherent w v earlier v_below (writes_addressed is w latest.1.1) another.2 (latest.1.2 ∙ sym another.3) in
                let w-precedes = from.kept w v earlier v_below ahead own.1 another.1 in
                let different : v ≢ w = omega arith in
                let v-precedes = latest.2 v (v_below, another.2, another.3, inr (another.0, another.1)) different in
                absurd (omega arith)
            | inr at_most ↦ at_most
          ],
          latest.3,
        )
      ]
      | inr none ↦ inr (λ w own. none.0 w (omega (arith, below_first, own.0.0), own.2, own.3, inr (own.0, own.1)), none.1)
    ];
  }
