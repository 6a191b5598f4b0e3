-- The first element of a list that passes a test.
use Rattle.std.specs.Prelude.{◌≡◌, ℕ, ◌<◌, ◌≤◌, Bool, true, false, cond, List, length, Some, None, Option, MatchOption, nat_lt}
use Rattle.std.specs.List.{HoldsAt, AllWithin}

-- the test answers true at the place r and false at each place before it; where r is `None`, it answers false at every place
abbrev pub First : {X : Type 0} → (X → Bool → Type 0) → List X → Option ℕ → Type 0
First test xs r =
    MatchOption r (AllWithin (λ y. test y false) xs 0 (length xs)) (λ i. (i < length xs) × HoldsAt (λ y. test y true) xs i × AllWithin (λ y. test y false) xs 0 i)

-- r is the place of the first element that passes the test, or the length where none does
pub record FirstOrEnd {X : Type 0} (test : X → Bool → Type 0) (xs : List X) (r : ℕ) : Type 0 where
  pub within : r ≤ length xs
  pub passes : r < length xs → HoldsAt (λ y. test y true) xs r
  pub before : AllWithin (λ y. test y false) xs 0 r

-- r is the slot of what is brought, if anything is, in the sense of an equality; 0 where nothing is
abbrev pub SlotOf : {X : Type 0} → (X → X → Bool → Type 0) → List X → Option X → ℕ → Type 0
SlotOf equals xs brought r = MatchOption brought (r ≡ 0) (λ x. FirstOrEnd (λ y. equals y x) xs r)

-- r is that slot, if it is below room
abbrev pub SlotWithin : {X : Type 0} → (X → X → Bool → Type 0) → ℕ → List X → Option X → Option ℕ → Type 0
SlotWithin equals room xs brought r = (s : ℕ) × SlotOf equals xs brought s × (r ≡ cond (nat_lt s room) (Some s) None)
