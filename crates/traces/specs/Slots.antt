-- Lists of different elements in the order of their first appearance, and the places in them.
use Rattle.std.specs.Prelude.{ℕ, suc, ◌<◌, Bool, cond, List, [], ◌∷◌, ◌++◌, length, Some, None, Option, ◌≢◌, nat_lt, slice_index_or}

-- the place of the first element that is the same as x, or the length where there is none
abbrev pub slot : {X : Type 0} → (X → X → Bool) → List X → X → ℕ
slot same [] x = 0
slot same (y ∷ ys) x = cond (same y x) 0 (suc (slot same ys x))

-- xs with x, which comes last where it is new
abbrev pub listed : {X : Type 0} → (X → X → Bool) → List X → X → List X
listed same xs x = cond (nat_lt (slot same xs x) (length xs)) xs (xs ++ x ∷ [])

-- xs with what an element brings, if it brings anything
abbrev pub listed_if_any : {X : Type 0} → (X → X → Bool) → List X → Option X → List X
listed_if_any same xs None = xs
listed_if_any same xs (Some x) = listed same xs x

-- xs, and behind it what the elements of a list bring, in the order of first appearance
abbrev pub appearing : {X Y : Type 0} → (X → X → Bool) → (Y → Option X) → List X → List Y → List X
appearing same brings xs [] = xs
appearing same brings xs (y ∷ ys) = appearing same brings (listed_if_any same xs (brings y)) ys

-- the elements of two different places differ; d is what is read past the end
abbrev pub Distinct : {X : Type 0} → X → List X → Type 0
Distinct d xs = (i j : ℕ) → (i < j) × (j < length xs) → slice_index_or xs i d ≢ slice_index_or xs j d

-- xs with what is brought, if anything is, put at the end unless its slot is in xs
abbrev pub grown : {X : Type 0} → List X → Option X → ℕ → List X
grown xs None s = xs
grown xs (Some x) s = cond (nat_lt s (length xs)) xs (xs ++ x ∷ [])
