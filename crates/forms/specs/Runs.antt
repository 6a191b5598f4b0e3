-- Runs of a machine whose positions are of the type S: a step by a code is refused or leads to a position.
use Rattle.std.specs.Prelude.{◌≡◌, ℕ, Bool, true, cond, List, [], ◌∷◌, ◌++◌, is_some, Some, None, Option}

-- go on from a position, if there is one
abbrev pub onward : {S : Type 0} → Option S → (S → Option S) → Option S
onward None f = None
onward (Some s) f = f s

-- the position to which codes lead, one after the other, unless one is refused
abbrev pub run : {S : Type 0} → (S → ℕ → Option S) → S → List ℕ → Option S
run step s [] = Some s
run step s (c ∷ cs) = onward (step s c) (λ u. run step u cs)

-- what is listed from a position on, if there is one
abbrev pub listed_from : {S : Type 0} → Option S → (S → List ℕ) → List ℕ
listed_from None f = []
listed_from (Some s) f = f s

-- the entries that codes carry out, in their sequence, where one code carries out those that `carries` lists
abbrev pub carried_out : {S : Type 0} → (S → ℕ → Option S) → (S → ℕ → List ℕ) → S → List ℕ → List ℕ
carried_out step carries s [] = []
carried_out step carries s (c ∷ cs) = carries s c ++ listed_from (step s c) (λ u. carried_out step carries u cs)

-- some codes lead from a position to a finished one and carry out the entries in the order o
abbrev pub Reaches : {S : Type 0} → (S → ℕ → Option S) → (S → ℕ → List ℕ) → (S → Bool) → S → List ℕ → Type 0
Reaches {S} step carries finished s o =
    (codes : List ℕ) × (q : S) × (run step s codes ≡ Some q) × (finished q ≡ true) × (carried_out step carries s codes ≡ o)

-- a step that is refused exactly where the rules refuse it, by their answer, and else leads to u
abbrev pub ruled : {S T : Type 0} → Option T → S → Option S
ruled answer u = cond (is_some answer) (Some u) None
