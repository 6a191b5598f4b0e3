-- The litmus table, by one computed test over its rows.
use Rattle.std.proofs.Common.{◌≡◌, Bool, true, false, ◌&&◌, List, [], ◌∷◌, sym, refl, ◌∙◌}
use mathlib.Core.Bool.{beq}
use Rattle.std.specs.List.{All}
use Rattle.std.proofs.lemmas.Bool.{and_parts}
use Rattle.std.proofs.lemmas.List.Elements.{All-cons, All-nil}
use Rattle.models.specs.declared.name.ModelName.{ModelName}
use Rattle.models.specs.declared.name.ModelName.TheVariants.{Sc, Tso, Pso, Rmo}
use Rattle.models.specs.Standard.{standard}
use Rattle.models.proofs.Laws.{coherent, prompt}
use Rattle.forms.proofs.Deciding.{allowed, allowed_lawful}
use Rattle.litmus.specs.Table.{Holds, Row, program, table, verdict}

-- whether a row says of a model what the decision finds
abbrev agrees : Row → ModelName → Bool
agrees r m = beq (allowed (standard m) (program r)) (verdict r m)

-- and so of every model
abbrev right : Row → Bool
right r = (agrees r Sc && agrees r Tso) && (agrees r Pso && agrees r Rmo)

-- every row is right
abbrev all_right : List Row → Bool
all_right [] = true
all_right (r ∷ rs) = right r && all_right rs

-- equal answers
same : (x y : Bool) → beq x y ≡ true → x ≡ y
same true true h = refl
same true false h = sym h
same false true h = h
same false false h = refl

-- a right row agrees on each model
agreed : (r : Row) → right r ≡ true → (m : ModelName) → agrees r m ≡ true
agreed r h Sc = (and_parts (agrees r Sc) (agrees r Tso) (and_parts (agrees r Sc && agrees r Tso) _ h).0).0
agreed r h Tso = (and_parts (agrees r Sc) (agrees r Tso) (and_parts (agrees r Sc && agrees r Tso) _ h).0).1
agreed r h Pso = (and_parts (agrees r Pso) (agrees r Rmo) (and_parts (agrees r Sc && agrees r Tso) _ h).1).0
agreed r h Rmo = (and_parts (agrees r Pso) (agrees r Rmo) (and_parts (agrees r Sc && agrees r Tso) _ h).1).1

-- a right row says "allowed" exactly where a lawful order exists
holds : (r : Row) → right r ≡ true → Holds r
holds r h m =
    let decided = allowed_lawful (standard m) (prompt m) (coherent m) (program r) in
    let found = same (allowed (standard m) (program r)) (verdict r m) (agreed r h m) in
    (λ v. decided.0 (found ∙ v), λ a. sym found ∙ decided.1 a)

-- and so do all
all_hold : (rs : List Row) → all_right rs ≡ true → All Holds rs
all_hold [] h = All-nil Holds
all_hold (r ∷ rs) h =
    let both = and_parts (right r) (all_right rs) h in
    All-cons Holds r rs (holds r both.0) (all_hold rs both.1)

-- the test is computed
table_right : all_right table ≡ true
unfolding allowed
table_right = refl

-- every row of the table is right
pub table_holds : All Holds table
table_holds = all_hold table table_right
