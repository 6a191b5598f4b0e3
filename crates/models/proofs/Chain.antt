-- The four models in a chain: each is at least as strict as those with no smaller number, and as no other.
use Rattle.std.proofs.Common.{◌≡◌, ℕ, ◌≤◌, ◌↔◌, nat_le, true, refl, arith}
use Rattle.std.proofs.lemmas.Bool.{both_ways, leb-true, le-leb}
use Rattle.traces.specs.declared.entry.Kind.TheVariants.{Load, Store}
use Rattle.traces.specs.Kinds.{address}
use Rattle.models.specs.declared.access.Access.{Access}
use Rattle.models.specs.declared.name.ModelName.{ModelName}
use Rattle.models.specs.declared.name.ModelName.TheVariants.{Sc, Tso, Pso, Rmo}
use Rattle.models.specs.Standard.{model_number, standard}
use Rattle.models.specs.Tables.{AtLeastAsStrict, tso, pso, rmo}

-- TSO keeps ahead what PSO does
tso_pso : (i j : Access) → pso.ahead i j ≡ true → tso.ahead i j ≡ true
tso_pso i j h = search arith

-- PSO keeps ahead what RMO does
pso_rmo : (i j : Access) → rmo.ahead i j ≡ true → pso.ahead i j ≡ true
pso_rmo i j h = search arith

-- a model is at least as strict as those with no smaller number
pub chain : (a b : ModelName) → model_number a ≤ model_number b → AtLeastAsStrict (standard a) (standard b)
chain Sc b l i j h = refl
chain Tso Sc l i j h = absurd (omega arith)
chain Tso Tso l i j h = h
chain Tso Pso l i j h = tso_pso i j h
chain Tso Rmo l i j h = tso_pso i j (pso_rmo i j h)
chain Pso Sc l i j h = absurd (omega arith)
chain Pso Tso l i j h = absurd (omega arith)
chain Pso Pso l i j h = h
chain Pso Rmo l i j h = pso_rmo i j h
chain Rmo Sc l i j h = absurd (omega arith)
chain Rmo Tso l i j h = absurd (omega arith)
chain Rmo Pso l i j h = absurd (omega arith)
chain Rmo Rmo l i j h = h

-- a load, and stores of two addresses
load : Access
load = record { kind = Load; address = address 0 }

abbrev store : ℕ → Access
store n = record { kind = Store; address = address n }

-- and as no other: a pair shows it
pub chained : (a b : ModelName) → AtLeastAsStrict (standard a) (standard b) → model_number a ≤ model_number b
unfolding load
chained Sc b h = omega arith
chained Tso Sc h = absurd (both_ways _ refl (h (store 0) load refl))
chained Tso Tso h = omega arith
chained Tso Pso h = omega arith
chained Tso Rmo h = omega arith
chained Pso Sc h = absurd (both_ways _ refl (h (store 0) load refl))
chained Pso Tso h = absurd (both_ways _ refl (h (store 0) (store 1) refl))
chained Pso Pso h = omega arith
chained Pso Rmo h = omega arith
chained Rmo Sc h = absurd (both_ways _ refl (h (store 0) load refl))
chained Rmo Tso h = absurd (both_ways _ refl (h (store 0) (store 1) refl))
chained Rmo Pso h = absurd (both_ways _ refl (h load load refl))
chained Rmo Rmo h = omega arith

-- so the numbers decide it
pub decided : (a b : ModelName) → (nat_le (model_number a) (model_number b) ≡ true) ↔ AtLeastAsStrict (standard a) (standard b)
decided a b = (λ h. chain a b (leb-true _ _ h), λ h. le-leb _ _ (chained a b h))
