-- The two laws of the four models.
use Rattle.std.proofs.Common.{◌≡◌, true, false, refl, arith}
use Rattle.traces.specs.Kinds.{addressed, writes}
use Rattle.models.specs.declared.access.Access.{Access}
use Rattle.models.specs.declared.name.ModelName.{ModelName}
use Rattle.models.specs.declared.name.ModelName.TheVariants.{Sc, Tso, Pso, Rmo}
use Rattle.models.specs.Standard.{standard}

-- what does not wait keeps ahead of everything
pub prompt : (n : ModelName) (i j : Access) → (standard n).waiting i.kind ≡ false → (standard n).ahead i j ≡ true
prompt Sc i j h = refl
prompt Tso i j h = search arith
prompt Pso i j h = search arith
prompt Rmo i j h = search arith

-- what is on an address keeps ahead of a later write of it
pub coherent : (n : ModelName) (i j : Access) → addressed i.kind ≡ true → writes j.kind ≡ true → i.address ≡ j.address
    → (standard n).ahead i j ≡ true
coherent Sc i j a w s = refl
coherent Tso i j a w s = search arith
coherent Pso i j a w s = search arith
coherent Rmo i j a w s = search arith
