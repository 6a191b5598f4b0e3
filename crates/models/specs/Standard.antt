-- The four models by name and number.
use Rattle.std.specs.Prelude.{ℕ, cond, Some, None, Option, Result, ◌==◌, ok_or}
use Rattle.models.specs.declared.name.ModelName.{ModelName}
use Rattle.models.specs.declared.name.ModelName.TheVariants.{Sc, Tso, Pso, Rmo}
use Rattle.models.specs.declared.name.UnknownModel.{UnknownModel}
use Rattle.models.specs.Tables.{Tables, sc, tso, pso, rmo}

-- the number of a model
abbrev pub model_number : ModelName → ℕ
model_number Sc = 0
model_number Tso = 1
model_number Pso = 2
model_number Rmo = 3

-- the model that a number stands for: none above 3
abbrev pub model_of : ℕ → Option ModelName
model_of n = cond (n == 0) (Some Sc) (cond (n == 1) (Some Tso) (cond (n == 2) (Some Pso) (cond (n == 3) (Some Rmo) None)))

-- the same, with the error of a number that stands for none
abbrev pub known_model : ℕ → Result ModelName UnknownModel
known_model n = ok_or (model_of n) (record {})

-- the tables of a model
abbrev pub standard : ModelName → Tables
standard Sc = sc
standard Tso = tso
standard Pso = pso
standard Rmo = rmo
