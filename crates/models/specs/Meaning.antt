-- What a model of any type means.
use Rattle.models.specs.declared.model.MemoryModel.{Ghosts}
use Rattle.models.specs.Tables.{Tables}

-- the tables of a model m of the type X
abbrev pub tables_of : {X : Type 0} → Ghosts X → X → Tables
tables_of g m = record { waiting = g.waiting m; ahead = g.ahead m }
