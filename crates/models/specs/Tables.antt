-- Memory models by their two tables of answers.
use Rattle.std.specs.Prelude.{◌≡◌, Bool, true, false, not, ◌&&◌, ◌||◌}
use Rattle.traces.specs.declared.entry.Kind.{Kind}
use Rattle.traces.specs.Kinds.{reads, writes}
use Rattle.models.specs.declared.access.Access.{Access}
use Rattle.models.specs.Accesses.{both_write, either_syncs, is_store, is_sync, on_same_address}

-- a model: which kinds wait, and which accesses keep ahead of which later ones of their thread
pub record Tables : Type 0 where
  pub waiting : Kind → Bool
  pub ahead : Access → Access → Bool

-- sequential consistency: nothing waits, and everything keeps ahead
abbrev pub sc : Tables
sc = record { waiting = λ k. false; ahead = λ i j. true }

-- total store order: stores wait; i keeps ahead of j when i reads, or both write, or either is a sync
abbrev pub tso : Tables
tso = record { waiting = is_store; ahead = λ i j. (reads i.kind || both_write i j) || either_syncs i j }

-- partial store order: stores wait; i keeps ahead of j when i reads, or both write the same address, or either is a sync
abbrev pub pso : Tables
pso = record { waiting = is_store; ahead = λ i j. (reads i.kind || (both_write i j && on_same_address i j)) || either_syncs i j }

-- relaxed memory order: all but syncs wait; i keeps ahead of j when j writes and i is on the same address, or either is a sync
abbrev pub rmo : Tables
rmo = record { waiting = λ k. not (is_sync k); ahead = λ i j. (writes j.kind && on_same_address i j) || either_syncs i j }

-- the first model is at least as strict as the second: it keeps ahead every pair that the second keeps ahead
abbrev pub AtLeastAsStrict : Tables → Tables → Type 0
AtLeastAsStrict a b = (i j : Access) → b.ahead i j ≡ true → a.ahead i j ≡ true
