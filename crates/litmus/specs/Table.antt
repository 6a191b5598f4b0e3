-- Litmus tests: small traces of which the field knows whether each model allows them.
use Rattle.std.specs.Prelude.{◌≡◌, ℕ, Bool, true, false, ◌↔◌, List, [], ◌∷◌, map, codes}
use Rattle.traces.specs.declared.entry.Instruction.{Instruction}
use Rattle.traces.specs.declared.entry.Kind.TheVariants.{Load as LoadKind, Store as StoreKind, Swap as SwapKind, Sync as SyncKind}
use Rattle.traces.specs.Kinds.{address, instruction}
use Rattle.models.specs.declared.name.ModelName.{ModelName}
use Rattle.models.specs.declared.name.ModelName.TheVariants.{Sc, Tso, Pso, Rmo}
use Rattle.models.specs.Standard.{standard}
use Rattle.forms.specs.Lawful.{Allows}
use Rattle.litmus.specs.declared.event.Event.{Event}
use Rattle.litmus.specs.declared.event.Event.TheVariants.{Load, Store, Swap, Sync}
use Rattle.litmus.specs.declared.event.LitmusTest.{LitmusTest}

-- the instruction that an event is
abbrev pub instruction_of : Event → Instruction
instruction_of (Load t a r) = instruction t LoadKind (address a) r 0
instruction_of (Store t a w) = instruction t StoreKind (address a) 0 w
instruction_of (Swap t a r w) = instruction t SwapKind (address a) r w
instruction_of (Sync t) = instruction t SyncKind (address 0) 0 0

-- a litmus test: its name, its trace, and what it says of each model: whether it allows the trace
pub record Row : Type 0 where
  pub name : List ℕ
  pub events : List Event
  pub sc : Bool
  pub tso : Bool
  pub pso : Bool
  pub rmo : Bool

-- the row of a litmus test
abbrev pub row_of : LitmusTest → Row
row_of t = record { name = t.name.now; events = t.events.now; sc = t.sc; tso = t.tso; pso = t.pso; rmo = t.rmo }

-- what a row says of a model
abbrev pub verdict : Row → ModelName → Bool
verdict r Sc = r.sc
verdict r Tso = r.tso
verdict r Pso = r.pso
verdict r Rmo = r.rmo

-- the instructions of a row
abbrev pub program : Row → List Instruction
program r = map instruction_of r.events

-- a row is right: it says that a model allows the trace exactly where a lawful order of the trace exists under that model
abbrev pub Holds : Row → Type 0
Holds r = (m : ModelName) → (verdict r m ≡ true) ↔ Allows (standard m) (program r)

-- allowed
abbrev A : Bool
A = true

-- forbidden
abbrev F : Bool
F = false

-- the row with the verdicts of SC, TSO, PSO and RMO
abbrev row : List ℕ → Bool → Bool → Bool → Bool → List Event → Row
row name a b c d es = record { name = name; events = es; sc = a; tso = b; pso = c; rmo = d }

-- the litmus tests of the field
abbrev pub table : List Row
table =
    row (codes "store buffering") F A A A
    (Store 0 0 1 ∷ Load 0 1 0 ∷ Store 1 1 2 ∷ Load 1 0 0 ∷ [])
    ∷ row (codes "message passing") F F A A
    (Store 0 0 1 ∷ Store 0 1 2 ∷ Load 1 1 2 ∷ Load 1 0 0 ∷ [])
    ∷ row (codes "message passing with a sync between the stores") F F F A
    (Store 0 0 1 ∷ Sync 0 ∷ Store 0 1 2 ∷ Load 1 1 2 ∷ Load 1 0 0 ∷ [])
    ∷ row (codes "message passing with syncs") F F F F
    (Store 0 0 1 ∷ Sync 0 ∷ Store 0 1 2 ∷ Load 1 1 2 ∷ Sync 1 ∷ Load 1 0 0 ∷ [])
    ∷ row (codes "load buffering") F F F A
    (Load 0 0 1 ∷ Store 0 1 2 ∷ Load 1 1 2 ∷ Store 1 0 1 ∷ [])
    ∷ row (codes "coherence, read then write") F F F F
    (Load 0 0 1 ∷ Store 0 0 1 ∷ [])
    ∷ row (codes "coherence, write then read") F F F F
    (Store 0 0 1 ∷ Load 0 0 0 ∷ [])
    ∷ row (codes "coherence of reads") F F F A
    (Store 0 0 1 ∷ Load 1 0 1 ∷ Load 1 0 0 ∷ [])
    ∷ row (codes "two swaps") F F F F
    (Swap 0 0 0 1 ∷ Swap 1 0 0 2 ∷ [])
    ∷ row (codes "a store of the initial value") A A A A
    (Store 0 0 0 ∷ Load 1 0 0 ∷ [])
    ∷ row (codes "message passing by a swap") F F A A
    (Store 0 0 1 ∷ Swap 0 1 0 1 ∷ Load 1 1 1 ∷ Load 1 0 0 ∷ [])
    ∷ row (codes "coherence, two writes then read") F F F F
    (Store 0 0 1 ∷ Store 0 0 2 ∷ Load 0 0 1 ∷ [])
    ∷ []
