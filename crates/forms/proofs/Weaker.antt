-- A preserved order that keeps no more pairs has no fewer lawful orders.
use Rattle.std.specs.Prelude.{ℕ, ◌↔◌, List}
use Rattle.traces.specs.declared.entry.Instruction.{Instruction}
use Rattle.forms.specs.KeptPairs.{clipped}
use Rattle.forms.specs.Lawful.{Lawful}
use Rattle.forms.specs.PreservedOrder.{KeepsNoFewer, Preserved}
use Rattle.forms.proofs.Preserving.{keeps_from, keeps_parts}

-- a lawful order under p is one under each q that keeps no pair beyond those of p
pub weaker : (is : List Instruction) (p q : Preserved) → KeepsNoFewer is p q → (o : List ℕ) → Lawful is p o → Lawful is q o
weaker is p q no-fewer o lawful = record {
  once = lawful.once;
  none = lawful.none;
  kept = λ i j earlier below ahead. lawful.kept i j earlier below (no-fewer i j earlier below ahead);
  right = lawful.right;
}

-- lawful orders look only at pairs of entries of one thread
pub clipped_lawful : (is : List Instruction) (p : Preserved) (o : List ℕ) → Lawful is (clipped is p) o ↔ Lawful is p o
clipped_lawful is p o = (
  weaker is (clipped is p) p (λ i j earlier below ahead. keeps_from is p i j earlier below ahead) o,
  weaker is p (clipped is p) (λ i j earlier below kept. (keeps_parts is p i j kept).2) o,
)
