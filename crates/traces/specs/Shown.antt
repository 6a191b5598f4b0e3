-- How instructions are written out.
use Rattle.std.specs.Prelude.{ℕ, List, ◌++◌, codes, decimal}
use Rattle.traces.specs.declared.entry.Instruction.{Instruction}
use Rattle.traces.specs.declared.entry.Kind.{Kind}
use Rattle.traces.specs.declared.entry.Kind.TheVariants.{Load, Store, Swap, Sync}

-- the operation of a kind, by its address and its two values
abbrev pub shown_operation : Kind → ℕ → ℕ → ℕ → List ℕ
shown_operation Load a r w = codes " loads " ++ (decimal r ++ (codes " from M[" ++ (decimal a ++ codes "]")))
shown_operation Store a r w = codes " stores " ++ (decimal w ++ (codes " to M[" ++ (decimal a ++ codes "]")))
shown_operation Swap a r w = codes " swaps " ++ (decimal r ++ (codes " for " ++ (decimal w ++ (codes " in M[" ++ (decimal a ++ codes "]")))))
shown_operation Sync a r w = codes " syncs"

-- an instruction as one line, without its end
abbrev pub shown : Instruction → List ℕ
shown i = codes "thread " ++ (decimal i.thread ++ shown_operation i.kind i.address.number i.read i.written)
