use Rattle.forms.proofs.Building.{Built}
use Rattle.forms.proofs.entry_set.EntrySet.where_passes.Given as goal

abbrev pub invariant-loop-i : goal.invariant-loop-i
invariant-loop-i g l = Built (λ k b. goal.F-post g l.test k b) l.set l.i
