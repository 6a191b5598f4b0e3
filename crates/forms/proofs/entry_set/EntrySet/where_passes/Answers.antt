use Rattle.std.proofs.Common.{◌∙◌}
use Rattle.forms.proofs.Building.{built_left, built_put}
use Rattle.forms.proofs.entry_set.EntrySet.where_passes.Goals as goal
use Rattle.forms.proofs.entry_set.EntrySet.where_passes.Goals.{then-test, else-test}

pub loop-i-preserved : goal.loop-i-preserved
loop-i-preserved g c = elim c.if-test.branch [
  | then-test w ↦ built_put _ c.loop-i.set c.if-test.set c.loop-i.i c.loop-i.invariant w.if-test.ensures (w.set-is ∙ w.with-set.ensures)
  | else-test w ↦ built_left _ c.loop-i.set c.if-test.set c.loop-i.i c.loop-i.invariant w.if-test.ensures w.set-is
]
