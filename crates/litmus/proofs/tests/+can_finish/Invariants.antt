use Rattle.litmus.proofs.tests.+can_finish.Given as goal

abbrev pub decreases-can_finish : goal.decreases-can_finish
decreases-can_finish g l = l.left
