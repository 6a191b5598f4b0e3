use Rattle.std.proofs.Common.{◌≡◌, ◌^◌, ◌<◌, drop}
use Rattle.text.specs.Grammar.{denoted}
use Rattle.text.proofs.line.value_of.Given as goal

abbrev pub invariant-loop-b : goal.invariant-loop-b
invariant-loop-b l = (l.n < 2 ^ 64) × (denoted l.n (drop l.b-index l.digits) ≡ denoted 0 l.digits)
