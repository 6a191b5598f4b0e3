use Rattle.std.proofs.Common.{◌≡◌, drop}
use Rattle.text.specs.Lines.{parts}
use Rattle.text.specs.Places.{at}
use Rattle.text.proofs.reader.Reader.parts.Given as goal

abbrev pub invariant-loop-part : goal.invariant-loop-part
invariant-loop-part l = parts (drop l.part-index l.form) l.fields (at l.self) ≡ parts l.form l.initial.fields (at l.initial.self)
