use Rattle.std.proofs.Common.{◌≡◌}
use Rattle.traces.specs.Instructions.{instructions}
use Rattle.text.specs.Places.{left}
use Rattle.text.specs.Texts.{text_read}
use Rattle.text.proofs.Lining.{Grown, read_from}
use Rattle.text.proofs.reading.read.Given as goal

abbrev pub invariant-loop-reader : goal.invariant-loop-reader
invariant-loop-reader l =
    (read_from (instructions l.draft.contents) (left l.reader-iterator) ≡ text_read (instructions l.initial.draft.contents) l.text)
    × Grown (instructions l.initial.draft.contents) (instructions l.draft.contents)
