use Rattle.traces.specs.Instructions.{instructions}
use Rattle.text.specs.Places.{at, left}
use Rattle.text.proofs.Lining.{grown_line, lines_next}
use Rattle.text.proofs.Settling.{definite}
use Rattle.text.proofs.reading.read.Goals as goal

pub returns-then-text-gt-MAX_BYTES-clause-definite : goal.returns-then-text-gt-MAX_BYTES-clause-definite
returns-then-text-gt-MAX_BYTES-clause-definite c = definite (instructions c.args.draft.now.contents) c.args.text.now

pub returns-in-Err-clause-definite : goal.returns-in-Err-clause-definite
returns-in-Err-clause-definite c = definite (instructions c.args.draft.now.contents) c.args.text.now

pub loop-reader-preserved : goal.loop-reader-preserved
loop-reader-preserved c =
    let k = c.loop-reader in
    let m = instructions k.draft.contents in
    let n = instructions c.read_line.new.draft.contents in (
      lines_next m (left k.reader-iterator) _ k.invariant.0 (at c.in-Some.reader) (left c.next.new.self) c.in-Some.ensures.steps n c.in_default.ensures,
      grown_line (instructions c.args.draft.now.contents) m k.invariant.1 (at c.in-Some.reader) n c.in_default.ensures,
    )

pub returns-clause-definite : goal.returns-clause-definite
returns-clause-definite c = definite (instructions c.args.draft.now.contents) c.args.text.now
