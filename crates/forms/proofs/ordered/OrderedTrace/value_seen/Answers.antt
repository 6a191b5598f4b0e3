use Rattle.std.proofs.Common.{arith}
use Rattle.forms.proofs.Forwards.{reading_slot}
use Rattle.forms.proofs.ordered.OrderedTrace.value_seen.Goals as goal

pub bounds-memory-entry : goal.bounds-memory-entry
bounds-memory-entry c = (reading_slot c.args.self.now.trace.contents c.args.e c.args.entry c.requires.found c.requires.reads).1

pub offset_bounds-memory-entry : goal.offset_bounds-memory-entry
offset_bounds-memory-entry c =
    let slot = reading_slot c.args.self.now.trace.contents c.args.e c.args.entry c.requires.found c.requires.reads in
    omega (arith, slot.1)
