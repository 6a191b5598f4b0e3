use Rattle.std.proofs.Common.{sym, ap, ◌∙◌}
use Rattle.std.specs.List.{slice_get}
use Rattle.traces.proofs.Holding.{entries_are}
use Rattle.traces.proofs.draft.Trace.entry.Goals as goal

pub returns : goal.returns
returns c = c.entry.ensures ∙ ap (λ l. slice_get l c.args.at) (sym (entries_are c.args.self.now.contents))
