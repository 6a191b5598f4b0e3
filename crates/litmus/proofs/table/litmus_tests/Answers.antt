use Rattle.std.proofs.Common.{refl}
use Rattle.litmus.proofs.Verdicts.{table_holds}
use Rattle.litmus.proofs.table.litmus_tests.Goals as goal

pub returns : goal.returns
returns c = record { table = refl; right = table_holds }
