use Rattle.std.proofs.Common.{arith}
use Rattle.std.proofs.lemmas.List.{get_or_past}
use Rattle.std.proofs.lemmas.Bool.Decides.{nat_tests}
use Rattle.text.proofs.lexer.symbol_at.Goals as goal

pub returns-in_default-clause-is : goal.returns-in_default-clause-is
returns-in_default-clause-is c =
    let none = get_or_past c.args.bytes.now 0 0 in
    let one = get_or_past c.args.bytes.now 1 0 in
    let three = get_or_past c.args.bytes.now 3 0 in
    grind (arith, nat_tests)
