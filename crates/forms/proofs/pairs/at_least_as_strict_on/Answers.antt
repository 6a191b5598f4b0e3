use Rattle.std.proofs.Common.{◌≡◌, refl, rules, arith}
use Rattle.std.specs.List.{list_all, range_with_len}
use Rattle.std.proofs.lemmas.Iterator.{YieldsList-from_range}
use Rattle.std.proofs.lemmas.Iterator.Search.{all_from_yields_List}
use Rattle.models.specs.Meaning.{tables_of}
use Rattle.forms.specs.KeptPairs.{keeps, no_fewer_before}
use Rattle.forms.specs.Traced.{instructions_of, order_of}
use Rattle.forms.specs.UnderModel.{kept_by, traced_by}
use Rattle.forms.proofs.Preserving.{no_fewer, preserved_strict}
use Rattle.forms.proofs.Weaker.{weaker}
use Rattle.forms.proofs.pairs.at_least_as_strict_on.Goals as goal

pub returns : goal.returns
returns g c =
    let trace = c.args.trace.now in
    let is = instructions_of trace in
    let p = order_of g.M.MemoryModel c.args.first.now trace in
    let q = order_of g.N.MemoryModel c.args.second.now trace in
    let pairs = no_fewer is p q in
    let strict = preserved_strict (tables_of g.M.MemoryModel c.args.first.now) (tables_of g.N.MemoryModel c.args.second.now) in
    let first = c.new-first.result in
    let second = c.new-second.result in
    let ran : c.all.result ≡ list_all (no_fewer_before (keeps (traced_by first) (kept_by first)) (keeps (traced_by second) (kept_by second))) (range_with_len 0 c.len.result) =
    all_from_yields_List _ _ _ c.all.result c.all.ensures.ran (YieldsList-from_range 0 c.len.result c.len.result refl (omega arith)) (λ j b q k. search rules) in
    let right = rw (c.new-first.ensures.trace, c.new-first.ensures.model, c.new-second.ensures.trace, c.new-second.ensures.model, c.len.ensures) at ran in
    record {
      pairs = rw right pairs;
      strict = λ s. rw right (pairs.1 (strict s is));
      orders = λ yes. weaker is p q (pairs.0 (rw right at yes));
      weaker = λ s. weaker is p q (strict s is);
    }
