use Rattle.std.proofs.Common.{rules, ◌≡◌, nat_le}
use Rattle.models.specs.Standard.{model_number}
use Rattle.models.proofs.Chain.{decided}
use Rattle.models.proofs.name.ModelName.is_at_least_as_strict.Goals as goal

pub returns : goal.returns
returns c =
    let numbers : c.le.result ≡ nat_le (model_number c.args.self) (model_number c.args.other) = search rules in record {
      strict = rw numbers (decided c.args.self c.args.other);
      numbers = numbers;
    }
