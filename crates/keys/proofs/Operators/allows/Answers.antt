-- `keys::Operators::allows` meets its contract.
use Rattle.keys.proofs.Allowing.{allows_by}
use Rattle.keys.proofs.Operators.allows.Goals as goal

pub returns : goal.returns
returns c = allows_by c.args.self c.args.operator
