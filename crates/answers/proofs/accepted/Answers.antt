-- `answers::accepted` meets its contract.
use lib.ListN.{length, replicate}
use Prim.Native.Nat.{◌-◌}
use mathlib.Core.List.{◌++◌}
use Rattle.answers.proofs.accepted.Goals as goal

pub returns : goal.returns
returns c = λ room made e. λ i. record {
  number = 0;
  line = 0;
  visited = c.args.visited;
  tried = c.args.tried;
  used = e i;
  bytes = made ++ replicate (room - length made) 0;
}
