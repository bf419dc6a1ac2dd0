-- `assign_key::is_builtin` meets its contract.
use Rattle.lists.specs.Quoted.{bytes}
use Rattle.assign_key.specs.Keys.{builtin_in}
use Rattle.assign_key.proofs.is_builtin.Goals as goal

pub returns : goal.returns
unfolding bytes builtin_in
returns c = c.same.ensures
