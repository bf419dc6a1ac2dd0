-- `assign_env::assign_property` meets its contract.
use Rattle.assign_env.proofs.Env.{env_says}
use Rattle.assign_env.specs.Env.{escape_of}
use Rattle.assign_env.proofs.assign_property.Goals as goal

pub returns : goal.returns
returns c =
    let a = c.args in
    λ p g f n s h.
    rw c.ok_or.ensures.value
    (env_says (escape_of a.escape) n s p a.key.now a.value.now g f _ c.change_properties.result (c.change_properties.ensures n s h))
