-- `rule_writing::put_two` meets its contract.
use mathlib.Core.List.{[], ◌∷◌}
use mathlib.Core.Path.{refl}
use native.Mathlib.Omega.{arith}
use Rattle.rule_writing.proofs.Writes.{writes-from, writes_more, writes_last}
use Rattle.rule_writing.proofs.put_two.Goals as goal

pub returns : goal.returns
returns c =
    let a = c.args in
    writes_last (writes_more (a.a ∷ []) (a.b ∷ []) (writes-from refl (omega (arith, c.requires))) c.put_one-one.ensures) c.put_one.ensures
