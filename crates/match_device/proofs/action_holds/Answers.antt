-- `match_device::action_holds` meets its contract.
use Prim.Native.Nat.{ℕ}
use mathlib.Core.Path.{ap, ◌∙◌}
use native.Mathlib.Omega.{arith}
use Rattle.match_device.proofs.Action.{action_is}
use Rattle.device_lookup.proofs.Devices.{record_head}
use Rattle.engine.specs.Match.{judged}
use Rattle.device.specs.Device.{action_names, action_of}
use Rattle.keys.specs.Table.{operator_of}
use Rattle.pattern.specs.Pattern.{matches}
use Rattle.entries.specs.Entry.{or_empty}
use Rattle.lists.specs.Lists.{nth}
use Rattle.match_device.proofs.action_holds.Goals as goal

pub take-action-requires : goal.take-action-requires
take-action-requires c =
    omega (arith, record_head c.args.dev.now c.requires.0.0 (λ i. (c.type_inv.dev i).fits) c.requires.0.1)

pub returns : goal.returns
unfolding action_of
returns c =
    let x = c.args in
    λ d e. c.action_holds.ensures ∙ ap (λ (i : ℕ). judged (operator_of x.operator) (matches x.pattern.now (or_empty (nth i action_names)))) (c.take-action.ensures.value ∙ action_is x.dev.now d (λ i. (c.type_inv.dev i).fits) e)
