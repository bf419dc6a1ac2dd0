-- `programs::ask` meets its contract.
use mathlib.Core.Bool.{false}
use native.Mathlib.Omega.{arith}
use Rattle.std.proofs.lemmas.Result.{err_from_is_err_and}
use Rattle.records.proofs.Refused.{none_there}
use lib.ListN.{length}
use Rattle.keys.specs.Table.{operator_of}
use Rattle.device.specs.Device.{chain}
use Rattle.engine.specs.Assign.{source_of}
use Rattle.engine.specs.Substitute.{filled}
use Rattle.filling.proofs.Texts.{filled-front, filled-long, front-size}
use Rattle.programs.proofs.Programs.{command_says, command_long}
use Rattle.programs.proofs.ask.Goals as goal

pub slice_bounds-out-end : goal.slice_bounds-out-end
slice_bounds-out-end c =
    let entry = c in
    let fill = c.fill in
    let k = c.in_ok-k in
    let (d, s, h) = entry.requires.0 in
    let command = filled false (source_of d entry.args.place s) entry.args.value.now in
    omega (arith, (filled-front command _ fill.result _ (fill.ensures d s h) k.k k.ensures.ok_part).room)

pub slice_bounds-ask_command-end : goal.slice_bounds-ask_command-end
slice_bounds-ask_command-end c =
    let entry = c in
    let fill = c.fill in
    let k = c.in_ok-k in
    let (d, s, h) = entry.requires.0 in
    let command = filled false (source_of d entry.args.place s) entry.args.value.now in
    front-size command _ k.k _ (filled-front command _ fill.result _ (fill.ensures d s h) k.k k.ensures.ok_part)

pub ask_command-requires : goal.ask_command-requires
ask_command-requires c =
    let entry = c in
    let (d, s, h) = entry.requires.0 in
    ((length (chain d), s, h.held), entry.requires.2)

pub returns : goal.returns
returns c =
    let x = c.args in
    let fill = c.fill in
    let k = c.in_ok-k in
    let said = c.ask_command in
    λ a is d s h.
    let command = filled false (source_of d x.place s) x.value.now in
    command_says a d x.place (operator_of x.operator) x.value.now s _ (filled-front command _ fill.result _ (fill.ensures d s h) k.k k.ensures.ok_part).is
    (length (chain d)) _ said.result (said.ensures a is (length (chain d)) s h.held)

pub returns-in_err-k : goal.returns-in_err-k
returns-in_err-k c =
    let x = c.args in
    let p = err_from_is_err_and c.from_residual.result c.from_residual.ensures.1 in
    let none = none_there _ _ _ c.in_err-k.ensures.value in
    rw (p.1, p.2, none.1)
    (λ a is d s h.
    let command = filled false (source_of d x.place s) x.value.now in
    command_long a d x.place (operator_of x.operator) x.value.now s (filled-long command _ c.fill.result _ (c.fill.ensures d s h) none.0))
