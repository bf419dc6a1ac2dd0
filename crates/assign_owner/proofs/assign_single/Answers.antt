-- `assign_owner::assign_single` meets its contract.
use mathlib.Core.Bool.{false}
use mathlib.Core.Path.{refl}
use native.Mathlib.Omega.{arith}
use lib.ListN.{length}
use Rattle.std.proofs.lemmas.Result.{err_from_is_err_and}
use Rattle.engine.specs.Assign.{source_of}
use Rattle.engine.specs.Substitute.{filled}
use Rattle.device.specs.Device.{chain}
use Rattle.filling.proofs.Texts.{filled-front, filled-long, front-size}
use Rattle.records.proofs.Refused.{none_there}
use Rattle.assign_owner.proofs.Owners.{single-says, single-long}
use Rattle.keys.specs.Table.{operator_of}
use Rattle.assign_owner.proofs.assign_single.Goals as goal

pub fill-requires : goal.fill-requires
fill-requires c = (c.requires.2, c.requires.0, c.requires.1, refl)

pub returns-in_err-k : goal.returns-in_err-k
returns-in_err-k c =
    let a = c.args in
    let p = err_from_is_err_and c.from_residual.result c.from_residual.ensures.1 in
    let none = none_there _ _ _ c.in_err-k.ensures.value in
    rw (p.1, p.2, none.1)
    (λ q e f d s h.
    single-long d a.place s q (operator_of a.operator) a.value.now e f a.key
    (filled-long (filled false (source_of d a.place s) a.value.now) _ c.fill.result _ (c.fill.ensures d s h) none.0))

pub slice_bounds-out-end : goal.slice_bounds-out-end
slice_bounds-out-end c =
    let a = c.args in
    let (d, s, h) = c.requires.0 in
    omega (
      arith,
      (filled-front (filled false (source_of d a.place s) a.value.now) _ c.fill.result _ (c.fill.ensures d s h)
          c.in_ok-k.k c.in_ok-k.ensures.ok_part).room,
    )

pub slice_bounds-set_text-end : goal.slice_bounds-set_text-end
slice_bounds-set_text-end c =
    let a = c.args in
    let (d, s, h) = c.requires.0 in
    front-size (filled false (source_of d a.place s) a.value.now) _ c.in_ok-k.k _
    (filled-front (filled false (source_of d a.place s) a.value.now) _ c.fill.result _ (c.fill.ensures d s h) c.in_ok-k.k c.in_ok-k.ensures.ok_part)

pub set_text-requires : goal.set_text-requires
set_text-requires c = let (d, s, h) = c.requires.0 in (length (chain d), s, h.held)

pub returns : goal.returns
returns c =
    let a = c.args in
    λ q e f d s h.
    single-says d a.place s q (operator_of a.operator) a.value.now e f a.key _
    (filled-front (filled false (source_of d a.place s) a.value.now) _ c.fill.result _ (c.fill.ensures d s h) c.in_ok-k.k c.in_ok-k.ensures.ok_part).is
    (length (chain d)) _ c.set_text.result (c.set_text.ensures (length (chain d)) s h.held)
