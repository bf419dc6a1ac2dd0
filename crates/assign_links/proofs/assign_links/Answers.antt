-- `assign_links::assign_links` meets its contract.
use Rattle.filling.proofs.Texts.{filled-front, filled-long, front-size}
use Rattle.assign_env.specs.Env.{escape_of}
use Rattle.engine.specs.Assign.{source_of}
use Rattle.engine.specs.Substitute.{filled}
use Rattle.device.proofs.Sound.{device_sound}
use Rattle.device.specs.Device.{chain}
use Rattle.lists.specs.Bytes.{clean}
use mathlib.Core.Bool.{not}
use Rattle.assign_links.proofs.Links.{filled-clean, front, front_room, linked-says, linked_long}
use Rattle.keys.specs.Table.{operator_of}
use lib.ListN.{length}
use mathlib.Core.Path.{refl, sym, ◌∙◌, ap}
use native.Mathlib.Omega.{arith}
use Rattle.std.proofs.lemmas.Result.{err_from_is_err_and}
use Rattle.records.proofs.Refused.{none_there}
use Rattle.assign_links.proofs.assign_links.Goals as goal

pub fill-requires : goal.fill-requires
fill-requires c =
    let pre = c.requires in
    (pre.2, pre.0, pre.1, refl)

pub slice_bounds-out-end : goal.slice_bounds-out-end
slice_bounds-out-end c =
    let pre = c.requires in
    let entry = c.args in
    let is-as-is = c.is_as_is-spaceless in
    let fill = c.fill in
    let (d, s, h) = pre.0 in
    omega (
      arith,
      (filled-front (filled (not is-as-is.result) (source_of d entry.place s) entry.value.now) _ fill.result
          fill.new.out (fill.ensures d s h) c.in_ok-k.k c.in_ok-k.ensures.ok_part).room,
      (filled-front (filled (not is-as-is.result) (source_of d entry.place s) entry.value.now) _ fill.result
          fill.new.out (fill.ensures d s h) c.in_ok-k.k c.in_ok-k.ensures.ok_part).size,
    )

pub slice_bounds-clean_names-end : goal.slice_bounds-clean_names-end
slice_bounds-clean_names-end c =
    let pre = c.requires in
    let entry = c.args in
    let is-as-is = c.is_as_is-spaceless in
    let fill = c.fill in
    let k = c.in_ok-k in
    let (d, s, h) = pre.0 in
    front-size (filled (not is-as-is.result) (source_of d entry.place s) entry.value.now) _ k.k
    fill.new.out
    (filled-front (filled (not is-as-is.result) (source_of d entry.place s) entry.value.now) _ fill.result
    fill.new.out (fill.ensures d s h) k.k k.ensures.ok_part)

pub slice_bounds-out-end-2 : goal.slice_bounds-out-end-2
slice_bounds-out-end-2 c =
    let pre = c.requires in
    let entry = c.args in
    let is-as-is = c.is_as_is-spaceless in
    let fill = c.fill in
    let k = c.in_ok-k in
    let clean-names = c.clean_names in
    let (d, s, h) = pre.0 in
    front_room fill.new.out clean-names.new.x k.k
    (clean-names.ensures.2 ∙ sym
    (front-size (filled (not is-as-is.result) (source_of d entry.place s) entry.value.now) _ k.k
    fill.new.out
    (filled-front (filled (not is-as-is.result) (source_of d entry.place s) entry.value.now) _ fill.result
    fill.new.out (fill.ensures d s h) k.k k.ensures.ok_part)))

pub slice_bounds-link_text-end : goal.slice_bounds-link_text-end
slice_bounds-link_text-end c =
    let pre = c.requires in
    let entry = c.args in
    let is-as-is = c.is_as_is-spaceless in
    let fill = c.fill in
    let k = c.in_ok-k in
    let clean-names = c.clean_names in
    let (d, s, h) = pre.0 in
    sym
    (ap length
    (front fill.new.out clean-names.new.x k.k
    (clean-names.ensures.2 ∙ sym
    (front-size (filled (not is-as-is.result) (source_of d entry.place s) entry.value.now) _ k.k
    fill.new.out
    (filled-front (filled (not is-as-is.result) (source_of d entry.place s) entry.value.now) _
    fill.result fill.new.out (fill.ensures d s h) k.k k.ensures.ok_part))))
    ∙
    (clean-names.ensures.2 ∙ sym
    (front-size (filled (not is-as-is.result) (source_of d entry.place s) entry.value.now) _ k.k
    fill.new.out
    (filled-front (filled (not is-as-is.result) (source_of d entry.place s) entry.value.now) _ fill.result
    fill.new.out (fill.ensures d s h) k.k k.ensures.ok_part))))

pub link_text-requires : goal.link_text-requires
link_text-requires c =
    let pre = c.requires in
    let entry = c.args in
    let is-as-is = c.is_as_is-spaceless in
    let fill = c.fill in
    let k = c.in_ok-k in
    let clean-names = c.clean_names in
    let (d, s, h) = pre.0 in (
      (length (chain d), s, h.held),
      ap clean
          (front fill.new.out clean-names.new.x k.k
          (clean-names.ensures.2 ∙ sym
          (front-size (filled (not is-as-is.result) (source_of d entry.place s) entry.value.now) _ k.k
          fill.new.out
          (filled-front (filled (not is-as-is.result) (source_of d entry.place s) entry.value.now) _
          fill.result fill.new.out (fill.ensures d s h) k.k k.ensures.ok_part))))
          ∙
          (clean-names.ensures.1
          (filled-clean (source_of d entry.place s) (device_sound entry.dev.now d h.device)
          h.held.good.properties.each h.held.good.output (not is-as-is.result) entry.value.now _ pre.3
          (filled-front (filled (not is-as-is.result) (source_of d entry.place s) entry.value.now) _ fill.result
          fill.new.out (fill.ensures d s h) k.k k.ensures.ok_part).is)),
    )

pub returns : goal.returns
returns c =
    let entry = c.args in
    let is-as-is = c.is_as_is-spaceless in
    let fill = c.fill in
    let k = c.in_ok-k in
    let clean-names = c.clean_names in
    let link-text = c.link_text in
    λ p e f d s h.
    linked-says d entry.place s p (operator_of entry.operator) entry.value.now e f (escape_of entry.escape)
    is-as-is.result is-as-is.ensures _ clean-names.new.x
    (filled-front (filled (not is-as-is.result) (source_of d entry.place s) entry.value.now) _ fill.result
    fill.new.out (fill.ensures d s h) k.k k.ensures.ok_part).is
    clean-names.ensures.0 (length (chain d)) _ link-text.result
    (rw
    (← front fill.new.out clean-names.new.x k.k
    (clean-names.ensures.2 ∙ sym
    (front-size (filled (not is-as-is.result) (source_of d entry.place s) entry.value.now) _
    k.k fill.new.out
    (filled-front (filled (not is-as-is.result) (source_of d entry.place s) entry.value.now) _
    fill.result fill.new.out (fill.ensures d s h) k.k
    k.ensures.ok_part))))
    (link-text.ensures (length (chain d)) s h.held))

pub returns-in_err-k : goal.returns-in_err-k
returns-in_err-k c =
    let a = c.args in
    let as_is = c.is_as_is-spaceless in
    let p = err_from_is_err_and c.from_residual.result c.from_residual.ensures.1 in
    let none = none_there _ _ _ c.in_err-k.ensures.value in
    rw (p.1, p.2, none.1)
    (λ q e f d s h.
    linked_long d a.place s q (operator_of a.operator) a.value.now e f (escape_of a.escape) as_is.result as_is.ensures
    (filled-long (filled (not as_is.result) (source_of d a.place s) a.value.now) _ c.fill.result _ (c.fill.ensures d s h) none.0))
