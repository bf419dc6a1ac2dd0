-- `device_head::read_lens` meets its contract.
use Prim.Native.Nat.{◌+◌, ◌*◌}
use mathlib.Core.Path.{◌≡◌}
use native.Mathlib.Omega.{arith}
use Rattle.device_head.proofs.Fields.{lens_field}
use Rattle.device_head.proofs.read_lens.Goals as goal

pub returns : goal.returns
returns c =
    let entry = c.args in
    let pre = c.requires in
    let take = c.take-path in
    let take2 = c.take-subsystem in
    let take3 = c.take-driver in
    let l = entry.rec.now in
    let at = entry.at in
    let t1 = take in
    let t2 = take2 in
    let t3 = take3 in
    let t4 = c.take-attributes in
    let t5 = c.take-unused in
    let p1 : t1.result.next.at ≡ 8 * at + 9 = omega (arith, t1.ensures.next) in
    let p2 : t2.result.next.at ≡ 8 * at + 15 = omega (arith, t2.ensures.next, p1) in
    let p3 : t3.result.next.at ≡ 8 * at + 21 = omega (arith, t3.ensures.next, p2) in
    let p4 : t4.result.next.at ≡ 8 * at + 26 = omega (arith, t4.ensures.next, p3) in
    let e1 = lens_field l at (8 * at) 0 9 t1.result.value pre.0 (omega arith) (omega arith) t1.ensures.value in
    let e2 = lens_field l at t1.result.next.at 9 6 t2.result.value pre.0 p1 (omega arith) t2.ensures.value in
    let e3 = lens_field l at t2.result.next.at 15 6 t3.result.value pre.0 p2 (omega arith) t3.ensures.value in
    let e4 = lens_field l at t3.result.next.at 21 5 t4.result.value pre.0 p3 (omega arith) t4.ensures.value in
    let e5 = lens_field l at t4.result.next.at 26 6 t5.result.value pre.0 p4 (omega arith) t5.ensures.value in
    record
    { is = λ j. record { path = e1 j; subsystem = e2 j; driver = e3 j; attributes = e4 j; unused = e5 j }; path = t1.ensures.below; subsystem = t2.ensures.below; driver = t3.ensures.below; attributes = t4.ensures.below }
