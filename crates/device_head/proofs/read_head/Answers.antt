-- `device_head::read_head` meets its contract.
use Prim.Native.Nat.{ℕ, ◌+◌}
use mathlib.Core.Path.{◌≡◌, refl, ap, ◌∙◌}
use native.Mathlib.Omega.{arith}
use Rattle.device_head.proofs.Fields.{head_field}
use Rattle.device_head.proofs.read_head.Goals as goal

pub returns : goal.returns
returns c =
    let entry = c.args in
    let pre = c.requires in
    let take = c.take-edition in
    let take2 = c.take-above in
    let take3 = c.take-action in
    let take4 = c.take-node in
    let take5 = c.take-major in
    let take6 = c.take-minor in
    let l = entry.rec.now in
    let t1 = take in
    let t2 = take2 in
    let t3 = take3 in
    let t4 = take4 in
    let t5 = take5 in
    let t6 = take6 in
    let t7 = c.take-properties in
    let t8 = c.take-unused in
    let p1 : t1.result.next.at ≡ 4 = t1.ensures.next in
    let p2 : t2.result.next.at ≡ 8 = t2.ensures.next ∙ ap (λ (x : ℕ). x + 4) p1 in
    let p3 : t3.result.next.at ≡ 11 = t3.ensures.next ∙ ap (λ (x : ℕ). x + 3) p2 in
    let p4 : t4.result.next.at ≡ 12 = t4.ensures.next ∙ ap (λ (x : ℕ). x + 1) p3 in
    let p5 : t5.result.next.at ≡ 24 = t5.ensures.next ∙ ap (λ (x : ℕ). x + 12) p4 in
    let p6 : t6.result.next.at ≡ 44 = t6.ensures.next ∙ ap (λ (x : ℕ). x + 20) p5 in
    let p7 : t7.result.next.at ≡ 50 = t7.ensures.next ∙ ap (λ (x : ℕ). x + 6) p6 in
    let e1 = head_field l 0 0 4 t1.result.value pre refl (omega arith) t1.ensures.value in
    let e2 = head_field l t1.result.next.at 4 4 t2.result.value pre p1 (omega arith) t2.ensures.value in
    let e3 = head_field l t2.result.next.at 8 3 t3.result.value pre p2 (omega arith) t3.ensures.value in
    let e4 = head_field l t3.result.next.at 11 1 t4.result.value pre p3 (omega arith) t4.ensures.value in
    let e5 = head_field l t4.result.next.at 12 12 t5.result.value pre p4 (omega arith) t5.ensures.value in
    let e6 = head_field l t5.result.next.at 24 20 t6.result.value pre p5 (omega arith) t6.ensures.value in
    let e7 = head_field l t6.result.next.at 44 6 t7.result.value pre p6 (omega arith) t7.ensures.value in
    let e8 = head_field l t7.result.next.at 50 6 t8.result.value pre p7 (omega arith) t8.ensures.value in
    record
    { is = λ j. record { edition = e1 j; above = e2 j; action = e3 j; node = e4 j; major = e5 j; minor = e6 j; properties = e7 j; unused = e8 j }; above = t2.ensures.below; properties = t7.ensures.below }
