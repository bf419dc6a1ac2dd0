-- `device_lookup::chain_of` meets its contract: each device that was passed has its place.
-- Assumes nothing.
use Prim.Native.Nat.{ℕ, ◌+◌, ◌<◌}
use mathlib.Core.Path.{refl, ap, ◌∙◌}
use native.Mathlib.Omega.{arith}
use Rattle.lists.specs.Bytes.{Bytes}
use Rattle.device_lookup.proofs.Devices.{record_head, record_short, above-is, chain_few, chain_length, walk_start, here, walk_lies, walk_next, walk_end}
use Rattle.device_lookup.proofs.chain_of.Goals as goal

pub take-above-requires : goal.take-above-requires
take-above-requires c = omega (arith, record_head c.args.rec.now c.requires.0 (λ i. (c.type_inv.rec i).fits) c.requires.1)

pub loop-i-init : goal.loop-i-init
loop-i-init c = λ d e.
    let rec = c.args.rec.now in
    let b : Bytes rec = λ i. (c.type_inv.rec i).fits in (
      ap (λ (n : ℕ). n + 1) (c.take-above.ensures.value ∙ above-is rec d b e) ∙ chain_length d,
      omega arith,
      walk_start rec d b e _ c.properties_end-p.result refl (c.properties_end-p.ensures.0 d e),
    )

pub member_end-p-requires : goal.member_end-p-requires
member_end-p-requires c =
    let l = c.loop-i in
    let rec = c.args.rec.now in
    let d = c.requires.0 in
    let (n, _, w) = l.invariant d c.requires.1 in
    let h = here d l.i (omega (arith, n)) in
    record
    { member = h.member; lies = walk_lies d rec l.at l.p l.i w h; short = record_short rec d (λ i. (c.type_inv.rec i).fits) c.requires.1 }

pub loop-i-preserved : goal.loop-i-preserved
loop-i-preserved c =
    λ d e.
    let l = c.loop-i in
    let rec = c.args.rec.now in
    let (n, k, w) = l.invariant d e in
    let h = here d l.i (omega (arith, n)) in
    let few : l.i < 16 = omega (arith, chain_few rec d e, n) in (
      n,
      omega arith,
      walk_next d rec l.at l.p l.i w h few c.member_end-p.result
          (c.member_end-p.ensures h.member (walk_lies d rec l.at l.p l.i w h)),
    )

pub returns : goal.returns
returns c =
    λ d e.
    let l = c.loop-i in
    let rec = c.args.rec.now in
    let (n, k, w) = l.invariant d e in
    walk_end d rec l.at l.p _ l.i w n (omega (arith, k))
