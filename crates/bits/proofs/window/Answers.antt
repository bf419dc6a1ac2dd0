use Prim.Native.Nat.{ℕ, ◌+◌, ◌-◌, ◌*◌}
use mathlib.Core.Path.{refl, sym, ap₂, ◌∙◌}
use native.Mathlib.Omega.{arith}
use Rattle.lists.proofs.Moves.{ap_at}
use Rattle.bits.specs.Bits.{from_bits, number_at}
use Rattle.bits.proofs.Windows.{number_room}
use Rattle.bits.proofs.Numbers.{number_step}
use Rattle.bits.proofs.window.Goals as goal

pub loop-i-init : goal.loop-i-init
unfolding number_at from_bits
loop-i-init c = refl

pub overflow_mul-w : goal.overflow_mul-w
overflow_mul-w c = let a = c.args in omega (arith, c.loop-i.invariant, number_room a.s.now (8 * a.first) (8 * c.loop-i.i) 32 (omega arith))

pub overflow_add-w : goal.overflow_add-w
overflow_add-w c = let a = c.args in omega (arith, c.loop-i.invariant, number_room a.s.now (8 * a.first) (8 * c.loop-i.i) 32 (omega arith))

pub loop-i-preserved : goal.loop-i-preserved
loop-i-preserved c =
    let a = c.args in
    ap₂ (λ (x y : ℕ). x * 256 + y) c.loop-i.invariant
    c.from.ensures ∙ sym (number_step a.s.now a.first c.loop-i.i (λ i. (c.type_inv.s i).fits) (omega arith))

pub returns : goal.returns
returns c =
    let x = c.args in
    let a = x in (c.loop-i.invariant ∙ ap_at (λ i. number_at a.s.now (8 * a.first) (8 * i)) c.loop-i.i a.count (omega arith), omega (arith, c.loop-i.invariant, number_room a.s.now (8 * a.first) (8 * c.loop-i.i) 40 (omega arith)))
