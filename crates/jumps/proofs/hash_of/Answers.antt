use Prim.Native.Nat.{ℕ, ◌+◌}
use mathlib.Core.Path.{refl, sym, ◌∙◌, ap}
use native.Mathlib.Omega.{arith}
use lib.ListN.{drop}
use Rattle.jumps.specs.Labels.{hash_from}
use Rattle.jumps.proofs.Labels.{hash_step, hash_end}
use Rattle.jumps.proofs.hash_of.Goals as goal

pub loop-b-init : goal.loop-b-init
loop-b-init c = (omega arith, refl)

pub loop-b-preserved : goal.loop-b-preserved
loop-b-preserved c =
    let x = c.args in
    let i = c.loop-b.b-index in (
      c.mix-hash.ensures.1,
      ap (λ (h : ℕ). hash_from h (drop (i + 1) x.name.now)) c.mix-hash.ensures.0 ∙ sym (hash_step x.name.now i c.loop-b.hash (omega arith)) ∙ c.loop-b.invariant.1,
    )

pub returns : goal.returns
returns c = (sym (hash_end c.args.name.now c.loop-b.b-index c.loop-b.hash (omega arith)) ∙ c.loop-b.invariant.1, c.loop-b.invariant.0)
