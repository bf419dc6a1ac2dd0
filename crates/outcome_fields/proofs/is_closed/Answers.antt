-- `outcome_fields::is_closed` meets its contract.
use Prim.Native.Nat.{ℕ}
use mathlib.Core.Path.{ap, ◌∙◌}
use lib.Dec.{eqb}
use Rattle.bits.specs.Bits.{number_at}
use Rattle.outcome_fields.proofs.Flags.{flag_read}
use Rattle.outcome_fields.proofs.is_closed.Goals as goal

pub returns : goal.returns
returns c =
    let a = c.args in
    λ n lay s w. ap (λ (i : ℕ). eqb i 1) (c.field.ensures.0 ∙ ap (λ (p : ℕ). number_at a.t.now p 1) c.flag_place.ensures.0) ∙ flag_read n a.t.now lay s w a.key
