-- `outcome_fields::close` meets its contract.
use Prim.Native.Nat.{ℕ}
use mathlib.Core.Path.{ap, ◌∙◌}
use Rattle.bits.specs.Bits.{put_at}
use Rattle.outcome_fields.proofs.Flags.{flag-put}
use Rattle.outcome_fields.proofs.close.Goals as goal

pub returns : goal.returns
returns c =
    let a = c.args in
    let put-field = c.put_field in
    λ n lay s w. flag-put n a.t.now lay s w (λ i. (c.slice_known-1.given i).fits) put-field.new.t put-field.auto.t a.key (put-field.ensures ∙ ap (λ (p : ℕ). put_at a.t.now p 1 1) c.flag_place.ensures.0)
