-- `listing_lines::put_signed` meets its contract.
use Rattle.std.proofs.Common.{◌≡◌, ap, ◌∙◌, ℕ}
use mathlib.Core.List.{[], ◌∷◌}
use lib.IntN.{nat_abs}
use mir.Facts.{to_z-of_z}
use Rattle.bits.proofs.Signed.{below}
use Rattle.engine.specs.Listing.{signed}
use Rattle.template.specs.Decimal.{decimal}
use Rattle.listing_lines.proofs.Laws.{behind, appended_as, signed_below}
use Rattle.listing_lines.proofs.put_signed.Goals as goal

pub returns-in_ok-minus : goal.returns-in_ok-minus
returns-in_ok-minus c =
    let put = c.put_decimal in
    let n = c.unsigned_abs.result in
    let e : n ≡ nat_abs c.args.z = c.unsigned_abs.ensures.value ∙ ap nat_abs (to_z-of_z c.ranges.z) in
    appended_as (45 ∷ decimal n) (signed c.args.z) c.args.out.now c.args.used put.result put.new.out
    (ap (λ (i : ℕ). 45 ∷ decimal i) e ∙ signed_below c.args.z (below c.args.z c.ranges.z c.if-z-lt0.true))
    (behind c.in_ok-minus.ensures (decimal n) put.result put.new.out put.ensures)
