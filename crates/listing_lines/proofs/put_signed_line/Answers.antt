-- `listing_lines::put_signed_line` meets its contract.
use Rattle.std.proofs.Common.{[], ◌∷◌, ap, length, Some, arith, length-append}
use lib.IntN.{ℤ}
use mir.Facts.{to_z-of_z}
use Rattle.engine.specs.Listing.{signed}
use Rattle.listing_lines.proofs.Laws.{appended_as, line_size, line_behind}
use Rattle.listing_lines.proofs.put_signed_line.Goals as goal

pub returns-in_err-worded : goal.returns-in_err-worded
returns-in_err-worded c =
    rw c.from_residual.ensures (omega (arith, line_size c.args.word.now (signed c.args.z), length-append c.args.word.now (32 ∷ []), c.in_err-worded.ensures))

pub returns-in_err-numbered : goal.returns-in_err-numbered
returns-in_err-numbered c =
    let e = ap (λ (z : ℤ). length (signed z)) (to_z-of_z c.ranges.z) in
    rw c.from_residual-in_err-numbered.ensures
    (omega (arith, e, line_size c.args.word.now (signed c.args.z), length-append c.args.word.now (32 ∷ []), c.in_ok-worded.ensures, c.in_err-numbered.ensures))

pub returns : goal.returns
returns c =
    let n = c.in_ok-numbered in
    let text = appended_as _ (signed c.args.z) _ _ (Some n.numbered) _ (ap signed (to_z-of_z c.ranges.z)) n.ensures in
    line_behind c.args.word.now c.in_ok-worded.ensures text c.put_byte.result c.put_byte.new.out c.put_byte.ensures
