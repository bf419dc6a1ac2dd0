-- `listing::read_sheet` meets its contract.
use mathlib.Core.Path.{sym}
use lib.Seq.{length-take-le}
use Rattle.listing.proofs.read_sheet.Goals as goal

pub returns-then-is_left_out : goal.returns-then-is_left_out
returns-then-is_left_out c =
    (c.requires, sym (length-take-le 1 c.args.buf.now c.requires))
