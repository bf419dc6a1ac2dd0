-- `listing_lines::put_line` meets its contract.
use Rattle.std.proofs.Common.{[], ◌∷◌, arith, length-append}
use Rattle.engine.specs.Listing.{escaped}
use Rattle.listing_lines.proofs.Laws.{line_size, line_behind}
use Rattle.listing_lines.proofs.put_line.Goals as goal

pub returns-in_err-worded : goal.returns-in_err-worded
returns-in_err-worded c =
    rw c.from_residual.ensures (omega (arith, line_size c.args.word.now (escaped c.args.text.now), length-append c.args.word.now (32 ∷ []), c.in_err-worded.ensures))

pub returns-in_err-texted : goal.returns-in_err-texted
returns-in_err-texted c =
    rw c.from_residual-in_err-texted.ensures (omega (arith, line_size c.args.word.now (escaped c.args.text.now), length-append c.args.word.now (32 ∷ []), c.in_ok-worded.ensures, c.in_err-texted.ensures))

pub returns : goal.returns
returns c = line_behind c.args.word.now c.in_ok-worded.ensures c.in_ok-texted.ensures c.put_byte.result c.put_byte.new.out c.put_byte.ensures
