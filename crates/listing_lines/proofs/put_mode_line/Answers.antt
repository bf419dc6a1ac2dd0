-- `listing_lines::put_mode_line` meets its contract.
use Rattle.std.proofs.Common.{[], ◌∷◌, arith, length-append}
use Rattle.engine.specs.Listing.{four_octal}
use Rattle.listing_lines.proofs.Laws.{line_size, line_behind}
use Rattle.listing_lines.proofs.put_mode_line.Goals as goal

pub returns-in_err-worded : goal.returns-in_err-worded
returns-in_err-worded c =
    rw c.from_residual.ensures (omega (arith, line_size c.args.word.now (four_octal c.args.mode), length-append c.args.word.now (32 ∷ []), c.in_err-worded.ensures))

pub returns-in_err-numbered : goal.returns-in_err-numbered
returns-in_err-numbered c =
    rw c.from_residual-in_err-numbered.ensures (omega (arith, line_size c.args.word.now (four_octal c.args.mode), length-append c.args.word.now (32 ∷ []), c.in_ok-worded.ensures, c.in_err-numbered.ensures))

pub returns : goal.returns
returns c = line_behind c.args.word.now c.in_ok-worded.ensures c.in_ok-numbered.ensures c.put_byte.result c.put_byte.new.out c.put_byte.ensures
