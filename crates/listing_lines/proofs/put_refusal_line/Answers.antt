-- `listing_lines::put_refusal_line` meets its contract.
use Rattle.std.proofs.Common.{[], ◌∷◌, ◌++◌, arith, length-append}
use Rattle.lists.specs.Quoted.{bytes}
use Rattle.template.specs.Decimal.{decimal}
use Rattle.listing_lines.proofs.Laws.{behind}
use Rattle.listing_lines.proofs.put_refusal_line.Goals as goal

pub returns-in_err-worded : goal.returns-in_err-worded
unfolding bytes
returns-in_err-worded c = rw c.from_residual.ensures (simp length-append (omega (arith, c.in_err-worded.ensures)))

pub returns-in_err-numbered : goal.returns-in_err-numbered
unfolding bytes
returns-in_err-numbered c =
    rw c.from_residual-in_err-numbered.ensures (simp length-append (omega (arith, c.in_ok-worded.ensures, c.in_err-numbered.ensures)))

pub returns-in_err-lined : goal.returns-in_err-lined
unfolding bytes
returns-in_err-lined c =
    rw c.from_residual-in_err-lined.ensures
    (simp length-append (omega (arith, c.in_ok-worded.ensures, c.in_ok-numbered.ensures, c.in_err-lined.ensures)))

pub returns-in_err-placed : goal.returns-in_err-placed
unfolding bytes
returns-in_err-placed c =
    rw c.from_residual-in_err-placed.ensures
    (simp length-append (omega (arith, c.in_ok-worded.ensures, c.in_ok-numbered.ensures, c.in_ok-lined.ensures, c.in_err-placed.ensures)))

pub returns : goal.returns
unfolding bytes
returns c =
    let r = c.put_byte.result in
    let out = c.put_byte.new.out in
    behind c.in_ok-worded.ensures (decimal c.args.number ++ (bytes " line " ++ (decimal c.args.line ++ (10 ∷ [])))) r out
    (behind c.in_ok-numbered.ensures (bytes " line " ++ (decimal c.args.line ++ (10 ∷ []))) r out
    (behind c.in_ok-lined.ensures (decimal c.args.line ++ (10 ∷ [])) r out
    (behind c.in_ok-placed.ensures (10 ∷ []) r out c.put_byte.ensures)))
