-- `lines::is_gone` meets its contract.
use Prim.Native.Nat.{◌+◌}
use mathlib.Core.Path.{sym, ◌∙◌}
use borrow.Author.Tests.{le-ltb}
use native.Mathlib.Omega.{arith}
use Rattle.lines.proofs.Copy.{newline_goes, slash-goes, slash_stays, other_stays}
use Rattle.lines.proofs.is_gone.Goals as goal

pub returns-in-10 : goal.returns-in-10
returns-in-10 c =
    sym (newline_goes c.args.text.now c.args.at c.args.end c.requires.0 c.requires.1 c.in-10.is)

pub returns-then-at-end : goal.returns-then-at-end
returns-then-at-end c =
    sym (slash-goes c.args.text.now c.args.at c.args.end c.requires.0 c.requires.1 c.in-92.is c.if-at-end.true)

pub returns-else-at-end : goal.returns-else-at-end
returns-else-at-end c =
    le-ltb (c.args.at + 1) c.args.end c.if-at-end.false
    ∙ sym (slash_stays c.args.text.now c.args.at c.args.end c.requires.0 c.requires.1 c.in-92.is c.if-at-end.false)

pub returns-in_default : goal.returns-in_default
returns-in_default c =
    sym (other_stays c.args.text.now c.args.at c.args.end c.requires.0 c.requires.1 (λ e. omega arith) (λ e. omega arith))
