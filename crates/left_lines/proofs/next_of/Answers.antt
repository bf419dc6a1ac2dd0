-- `left_lines::next_of` meets its contract.
use lib.ListN.{length}
use borrow.Author.Tests.{lt-ltb, le-ltb}
use Rattle.left_lines.proofs.next_of.Goals as goal

pub returns-then-end-text : goal.returns-then-end-text
returns-then-end-text c =
    let a = c.args in rw (lt-ltb a.end (length a.text.now) c.if-end-text.true)

pub returns-else-end-text : goal.returns-else-end-text
returns-else-end-text c =
    let a = c.args in rw (le-ltb a.end (length a.text.now) c.if-end-text.false)
