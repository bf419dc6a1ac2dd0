-- `signed::starts_with` meets its contract.
use mathlib.Core.Path.{sym, ◌∙◌}
use borrow.Author.Tests.{lt-leb}
use lib.ListN.{length}
use Rattle.lists.proofs.Places.{starts-same, starts_short}
use Rattle.signed.proofs.starts_with.Goals as goal

pub returns-then-n-s : goal.returns-then-n-s
returns-then-n-s c = c.same.ensures ∙ sym (starts-same c.args.start.now c.args.s.now c.if-n-s.true)

pub returns-else-n-s : goal.returns-else-n-s
returns-else-n-s c = lt-leb (length c.args.start.now) (length c.args.s.now) c.if-n-s.false ∙ sym (starts_short c.args.start.now c.args.s.now c.if-n-s.false)
