-- `lines::ends_in_slash` meets its contract.
use mathlib.Core.Path.{sym, ◌∙◌}
use borrow.Author.Tests.{le-ltb}
use Rattle.lines.proofs.Walk.{slash_at, slash-none}
use Rattle.lines.proofs.ends_in_slash.Goals as goal

pub returns-then-at-end : goal.returns-then-at-end
returns-then-at-end c =
    sym (slash_at c.args.text.now c.args.at c.args.end c.if-at-end.true c.requires.1)

pub returns-else-at-end : goal.returns-else-at-end
returns-else-at-end c =
    le-ltb c.args.at c.args.end c.if-at-end.false ∙ sym (slash-none c.args.text.now c.args.at c.args.end c.if-at-end.false)
