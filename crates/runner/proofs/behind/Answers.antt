-- `runner::behind` meets its contract.
use mathlib.Core.Path.{sym, ◌∙◌}
use borrow.Author.Tests.{eq-eqb, ne_eqb}
use Rattle.runner.proofs.behind.Goals as goal

pub returns-then-k-eq0 : goal.returns-then-k-eq0
returns-then-k-eq0 c = rw (eq-eqb _ 0 (sym c.number_at-k.ensures.0 ∙ c.if-k-eq0.true))

pub returns-else-k-eq0 : goal.returns-else-k-eq0
returns-else-k-eq0 c = rw (ne_eqb _ 0 (λ e. c.if-k-eq0.false (c.number_at-k.ensures.0 ∙ e)), c.number_at-k.ensures.0)
