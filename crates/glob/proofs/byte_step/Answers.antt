-- `glob::byte_step` meets its contract.
use borrow.Author.Tests.{le-leb, lt-leb, eq-eqb, ne_eqb}
use Rattle.glob.proofs.byte_step.Goals as goal

pub returns-then-value-t : goal.returns-then-value-t
returns-then-value-t c = rw (le-leb _ _ c.if-value-t.true)

pub returns-then-b-value : goal.returns-then-b-value
returns-then-b-value c = rw (lt-leb _ _ c.if-value-t.false, eq-eqb _ _ c.if-b-value.true)

pub returns : goal.returns
returns c = rw (lt-leb _ _ c.if-value-t.false, ne_eqb _ _ c.if-b-value.false)
