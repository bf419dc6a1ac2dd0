-- `match_values::seen_len` meets its contract.
use native.Mathlib.Omega.{arith}
use lib.Seq.{take_all}
use lib.ListN.{length}
use Rattle.engine.specs.Match.{seen_by}
use Rattle.match_values.proofs.seen_len.Goals as goal

pub returns-then-ends_in_space : goal.returns-then-ends_in_space
unfolding seen_by
returns-then-ends_in_space c = (omega arith, rw (← c.ends_in_space.ensures, c.if-ends_in_space.true) (take_all (length c.args.attribute.now) c.args.attribute.now (omega arith)))

pub returns-else-ends_in_space : goal.returns-else-ends_in_space
unfolding seen_by
returns-else-ends_in_space c = (c.trimmed_len.ensures.0, rw (← c.ends_in_space.ensures, c.if-ends_in_space.false) c.trimmed_len.ensures.1)
