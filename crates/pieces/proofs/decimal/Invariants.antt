-- `pieces::decimal` meets its contract.
use Rattle.pieces.proofs.Numbers.{Writing}
use Rattle.pieces.proofs.decimal.Given as goal

abbrev pub invariant-loop-m : goal.invariant-loop-m
invariant-loop-m l = Writing l.n l.digits l.start l.m

abbrev pub decreases-loop-m : goal.decreases-loop-m
decreases-loop-m l = l.m
