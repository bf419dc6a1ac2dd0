-- `pairs::unescape_into` meets its contract.
use Rattle.pairs.proofs.Unescaping.{Puts}
use Rattle.pairs.proofs.unescape_into.Given as goal

abbrev pub invariant-loop-i : goal.invariant-loop-i
invariant-loop-i l = Puts l.line l.start l.end l.initial.out l.out l.i l.n
