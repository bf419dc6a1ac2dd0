-- `lost_jumps::strike_jumps` meets its contract.
use Rattle.lost_jumps.proofs.Judged.{Turn}
use lib.ListN.{length}
use mathlib.Core.Path.{◌≡◌}
use borrow.Author.Rules.{rules}
use Rattle.lost_jumps.proofs.strike_jumps.Given as goal

abbrev pub invariant-loop-i : goal.invariant-loop-i
invariant-loop-i l =
    Turn l.values l.rows l.initial.rules l.initial.labels l.rules l.labels l.i l.count × (length l.rules ≡ length l.initial.rules) × (length l.labels ≡ length l.initial.labels)
