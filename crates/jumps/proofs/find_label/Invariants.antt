-- `jumps::find_label` meets its contract: each rule that is passed over has another label.
use Prim.Native.Nat.{ℕ, ◌-◌}
use mathlib.Core.List.{List}
use Rattle.table.specs.Rules.{mark_of, Rules}
use Rattle.jumps.specs.Labels.{Labels}
use Rattle.jumps.proofs.Labels.{Walk, left_of}
use Rattle.jumps.proofs.find_label.Given as goal

abbrev pub invariant-loop-next : goal.invariant-loop-next
invariant-loop-next l = (t : List ℕ) (m used from n : ℕ) → Rules l.values l.rows t l.labels m used n → Labels l.values l.rows l.labels l.hashes l.heads l.later from n → Walk l.values l.rows t l.labels l.name from n (mark_of l.next)

abbrev pub decreases-loop-next : goal.decreases-loop-next
decreases-loop-next l = left_of (mark_of l.next)
