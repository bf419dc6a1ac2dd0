-- `reader::take_lines` meets its contract.
use Rattle.reader.specs.Read.{Fits, Before}
use lib.ListN.{length}
use mathlib.Core.Path.{◌≡◌}
use Prim.Native.Nat.{◌+◌, ◌-◌, ◌≤◌}
use borrow.Author.Rules.{rules}
use Rattle.reader.proofs.take_lines.Given as goal

abbrev pub invariant-loop-place : goal.invariant-loop-place
invariant-loop-place l =
    (l.place.at ≤ length l.text + 1) × (l.place.number ≤ l.place.at + 1) × Before l.text l.values l.rows l.rules l.labels l.list l.strict l.place × Fits (length l.text + 1 - l.place.at) l.values l.rows l.place.counts
    × (length l.values ≡ length l.initial.values) × (length l.rows ≡ length l.initial.rows) × (length l.copy ≡ 1024) × (length l.list ≡ length l.initial.list)

abbrev pub decreases-loop-place : goal.decreases-loop-place
decreases-loop-place l = length l.text + 1 - l.place.at
