-- `file_order::doubled` meets its contract.
use mathlib.Core.Path.{◌≡◌}
use lib.ListN.{drop}
use Rattle.files.specs.Files.{doubled as twice}
use Rattle.file_rows.specs.Places.{files_at}
use Rattle.file_order.proofs.doubled.Given as goal

abbrev pub invariant-loop-i : goal.invariant-loop-i
invariant-loop-i l = twice (drop l.i (files_at l.set l.starts l.n)) ≡ twice (files_at l.set l.starts l.n)
