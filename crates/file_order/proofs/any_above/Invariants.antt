-- `file_order::any_above` meets its contract.
use mathlib.Core.Path.{◌≡◌}
use lib.ListN.{drop}
use Rattle.lists.specs.Lists.{any}
use Rattle.files.specs.Files.{above}
use Rattle.file_rows.specs.Places.{file_at, files_at}
use Rattle.file_order.proofs.any_above.Given as goal

abbrev pub invariant-loop-j : goal.invariant-loop-j
invariant-loop-j l = any (above (file_at l.set l.p)) (drop l.j (files_at l.set l.starts l.n)) ≡ any (above (file_at l.set l.p)) (files_at l.set l.starts l.n)
