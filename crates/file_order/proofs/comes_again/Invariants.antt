-- `file_order::comes_again` meets its contract.
use Prim.Native.Nat.{◌+◌}
use mathlib.Core.Path.{◌≡◌}
use lib.ListN.{drop, get_or}
use Rattle.lists.specs.Lists.{any}
use Rattle.files.specs.Files.{same_file}
use Rattle.file_rows.specs.Places.{file_at, files_at}
use Rattle.file_order.proofs.comes_again.Given as goal

abbrev pub invariant-loop-j : goal.invariant-loop-j
invariant-loop-j l = any (same_file (file_at l.set (get_or l.starts l.i 0))) (drop l.j (files_at l.set l.starts l.n)) ≡ any (same_file (file_at l.set (get_or l.starts l.i 0))) (drop (l.i + 1) (files_at l.set l.starts l.n))
