-- `device_check::check_parents` meets its contract: what the devices from p on say is what all of them say.
-- Assumes nothing.
use Prim.Native.Nat.{◌+◌, ◌-◌, ◌≤◌}
use mathlib.Core.Path.{◌≡◌}
use lib.ListN.{length, drop}
use Rattle.device_head.specs.Read.{path_len, path_in}
use Rattle.device_check.specs.Stages.{parents_in}
use Rattle.device_check.proofs.check_parents.Given as goal

abbrev pub invariant-loop : goal.invariant-loop
invariant-loop l =
    (l.p ≤ length l.rec) × (l.c + 4 + path_len l.rec l.c ≤ length l.rec) × (parents_in (path_in l.rec l.c) (l.n - l.counter) (drop l.p l.rec) ≡ parents_in (path_in l.rec l.child) l.n (drop l.at l.rec))
