-- `run_list::put_runs` meets its contract.
use Prim.Native.Nat.{◌+◌, ◌-◌, ◌*◌, ◌≤◌}
use mathlib.Core.Path.{◌≡◌}
use lib.ListN.{length}
use Rattle.run_list.proofs.Rows.{Rest}
use Rattle.run_list.specs.Records.{OfRuns}
use Rattle.run_list.proofs.put_runs.Given as goal

abbrev pub invariant-loop : goal.invariant-loop
invariant-loop l =
    (l.at + 514 * (l.n - l.counter) ≤ length l.t)
    × (length l.t ≡ length l.initial.t)
    × OfRuns l.dev l.rec l.chain l.properties l.count l.first l.n (λ d ps y rs. Rest l.rec l.p (l.n - l.counter) d ps y rs l.initial.t l.t l.at)
