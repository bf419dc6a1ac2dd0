-- `record_trials::put` meets its contract.
use Rattle.std.proofs.Common.{◌≡◌, length}
use Rattle.record_trials.proofs.put.Given as goal

abbrev pub invariant-loop : goal.invariant-loop
invariant-loop l = length l.bytes ≡ length l.initial.bytes
