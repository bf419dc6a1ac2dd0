-- `record_trials::bytes_of` meets its contract.
use Rattle.std.proofs.Common.{◌≡◌, length}
use Rattle.record_trials.proofs.bytes_of.Given as goal

abbrev pub invariant-loop-b : goal.invariant-loop-b
invariant-loop-b l = length l.bytes ≡ length l.initial.bytes
