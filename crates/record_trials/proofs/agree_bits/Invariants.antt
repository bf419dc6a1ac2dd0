-- `record_trials::agree_bits` meets its contract.
use Rattle.std.proofs.Common.{◌≡◌, length}
use Rattle.record_trials.proofs.agree_bits.Given as goal

abbrev pub invariant-loop-i : goal.invariant-loop-i
invariant-loop-i l = length l.rec ≡ length l.initial.rec
