-- `text_trials::put` meets its contract.
use native.Mathlib.Omega.{arith}
use lib.ListN.{length-set}
use Rattle.text_trials.proofs.put.Goals as goal

pub returns-then-n-text : goal.returns-then-n-text
returns-then-n-text c = simp length-set (omega arith)
