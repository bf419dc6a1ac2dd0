-- `glob::few_plain` meets its contract.
use Rattle.glob.specs.Plain.{PlainFrom}
use Rattle.glob.proofs.few_plain.Given as goal

abbrev pub invariant-loop-b : goal.invariant-loop-b
invariant-loop-b l = PlainFrom l.pattern 0 l.b-index
