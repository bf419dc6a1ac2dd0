-- What code says of the soundness of records.
-- Assumes nothing.
use Rattle.std.specs.Prelude.{ℕ, ◌≤◌, ◌≡◌, List, ◌∷◌}
use Rattle.std.specs.Prelude.{Some, Result, Ok, Err}
use Rattle.lists.specs.Checked.{Checked, refused, ok}
use Rattle.device.specs.Device as D
use Rattle.device.specs.Device.{Device}
use Rattle.outcome.specs.State.{State}
use Rattle.engine.specs.Operations.{decode_for}
use Rattle.refusals.specs.Refusals.{refusal_of}
use Rattle.sets.specs.Lent.{most_records, Lent}
use Rattle.set_answers.specs.Answers.{fault_of}
use Rattle.sets.specs.Answer.{Fault, of_record}
use Rattle.contest.specs.Operation.{states_from}
use Rattle.refusals.specs.declared.Refusal.{Refusal}
use Rattle.refusals.specs.declared.SetRefusal.{SetRefusal}

abbrev pub VerdictIs : List ℕ → List ℕ → Result (Unit {0}) Refusal → Type 0
VerdictIs dev out (Ok u) = (d : Device) × (s : State) × (D.decode dev ≡ Some d) × (decode_for d out ≡ Some s)
VerdictIs dev out (Err why) = (n : ℕ) (ls : List Lent) → states_from n (record { device = dev; outcome = out } ∷ ls) ≡ refused (of_record n (refusal_of why))

abbrev pub JudgedIs : Checked Fault (List State) → Result (Unit {0}) SetRefusal → Type 0
JudgedIs c (Ok u) = (ss : List State) × (c ≡ ok ss)
JudgedIs c (Err f) = (c ≡ refused (fault_of f)) × (f.position ≤ most_records) × (f.line ≡ 0)
