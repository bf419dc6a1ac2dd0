-- The numbers that code gives back of a set, and the target's bytes, as an answer of document 02.
-- Assumes nothing.
use Rattle.std.specs.Prelude.{ℕ, ◌-◌, ◌≡◌, List, ◌++◌, length, replicate}
use Rattle.sets.specs.Answer.{Fault, Answer, refusal, acceptance}
use Rattle.refusals.specs.Refusals.{refusal_of}
use Rattle.refusals.specs.declared.SetRefusal.{SetRefusal}
use Rattle.set_answers.specs.declared.Given.{Given}

abbrev pub answered : Given → List ℕ → Answer
answered g bs = record {
  number = g.number;
  position = g.position;
  line = g.line;
  visited = g.visited;
  tried = g.tried;
  used = g.used;
  count = g.count;
  bytes = bs;
}

-- what code refuses with
abbrev pub fault_of : SetRefusal → Fault
fault_of f = record { why = refusal_of f.refusal; position = f.position; line = f.line }

-- a refusal, where the whole target is zero
abbrev pub Refuses : Given → Fault → Type 0
Refuses g f = (room : ℕ) → answered g (replicate room 0) ≡ refusal room f

-- an acceptance, where the target holds what was made and zeros
abbrev pub Accepts : Given → ℕ → ℕ → ℕ → ℕ → Type 0
Accepts g visited tried used count =
    (room : ℕ) (made : List ℕ) → used ≡ length made → answered g (made ++ replicate (room - length made) 0) ≡ acceptance room visited tried count made
