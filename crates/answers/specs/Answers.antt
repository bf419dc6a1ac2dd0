-- The numbers that code gives back, and the target's bytes, as an answer of document 01.
-- Assumes nothing.
use Rattle.std.specs.Prelude.{ℕ, ◌-◌, ◌≡◌, List, ◌++◌, length, replicate}
use Rattle.lists.specs.Checked.{line}
use Rattle.lists.specs.Refusal.{Refusal}
use Rattle.text.specs.Run.{Answer, refusal, acceptance}
use Rattle.answers.specs.declared.Given.{Given}

abbrev pub answered : Given → List ℕ → Answer
answered g bs = record { number = g.number; line = g.line; visited = g.visited; tried = g.tried; used = g.used; bytes = bs }

-- a refusal, where the whole target is zero
abbrev pub Refuses : Given → ℕ → Refusal → Type 0
Refuses g n f = (room : ℕ) → answered g (replicate room 0) ≡ refusal room (line n f)

-- an acceptance, where the target holds what was made and zeros
abbrev pub Accepts : Given → ℕ → ℕ → ℕ → Type 0
Accepts g visited tried used =
    (room : ℕ) (made : List ℕ) → used ≡ length made → answered g (made ++ replicate (room - length made) 0) ≡ acceptance room visited tried made
