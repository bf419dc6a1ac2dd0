-- What the striker gives back, with every byte of the target and every number of the list, as an answer of the definitions.
-- Assumes nothing.
use Rattle.std.specs.Prelude.{ℕ, List}
use Rattle.striking.specs.Striking.{StrikeAnswer}
use Rattle.answers.specs.Answers.{answered}
use Rattle.strike.specs.declared.Struck.{Struck}

abbrev pub struck_of : Struck → List ℕ → List ℕ → StrikeAnswer
struck_of r target list = record { target = answered r.given target; count = r.count; list = list }
