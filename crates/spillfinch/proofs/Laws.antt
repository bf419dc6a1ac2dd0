-- From what an operation gives back to what the exported function writes.
-- Assumes nothing.
use Prim.Native.Nat.{ℕ}
use mathlib.Core.Path.{◌≡◌, ap, ◌∙◌}
use mathlib.Core.List.{List, []}
use Rattle.text.specs.Run.{Answer}
use Rattle.answers.specs.declared.Given.{Given}
use Rattle.answers.specs.Answers.{answered}
use Rattle.striking.specs.Striking.{StrikeAnswer}
use Rattle.strike.specs.declared.Struck.{Struck}
use Rattle.strike.specs.Struck.{struck_of}
use Rattle.sets.specs.Answer as sets
use Rattle.set_answers.specs.Answers as set
use Rattle.set_answers.specs.declared.Given as set_given
use Rattle.each.specs.Each.{Each}
use Rattle.run_each.specs.Runs.{wrote}
use Rattle.spillfinch.specs.Exports.{numbers, numbers_with, Gives, StrikeIs, set_numbers, SetGives, EachIs}

-- the numbers and the target of an answer
pub gives : (g : Given) (written target : List ℕ) (a : Answer) → answered g target ≡ a → written ≡ numbers (answered g []) → Gives written target a
gives g written target a e w = (w ∙ ap numbers e, ap (λ (b : Answer). b.bytes) e)

-- the same of a strike
pub strike-gives : (r : Struck) (written target list : List ℕ) (a : StrikeAnswer) → struck_of r target list ≡ a → written ≡ numbers_with (answered r.given []) r.count → StrikeIs a written target list
strike-gives r written target list a e w = (
  w ∙ ap (λ (b : StrikeAnswer). numbers_with b.target b.count) e,
  ap (λ (b : StrikeAnswer). b.target.bytes) e,
  ap (λ (b : StrikeAnswer). b.list) e,
)

pub set_gives : (g : set_given.Given) (written target : List ℕ) (a : sets.Answer) → set.answered g target ≡ a → written ≡ set_numbers (set.answered g []) → SetGives written target a
set_gives g written target a e w = (w ∙ ap set_numbers e, ap (λ (b : sets.Answer). b.bytes) e)

pub each_gives : (g : set_given.Given) (written targets answers : List ℕ) (e : Each) → wrote g targets answers ≡ e → written ≡ set_numbers (set.answered g []) → EachIs e written targets answers
each_gives g written targets answers e is w = (set_gives g written targets e.own (ap (λ (x : Each). x.own) is) w, ap (λ (x : Each). x.answers) is)
