-- What a step of the matcher says of the places that it looked at.
-- Assumes nothing.
use Rattle.std.specs.Prelude.{ℕ, ◌+◌, ◌-◌, ◌≤◌, ◌<◌, ◌≡◌, true, false, List, eqb, leb, length, get_or, drop, Option, Some, None}
use Rattle.lists.specs.Lists.{pick}
use Rattle.pattern.specs.Pattern.{any_suffix}
use Rattle.glob.specs.Place.{matches_from}
use Rattle.glob.specs.declared.SetRead.{SetRead}
use Rattle.glob.specs.declared.Step.{Step}
use Rattle.glob.specs.declared.Step.TheVariants.{Done, Star, Eat, Miss, Stop}

-- the step that follows from what a set says
abbrev pub set_step : Option SetRead → Step
set_step (Some r) = pick r.taken (Eat r.next) Miss
set_step None = Stop

-- the step of a byte that stands for itself
abbrev pub byte_step : ℕ → ℕ → List ℕ → ℕ → Step
byte_step b p value t = pick (leb (length value) t) Stop (pick (eqb b (get_or value t 0)) (Eat (p + 1)) Miss)

-- an element that takes the byte at t and ends before `next`: what matches with it goes on behind it
pub record Eaten (pattern : List ℕ) (p : ℕ) (value : List ℕ) (t next : ℕ) : Type 0 where
  pub forward : p < next
  pub inside : next ≤ length pattern
  pub byte : t < length value
  pub here : matches_from pattern p (drop t value) ≡ matches_from pattern next (drop (t + 1) value)
  pub on : (ys : List ℕ) → matches_from pattern p ys ≡ true → matches_from pattern next (drop 1 ys) ≡ true

abbrev pub StepIs : Step → List ℕ → ℕ → List ℕ → ℕ → Type 0
StepIs Done pattern p value t = matches_from pattern p (drop t value) ≡ true
StepIs Star pattern p value t = (p < length pattern) × ((ys : List ℕ) → matches_from pattern p ys ≡ any_suffix (matches_from pattern (p + 1)) ys)
StepIs (Eat next) pattern p value t = Eaten pattern p value t next
StepIs Miss pattern p value t = (t < length value) × (matches_from pattern p (drop t value) ≡ false)
StepIs Stop pattern p value t = (ys : List ℕ) → length ys ≤ length value - t → matches_from pattern p ys ≡ false

-- a place of the value from which what stands behind a star matches as it does from an earlier one
pub record StartIs (r : ℕ) (pattern : List ℕ) (star : ℕ) (value : List ℕ) (from : ℕ) : Type 0 where
  pub ahead : from ≤ r
  pub inside : r ≤ length value
  pub same : any_suffix (matches_from pattern star) (drop r value) ≡ any_suffix (matches_from pattern star) (drop from value)
