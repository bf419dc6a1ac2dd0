-- What the code answers of the content of a pair.
-- Assumes nothing.
use Rattle.std.specs.Prelude.{ℕ, ◌≡◌, true, false, List, Result, Ok, Err}
use Rattle.pattern.specs.Pattern.{is_plain}
use Rattle.rules.specs.Key.{Key, Op}
use Rattle.rules.specs.Reading.{sound}
use Rattle.glob.specs.Plain.{PlainIf}
use Rattle.glob.specs.declared.Form.{Form}
use Rattle.glob.specs.declared.Form.TheVariants.{Plain, Sound, Faulty}
use Rattle.refusals.specs.declared.Refusal.{Refusal}
use Rattle.pairs.specs.declared.Pair.{Pair}
use Rattle.pairs.specs.Answers.{pair_of}
use Rattle.pair_content.specs.declared.Judged.{Judged}

-- a value, by the key and the operator of its pair
abbrev pub ContentIs : Form → Key → Op → List ℕ → Type 0
ContentIs Plain k o value = (sound k o value ≡ true) × (is_plain value ≡ true)
ContentIs Sound k o value = sound k o value ≡ true
ContentIs Faulty k o value = sound k o value ≡ false

-- the pair without its mark
abbrev pub pair_read : Result Judged Refusal → Result Pair Refusal
pair_read (Ok j) = Ok j.pair
pair_read (Err f) = Err f

-- its value is plain where it is marked
abbrev pub MarkedIn : List ℕ → Result Judged Refusal → Type 0
MarkedIn line (Ok j) = PlainIf j.plain (pair_of line j.pair).value
MarkedIn line (Err f) = Unit {0}
