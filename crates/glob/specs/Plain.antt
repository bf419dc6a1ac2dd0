-- What the code answers of a pattern that may be plain.
-- Assumes nothing.
use Rattle.std.specs.Prelude.{ℕ, ◌≤◌, ◌<◌, ◌≡◌, Bool, true, false, List, get_or}
use Rattle.pattern.specs.Pattern.{is_special, is_plain, well_formed}
use Rattle.glob.specs.declared.Form.{Form}
use Rattle.glob.specs.declared.Form.TheVariants.{Plain, Sound, Faulty}

-- document 02, Item 3: a pattern with this mark is plain; one without it may be
abbrev pub PlainIf : Bool → List ℕ → Type 0
PlainIf mark pattern = mark ≡ true → is_plain pattern ≡ true

-- every byte from a place to another stands for itself
abbrev pub PlainFrom : List ℕ → ℕ → ℕ → Type 0
PlainFrom pattern i j = (k : ℕ) → i ≤ k → k < j → is_special (get_or pattern k 0) ≡ false

-- whether one of them does not
pub record GroupIs (special : Bool) (pattern : List ℕ) (i j : ℕ) : Type 0 where
  pub none : special ≡ false → PlainFrom pattern i j
  pub some : special ≡ true → is_plain pattern ≡ false

abbrev pub FormIs : Form → List ℕ → Type 0
FormIs Plain pattern = is_plain pattern ≡ true
FormIs Sound pattern = well_formed pattern ≡ true
FormIs Faulty pattern = well_formed pattern ≡ false
