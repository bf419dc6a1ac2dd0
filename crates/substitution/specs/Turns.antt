-- What code answers of a template, one run or piece after the other, and of the whole.
-- Assumes nothing.
use Rattle.std.specs.Prelude.{ℕ, ◌≤◌, ◌<◌, ◌≡◌, Bool, true, not, ◌&&◌, List, eqb, length, take, drop}
use Rattle.std.specs.Prelude.{Option, None, Some}
use Rattle.lists.specs.Checked.{Checked, refused, ok}
use Rattle.lists.specs.Refusal.{Refusal, substitution_long}
use Rattle.template.specs.Template.{well_formed}
use Rattle.engine.specs.Substitute.{Source, substituted}
use Rattle.insertion.specs.Append.{Appended}
use Rattle.substitution.specs.declared.Turn.{Turn}

-- a byte that stands for itself wherever it stands
abbrev pub is_plain : ℕ → Bool
is_plain b = not (eqb b 36) && not (eqb b 37)

-- ---- one turn

-- the next place n is further on in a template, which is well formed from there on; the text ends at k, within its buffer
pub record Onward (t : List ℕ) (i n k size : ℕ) : Type 0 where
  pub forward : i < n
  pub inside : n ≤ length t
  pub sound : well_formed (drop n t) ≡ true
  pub room : k ≤ size

abbrev pub GoesOn : List ℕ → ℕ → ℕ → Option (Option Turn) → Type 0
GoesOn t i size (Some (Some x)) = Onward t i x.next x.used size
GoesOn t i size (Some None) = Unit {0}
GoesOn t i size None = Unit {0}

-- y behind the first k bytes of l' is x behind the first `used` of l
abbrev pub Leads : List ℕ → List ℕ → ℕ → List ℕ → List ℕ → ℕ → Type 0
Leads x l used y l' k = (r : Option ℕ) (m : List ℕ) → Appended y l' k r m → Appended x l used r m

-- what the turn at place i leaves to be done for the text from there on
abbrev pub Turned : Bool → Source → List ℕ → ℕ → List ℕ → ℕ → Option (Option Turn) → List ℕ → Type 0
Turned spaceless s t i l used (Some (Some x)) l' = Leads (substituted spaceless s (drop i t)) l used (substituted spaceless s (drop x.next t)) l' x.used
Turned spaceless s t i l used (Some None) l' = Appended (substituted spaceless s (drop i t)) l used (Some used) l'
Turned spaceless s t i l used None l' = Appended (substituted spaceless s (drop i t)) l used None l'

-- ---- the whole

-- the text is the first k bytes of l'; what lies behind them is as it was in l
pub record Text (o : Checked Refusal (List ℕ)) (l : List ℕ) (k : ℕ) (l' : List ℕ) : Type 0 where
  pub is : o ≡ ok (take k l')
  pub room : k ≤ length l
  pub size : length l' ≡ length l
  pub behind : drop k l' ≡ drop k l

abbrev pub Filled : Checked Refusal (List ℕ) → List ℕ → Option ℕ → List ℕ → Type 0
Filled o l (Some k) l' = Text o l k l'
Filled o l None l' = o ≡ refused substitution_long
