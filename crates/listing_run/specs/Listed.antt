-- What a run leaves for its listing, and what is written of it.
-- Assumes nothing.
use Rattle.std.specs.Prelude.{ℕ, ◌<◌, ◌≡◌, List, ◌++◌, length}
use Rattle.std.specs.Prelude.{Option, Some}
use Rattle.lists.specs.Lists.{All}
use Rattle.lists.specs.Checked.{Checked, ok, ◌>>=◌, Placed, on_line}
use Rattle.lists.specs.Refusal.{Refusal}
use Rattle.device.specs.Device.{Device, chain, decode}
use Rattle.outcome.specs.State.{State, encode}
use Rattle.outcome_target.specs.Held.{Held}
use Rattle.outcome_target.specs.Layout.{layout_of}
use Rattle.outcome_target.specs.declared.Layout.{Layout}
use Rattle.engine.specs.Operations.{Command, commands, run_list}
use Rattle.engine.specs.Listing.{listing_of, printed}
use Rattle.insertion.specs.Append.{Appended}

-- the run list of commands, whose heads can tell their lengths
pub record Made (list : List ℕ) (cs : List Command) : Type 0 where
  pub rest : List ℕ
  pub bytes : list ≡ run_list cs ++ rest
  pub few : length cs < 32
  pub short : All (λ (c : Command). length c.text < 1024) cs

-- the record of a state in the target, and its run list
abbrev pub OfBoth : ℕ → ℕ → List ℕ → Layout → List ℕ → List ℕ → Option ℕ → List ℕ → Type 0
OfBoth visited tried t lay list o r o₁ =
    (n : ℕ) (s : State) → Held n t lay s → (cs : List Command) → Made list cs → Appended (listing_of visited tried s cs) o 0 r o₁

-- what a run left in the target beside a device record
pub record LeftBy (dev t : List ℕ) (used : ℕ) (d : Device) (s : State) : Type 0 where
  pub device : decode dev ≡ Some d
  pub held : Held (length (chain d)) t (layout_of s) s
  pub end : used ≡ length (encode s)

abbrev pub Left : List ℕ → List ℕ → ℕ → Type 0
Left dev t used = (d : Device) × (s : State) × LeftBy dev t used d s

-- the listing of a state beside its commands, if they can be made
abbrev pub closed_listing : ℕ → ℕ → Device → State → Checked (Placed Refusal) (List ℕ)
closed_listing visited tried d s = on_line 0 (commands d s.properties s.output s.runs) >>= λ cs. ok (listing_of visited tried s cs)

abbrev pub OfLeft : ℕ → ℕ → List ℕ → List ℕ → ℕ → List ℕ → Option ℕ → List ℕ → Type 0
OfLeft visited tried dev t used o r o₁ = (d : Device) (s : State) → LeftBy dev t used d s → Appended (printed (closed_listing visited tried d s)) o 0 r o₁
