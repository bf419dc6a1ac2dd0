-- What a line reads to, what a rule does to the state, and the packed records: parameters of the text level.
-- Assumes nothing.
use Rattle.std.specs.Prelude.{ℕ, Bool, List}
use Rattle.std.specs.Prelude.{Option}
use Rattle.lists.specs.Checked.{Checked}
use Rattle.lists.specs.Refusal.{Refusal}

-- a line is skipped, has a fault, or is a rule
pub data LineRead (Rule : Type 0) : Type 0 where
  skip : LineRead Rule
  fault : Refusal → LineRead Rule
  rule : Rule → LineRead Rule

-- how a rules text is read
pub record Reader : Type 1 where
  pub Rule : Type 0
  -- a line of the text
  pub read_line : List ℕ → LineRead Rule
  -- the LABEL and the GOTO of a rule
  pub label : Rule → Option (List ℕ)
  pub goto : Rule → Option (List ℕ)

-- the state that a rule leaves, and whether all its match keys held
pub data Stepped (State : Type 0) : Type 0 where
  went : State → Bool → Stepped State

pub record Engine : Type 1 where
  pub reader : Reader
  pub Device : Type 0
  pub State : Type 0
  -- the device of a device record (none: refusal 3)
  pub device : List ℕ → Option Device
  -- the state of an outcome record beside a device (none: refusal 4), and its record
  pub decode : Device → List ℕ → Option State
  pub encode : State → List ℕ
  -- one rule
  pub step : Device → reader.Rule → State → Checked Refusal (Stepped State)
  -- document 02, Item 9: the devices tried for one rule, from the state at its start
  pub tried : Device → reader.Rule → State → ℕ
