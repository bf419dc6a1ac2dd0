-- The records that the run list is made of, as code has them.
-- Assumes nothing.
use Rattle.std.specs.Prelude.{ℕ, ◌≤◌, ◌≡◌, List, length, drop}
use Rattle.std.specs.Prelude.{Some}
use Rattle.entries.specs.Parse.{got, many}
use Rattle.entries.specs.Entry.{Property, one_prop}
use Rattle.device.specs.Device.{Device, chain, decode}
use Rattle.device_lookup.specs.Lookup.{Chained}
use Rattle.device_lookup.specs.declared.Chain.{Chain}
use Rattle.outcome.specs.State.{State, Run, one_run}
use Rattle.outcome_target.specs.Layout.{layout_of}
use Rattle.outcome_target.specs.declared.Layout.{Layout}
use Rattle.outcome_readers.specs.Readers.{OutputIs}
use Rattle.engine.specs.Operations.{decode_for}

-- ---- a device record, and the properties and the output of an outcome record

pub record Beside (dev rec : List ℕ) (r : Chain) (at n : ℕ) (d : Device) (ps : List Property) (x : List ℕ) : Type 0 where
  pub device : decode dev ≡ Some d
  pub chained : Chained d r
  pub inside : at ≤ length rec
  pub rest : List ℕ
  pub properties : many one_prop n (drop at rec) ≡ got ps rest
  pub output : OutputIs rec x

-- runs that stand from p on, beside a device
pub record Runs (rec : List ℕ) (p left : ℕ) (d : Device) (rs : List Run) : Type 0 where
  pub inside : p ≤ length rec
  pub behind : List ℕ
  pub read : many (one_run (length (chain d))) left (drop p rec) ≡ got rs behind

abbrev pub RunsStand : List ℕ → List ℕ → Chain → ℕ → ℕ → ℕ → ℕ → Type 0
RunsStand dev rec r at n p left = (d : Device) × (ps : List Property) × (x : List ℕ) × (rs : List Run) × Beside dev rec r at n d ps x × Runs rec p left d rs

abbrev pub OfRuns : List ℕ → List ℕ → Chain → ℕ → ℕ → ℕ → ℕ → (Device → List Property → List ℕ → List Run → Type 0) → Type 0
OfRuns dev rec r at n p left P = (d : Device) (ps : List Property) (x : List ℕ) (rs : List Run) → Beside dev rec r at n d ps x → Runs rec p left d rs → P d ps x rs

-- ---- both records

pub record Both (dev rec : List ℕ) (r : Chain) (lay : Layout) (d : Device) (s : State) : Type 0 where
  pub device : decode dev ≡ Some d
  pub chained : Chained d r
  pub outcome : decode_for d rec ≡ Some s
  pub layout : lay ≡ layout_of s

abbrev pub RecordStands : List ℕ → List ℕ → Chain → Layout → Type 0
RecordStands dev rec r lay = (d : Device) × (s : State) × Both dev rec r lay d s

abbrev pub OfRecord : List ℕ → List ℕ → Chain → Layout → (Device → State → Type 0) → Type 0
OfRecord dev rec r lay P = (d : Device) (s : State) → Both dev rec r lay d s → P d s
