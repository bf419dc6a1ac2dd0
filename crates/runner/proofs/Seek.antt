-- Seeking a label is running on from the rule that the GOTO goes to.
-- Assumes nothing.
use Prim.Native.Nat.{ℕ, zero, suc, ◌+◌, ◌-◌, ◌*◌, ◌≤◌, ◌<◌}
use mathlib.Core.Path.{◌≡◌, refl, sym, ap, ◌∙◌}
use mathlib.Core.Bool.{true, false}
use mathlib.Core.List.{List, ◌∷◌}
use native.Mathlib.Omega.{arith}
use lib.ListN.{get_or}
use Rattle.lists.specs.Checked.{Placed, line}
use Rattle.text.specs.Reading.{has_label}
use Rattle.text.specs.Running.{next, seek, run_from}
use Rattle.rules.specs.Pair.{Rule, label_of}
use Rattle.device.specs.Device.{Device}
use Rattle.outcome.specs.State.{State}
use Rattle.sheet.specs.Sheet.{Sheet}
use Rattle.engine.specs.Operations.{engine}
use Rattle.table.specs.Table.{rules_from}
use Rattle.table.specs.Rules.{pairs_of}
use Rattle.table.proofs.Rules.{rules-step}
use Rattle.jumps.specs.Jumps.{Goes}

-- ---- one rule

module _ (g : List ℕ) (n : ℕ) (p : Rule) (ps : List (Placed Rule)) (a : Sheet) (d : Device) (s : State) where
  seek-here : has_label g (label_of p) ≡ true → run_from (engine a) d (seek g) s (line n p ∷ ps) ≡ run_from (engine a) d next s (line n p ∷ ps)
  unfolding run_from
  seek-here h = rw h

  seek-on : has_label g (label_of p) ≡ false → run_from (engine a) d (seek g) s (line n p ∷ ps) ≡ run_from (engine a) d (seek g) s ps
  unfolding run_from
  seek-on h = rw h

-- ---- from a rule of the table on

module _ (v r t g : List ℕ) (n : ℕ) (a : Sheet) (d : Device) (s : State) where
  abbrev from : ℕ → List (Placed Rule)
  from i = rules_from v r t i (n - i)

  seek-by : (k i j : ℕ) → i + k ≡ j → Goes v r t g i n j → run_from (engine a) d (seek g) s (from i) ≡ run_from (engine a) d next s (from j)
  seek-by zero i j e w =
      let q : i ≡ j = omega arith in
      rw q
      (ap (run_from (engine a) d (seek g) s) (rules-step v r t j n w.within)
      ∙ seek-here g (get_or t (j * 4) 0) (pairs_of v r t j) (rules_from v r t (j + 1) (n - (j + 1))) a d s w.has
      ∙ ap (run_from (engine a) d next s) (sym (rules-step v r t j n w.within)))
  seek-by (suc k) i j e w =
      ap (run_from (engine a) d (seek g) s) (rules-step v r t i n (omega (arith, w.within)))
      ∙ seek-on g (get_or t (i * 4) 0) (pairs_of v r t i) (rules_from v r t (i + 1) (n - (i + 1))) a d s (w.others i (omega arith) (omega arith))
      ∙ seek-by k (i + 1) j (omega arith) (record { from = omega arith; within = w.within; has = w.has; others = λ m l h. w.others m (omega arith) h })

  -- a jump that is taken sets the number of the rule
  pub seek_jump : (i j : ℕ) → Goes v r t g i n j → run_from (engine a) d (seek g) s (from i) ≡ run_from (engine a) d next s (from j)
  seek_jump i j w = seek-by (j - i) i j (omega (arith, w.from)) w
