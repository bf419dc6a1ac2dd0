-- Document 02, Item 9: the devices tried for a rule are at most the chain; the figure of a run is at most the visited count times the
-- chain's length; for a rule that matches it is the place of the matched device.
-- Assumes nothing.
use Prim.Native.Nat.{ℕ, suc, ◌+◌, ◌*◌, ◌≤◌, zero-le}
use mathlib.Core.Path.{◌≡◌, refl, sym, ap, ◌∙◌, subst}
use mathlib.Core.Bool.{Bool, true, false, ◌&&◌}
use mathlib.Core.List.{List, [], ◌∷◌}
use Rattle.std.specs.Prelude.{None, Some}
use native.Mathlib.Omega.{arith}
use lib.Dec.{leb}
use lib.ListN.{length}
use Rattle.lists.specs.Checked.{Checked, refused, ok, require, found, Holds, Placed, line}
use Rattle.lists.specs.Refusal.{Refusal, target_short, device_bad, outcome_bad, sheet_bad}
use Rattle.lists.specs.Sizes.{fullest_outcome}
use Rattle.lists.proofs.Checked.{holds-bind, holds-seq, holds-found}
use Rattle.rules.specs.Pair.{Rule}
use Rattle.rules.specs.Reading.{reader}
use Rattle.device.specs.Device as D
use Rattle.device.specs.Device.{Member, Device, chain}
use Rattle.outcome.specs.State.{State}
use Rattle.text.specs.Reading.{read_text}
use Rattle.text.specs.Running.{next, Halt, Ran, run_from}
use Rattle.sheet.specs.Sheet as Sheets
use Rattle.sheet.specs.Sheet.{Sheet}
use Rattle.text.proofs.Sanity.{tried-within}
use Rattle.engine.specs.Match.{all_hold, parents_hold, nearest, has_parents, place_of, matched, place_or, tried}
use Rattle.engine.specs.Operations.{decode_for, engine, run_checked, ran, run}

-- where a search that begins at place n ends, in a chain whose last place is `most`
or_near : (n : ℕ) (ms : List Member) (r : Rule) (most : ℕ) → n + length ms ≤ suc most → place_or most (nearest n ms r) ≤ most
unfolding nearest
or_near n [] r most h = omega arith
or_near n (m ∷ ms) r most h = at (parents_hold m r) refl (or_near (suc n) ms r most (omega arith))
  where
    at : (t : Bool) → parents_hold m r ≡ t → place_or most (nearest (suc n) ms r) ≤ most → place_or most (nearest n (m ∷ ms) r) ≤ most
    at true e i = rw (e, nearest) (omega arith)
    at false e i = rw (e, nearest) i

pub tried_small : (d : Device) (r : Rule) (s : State) → tried d r s ≤ length (chain d)
unfolding tried
tried_small d r s = at (all_hold d s r && has_parents r) refl
  where
    at : (t : Bool) → all_hold d s r && has_parents r ≡ t → tried d r s ≤ length (chain d)
    at true e = rw (e, tried) (or_near 1 (chain d) r (length (chain d)) (omega arith))
    at false e = rw (e, tried) zero-le

-- a rule that matches adds the place of its device, which is 0 where it has no parent keys
pub tried-matched : (d : Device) (r : Rule) (s : State) (place : ℕ) → matched d s r ≡ Some place → tried d r s ≡ place
unfolding tried matched place_of
tried-matched d r s place e = at (all_hold d s r) refl (has_parents r) refl
  where
    at : (t : Bool) → all_hold d s r ≡ t → (u : Bool) → has_parents r ≡ u → tried d r s ≡ place
    at true q true p =
        let f : nearest 1 (chain d) r ≡ Some place = rw (q, p, matched, place_of) at e in
        rw (q, p, tried) (ap (place_or (length (chain d))) f)
    at true q false p = let f : Some 0 ≡ Some place = rw (q, p, matched, place_of) at e in rw (q, p, tried) cc
    at false q u p = let f : None ≡ Some place = rw (q, matched) at e in let z : ◌≡◌ {A = ℕ} 0 1 = cc in absurd (omega arith)

-- ---- a run

trivial : {A : Type 0} (c : Checked (Placed Refusal) A) → Holds (λ (_ : A). Unit {0}) c
trivial (refused f) = tt
trivial (ok a) = tt

abbrev Bounded : Device → Halt State → Type 0
Bounded d h = h.tried ≤ h.visited * length (chain d)

ran_bounded : (n room : ℕ) (c : Ran State) → Holds (λ (h : Halt State). h.tried ≤ h.visited * n) c → (ran room c).tried ≤ (ran room c).visited * n
unfolding ran
ran_bounded n room (refused (line k f)) h = zero-le
ran_bounded n room (ok a) h = h

module _ (text dev out sheet : List ℕ) (room : ℕ) (d : Device) (is : D.decode dev ≡ Some d) where
  same : (e : Device) → D.decode dev ≡ Some e → d ≡ e
  same e at = let q : Some d ≡ Some e = sym is ∙ at in cc

  bounded : (a : Sheet) (e : Device) → d ≡ e → (s : State) (rs : List (Placed Rule)) → Holds (Bounded d) (run_from (engine a) e next s rs)
  bounded a e q s rs = subst (λ (x : Device). Holds (Bounded d) (run_from (engine a) x next s rs)) q (tried-within (engine a) d (length (chain d)) (tried_small d) rs next s)

  run_bounded : Holds (Bounded d) (run_checked text dev out sheet room)
  unfolding run_checked
  run_bounded =
      holds-seq (λ (_ : Unit {0}). Unit {0}) (Bounded d) (require (leb fullest_outcome room) (line 0 target_short)) _ (trivial (require (leb fullest_outcome room) (line 0 target_short)))
      (λ _ _. holds-bind (λ (_ : List (Placed Rule)). Unit {0}) (Bounded d) (read_text reader text) _ (trivial (read_text reader text))
      (λ rs _. holds-bind (λ (e : Device). D.decode dev ≡ Some e) (Bounded d) (found (D.decode dev) (line 0 device_bad)) _ (holds-found (D.decode dev) (line 0 device_bad))
      (λ e at. holds-bind (λ (_ : State). Unit {0}) (Bounded d) (found (decode_for e out) (line 0 outcome_bad)) _ (trivial (found (decode_for e out) (line 0 outcome_bad)))
      (λ s _. holds-bind (λ (_ : Sheet). Unit {0}) (Bounded d) (found (Sheets.decode sheet) (line 0 sheet_bad)) _ (trivial (found (Sheets.decode sheet) (line 0 sheet_bad)))
      (λ a _. bounded a e (same e at) s rs)))))

  -- of every run, refused or not
  pub run-tried : (run text dev out sheet room).tried ≤ (run text dev out sheet room).visited * length (chain d)
  unfolding run
  run-tried = ran_bounded (length (chain d)) room (run_checked text dev out sheet room) run_bounded
