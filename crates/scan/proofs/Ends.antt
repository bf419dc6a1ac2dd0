-- A loop that follows a run: what holds at its head, and one law for each way on.
-- Assumes nothing.
use Prim.Native.Nat.{ℕ, ◌+◌, ◌-◌, ◌≤◌, ◌<◌}
use mathlib.Core.Path.{◌≡◌, refl, sym, ◌∙◌}
use mathlib.Core.Bool.{Bool, true, false}
use mathlib.Core.List.{List}
use native.Mathlib.Omega.{arith}
use lib.ListN.{length, get_or}
use Rattle.lists.specs.Runs.{span_at}
use Rattle.lists.proofs.Runs.{place_in, place-stop, place_end}
use Rattle.scan.specs.Ends.{RunEnd}

-- a run that starts at `at` goes on to i at least
pub record Follows (p : ℕ → Bool) (s : List ℕ) (at i : ℕ) : Type 0 where
  pub whole : span_at p s i ≡ span_at p s at
  pub from : at ≤ i
  pub within : i - at ≤ length s - at

module _ (p : ℕ → Bool) (s : List ℕ) (at : ℕ) where
  pub run-begins : Follows p s at at
  run-begins = record { whole = refl; from = omega arith; within = omega arith }

  module _ (i : ℕ) (f : Follows p s at i) where
    pub run-goes-on : i < length s → p (get_or s i 0) ≡ true → Follows p s at (i + 1)
    run-goes-on h t = record { whole = sym (place_in p s i h t) ∙ f.whole; from = omega arith; within = omega arith }

    pub run_stops : i < length s → p (get_or s i 0) ≡ false → RunEnd p s at i
    run_stops h t = record { place = sym (place-stop p s i h t) ∙ f.whole; from = f.from; within = f.within }

    pub run_out : length s ≤ i → RunEnd p s at i
    run_out h = record { place = sym (place_end p s i h) ∙ f.whole; from = f.from; within = f.within }
