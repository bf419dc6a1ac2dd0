-- The end of a line: what holds at each place, and one law for each way on.
-- Assumes nothing.
use Prim.Native.Nat.{ℕ, ◌+◌, ◌≤◌, ◌<◌}
use mathlib.Core.Path.{◌≡◌, refl, sym, ap, ◌∙◌}
use mathlib.Core.Bool.{false, ◌||◌}
use mathlib.Core.List.{List}
use native.Mathlib.Omega.{arith}
use borrow.Author.Tests.{ne_eqb}
use lib.Dec.{eqb}
use lib.ListN.{length, get_or}
use Rattle.lists.specs.Bytes.{holds, part}
use Rattle.lists.specs.Runs.{span_at}
use Rattle.lists.proofs.Runs.{place_in, place-stop, place_end, span_ge, span-le}
use Rattle.scan.specs.Ends.{is_not}
use Rattle.scan.specs.Groups.{AboveFrom}
use Rattle.scan.proofs.Groups.{above_climb}
use Rattle.pairs.proofs.Parts.{part-cons, part_none}
use Rattle.lines.specs.Ends.{CleanLine}

-- the end of the line that starts at a place
abbrev end_of : List ℕ → ℕ → ℕ
end_of t at = span_at (is_not 10) t at

-- no newline from the line's start up to a place, and NUL only behind it
pub record Scans (t : List ℕ) (at i : ℕ) : Type 0 where
  pub from : at ≤ i
  pub within : i ≤ length t
  pub place : end_of t i ≡ end_of t at
  pub nul : holds 0 (part t i (end_of t at)) ≡ holds 0 (part t at (end_of t at))

pub scan_begins : (t : List ℕ) (at : ℕ) → at ≤ length t → Scans t at at
scan_begins t at h = record { from = omega arith; within = h; place = refl; nul = refl }

module _ (t : List ℕ) (at i : ℕ) (s : Scans t at i) where
  -- the line ends here
  ends : end_of t i ≡ i → CleanLine t at i
  ends e =
      let p : i ≡ end_of t at = sym e ∙ s.place in
      let c : holds 0 (part t at (end_of t at)) ≡ false = sym s.nul ∙ rw (← p, part_none t i) in
      record {
        run = record { place = p; from = s.from; within = omega (arith, s.within) };
        clean = rw p c;
      }

  pub scan_out : length t ≤ i → CleanLine t at i
  scan_out h = ends (place_end (is_not 10) t i h)

  module _ (h : i < length t) where
    pub scan_newline : get_or t i 0 ≡ 10 → CleanLine t at i
    scan_newline e = ends (place-stop (is_not 10) t i h (rw e))

    module _ (n : get_or t i 0 ≡ 10 → ⊥) where
      onward : end_of t (i + 1) ≡ end_of t at
      onward = sym (place_in (is_not 10) t i h (rw (ne_eqb (get_or t i 0) 10 n))) ∙ s.place

      -- the byte at hand and those behind it
      byte-first : holds 0 (part t i (end_of t at)) ≡ (eqb (get_or t i 0) 0 || holds 0 (part t (i + 1) (end_of t at)))
      byte-first =
          let a = span_ge (is_not 10) t (i + 1) in
          let b = span-le (is_not 10) t (i + 1) (omega arith) in
          ap (holds 0) (part-cons t i (end_of t at) (omega (arith, onward)) (omega (arith, onward)))

      pub scan_other : (get_or t i 0 ≡ 0 → ⊥) → Scans t at (i + 1)
      scan_other z = record {
        from = omega (arith, s.from);
        within = omega arith;
        place = onward;
        nul = sym (byte-first ∙ rw (ne_eqb (get_or t i 0) 0 z)) ∙ s.nul;
      }

-- whole groups of bytes above newline
pub scan_groups : (t : List ℕ) (at i : ℕ) → at ≤ i → i ≤ length t → AboveFrom t at i → Scans t at i
scan_groups t at i h w f = above_climb (Scans t at) t at i f (λ k a l b s. scan_other t at k s (omega arith) (λ e. omega arith) (λ e. omega arith)) (scan_begins t at (omega arith)) h
