-- A line where it lies or in a copy: its place, and its bytes without its joins.
-- Assumes nothing.
use Prim.Native.Nat.{ℕ, suc, ◌-◌, ◌≤◌}
use mathlib.Core.Path.{◌≡◌, refl, sym, ap, ◌∙◌}
use mathlib.Core.Bool.{Bool, true, false}
use mathlib.Core.List.{List, [], ◌∷◌}
use native.Mathlib.Omega.{arith}
use lib.Dec.{eqb}
use lib.ListN.{length, take, drop, length-drop}
use Rattle.lists.specs.Bytes.{holds, part}
use Rattle.text.specs.Lines.{blank, newlines, one_more}
use Rattle.text.proofs.Places.{size-le}
use Rattle.text.proofs.Unjoined.{unjoined-same}
use Rattle.std.specs.Prelude.{None, Some}
use Rattle.lines.specs.declared.Extent.{Extent}
use Rattle.lines.specs.Ends.{end_from, EndsAt, Reaches, UnjoinedIs, Found}

-- ---- places

pub end-within : (t : List ℕ) (at e : ℕ) → at ≤ length t → e ≡ end_from t at → (at ≤ e) × (e ≤ length t)
end-within t at e h q = (omega arith, omega (arith, size-le blank (drop at t), length-drop at t))

part-start : (s : List ℕ) (n : ℕ) → part s 0 n ≡ take n s
part-start s n = let z : n - 0 ≡ n = omega arith in rw z

-- ---- newlines

pub newlines-size : (w : List ℕ) → newlines w ≤ length w
unfolding newlines
newlines-size [] = omega arith
newlines-size (b ∷ w) = at (eqb b 10) (newlines-size w)
  where
    at : (t : Bool) → newlines w ≤ length w → one_more t (newlines w) ≤ suc (length w)
    at true h = omega arith
    at false h = omega arith

no_newline : (w : List ℕ) → newlines w ≡ 0 → holds 10 w ≡ false
unfolding newlines
no_newline [] h = refl
no_newline (b ∷ w) h = at (eqb b 10) refl h (λ k. no_newline w k)
  where
    at : (t : Bool) → eqb b 10 ≡ t → one_more t (newlines w) ≡ 0 → (newlines w ≡ 0 → holds 10 w ≡ false) → holds 10 (b ∷ w) ≡ false
    at true e k f = absurd (omega arith)
    at false e k f = rw e (f k)

-- ---- a line that is found

module _ (t copy : List ℕ) (at : ℕ) where
  pub found-alone : (e : ℕ) → EndsAt t at (Some e) → Found t copy at (record { extent = record { end = e; newlines = 0 }; copied = None })
  found-alone e (clean, j) = record {
    joined_at = j;
    room = tt;
    held = sym (unjoined-same (part t at e) (no_newline (part t at e) j.1));
    clean = clean.clean;
  }

  pub found_copied : (x : Extent) → Reaches t at x false → (m : ℕ) → length copy ≡ 1024 → UnjoinedIs (part t at x.end) copy (Some m) → Found t copy at (record { extent = x; copied = Some m })
  found_copied x j m s u =
      let same = part-start copy m ∙ u.1 in
      record {
        joined_at = j;
        room = omega (arith, u.0);
        held = same;
        clean = ap (holds 0) same ∙ u.2;
      }
