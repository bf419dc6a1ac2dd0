-- Laws of insertion: nothing, one text behind the other, whitespace made `_`.
-- Assumes nothing.
use Prim.Native.Nat.{ℕ, zero, suc, ◌+◌, ◌≤◌, ◌<◌}
use mathlib.Core.Path.{◌≡◌, refl, sym, ap, ◌∙◌}
use mathlib.Core.Bool.{Bool, true, false}
use mathlib.Core.List.{List, [], ◌∷◌, ◌++◌, map}
use native.Mathlib.Omega.{arith}
use lib.ListN.{length, get_or, take, drop, length-append, take-append-drop, length-map}
use Rattle.lists.proofs.Moves.{ap_at}
use Rattle.lists.specs.Bytes.{no_space}
use Rattle.splice.specs.Moves.{stored}
use Rattle.splice.proofs.Laws.{length-stored, stored-stored}
use Rattle.std.specs.Prelude.{Option, Some, None}
use Rattle.insertion.specs.Append.{asked, Placed, Appended}

-- ---- one text behind the other

pub appended_none : (l : List ℕ) (used : ℕ) → used ≤ length l → Appended [] l used (Some used) l
appended_none l used h =
    record {
      end = omega arith;
      room = h;
      bytes = sym (take-append-drop used l) ∙ ap_at (λ i. take used l ++ drop i l) used (used + 0) (omega arith);
    }

module _ (x y l : List ℕ) (used k : ℕ) (l₁ : List ℕ) where
  -- the first had room
  pub appended_both : Appended x l used (Some k) l₁ → (r : Option ℕ) (l₂ : List ℕ) → Appended y l₁ k r l₂ → Appended (x ++ y) l used r l₂
  appended_both p (Some n) l₂ q =
      let h : used + length x ≤ length l = omega (arith, p.end, p.room) in
      let s : length l₁ ≡ length l = ap length p.bytes ∙ length-stored l used x h in
      let m : used + length x + length y ≤ length l = omega (arith, p.end, q.end, q.room, s) in
      record {
        end = omega (arith, p.end, q.end, length-append x y);
        room = omega (arith, q.room, s);
        bytes =
            q.bytes
            ∙ ap (λ (t : List ℕ). stored t k y) p.bytes
            ∙ ap (λ (i : ℕ). stored (stored l used x) i y) p.end
            ∙ stored-stored l used x y m;
      }
  appended_both p None l₂ q =
      let h : used + length x ≤ length l = omega (arith, p.end, p.room) in
      let s : length l₁ ≡ length l = ap length p.bytes ∙ length-stored l used x h in
      omega (arith, p.end, s, length-append x y)

  -- the first had none
  pub appended_full : Appended x l used None l₁ → Appended (x ++ y) l used None l₁
  appended_full p = omega (arith, length-append x y)

-- ---- whitespace made `_`

pub length-asked : (spaceless : Bool) (x : List ℕ) → length (asked spaceless x) ≡ length x
length-asked true x = length-map x no_space
length-asked false x = refl
