-- The rest of a list at a position.
-- Assumes nothing.
use Prim.Native.Nat.{ℕ, zero, suc, ◌+◌, ◌≤◌, ◌<◌}
use mathlib.Core.Path.{◌≡◌, refl, sym, ap, ◌∙◌}
use mathlib.Core.List.{List, [], ◌∷◌, ◌++◌}
use native.Mathlib.Numerals.{add-one}
use native.Mathlib.Nat.{le_of_suc-le-suc, not-suc-le-zero}
use native.Mathlib.Omega.{arith}
use lib.ListN.{length, get_or, take, drop, drop_of_length-le, get_or-eq_default}
use lib.Seq.{drop-cons}

-- one step: an element of the list, and the rest behind it
pub rest_at : (s : List ℕ) (i : ℕ) → i < length s → drop i s ≡ get_or s i 0 ∷ drop (i + 1) s
rest_at s i h = rw (add-one, drop-cons s i 0)

-- a byte that is not 0 stands inside
pub byte_in : (s : List ℕ) (i b : ℕ) → get_or s i 0 ≡ b → 0 < b → i < length s
byte_in [] i b e h = absurd (omega arith)
byte_in (x ∷ s) zero b e h = omega arith
byte_in (x ∷ s) (suc i) b e h = let k = byte_in s i b e h in omega arith

module _ {A : Type 0} where
  -- what is given past the end does not matter inside
  pub get_d_any : (l : List A) (k : ℕ) (d e : A) → k < length l → get_or l k d ≡ get_or l k e
  get_d_any [] k d e h = absurd (not-suc-le-zero h)
  get_d_any (x ∷ l) zero d e h = refl
  get_d_any (x ∷ l) (suc k) d e h = get_d_any l k d e (le_of_suc-le-suc h)

-- n elements from index k on: at numerals it computes to a list that is written out
abbrev pub elems : List ℕ → ℕ → ℕ → List ℕ
elems bs k zero = []
elems bs k (suc n) = get_or bs k 0 ∷ elems bs (suc k) n

pub elems-take : (bs : List ℕ) (k n : ℕ) → k + n ≤ length bs → elems bs k n ≡ take n (drop k bs)
elems-take bs k zero h = refl
elems-take bs k (suc n) h =
    ap (λ (l : List ℕ). get_or bs k 0 ∷ l) (elems-take bs (suc k) n (omega arith))
    ∙ sym (ap (λ (l : List ℕ). take (suc n) l) (drop-cons bs k 0 (omega arith)))
