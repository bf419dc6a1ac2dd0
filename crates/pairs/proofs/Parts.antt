-- Laws of the bytes from a place to another.
-- Assumes nothing.
use Prim.Native.Nat.{ℕ, suc, ◌+◌, ◌-◌, ◌≤◌, ◌<◌}
use mathlib.Core.Path.{◌≡◌}
use mathlib.Core.List.{List, [], ◌∷◌, ◌++◌}
use native.Mathlib.Omega.{arith}
use lib.ListN.{length, get_or, drop, length-drop}
use lib.Seq.{length-take-le, take-suc, get_or-drop}
use Rattle.lists.proofs.Rest.{rest_at}
use Rattle.lists.specs.Bytes.{part}

module _ (s : List ℕ) (a : ℕ) where
  pub part_none : part s a a ≡ []
  part_none = let z : a - a ≡ 0 = omega arith in rw z

  pub part_length : (e : ℕ) → a ≤ e → e ≤ length s → length (part s a e) ≡ e - a
  part_length e h k = length-take-le (e - a) (drop a s) (omega (arith, length-drop a s))

  -- one byte more
  pub part-next : (i : ℕ) → a ≤ i → i < length s → part s a (i + 1) ≡ part s a i ++ (get_or s i 0 ∷ [])
  part-next i h k =
      let n : i + 1 - a ≡ suc (i - a) = omega arith in
      let p : a + (i - a) ≡ i = omega arith in
      let l : i - a < length (drop a s) = omega (arith, length-drop a s) in
      rw (n, take-suc (drop a s) (i - a) 0 l, get_or-drop a s (i - a) 0, p)

  -- its first byte, and the others
  pub part-cons : (e : ℕ) → a < e → e ≤ length s → part s a e ≡ get_or s a 0 ∷ part s (a + 1) e
  part-cons e h k =
      let n : e - a ≡ suc (e - (a + 1)) = omega arith in
      rw (n, rest_at s a (omega arith))

  pub part-empty : (e : ℕ) → e ≤ a → part s a e ≡ []
  part-empty e h = let z : e - a ≡ 0 = omega arith in rw z
