-- A turn of the reading of a mode.
-- Assumes nothing.
use Prim.Native.Nat.{ℕ, suc, ◌+◌, ◌-◌, ◌*◌, ◌^◌, ◌≤◌, ◌<◌}
use mathlib.Core.Path.{◌≡◌, refl, sym, ap, ◌∙◌}
use mathlib.Core.Bool.{Bool, true, false, ◌&&◌}
use mathlib.Core.List.{List, [], ◌∷◌}
use native.Mathlib.Omega.{arith}
use native.Mathlib.Numerals.{add-one}
use borrow.Author.Tests.{le-leb, lt-leb}
use lib.Dec.{leb}
use native.Mathlib.Nat.{pow-le-pow_right}
use lib.ListN.{length, get_or, drop, drop_of_length-le}
use Rattle.lists.specs.Lists.{pick}
use Rattle.lists.specs.Bytes.{between}
use Rattle.lists.proofs.Rest.{rest_at}
use Rattle.lists.proofs.Tests.{and-false}
use Rattle.outcome.specs.Content.{octal, octal_from, ok_mode}
use Rattle.content.specs.Mode.{mode_of}
use Rattle.std.specs.Prelude.{Option, Some, None}

-- what the digits of a list give, where n is the number of those before them
abbrev pub mode_from : ℕ → List ℕ → Option ℕ
mode_from n x = pick (octal x) (Some (octal_from n x)) None

pub mode-empty : (x : List ℕ) → length x < 1 → mode_of x ≡ None
unfolding mode_of
mode-empty x h = rw (lt-leb 1 (length x) h)

pub mode-long : (x : List ℕ) → 4 < length x → mode_of x ≡ None
unfolding mode_of
mode-long x h = rw (lt-leb (length x) 4 h, and-false (leb 1 (length x)))

pub mode-start : (x : List ℕ) → 1 ≤ length x → length x ≤ 4 → mode_of x ≡ mode_from 0 x
unfolding mode_of
mode-start x h k = rw (le-leb 1 (length x) h, le-leb (length x) 4 k)

module _ (x : List ℕ) (n i : ℕ) where
  pub mode-low : i < length x → get_or x i 0 < 48 → mode_from n (drop i x) ≡ None
  mode-low h k = rw (rest_at x i h, lt-leb 48 (get_or x i 0) k)

  pub mode-high : i < length x → 55 < get_or x i 0 → mode_from n (drop i x) ≡ None
  mode-high h k = rw (rest_at x i h, lt-leb (get_or x i 0) 55 k, and-false (leb 48 (get_or x i 0)))

  pub mode-next : i < length x → 48 ≤ get_or x i 0 → get_or x i 0 ≤ 55 → mode_from n (drop i x) ≡ mode_from (n * 8 + (get_or x i 0 - 48)) (drop (i + 1) x)
  mode-next h k j = rw (rest_at x i h, le-leb 48 (get_or x i 0) k, le-leb (get_or x i 0) 55 j)

  pub mode-end : length x ≤ i → mode_from n (drop i x) ≡ Some n
  mode-end h = rw (drop_of_length-le x h)

-- a number of i octal digits
pub mode_room : (n d i : ℕ) → n < 8 ^ i → d < 8 → n * 8 + d < 8 ^ (i + 1)
mode_room n d i h k = rw (add-one i) (omega arith)

pub mode-fits : (n i : ℕ) → n < 8 ^ i → i ≤ 4 → n < 4096
mode-fits n i h k = let p : 8 ^ i ≤ 8 ^ 4 = pow-le-pow_right {n = 8} (omega arith) {i = i} {j = 4} k in omega arith
