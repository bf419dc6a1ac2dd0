-- Files by their numbers: one after the other.
-- Assumes nothing.
use Prim.Native.Nat.{ℕ, zero, suc, ◌+◌, ◌≤◌, ◌<◌}
use mathlib.Core.Path.{◌≡◌, sym, ap, ap₂, ◌∙◌}
use mathlib.Core.Bool.{Bool, false, ◌||◌}
use mathlib.Core.List.{List, [], ◌∷◌, map}
use native.Mathlib.Omega.{arith}
use native.Mathlib.Numerals.{add-one}
use lib.ListN.{length, take, drop, get_or, length-map, drop_of_length-le, get_or-map}
use lib.Seq.{drop-cons, get_or-take, length-take-le}
use Rattle.lists.specs.Lists.{any, All}
use Rattle.files.specs.Files.{File, same_file, doubled}
use Rattle.file_rows.specs.Places.{file_at, files_at}
use Rattle.file_order.specs.Order.{Kept}

module _ {A : Type 0} (f : ℕ → A) (xs : List ℕ) (n : ℕ) (room : n ≤ length xs) where
  abbrev pub mapped : List A
  mapped = map f (take n xs)

  pub mapped-length : length mapped ≡ n
  mapped-length = length-map (take n xs) f ∙ length-take-le n xs room

  -- the next, and none behind the last
  pub mapped_next : (i : ℕ) → i < n → drop i mapped ≡ f (get_or xs i 0) ∷ drop (i + 1) mapped
  mapped_next i h =
      drop-cons mapped i (f 0) (omega (arith, mapped-length))
      ∙ ap₂ (λ (x : A) (l : List A). x ∷ l) (get_or-map f (take n xs) i 0 ∙ ap f (get_or-take n xs i 0 h)) (ap (λ (k : ℕ). drop k mapped) (sym (add-one i)))

  pub mapped_end : (i : ℕ) → n ≤ i → drop i mapped ≡ []
  mapped_end i h = drop_of_length-le mapped {i = i} (omega (arith, mapped-length))

module _ (set starts : List ℕ) (n : ℕ) (room : n ≤ length starts) where
  abbrev files : List File
  files = files_at set starts n

  module _ (p : File → Bool) (i : ℕ) where
    pub any_next : i < n → any p (drop i files) ≡ (p (file_at set (get_or starts i 0)) || any p (drop (i + 1) files))
    any_next h = ap (any p) (mapped_next (file_at set) starts n room i h)

    pub any_none : n ≤ i → any p (drop i files) ≡ false
    any_none h = ap (any p) (mapped_end (file_at set) starts n room i h)

  module _ (i : ℕ) where
    pub doubled-next : i < n → doubled (drop i files) ≡ (any (same_file (file_at set (get_or starts i 0))) (drop (i + 1) files) || doubled (drop (i + 1) files))
    doubled-next h = ap doubled (mapped_next (file_at set) starts n room i h)

    pub doubled-none : n ≤ i → doubled (drop i files) ≡ false
    doubled-none h = ap doubled (mapped_end (file_at set) starts n room i h)

All_at : (P : ℕ → Type 0) (xs : List ℕ) (j : ℕ) → All P xs → j < length xs → P (get_or xs j 0)
All_at P [] j h l = absurd (omega arith)
All_at P (x ∷ xs) zero (h, hs) l = h
All_at P (x ∷ xs) (suc j) (h, hs) l = All_at P xs j hs (omega arith)

-- a number that was kept
pub kept_at : (n : ℕ) (order : List ℕ) (k j : ℕ) → Kept n order k → j < k → get_or order j 0 < n
kept_at n order k j w h =
    let a = All_at (λ (i : ℕ). i < n) (take k order) j w.numbers (omega (arith, length-take-le k order w.room)) in
    omega (arith, a, get_or-take k order j 0 h)
