-- Laws of the table: a row is found by its name alone, and stands at one place.
-- Assumes nothing.
use Prim.Native.Nat.{ℕ, ◌<◌}
use mathlib.Core.Path.{◌≡◌, refl, sym, subst, ◌∙◌}
use mathlib.Core.Bool.{Bool, true, false}
use mathlib.Core.List.{List, [], ◌∷◌}
use Rattle.std.specs.Prelude.{Option, None, Some}
use Rattle.std.proofs.lemmas.Option.{none-some, same_Some}
use native.Mathlib.Omega.{arith}
use borrow.Author.Tests.{ltb-true}
use lib.Dec.{ltb}
use lib.ListN.{get_or}
use Rattle.lists.specs.Lists.{pick, nth, All}
use Rattle.lists.specs.Bytes.{same_bytes}
use Rattle.lists.specs.Quoted.{bytes}
use Rattle.lists.proofs.Bytes.{same-eq}
use Rattle.lists.proofs.Places.{nth-all, get_or-all}
use Rattle.rules.specs.Key.{Row, rows, row_in, row_of}
use Rattle.keys.specs.Slots.{slot_of, IsPlace}

-- the row that is found has the name
found-named : (rs : List Row) (n : List ℕ) (r : Row) → row_in rs n ≡ Some r → same_bytes r.name n ≡ true
unfolding row_in
found-named [] n r e = absurd (none-some r e)
found-named (x ∷ rs) n r e = go (same_bytes x.name n) refl e (λ q. found-named rs n r q)
  where
    go : (t : Bool) → same_bytes x.name n ≡ t → pick t (Some x) (row_in rs n) ≡ Some r
        → (row_in rs n ≡ Some r → same_bytes r.name n ≡ true) → same_bytes r.name n ≡ true
    go true h q others = rw (← same_Some x r q) h
    go false h q others = others q

-- and is one of the table's
found_all : (P : Row → Type 0) (rs : List Row) (n : List ℕ) (r : Row) → row_in rs n ≡ Some r → All P rs → P r
unfolding row_in
found_all P [] n r e h = absurd (none-some r e)
found_all P (x ∷ rs) n r e (h, hs) = go (same_bytes x.name n) e (λ q. found_all P rs n r q hs)
  where
    go : (t : Bool) → pick t (Some x) (row_in rs n) ≡ Some r → (row_in rs n ≡ Some r → P r) → P r
    go true q others = rw (← same_Some x r q) h
    go false q others = others q

-- each row is found by its name
own_names : All (λ (r : Row). row_of r.name ≡ Some r) rows
unfolding bytes same_bytes rows row_in row_of
own_names = (refl, (refl, (refl, (refl, (refl, (refl, (refl, (refl, (refl, (refl, (refl, (refl, (refl, (refl, (refl, (refl, (refl, (refl, (refl, (refl, (refl, (refl, tt))))))))))))))))))))))

module _ (n : List ℕ) (k : ℕ) (r : Row) (e : nth k rows ≡ Some r) where
  -- a row with the name is the one that is found
  pub row_named : same_bytes r.name n ≡ true → row_of n ≡ Some r
  row_named h = rw (← same-eq r.name n h) (nth-all (λ (x : Row). row_of x.name ≡ Some x) rows k r e own_names)

  -- and if the row at the one place does not have it, none has
  pub row_unnamed : IsPlace n k → same_bytes r.name n ≡ false → row_of n ≡ None
  unfolding row_of
  row_unnamed p h = go (row_of n) refl
    where
      go : (o : Option Row) → row_of n ≡ o → o ≡ None
      go None q = refl
      go (Some x) q =
          let s : r ≡ x = same_Some r x (sym e ∙ p x q) in
          let t : same_bytes r.name n ≡ true = rw s (found-named rows n x q) in
          let z : ◌≡◌ {A = ℕ} 0 1 = cc in
          absurd (omega arith)

-- ---- places

unfoldable pub places : List ℕ
places = 0 ∷ 0 ∷ 20 ∷ 10 ∷ 4 ∷ 8 ∷ 0 ∷ 0 ∷ 11 ∷ 14 ∷ 13 ∷ 0 ∷ 5 ∷ 9 ∷ 6 ∷ 0 ∷ 0 ∷ 12 ∷ 18 ∷ 16 ∷ 2 ∷ 1 ∷ 7 ∷ 19 ∷ 15 ∷ 17 ∷ 0 ∷ 21 ∷ 3 ∷ 0 ∷ 0 ∷ 0 ∷ []

all_placed : All (λ (r : Row). nth (get_or places (slot_of r.name) 0) rows ≡ Some r) rows
unfolding bytes rows places slot_of
all_placed = (refl, (refl, (refl, (refl, (refl, (refl, (refl, (refl, (refl, (refl, (refl, (refl, (refl, (refl, (refl, (refl, (refl, (refl, (refl, (refl, (refl, (refl, tt))))))))))))))))))))))

pub place_is : (n : List ℕ) → IsPlace n (get_or places (slot_of n) 0)
unfolding row_of
place_is n r e =
    let q = same-eq r.name n (found-named rows n r e) in
    let h = found_all (λ (x : Row). nth (get_or places (slot_of x.name) 0) rows ≡ Some x) rows n r e all_placed in
    subst (λ (m : List ℕ). nth (get_or places (slot_of m) 0) rows ≡ Some r) q h

pub place_below : (k : ℕ) → k < 32 → get_or places k 0 < 22
unfolding places
place_below k h = ltb-true (get_or places k 0) 22 (get_or-all (λ (p : ℕ). ltb p 22) places k 0 refl h)

pub slot_below : (n : List ℕ) → slot_of n < 32
unfolding slot_of
slot_below n = omega arith
