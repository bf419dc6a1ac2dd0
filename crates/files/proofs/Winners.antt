-- Document 02, Item 11: another order of the files changes neither which of them count nor their order.
-- Assumes nothing.
use Prim.Native.Nat.{ℕ}
use mathlib.Core.Path.{◌≡◌, refl, sym, ap, ap₂, ◌∙◌}
use mathlib.Core.Bool.{Bool, true, false, not, ◌&&◌, ◌||◌}
use mathlib.Core.List.{List, [], ◌∷◌}
use native.Mathlib.Omega.{arith}
use lib.Dec.{eqb, ltb}
use borrow.Author.Tests.{ltb-false, eqb-false, lt-ltb}
use Rattle.lists.specs.Lists.{pick, any, reject, All}
use Rattle.lists.proofs.Tests.{both_and, neither, or-true, eqb-sym}
use Rattle.lists.proofs.Lists.{All-map}
use Rattle.lists.proofs.Bytes.{same-sym}
use Rattle.files.specs.Files.{File, same_name, same_file, doubled, is_rules, above, loses, in_order, winners}
use Rattle.files.specs.Promise.{Reordered, nothing, behind, swapped, then}
use Rattle.files.proofs.Order.{Apart, any_reordered, order_reordered, reject_reordered}

clash : {X : Type 0} {b : Bool} → b ≡ true → b ≡ false → X
clash p q = let z : ◌≡◌ {A = ℕ} 0 1 = cc in absurd (omega arith)

-- ---- files that count have different names

-- a file that stands in a list
abbrev Inside : List File → File → Type 0
Inside all f = (p : File → Bool) → p f ≡ true → any p all ≡ true

all-inside : (fs : List File) → All (Inside fs) fs
all-inside [] = tt
all-inside (f ∷ fs) = (
  λ p h. ap (λ (t : Bool). t || any p fs) h,
  All-map (Inside fs) (Inside (f ∷ fs)) (λ g i p h. ap (λ (t : Bool). p f || t) (i p h) ∙ or-true (p f)) fs (all-inside fs),
)

module _ (all : List File) where
  -- of two that count and are not one file, neither is above the other
  not-above : (f g : File) → Inside all g → loses all f ≡ false → same_name g f ≡ true → ltb g.rank f.rank ≡ true → ⊥
  not-above f g i l n r =
      clash (i (above f) (both_and (same_name g f) (ltb g.rank f.rank) n r)) (neither (not (is_rules f)) (any (above f) all) l).1

  other_name : (f g : File) → Inside all f → Inside all g → loses all f ≡ false → loses all g ≡ false → same_file f g ≡ false → same_name f g ≡ false
  other_name f g i j l m s = at (same_name f g) refl (ltb g.rank f.rank) refl
    where
      at : (t : Bool) → same_name f g ≡ t → (r : Bool) → ltb g.rank f.rank ≡ r → same_name f g ≡ false
      at false e r q = e
      at true e true q = absurd (not-above f g j l (same-sym g.name f.name ∙ e) q)
      at true e false q =
          let n : eqb f.rank g.rank ≡ false = ap (λ (t : Bool). t && eqb f.rank g.rank) (sym e) ∙ s in
          let o = eqb-false f.rank g.rank n in
          let b = ltb-false g.rank f.rank q in
          let u : ltb f.rank g.rank ≡ true = lt-ltb f.rank g.rank (omega arith) in
          absurd (not-above g f i m e u)

  none-same : (f : File) → Inside all f → loses all f ≡ false → (gs : List File) → All (Inside all) gs → any (same_file f) gs ≡ false
      → any (same_name f) (reject (loses all) gs) ≡ false
  none-same f i l [] h s = refl
  none-same f i l (g ∷ gs) (j, h) s =
      let (a, b) = neither (same_file f g) (any (same_file f) gs) s in
      at (loses all g) refl a (none-same f i l gs h b)
    where
      at : (t : Bool) → loses all g ≡ t → same_file f g ≡ false → any (same_name f) (reject (loses all) gs) ≡ false
          → any (same_name f) (pick t (reject (loses all) gs) (g ∷ reject (loses all) gs)) ≡ false
      at true e a ih = ih
      at false e a ih = ap₂ ◌||◌ (other_name f g i j l e a) ih

  pub winners-apart : (fs : List File) → All (Inside all) fs → doubled fs ≡ false → Apart (reject (loses all) fs)
  winners-apart [] h s = tt
  winners-apart (f ∷ fs) (i, h) s =
      let (a, b) = neither (any (same_file f) fs) (doubled fs) s in
      at (loses all f) refl a (winners-apart fs h b)
    where
      at : (t : Bool) → loses all f ≡ t → any (same_file f) fs ≡ false → Apart (reject (loses all) fs) → Apart (pick t (reject (loses all) fs) (f ∷ reject (loses all) fs))
      at true e a ih = ih
      at false e a ih = (none-same f i e fs h a, ih)

-- ---- in another order

reject-same : (p q : File → Bool) → ((f : File) → p f ≡ q f) → (fs : List File) → reject p fs ≡ reject q fs
reject-same p q h [] = refl
reject-same p q h (f ∷ fs) = ap₂ (λ (t : Bool) (l : List File). pick t l (f ∷ l)) (h f) (reject-same p q h fs)

pub winners_reordered : {fs gs : List File} → Reordered fs gs → doubled fs ≡ false → winners fs ≡ winners gs
unfolding winners
winners_reordered {fs} {gs} r s =
    order_reordered (reject_reordered (loses fs) r) (winners-apart fs fs (all-inside fs) s)
    ∙ ap in_order (reject-same (loses fs) (loses gs) (λ f. ap (λ (t : Bool). not (is_rules f) || t) (any_reordered (above f) r)) gs)

same-file-sym : (f g : File) → same_file f g ≡ same_file g f
same-file-sym f g = ap₂ ◌&&◌ (same-sym f.name g.name) (eqb-sym f.rank g.rank)

pub doubled_reordered : {fs gs : List File} → Reordered fs gs → doubled fs ≡ doubled gs
doubled_reordered nothing = refl
doubled_reordered (behind f r) = ap₂ ◌||◌ (any_reordered (same_file f) r) (doubled_reordered r)
doubled_reordered (swapped f g fs) =
    mix (same_file f g) (any (same_file f) fs) (any (same_file g) fs) (doubled fs)
    ∙ ap (λ (t : Bool). (t || any (same_file g) fs) || (any (same_file f) fs || doubled fs)) (same-file-sym f g)
  where
    mix : (s a b c : Bool) → ((s || a) || (b || c)) ≡ ((s || b) || (a || c))
    mix true a b c = refl
    mix false true true c = refl
    mix false true false c = refl
    mix false false true c = refl
    mix false false false c = refl
doubled_reordered (then r s) = doubled_reordered r ∙ doubled_reordered s
