-- Names have one order, so files of different names are put in order in one way.
-- Assumes nothing.
use Prim.Native.Nat.{ℕ, ◌<◌}
use mathlib.Core.Path.{◌≡◌, refl, sym, ap, ap₂, ◌∙◌}
use mathlib.Core.Logic.{◌⊎◌, inl, inr}
use mathlib.Core.Bool.{Bool, true, false, not, ◌&&◌, ◌||◌}
use mathlib.Core.List.{List, [], ◌∷◌}
use native.Mathlib.Omega.{arith}
use lib.Dec.{eqb, ltb}
use borrow.Author.Tests.{ltb-true, ltb-false, eqb-true, eqb-false, lt-ltb, le-ltb, eq-eqb, ne_eqb}
use Rattle.lists.specs.Lists.{pick, any, reject}
use Rattle.lists.specs.Bytes.{same_bytes}
use Rattle.lists.proofs.Tests.{neither}
use Rattle.lists.proofs.Bytes.{same-sym}
use Rattle.files.specs.Files.{File, same_name, before, insert, in_order}
use Rattle.files.specs.Promise.{Reordered, nothing, behind, swapped, then}

-- ---- one order

clash : {X : Type 0} {b : Bool} → b ≡ true → b ≡ false → X
clash p q = let z : ◌≡◌ {A = ℕ} 0 1 = cc in absurd (omega arith)

-- of two different names one comes first
pub before-one : (a b : List ℕ) → same_bytes a b ≡ false → before b a ≡ not (before a b)
unfolding before same_bytes
before-one [] [] h = clash refl h
before-one [] (y ∷ b) h = refl
before-one (x ∷ a) [] h = refl
before-one (x ∷ a) (y ∷ b) h = at (ltb x y) refl (eqb x y) refl (before-one a b)
  where
    at : (l : Bool) → ltb x y ≡ l → (e : Bool) → eqb x y ≡ e → (same_bytes a b ≡ false → before b a ≡ not (before a b))
        → (ltb y x || (eqb y x && before b a)) ≡ not (ltb x y || (eqb x y && before a b))
    at true p e q ih =
        let l = ltb-true x y p in
        rw (p, le-ltb y x (omega arith), ne_eqb y x (λ (w : y ≡ x). absurd (omega arith)))
    at false p true q ih =
        let w = eqb-true x y q in
        rw (p, q, le-ltb y x (omega arith), eq-eqb y x (sym w)) (ih (ap (λ (t : Bool). t && same_bytes a b) (sym q) ∙ h))
    at false p false q ih =
        let l = ltb-false x y p in
        let n = eqb-false x y q in
        rw (p, q, lt-ltb y x (omega arith))

-- what the first bytes say
abbrev Earlier : ℕ → ℕ → List ℕ → List ℕ → Type 0
Earlier x y a b = (x < y) ⊎ ((x ≡ y) × (before a b ≡ true))

earlier : (x y : ℕ) (a b : List ℕ) → before (x ∷ a) (y ∷ b) ≡ true → Earlier x y a b
unfolding before
earlier x y a b h = at (ltb x y) refl (eqb x y) refl h
  where
    at : (l : Bool) → ltb x y ≡ l → (e : Bool) → eqb x y ≡ e → (l || (e && before a b)) ≡ true → Earlier x y a b
    at true p e q h = inl (ltb-true x y p)
    at false p true q h = inr (eqb-true x y q, h)
    at false p false q h = clash h refl

from_earlier : (x y : ℕ) (a b : List ℕ) → Earlier x y a b → before (x ∷ a) (y ∷ b) ≡ true
unfolding before
from_earlier x y a b (inl l) = rw (lt-ltb x y l)
from_earlier x y a b (inr (e, h)) = rw (le-ltb x y (omega arith), eq-eqb x y e, h)

pub before_trans : (a b c : List ℕ) → before a b ≡ true → before b c ≡ true → before a c ≡ true
before_trans [] [] c h k = unfold before in clash h refl
before_trans [] (y ∷ b) [] h k = unfold before in clash k refl
before_trans [] (y ∷ b) (z ∷ c) h k = unfold before in refl
before_trans (x ∷ a) [] c h k = unfold before in clash h refl
before_trans (x ∷ a) (y ∷ b) [] h k = unfold before in clash k refl
before_trans (x ∷ a) (y ∷ b) (z ∷ c) h k = from_earlier x z a c (at (earlier x y a b h) (earlier y z b c k) (before_trans a b c))
  where
    at : Earlier x y a b → Earlier y z b c → (before a b ≡ true → before b c ≡ true → before a c ≡ true) → Earlier x z a c
    at (inl l) (inl m) ih = inl (omega arith)
    at (inl l) (inr (e, _)) ih = inl (omega arith)
    at (inr (e, _)) (inl m) ih = inl (omega arith)
    at (inr (e, p)) (inr (f, q)) ih = inr (e ∙ f, ih p q)

-- ---- one way to put files in order

never : (b : Bool) → (b ≡ true → ⊥) → b ≡ false
never true h = absurd (h refl)
never false h = refl

module _ (f g : File) (other : same_bytes f.name g.name ≡ false) where
  -- at the front
  insert-front : (hs : List File) → (t : Bool) → before f.name g.name ≡ t
      → pick t (f ∷ g ∷ hs) (g ∷ f ∷ hs) ≡ pick (before g.name f.name) (g ∷ f ∷ hs) (f ∷ g ∷ hs)
  insert-front hs true e = rw (before-one f.name g.name other, e)
  insert-front hs false e = rw (before-one f.name g.name other, e)

  pub insert_swap : (hs : List File) → insert f (insert g hs) ≡ insert g (insert f hs)
  insert_swap [] = insert-front [] (before f.name g.name) refl
  insert_swap (h ∷ hs) = at (before f.name h.name) refl (before g.name h.name) refl (insert_swap hs)
    where
      at : (s : Bool) → before f.name h.name ≡ s → (t : Bool) → before g.name h.name ≡ t → insert f (insert g hs) ≡ insert g (insert f hs)
          → insert f (pick (before g.name h.name) (g ∷ h ∷ hs) (h ∷ insert g hs)) ≡ insert g (pick (before f.name h.name) (f ∷ h ∷ hs) (h ∷ insert f hs))
      at true p true q ih = rw (p, q) (rw p (insert-front (h ∷ hs) (before f.name g.name) refl))
      at true p false q ih =
          let e : before g.name f.name ≡ false = never (before g.name f.name) (λ w. clash (before_trans g.name f.name h.name w p) q) in
          rw (p, q) (rw (p, e))
      at false p true q ih =
          let e : before f.name g.name ≡ false = never (before f.name g.name) (λ w. clash (before_trans f.name g.name h.name w q) p) in
          rw (p, q) (rw (p, e))
      at false p false q ih = rw (p, q) (rw p (ap (λ (l : List File). h ∷ l) ih))

-- ---- the same files in another order

-- names that differ, each two of them
abbrev pub Apart : List File → Type 0
Apart [] = Unit {0}
Apart (f ∷ fs) = (any (same_name f) fs ≡ false) × Apart fs

pub any_reordered : (p : File → Bool) {fs gs : List File} → Reordered fs gs → any p fs ≡ any p gs
any_reordered p nothing = refl
any_reordered p (behind f r) = ap (λ (t : Bool). p f || t) (any_reordered p r)
any_reordered p (swapped f g fs) = swap (p f) (p g) (any p fs)
  where
    swap : (a b c : Bool) → (a || (b || c)) ≡ (b || (a || c))
    swap true true c = refl
    swap true false c = refl
    swap false true c = refl
    swap false false c = refl
any_reordered p (then r s) = any_reordered p r ∙ any_reordered p s

same-name-sym : (f g : File) → same_name f g ≡ same_name g f
same-name-sym f g = same-sym f.name g.name

pub apart_reordered : {fs gs : List File} → Reordered fs gs → Apart fs → Apart gs
apart_reordered nothing h = tt
apart_reordered (behind f r) (h, hs) = (sym (any_reordered (same_name f) r) ∙ h, apart_reordered r hs)
apart_reordered (swapped f g fs) (h, (k, l)) =
    let (p, q) = neither (same_name f g) (any (same_name f) fs) h in
    (ap₂ ◌||◌ (same-name-sym g f ∙ p) k, (q, l))
apart_reordered (then r s) h = apart_reordered s (apart_reordered r h)

pub order_reordered : {fs gs : List File} → Reordered fs gs → Apart fs → in_order fs ≡ in_order gs
order_reordered nothing h = refl
order_reordered (behind f r) (h, hs) = ap (insert f) (order_reordered r hs)
order_reordered (swapped f g fs) (h, _) = insert_swap f g (neither (same_name f g) (any (same_name f) fs) h).0 (in_order fs)
order_reordered (then r s) h = order_reordered r h ∙ order_reordered s (apart_reordered r h)

-- those that pass a test
reject-front : (out : File → Bool) (f : File) (t : Bool) {fs gs : List File} → Reordered fs gs → Reordered (pick t fs (f ∷ fs)) (pick t gs (f ∷ gs))
reject-front out f true r = r
reject-front out f false r = behind f r

same_order : (fs : List File) → Reordered fs fs
same_order [] = nothing
same_order (f ∷ fs) = behind f (same_order fs)

pub reject_reordered : (out : File → Bool) {fs gs : List File} → Reordered fs gs → Reordered (reject out fs) (reject out gs)
reject_reordered out nothing = nothing
reject_reordered out (behind f r) = reject-front out f (out f) (reject_reordered out r)
reject_reordered out (swapped f g fs) = at (out f) (out g)
  where
    at : (a b : Bool) → Reordered (pick a (pick b (reject out fs) (g ∷ reject out fs)) (f ∷ pick b (reject out fs) (g ∷ reject out fs))) (pick b (pick a (reject out fs) (f ∷ reject out fs)) (g ∷ pick a (reject out fs) (f ∷ reject out fs)))
    at true true = same_order (reject out fs)
    at true false = same_order (g ∷ reject out fs)
    at false true = same_order (f ∷ reject out fs)
    at false false = swapped f g (reject out fs)
reject_reordered out (then r s) = then (reject_reordered out r) (reject_reordered out s)
