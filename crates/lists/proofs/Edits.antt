-- Laws of lists whose elements have names: one of them found, taken out, or not there.
-- Assumes nothing.
use Prim.Native.Nat.{ℕ}
use mathlib.Core.Path.{◌≡◌, refl, sym, ap, ap₂, ◌∙◌, subst}
use mathlib.Core.Bool.{Bool, true, false, not, ◌&&◌, ◌||◌}
use mathlib.Core.List.{List, [], ◌∷◌, ◌++◌, map}
use borrow.Author.Tests.{not-true}
use Rattle.lists.specs.Lists.{pick, reject}
use Rattle.lists.specs.Bytes.{same_bytes, among, distinct}
use Rattle.lists.proofs.Tests.{and_both, neither, or-true}
use Rattle.lists.proofs.Bytes.{same-eq}

module _ {A : Type 0} (nm : A → List ℕ) (x : List ℕ) where
  -- none has the name
  pub reject-none : (xs : List A) → among x (map nm xs) ≡ false → reject (λ y. same_bytes (nm y) x) xs ≡ xs
  reject-none [] h = refl
  reject-none (y ∷ xs) h =
      let (p, q) = neither (same_bytes (nm y) x) (among x (map nm xs)) h in
      rw p (ap (λ (l : List A). y ∷ l) (reject-none xs q))

  -- one has it
  pub among_one : (a : List A) (e : A) (b : List A) → same_bytes (nm e) x ≡ true → among x (map nm (a ++ (e ∷ b))) ≡ true
  among_one [] e b h = rw h
  among_one (y ∷ a) e b h = rw (among_one a e b h) (or-true (same_bytes (nm y) x))

  -- it is the only one where all are distinct
  pub reject-one : (a : List A) (e : A) (b : List A) → among x (map nm a) ≡ false → same_bytes (nm e) x ≡ true → distinct (map nm (a ++ (e ∷ b))) ≡ true
      → reject (λ y. same_bytes (nm y) x) (a ++ (e ∷ b)) ≡ a ++ b
  reject-one [] e b h k d =
      let (p, q) = and_both (not (among (nm e) (map nm b))) (distinct (map nm b)) d in
      let n : among x (map nm b) ≡ false = ap (λ (z : List ℕ). among z (map nm b)) (sym (same-eq (nm e) x k)) ∙ not-true (among (nm e) (map nm b)) p in
      rw k (reject-none b n)
  reject-one (y ∷ a) e b h k d =
      let (p, q) = neither (same_bytes (nm y) x) (among x (map nm a)) h in
      let (u, v) = and_both (not (among (nm y) (map nm (a ++ (e ∷ b))))) (distinct (map nm (a ++ (e ∷ b)))) d in
      rw p (ap (λ (l : List A). y ∷ l) (reject-one a e b q k v))
