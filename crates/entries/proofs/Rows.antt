-- What holds of one entry holds of a row of them: what was written is read back, and what was read was so written.
-- Assumes nothing.
use Prim.Native.Nat.{ℕ, zero, suc, ◌+◌, ◌<◌}
use mathlib.Core.Path.{◌≡◌, refl, sym, ap, ◌∙◌, subst}
use native.Mathlib.Omega.{arith}
use mathlib.Core.Bool.{Bool, true, false, ◌&&◌}
use mathlib.Core.List.{List, [], ◌∷◌, ◌++◌, append_assoc}
use lib.ListN.{length}
use Rattle.lists.specs.Lists.{all, cat}
use Rattle.lists.specs.Bytes.{Bytes}
use Rattle.lists.proofs.Tests.{and_both, both_and}
use Rattle.lists.proofs.Bytes.{bytes_rest}
use Rattle.entries.specs.Parse.{Parse, got, bad, bind, keep, many}

-- the laws of one entry
pub record Laws (A : Type 0) (enc : A → List ℕ) (ok : A → Bool) (one : List ℕ → Parse A) : Type 0 where
  pub there : (a : A) (r : List ℕ) → ok a ≡ true → one (enc a ++ r) ≡ got a r
  pub back : (bs : List ℕ) (a : A) (r : List ℕ) → Bytes bs → one bs ≡ got a r → (bs ≡ enc a ++ r) × (ok a ≡ true)

-- a bind that gave something: both parts did
pub bound : {A B : Type 0} (p : Parse A) (f : A → List ℕ → Parse B) (b : B) (r : List ℕ) → bind p f ≡ got b r → (a : A) × (q : List ℕ) × (p ≡ got a q) × (f a q ≡ got b r)
bound (got a q) f b r e = (a, q, refl, e)
bound bad f b r e = let z : ◌≡◌ {A = ℕ} 0 1 = cc in absurd (omega arith)

-- the same, for a goal: what was read are variables there
pub through : {A B X : Type 0} (p : Parse A) (f : A → List ℕ → Parse B) (b : B) (r : List ℕ) → bind p f ≡ got b r → ((a : A) (q : List ℕ) → p ≡ got a q → f a q ≡ got b r → X) → X
through (got a q) f b r e k = k a q refl e
through bad f b r e k = let z : ◌≡◌ {A = ℕ} 0 1 = cc in absurd (omega arith)

module _ {A : Type 0} {enc : A → List ℕ} {ok : A → Bool} {one : List ℕ → Parse A} (L : Laws A enc ok one) where
  pub many_there : (xs : List A) (r : List ℕ) → all ok xs ≡ true → many one (length xs) (cat enc xs ++ r) ≡ got xs r
  many_there [] r h = refl
  many_there (a ∷ xs) r h =
      let b = and_both (ok a) (all ok xs) h in
      rw (append_assoc (enc a) (cat enc xs) r, L.there a (cat enc xs ++ r) b.0, many_there xs r b.1)

  -- one more entry in front of those that were read
  one_more : (n : ℕ) (bs : List ℕ) (xs : List A) (r : List ℕ) (a : A) (q : List ℕ) (ys : List A) (q' : List ℕ)
      → got (a ∷ ys) q' ≡ got xs r → bs ≡ enc a ++ q → ok a ≡ true → q ≡ cat enc ys ++ q' → all ok ys ≡ true → length ys ≡ n
      → (bs ≡ cat enc xs ++ r) × (all ok xs ≡ true) × (length xs ≡ suc n)
  one_more n bs xs r a q ys q' e w o w' o' l =
      let p : xs ≡ a ∷ ys = cc in
      let t : r ≡ q' = cc in
      rw (p, t) (w ∙ ap (λ (l : List ℕ). enc a ++ l) w' ∙ sym (append_assoc (enc a) (cat enc ys) q'), both_and (ok a) (all ok ys) o o', ap suc l)

  pub many-back : (n : ℕ) (bs : List ℕ) (xs : List A) (r : List ℕ) → Bytes bs → many one n bs ≡ got xs r → (bs ≡ cat enc xs ++ r) × (all ok xs ≡ true) × (length xs ≡ n)
  many-back zero bs xs r h e = let p : xs ≡ [] = cc in let q : r ≡ bs = cc in rw (p, q) (refl, refl, refl)
  many-back (suc n) bs xs r h e =
      let (a, q, p₁, e₁) = bound (one bs) (λ a r. bind (many one n r) (λ xs q. got (a ∷ xs) q)) xs r e in
      let (ys, q', p₂, e₂) = bound (many one n q) (λ xs q. got (a ∷ xs) q) xs r e₁ in
      let (w, o) = L.back bs a q h p₁ in
      let hq : Bytes q = bytes_rest (enc a) q (rw w at h) in
      let (w', o', l') = many-back n q ys q' hq p₂ in
      one_more n bs xs r a q ys q' e₂ w o w' o' l'

-- what holds of each entry that was read, where only that is wanted
pub many-kept : {A : Type 0} (ok : A → Bool) (one : List ℕ → Parse A) → ((bs : List ℕ) (a : A) (r : List ℕ) → one bs ≡ got a r → ok a ≡ true)
    → (n : ℕ) (bs : List ℕ) (xs : List A) (r : List ℕ) → many one n bs ≡ got xs r → (all ok xs ≡ true) × (length xs ≡ n)
many-kept ok one f zero bs xs r e = let p : xs ≡ [] = cc in rw p (refl, refl)
many-kept {A = A} ok one f (suc n) bs xs r e =
    through (one bs) _ xs r e λ a q p₁ e₁.
    through (many one n q) _ xs r e₁ λ ys q' p₂ e₂.
    let (k, l) = many-kept ok one f n q ys q' p₂ in
    more a ys q' e₂ (f bs a q p₁) k l
  where
    more : (a : A) (ys : List A) (q' : List ℕ) → got (a ∷ ys) q' ≡ got xs r → ok a ≡ true → all ok ys ≡ true → length ys ≡ n → (all ok xs ≡ true) × (length xs ≡ suc n)
    more a ys q' e h k l = let p : xs ≡ a ∷ ys = cc in rw p (both_and (ok a) (all ok ys) h k, ap suc l)
