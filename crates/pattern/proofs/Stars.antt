-- Why a matcher need remember only the last star, and when it may give up.
-- Assumes nothing.
use Prim.Native.Nat.{ℕ, ◌+◌, ◌≤◌}
use mathlib.Core.Path.{◌≡◌, refl, sym, ap, ◌∙◌}
use mathlib.Core.Bool.{Bool, true, false, ◌||◌}
use mathlib.Core.List.{List, [], ◌∷◌}
use native.Mathlib.Numerals.{add-one}
use native.Mathlib.Omega.{arith}
use lib.ListN.{length, drop}
use lib.Seq.{drop-drop}
use Rattle.lists.proofs.Tests.{and_both, or-true, or_absorb}
use Rattle.pattern.specs.Pattern.{eats, any_suffix}

any-drop : (g : List ℕ → Bool) (zs : List ℕ) → any_suffix g (drop 1 zs) ≡ true → any_suffix g zs ≡ true
unfolding any_suffix
any-drop g [] e = e
any-drop g (z ∷ zs) e = rw e (or-true (g (z ∷ zs)))

-- where every match of f goes on, k bytes later, with one of g somewhere, so does one of f somewhere
any-map : (f g : List ℕ → Bool) (k : ℕ) → ((ys : List ℕ) → f ys ≡ true → any_suffix g (drop k ys) ≡ true)
    → (ys : List ℕ) → any_suffix f ys ≡ true → any_suffix g (drop k ys) ≡ true
unfolding any_suffix
any-map f g k h [] e = h [] e
any-map f g k h (x ∷ xs) e = go (f (x ∷ xs)) refl e (any-map f g k h xs)
  where
    shift : drop 1 (drop k (x ∷ xs)) ≡ drop k xs
    shift = drop-drop 1 k (x ∷ xs) ∙ ap (λ (m : ℕ). drop m (x ∷ xs)) (add-one k)

    go : (b : Bool) → f (x ∷ xs) ≡ b → (b || any_suffix f xs) ≡ true → (any_suffix f xs ≡ true → any_suffix g (drop k xs) ≡ true) → any_suffix g (drop k (x ∷ xs)) ≡ true
    go true q r ih = h (x ∷ xs) q
    go false q r ih = any-drop g (drop k (x ∷ xs)) (rw shift (ih r))

-- at a second star the first may be forgotten: f is what follows the first star, g what follows the second, k the number of bytes between them;
-- a later try of f finds nothing that g does not find
pub last_star : (f g : List ℕ → Bool) (k : ℕ) → ((ys : List ℕ) → f ys ≡ true → any_suffix g (drop k ys) ≡ true)
    → (zs : List ℕ) → (any_suffix g (drop k zs) || any_suffix f (drop 1 zs)) ≡ any_suffix g (drop k zs)
last_star f g k h zs =
    let e : k + 1 ≡ 1 + k = omega arith in
    let d : drop 1 (drop k zs) ≡ drop k (drop 1 zs) = drop-drop 1 k zs ∙ ap (λ (m : ℕ). drop m zs) e ∙ sym (drop-drop k 1 zs) in
    or_absorb _ _ (λ u. any-drop g (drop k zs) (rw d (any-map f g k h (drop 1 zs) u)))

-- a match that is known to need more bytes than are left is found nowhere
pub none-later : (f : List ℕ → Bool) (n : ℕ) → ((ys : List ℕ) → length ys ≤ n → f ys ≡ false) → (zs : List ℕ) → length zs ≤ n → any_suffix f zs ≡ false
unfolding any_suffix
none-later f n h [] l = h [] l
none-later f n h (z ∷ zs) l = rw (h (z ∷ zs) l) (none-later f n h zs (omega arith))

-- what follows a byte that is eaten
pub eaten : (g : ℕ → Bool) (f : List ℕ → Bool) (ys : List ℕ) → eats g f ys ≡ true → f (drop 1 ys) ≡ true
unfolding eats
eaten g f [] e = let z : ◌≡◌ {A = ℕ} 0 1 = cc in absurd (omega arith)
eaten g f (y ∷ ys) e = (and_both (g y) (f ys) e).1

-- a star at the end matches the rest
pub star-ends : (f : List ℕ → Bool) → f [] ≡ true → (zs : List ℕ) → any_suffix f zs ≡ true
unfolding any_suffix
star-ends f h [] = h
star-ends f h (z ∷ zs) = rw (star-ends f h zs) (or-true (f (z ∷ zs)))
