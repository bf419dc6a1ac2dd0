-- Choices and tests over lists of any type.
-- Assumes nothing.
use Rattle.std.specs.Prelude.{ℕ, zero, suc, Bool, true, false, not, ◌&&◌, ◌||◌, List, [], ◌∷◌, ◌++◌}
use Rattle.std.specs.Prelude.{Option, None, Some}

-- the first if the test holds, else the second
abbrev pub pick : {A : Type 0} → Bool → A → A → A
pick true a b = a
pick false a b = b

abbrev pub is_some : {A : Type 0} → Option A → Bool
is_some None = false
is_some (Some a) = true

module _ {A : Type 0} where
  abbrev pub is_empty : List A → Bool
  is_empty [] = true
  is_empty (x ∷ xs) = false

  -- every element passes a test
  abbrev pub all : (A → Bool) → List A → Bool
  all ok [] = true
  all ok (x ∷ xs) = ok x && all ok xs

  -- some element passes a test
  abbrev pub any : (A → Bool) → List A → Bool
  any ok [] = false
  any ok (x ∷ xs) = ok x || any ok xs

  -- without the elements that pass a test
  abbrev pub reject : (A → Bool) → List A → List A
  reject out [] = []
  reject out (x ∷ xs) = pick (out x) (reject out xs) (x ∷ reject out xs)

  -- the element at a place from 0 on
  abbrev pub nth : ℕ → List A → Option A
  nth n [] = None
  nth zero (x ∷ xs) = Some x
  nth (suc n) (x ∷ xs) = nth n xs

  -- what a function gives of each element, one behind the other
  abbrev pub cat : {B : Type 0} → (A → List B) → List A → List B
  cat f [] = []
  cat f (x ∷ xs) = f x ++ cat f xs

  -- a fact of each element
  abbrev pub All : (A → Type 0) → List A → Type 0
  All P [] = Unit {0}
  All P (x ∷ xs) = P x × All P xs
