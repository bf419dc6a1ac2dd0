-- A text cleaned byte by byte where it lies, and the names in it.
-- Assumes nothing.
use Prim.Native.Nat.{ℕ, zero, suc, ◌+◌, ◌≤◌, ◌<◌}
use mathlib.Core.Path.{◌≡◌, refl, sym, ◌∙◌, ap}
use mathlib.Core.Bool.{Bool, true, false}
use mathlib.Core.List.{List, [], ◌∷◌, map}
use native.Mathlib.Omega.{arith}
use native.Mathlib.Numerals.{add-one}
use lib.Dec.{eqb}
use lib.ListN.{length, set, get_or}
use Rattle.lists.specs.Lists.{pick, is_empty, reject}
use Rattle.lists.specs.Runs.{split_at, split_step}
use Rattle.engine.specs.Assign.{clean_byte, cleaned, link_byte}
use Rattle.link_names.specs.Names.{byte_but, names}

-- ---- in place

-- the first i bytes cleaned, the others as they were
abbrev pub cleaned_to : (ℕ → ℕ) → List ℕ → ℕ → List ℕ
cleaned_to f x zero = x
cleaned_to f [] (suc i) = []
cleaned_to f (b ∷ bs) (suc i) = f b ∷ cleaned_to f bs i

module _ (f : ℕ → ℕ) where
  cleaned-size : (x : List ℕ) (i : ℕ) → length (cleaned_to f x i) ≡ length x
  cleaned-size x zero = refl
  cleaned-size [] (suc i) = refl
  cleaned-size (b ∷ bs) (suc i) = ap suc (cleaned-size bs i)

  -- the byte at i is still as it was
  cleaned_at : (x : List ℕ) (i : ℕ) → get_or (cleaned_to f x i) i 0 ≡ get_or x i 0
  cleaned_at x zero = refl
  cleaned_at [] (suc i) = refl
  cleaned_at (b ∷ bs) (suc i) = cleaned_at bs i

  cleaned-next : (x : List ℕ) (i : ℕ) (v : ℕ) → i < length x → v ≡ f (get_or x i 0) → set (cleaned_to f x i) i v ≡ cleaned_to f x (suc i)
  cleaned-next [] i v h e = absurd (omega arith)
  cleaned-next (b ∷ bs) zero v h e = rw e
  cleaned-next (b ∷ bs) (suc i) v h e = ap (λ (l : List ℕ). f b ∷ l) (cleaned-next bs i v (omega arith) e)

  -- one turn
  pub cleaned-turn : (x : List ℕ) (i : ℕ) (y : List ℕ) → y ≡ cleaned_to f x i → (v : ℕ) → i < length x → v ≡ f (get_or y i 0) → set y i v ≡ cleaned_to f x (i + 1)
  cleaned-turn x i y e v h k =
      ap (λ (l : List ℕ). set l i v) e
      ∙ cleaned-next x i v h (k ∙ ap f (ap (λ (l : List ℕ). get_or l i 0) e ∙ cleaned_at x i))
      ∙ ap (cleaned_to f x) (sym (add-one i))

  pub cleaned-all : (x : List ℕ) (i : ℕ) → length x ≤ i → cleaned_to f x i ≡ map f x
  cleaned-all [] zero h = refl
  cleaned-all [] (suc i) h = refl
  cleaned-all (b ∷ bs) zero h = absurd (omega arith)
  cleaned-all (b ∷ bs) (suc i) h = ap (λ (l : List ℕ). f b ∷ l) (cleaned-all bs i (omega arith))

-- ---- the names in a cleaned text are the names in the text, cleaned

-- no other byte becomes a space
clean-parts : (b : ℕ) → eqb b 32 ≡ false → eqb (clean_byte b) 32 ≡ false
clean-parts b e = go (link_byte b) refl
  where
    go : (t : Bool) → link_byte b ≡ t → eqb (pick t b 95) 32 ≡ false
    go true h = e
    go false h = refl

onto-cleaned : (b : ℕ) (ls : List (List ℕ)) → split_step false (clean_byte b) (map cleaned ls) ≡ map cleaned (split_step false b ls)
onto-cleaned b [] = refl
onto-cleaned b (l ∷ ls) = refl

split-cleaned : (t : List ℕ) → split_at 32 (map (byte_but true) t) ≡ map cleaned (split_at 32 t)
unfolding split_at
split-cleaned [] = refl
split-cleaned (b ∷ bs) = go (eqb b 32) refl (split-cleaned bs)
  where
    go : (t : Bool) → eqb b 32 ≡ t → split_at 32 (map (byte_but true) bs) ≡ map cleaned (split_at 32 bs)
        → split_step (eqb (byte_but true b) 32) (byte_but true b) (split_at 32 (map (byte_but true) bs)) ≡ map cleaned (split_step (eqb b 32) b (split_at 32 bs))
    go true e h = rw (e, e, h)
    go false e h = rw (e, clean-parts b e, h) (onto-cleaned b (split_at 32 bs))

reject-cleaned : (ls : List (List ℕ)) → reject (λ x. is_empty x) (map cleaned ls) ≡ map cleaned (reject (λ x. is_empty x) ls)
reject-cleaned [] = refl
reject-cleaned ([] ∷ ls) = reject-cleaned ls
reject-cleaned ((b ∷ l) ∷ ls) = ap (λ (ms : List (List ℕ)). cleaned (b ∷ l) ∷ ms) (reject-cleaned ls)

pub names-cleaned : (t : List ℕ) → names (map (byte_but true) t) ≡ map cleaned (names t)
names-cleaned t = rw (split-cleaned t) (reject-cleaned (split_at 32 t))
