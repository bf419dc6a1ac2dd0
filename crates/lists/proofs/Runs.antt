-- Laws of runs: one for each way that a step can go, from the front and by place.
-- Assumes nothing.
use Prim.Native.Nat.{ℕ, zero, suc, ◌+◌, ◌-◌, ◌≤◌, ◌<◌}
use mathlib.Core.Path.{◌≡◌, refl, sym, ap, ◌∙◌}
use mathlib.Core.Bool.{Bool, true, false}
use mathlib.Core.List.{List, [], ◌∷◌, ◌++◌}
use native.Mathlib.Omega.{arith}
use lib.Dec.{eqb}
use borrow.Author.Tests.{eq-eqb}
use lib.ListN.{length, get_or, take, drop, drop_of_length-le, length-append, length-drop}
use lib.Seq.{drop-drop}
use Rattle.lists.specs.Lists.{pick}
use Rattle.lists.specs.Runs.{Part, span, span_step, span_end, span_at, onto, split_step, split_at}
use Rattle.lists.proofs.Rest.{rest_at}

-- ---- from the front

module _ (p : ℕ → Bool) where
  pub span_in : (b : ℕ) (bs : List ℕ) → p b ≡ true → span p (b ∷ bs) ≡ record { value = b ∷ (span p bs).value; rest = (span p bs).rest }
  unfolding span
  span_in b bs h = rw h

  pub span-stop : (b : ℕ) (bs : List ℕ) → p b ≡ false → span p (b ∷ bs) ≡ record { value = []; rest = b ∷ bs }
  unfolding span
  span-stop b bs h = rw h

  -- a run and what follows it are the whole
  pub span-whole : (bs : List ℕ) → (span p bs).value ++ (span p bs).rest ≡ bs
  unfolding span
  span-whole [] = refl
  span-whole (b ∷ bs) = go (p b) (span-whole bs)
    where
      go : (t : Bool) → (span p bs).value ++ (span p bs).rest ≡ bs → (span_step t b bs (span p bs)).value ++ (span_step t b bs (span p bs)).rest ≡ b ∷ bs
      go true h = ap (λ (l : List ℕ). b ∷ l) h
      go false h = refl

  -- what follows a run, by its place
  pub span_rest : (bs : List ℕ) → (span p bs).rest ≡ drop (length (span p bs).value) bs
  unfolding span
  span_rest [] = refl
  span_rest (b ∷ bs) = go (p b) (span_rest bs)
    where
      go : (t : Bool) → (span p bs).rest ≡ drop (length (span p bs).value) bs
          → (span_step t b bs (span p bs)).rest ≡ drop (length (span_step t b bs (span p bs)).value) (b ∷ bs)
      go true h = h
      go false h = refl

-- ---- one step of a loop over a run

module _ (p : ℕ → Bool) (s : List ℕ) (i : ℕ) where
  pub place_in : i < length s → p (get_or s i 0) ≡ true → span_at p s i ≡ span_at p s (i + 1)
  unfolding span_at span_end
  place_in h t = rw (rest_at s i h, t)

  pub place-stop : i < length s → p (get_or s i 0) ≡ false → span_at p s i ≡ i
  unfolding span_at span_end
  place-stop h t = rw (rest_at s i h, t)

  pub place_end : length s ≤ i → span_at p s i ≡ i
  unfolding span_at span_end
  place_end h = rw (drop_of_length-le s h)

-- ---- a run of the definitions from its end's place

-- the end's place is as many places on as the run has bytes
pub end-count : (p : ℕ → Bool) (bs : List ℕ) (i : ℕ) → span_end p bs i ≡ i + length (span p bs).value
unfolding span span_end
end-count p [] i = omega arith
end-count p (b ∷ bs) i = go (p b) (end-count p bs (i + 1))
  where
    go : (t : Bool) → span_end p bs (i + 1) ≡ i + 1 + length (span p bs).value
        → pick t (span_end p bs (i + 1)) i ≡ i + length (span_step t b bs (span p bs)).value
    go true h = h ∙ omega arith
    go false h = omega arith

pub span_value : (p : ℕ → Bool) (bs : List ℕ) → (span p bs).value ≡ take (length (span p bs).value) bs
unfolding span
span_value p [] = refl
span_value p (b ∷ bs) = go (p b) (span_value p bs)
  where
    go : (t : Bool) → (span p bs).value ≡ take (length (span p bs).value) bs
        → (span_step t b bs (span p bs)).value ≡ take (length (span_step t b bs (span p bs)).value) (b ∷ bs)
    go true h = ap (λ (l : List ℕ). b ∷ l) h
    go false h = refl

module _ (p : ℕ → Bool) (s : List ℕ) (i : ℕ) where
  pub run_at : (span p (drop i s)).value ≡ take (span_at p s i - i) (drop i s)
  unfolding span_at
  run_at =
      let e : span_end p (drop i s) i - i ≡ length (span p (drop i s)).value = omega (arith, end-count p (drop i s) i) in
      rw e (span_value p (drop i s))

  pub rest_of : (span p (drop i s)).rest ≡ drop (span_at p s i) s
  unfolding span_at
  rest_of = rw (end-count p (drop i s) i) (span_rest p (drop i s) ∙ drop-drop (length (span p (drop i s)).value) i s)

module _ (p : ℕ → Bool) (s : List ℕ) (i : ℕ) where
  -- a run ends at its start or further on, and inside the list
  pub span_ge : i ≤ span_at p s i
  unfolding span_at
  span_ge = omega (arith, end-count p (drop i s) i)

  pub span-le : i ≤ length s → span_at p s i ≤ length s
  unfolding span_at
  span-le h =
      let a = end-count p (drop i s) i in
      let b = ap length (span-whole p (drop i s)) in
      omega (arith, a, b, length-append (span p (drop i s)).value (span p (drop i s)).rest, length-drop i s)

-- ---- between separators

-- there is a first part
pub record Cons (ls : List (List ℕ)) : Type 0 where
  pub first : List ℕ
  pub rest : List (List ℕ)
  pub is : ls ≡ first ∷ rest

pub step-cons : (t : Bool) (b : ℕ) (ls : List (List ℕ)) → Cons ls → Cons (split_step t b ls)
step-cons true b ls c = record { first = []; rest = ls; is = refl }
step-cons false b ls c = record { first = b ∷ c.first; rest = c.rest; is = ap (onto b) c.is }

pub step-append : (t : Bool) (b : ℕ) (ls ms : List (List ℕ)) → Cons ls → split_step t b (ls ++ ms) ≡ split_step t b ls ++ ms
step-append true b ls ms c = refl
step-append false b ls ms c = rw c.is

pub step-length : (t : Bool) (b : ℕ) (ls : List (List ℕ)) → 0 < length ls → length (split_step t b ls) ≡ length ls + pick t 1 0
step-length true b ls h = omega arith
step-length false b [] h = omega arith
step-length false b (l ∷ ls) h = omega arith

module _ (c : ℕ) where
  split-cons : (u : List ℕ) → Cons (split_at c u)
  unfolding split_at
  split-cons [] = record { first = []; rest = []; is = refl }
  split-cons (b ∷ u) = step-cons (eqb b c) b (split_at c u) (split-cons u)

  -- there is always a first part
  pub split-some : (u : List ℕ) → 0 < length (split_at c u)
  split-some u = let s = split-cons u in rw s.is (omega arith)

  -- a separator parts what stands before it from what stands behind it
  pub split_separator : (u v : List ℕ) → split_at c (u ++ (c ∷ v)) ≡ split_at c u ++ split_at c v
  unfolding split_at
  split_separator [] v = rw (eq-eqb c c refl)
  split_separator (b ∷ u) v = ap (split_step (eqb b c) b) (split_separator u v) ∙ step-append (eqb b c) b (split_at c u) (split_at c v) (split-cons u)
