-- A path judged byte by byte, and a path that another one goes on from.
-- Assumes nothing.
use Prim.Native.Nat.{ℕ, ◌+◌, ◌-◌, ◌≤◌, ◌<◌}
use mathlib.Core.Path.{◌≡◌, refl, sym, ap, ◌∙◌}
use mathlib.Core.Bool.{Bool, true, false, not, ◌&&◌, and-true, and-false, and_assoc}
use mathlib.Core.List.{List, [], ◌∷◌}
use native.Mathlib.Nat.{not-suc-le-zero, le_of_suc-le-suc}
use native.Mathlib.Omega.{arith}
use borrow.Author.Tests.{eq-eqb, ne_eqb, eqb-true}
use lib.Dec.{eqb}
use lib.ListN.{length, get_or, take, drop}
use lib.Seq.{drop-length}
use Rattle.lists.specs.Lists.{is_empty, all}
use Rattle.lists.specs.Bytes.{same_bytes}
use Rattle.lists.specs.Runs.{split_at, onto}
use Rattle.lists.proofs.Moves.{ap_at}
use Rattle.lists.proofs.Rest.{rest_at}
use Rattle.device.specs.Device.{ok_path, goes_on, cut_of}

-- ---- components

-- what follows a byte of a path, up to its end: no slash directly behind a slash, none last
abbrev pub tail_ok : ℕ → List ℕ → Bool
tail_ok b [] = not (eqb b 47)
tail_ok b (c ∷ cs) = not (eqb b 47 && eqb c 47) && tail_ok c cs

abbrev filled : List (List ℕ) → Bool
filled xs = all (λ x. not (is_empty x)) xs

onto_two : (b c : ℕ) (xs : List (List ℕ)) → filled (onto c xs) ≡ filled (onto b (onto c xs))
onto_two b c [] = refl
onto_two b c (x ∷ xs) = refl

-- behind a slash, and behind another byte
record Split (bs : List ℕ) : Type 0 where
  slash : tail_ok 47 bs ≡ filled (split_at 47 bs)
  other : (b : ℕ) → eqb b 47 ≡ false → tail_ok b bs ≡ filled (onto b (split_at 47 bs))

split : (bs : List ℕ) → Split bs
unfolding split_at
split [] = record { slash = refl; other = λ b h. rw h }
split (c ∷ cs) = go (eqb c 47) refl (split cs)
  where
    go : (t : Bool) → eqb c 47 ≡ t → Split cs → Split (c ∷ cs)
    go true h s =
        let e : tail_ok c cs ≡ filled (split_at 47 cs) = ap (λ (x : ℕ). tail_ok x cs) (eqb-true c 47 h) ∙ s.slash in
        record { slash = rw h; other = λ b k. rw (h, k) e }
    go false h s = record { slash = rw h (s.other c h); other = λ b k. rw (h, k) (s.other c h ∙ onto_two b c (split_at 47 cs)) }

-- ---- a path, at the place that code has

module _ (s : List ℕ) where
  pub path-none : length s ≡ 0 → ok_path s ≡ false
  path-none h = go s h
    where
      go : (s : List ℕ) → length s ≡ 0 → ok_path s ≡ false
      go [] h = refl
      go (b ∷ bs) h = absurd (omega arith)

  -- the first byte, and what follows it
  path-first : 0 < length s → ok_path s ≡ (eqb (get_or s 0 0) 47 && filled (split_at 47 (drop 1 s)))
  path-first h = go s h
    where
      go : (s : List ℕ) → 0 < length s → ok_path s ≡ (eqb (get_or s 0 0) 47 && filled (split_at 47 (drop 1 s)))
      go [] h = absurd (omega arith)
      go (b ∷ bs) h = refl

  pub path_other : 0 < length s → (get_or s 0 0 ≡ 47 → ⊥) → ok_path s ≡ false
  path_other h n = path-first h ∙ rw (ne_eqb (get_or s 0 0) 47 n)

  pub path_tail : 0 < length s → get_or s 0 0 ≡ 47 → tail_ok (get_or s (1 - 1) 0) (drop 1 s) ≡ ok_path s
  path_tail h e = ap (λ (b : ℕ). tail_ok b (drop 1 s)) e ∙ (split (drop 1 s)).slash ∙ sym (path-first h ∙ rw e)

  tail_at : (b i : ℕ) → i < length s → tail_ok b (drop i s) ≡ (not (eqb b 47 && eqb (get_or s i 0) 47) && tail_ok (get_or s i 0) (drop (i + 1) s))
  tail_at b i h = ap (tail_ok b) (rest_at s i h)

  pub tail_bad : (b i : ℕ) → i < length s → (eqb b 47 && eqb (get_or s i 0) 47) ≡ true → tail_ok b (drop i s) ≡ false
  tail_bad b i h t = tail_at b i h ∙ rw t

  pub tail_next : (b i : ℕ) → i < length s → (eqb b 47 && eqb (get_or s i 0) 47) ≡ false → tail_ok b (drop i s) ≡ tail_ok (get_or s (i + 1 - 1) 0) (drop (i + 1) s)
  tail_next b i h t = tail_at b i h ∙ rw t (ap_at (λ j. tail_ok (get_or s j 0) (drop (i + 1) s)) i (i + 1 - 1) (omega arith))

  pub tail_end : (i : ℕ) → i ≡ length s → not (eqb (get_or s (length s - 1) 0) 47) ≡ tail_ok (get_or s (i - 1) 0) (drop i s)
  tail_end i e = sym (ap (λ (j : ℕ). tail_ok (get_or s (j - 1) 0) (drop j s)) e ∙ ap (tail_ok (get_or s (length s - 1) 0)) (drop-length s))

-- ---- a parent's path and the child's

goes_short : (a b : List ℕ) → length b ≤ length a → goes_on a b ≡ false
goes_short [] [] h = refl
goes_short [] (y ∷ b) h = absurd (omega arith)
goes_short (x ∷ a) [] h = refl
goes_short (x ∷ a) (y ∷ b) h = ap (λ (t : Bool). eqb x y && t) (goes_short a b (le_of_suc-le-suc h)) ∙ and-false (eqb x y)

goes_at : (a b : List ℕ) → length a < length b → goes_on a b ≡ (same_bytes a (take (length a) b) && eqb (get_or b (length a) 0) 47)
unfolding same_bytes
goes_at a [] h = absurd (not-suc-le-zero h)
goes_at [] (y ∷ b) h = refl
goes_at (x ∷ a) (y ∷ b) h =
    ap (λ (t : Bool). eqb x y && t) (goes_at a b (le_of_suc-le-suc h)) ∙ sym (and_assoc (eqb x y) (same_bytes a (take (length a) b)) (eqb (get_or b (length a) 0) 47))

module _ (parent child : List ℕ) where
  pub cut_none : length parent ≡ 0 → cut_of parent child ≡ false
  cut_none h = go parent h
    where
      go : (parent : List ℕ) → length parent ≡ 0 → cut_of parent child ≡ false
      go [] h = refl
      go (x ∷ xs) h = absurd (omega arith)

  cut_some : 0 < length parent → cut_of parent child ≡ goes_on parent child
  cut_some h = go parent h
    where
      go : (parent : List ℕ) → 0 < length parent → cut_of parent child ≡ goes_on parent child
      go [] h = absurd (omega arith)
      go (x ∷ xs) h = refl

  pub cut_short : 0 < length parent → length child ≤ length parent → cut_of parent child ≡ false
  cut_short h k = cut_some h ∙ goes_short parent child k

  pub cut_other : 0 < length parent → length parent < length child → (get_or child (length parent) 0 ≡ 47 → ⊥) → cut_of parent child ≡ false
  cut_other h k n =
      cut_some h
      ∙ goes_at parent child k
      ∙ ap (λ (t : Bool). same_bytes parent (take (length parent) child) && t) (ne_eqb (get_or child (length parent) 0) 47 n)
      ∙ and-false (same_bytes parent (take (length parent) child))

  pub cut_same : 0 < length parent → length parent < length child → get_or child (length parent) 0 ≡ 47 → cut_of parent child ≡ same_bytes parent (take (length parent) child)
  cut_same h k e =
      cut_some h
      ∙ goes_at parent child k
      ∙ ap (λ (t : Bool). same_bytes parent (take (length parent) child) && t) (eq-eqb (get_or child (length parent) 0) 47 e)
      ∙ and-true (same_bytes parent (take (length parent) child))
