-- The jumps of joined rules, and the lines that they stand on.
-- Assumes nothing.
use Prim.Native.Nat.{ℕ, ◌+◌, ◌≤◌, ◌<◌}
use mathlib.Core.Path.{◌≡◌, refl, sym, ◌∙◌, ap, subst}
use mathlib.Core.Bool.{Bool, true, false}
use mathlib.Core.List.{List, [], ◌∷◌, ◌++◌}
use Rattle.std.specs.Prelude.{Option, None, Some}
use Rattle.std.proofs.lemmas.Option.{none-some, same_Some}
use native.Mathlib.Nat.{zero-add, add_assoc}
use native.Mathlib.Omega.{arith}
use Rattle.lists.specs.Lists.{pick, All}
use Rattle.lists.specs.Checked.{Placed, line, line_of}
use Rattle.text.specs.Engine.{Engine}
use Rattle.text.specs.Reading.{goes_to, has_label}
use Rattle.text.specs.Joined.{Jump, Crosses, NoCrossing, jumps, jumps_of, jump_from}
use Rattle.text.proofs.Settle.{Aimed, Settled, goes_to-left}
use Rattle.lists.proofs.Lists.{All-map}

pick_at : (P : ℕ → Type 0) (b : Bool) (n l : ℕ) (o : Option ℕ) → P n → (o ≡ Some l → P l) → pick b (Some n) o ≡ Some l → P l
pick_at P true n l o h f e = subst P (same_Some n l e) h
pick_at P false n l o h f e = f e

pick-none : (b : Bool) (n : ℕ) (o p q : Option ℕ) → (o ≡ None → p ≡ q) → pick b (Some n) o ≡ None → pick b (Some n) p ≡ q
pick-none true n o p q f e = absurd (none-some n (sym e))
pick-none false n o p q f e = f e

module _ (E : Engine) where
  open E.reader use {Rule, label, goto}

  -- a jump goes to the line of one of the rules
  pub goes_to-line : (P : ℕ → Type 0) (g : List ℕ) (ps : List (Placed Rule)) (l : ℕ) → All (λ (p : Placed Rule). P (line_of p)) ps → goes_to E.reader g ps ≡ Some l → P l
  unfolding goes_to
  goes_to-line P g [] l h e = absurd (none-some l e)
  goes_to-line P g (line n r ∷ ps) l (h, hs) e = pick_at P (has_label g (label r)) n l (goes_to E.reader g ps) h (goes_to-line P g ps l hs) e

  -- a jump that finds nothing before the seam goes past it
  pub goes_to-right : (g : List ℕ) (xs ys : List (Placed Rule)) → goes_to E.reader g xs ≡ None → goes_to E.reader g (xs ++ ys) ≡ goes_to E.reader g ys
  unfolding goes_to
  goes_to-right g [] ys e = refl
  goes_to-right g (line n r ∷ xs) ys e =
      pick-none (has_label g (label r)) n (goes_to E.reader g xs) (goes_to E.reader g (xs ++ ys)) (goes_to E.reader g ys) (goes_to-right g xs ys) e

  -- the jumps whose GOTO stands in xs, where ys follow
  unfoldable pub jumps_into : List (Placed Rule) → List (Placed Rule) → List Jump
  jumps_into [] ys = []
  jumps_into (line n r ∷ xs) ys = jumps_of E n (goto r) (xs ++ ys) (jumps_into xs ys)

  jump_from-append : (n : ℕ) (o : Option ℕ) (a b : List Jump) → jump_from E n o (a ++ b) ≡ jump_from E n o a ++ b
  jump_from-append n None a b = refl
  jump_from-append n (Some l) a b = refl

  jumps_of-append : (n : ℕ) (g : Option (List ℕ)) (ps : List (Placed Rule)) (a b : List Jump) → jumps_of E n g ps (a ++ b) ≡ jumps_of E n g ps a ++ b
  jumps_of-append n None ps a b = refl
  jumps_of-append n (Some g) ps a b = jump_from-append n (goes_to E.reader g ps) a b

  pub jumps-append : (xs ys : List (Placed Rule)) → jumps E (xs ++ ys) ≡ jumps_into xs ys ++ jumps E ys
  unfolding jumps jumps_into
  jumps-append [] ys = refl
  jumps-append (line n r ∷ xs) ys =
      ap (jumps_of E n (goto r) (xs ++ ys)) (jumps-append xs ys)
      ∙ jumps_of-append n (goto r) (xs ++ ys) (jumps_into xs ys) (jumps E ys)

  jump_from-all : (P : Jump → Type 0) (n : ℕ) (o : Option ℕ) (js : List Jump) → ((l : ℕ) → P (record { from = n; to = l })) → All P js → All P (jump_from E n o js)
  jump_from-all P n None js f h = h
  jump_from-all P n (Some l) js f h = (f l, h)

  jumps_of-all : (P : Jump → Type 0) (n : ℕ) (g : Option (List ℕ)) (ps : List (Placed Rule)) (js : List Jump) → ((l : ℕ) → P (record { from = n; to = l })) → All P js → All P (jumps_of E n g ps js)
  jumps_of-all P n None ps js f h = h
  jumps_of-all P n (Some g) ps js f h = jump_from-all P n (goes_to E.reader g ps) js f h

  pub jumps-above : (c : ℕ) (ps : List (Placed Rule)) → All (λ (p : Placed Rule). c < line_of p) ps → All (λ (j : Jump). c < j.from) (jumps E ps)
  unfolding jumps
  jumps-above c [] h = tt
  jumps-above c (line n r ∷ ps) (h, hs) = jumps_of-all (λ (j : Jump). c < j.from) n (goto r) ps (jumps E ps) (λ l. h) (jumps-above c ps hs)

  module _ (c : ℕ) (ys : List (Placed Rule)) where
    module _ (above : All (λ (p : Placed Rule). c < line_of p) ys) (cs : List ℕ) where
      -- no jump crosses the cut: each finds its label before it
      aimed_found : (n : ℕ) (g : List ℕ) (xs : List (Placed Rule)) (js : List Jump) (l : ℕ) (o : Option ℕ) → n ≤ c → goes_to E.reader g xs ≡ o → goes_to E.reader g (xs ++ ys) ≡ Some l
          → NoCrossing (c ∷ cs) (record { from = n; to = l } ∷ js) → Aimed E (Some g) xs
      aimed_found n g xs js l (Some m) h e f k = (m, e)
      aimed_found n g xs js l None h e f k =
          absurd (k.0.0 (h, goes_to-line (λ (z : ℕ). c < z) g ys l above (sym (goes_to-right g xs ys e) ∙ f)))

      aimed_here : (n : ℕ) (g : Option (List ℕ)) (xs : List (Placed Rule)) (js : List Jump) → n ≤ c → Aimed E g (xs ++ ys)
          → NoCrossing (c ∷ cs) (jumps_of E n g (xs ++ ys) js) → Aimed E g xs × NoCrossing (c ∷ cs) js
      aimed_here n None xs js h a k = (tt, k)
      aimed_here n (Some g) xs js h (l, e) k =
          let k' = rw e at k in (aimed_found n g xs js l (goes_to E.reader g xs) h refl e k', k'.1)

      pub settled_before : (xs : List (Placed Rule)) → All (λ (p : Placed Rule). line_of p ≤ c) xs → Settled E (xs ++ ys) → NoCrossing (c ∷ cs) (jumps_into xs ys) → Settled E xs
      unfolding jumps_into
      settled_before [] h s k = tt
      settled_before (line n r ∷ xs) (h, hs) (a, s) k =
          let q = aimed_here n (goto r) xs (jumps_into xs ys) h a k in
          (q.0, settled_before xs hs s q.1)

    module _ (cs : List ℕ) (late : All (λ (z : ℕ). c ≤ z) cs) where
      uncrossed : (n l : ℕ) → l ≤ c → All (λ (z : ℕ). ¬ Crosses z (record { from = n; to = l })) cs
      uncrossed n l h = All-map (λ (z : ℕ). c ≤ z) (λ (z : ℕ). ¬ Crosses z (record { from = n; to = l })) (λ z k x. omega arith) cs late

      uncrossed_here : (n : ℕ) (g : Option (List ℕ)) (xs : List (Placed Rule)) (js : List Jump) → All (λ (p : Placed Rule). line_of p ≤ c) xs → Aimed E g xs
          → NoCrossing cs js → NoCrossing cs (jumps_of E n g (xs ++ ys) js)
      uncrossed_here n None xs js h a k = k
      uncrossed_here n (Some g) xs js h (l, e) k =
          rw (goes_to-left E g xs ys l e) (uncrossed n l (goes_to-line (λ (z : ℕ). z ≤ c) g xs l h e), k)

      pub none_crosses : (xs : List (Placed Rule)) → All (λ (p : Placed Rule). line_of p ≤ c) xs → Settled E xs → NoCrossing cs (jumps_into xs ys)
      unfolding jumps_into
      none_crosses [] h s = tt
      none_crosses (line n r ∷ xs) (h, hs) (a, s) = uncrossed_here n (goto r) xs (jumps_into xs ys) hs a (none_crosses xs hs s)
