-- Jumps that find their label among the later rules, and those of joined rules.
-- Assumes nothing.
use Prim.Native.Nat.{ℕ, ◌+◌}
use mathlib.Core.Path.{◌≡◌, refl, sym, ◌∙◌, ap}
use mathlib.Core.Bool.{Bool, true, false}
use mathlib.Core.List.{List, [], ◌∷◌, ◌++◌}
use Rattle.std.specs.Prelude.{Option, None, Some}
use Rattle.std.proofs.lemmas.Option.{none-some}
use Rattle.std.specs.Option.{option_map}
use Rattle.lists.specs.Lists.{pick}
use Rattle.lists.specs.Checked.{Checked, ok, ◌>>◌, found, Holds, Placed, line}
use Rattle.lists.specs.Refusal.{Refusal, label_missing}
use Rattle.text.specs.Engine.{Engine}
use Rattle.text.specs.Reading.{goes_to, settle, resolved, has_label}
use Rattle.lists.proofs.Checked.{holds-map, holds-seq}
use Rattle.text.proofs.Lines.{shift}

pick-found : (b : Bool) (n l : ℕ) (o o' : Option ℕ) → (o ≡ Some l → o' ≡ Some l) → pick b (Some n) o ≡ Some l → pick b (Some n) o' ≡ Some l
pick-found true n l o o' f e = e
pick-found false n l o o' f e = f e

pick-moved : (b : Bool) (k n : ℕ) (o o' : Option ℕ) → o' ≡ option_map (λ (x : ℕ). k + x) o → pick b (Some (k + n)) o' ≡ option_map (λ (x : ℕ). k + x) (pick b (Some n) o)
pick-moved true k n o o' e = refl
pick-moved false k n o o' e = e

module _ (E : Engine) where
  open E.reader use {Rule, label, goto}

  -- a jump's label is on a later rule
  abbrev pub Aimed : Option (List ℕ) → List (Placed Rule) → Type 0
  Aimed None ps = Unit {0}
  Aimed (Some g) ps = (l : ℕ) × (goes_to E.reader g ps ≡ Some l)

  abbrev pub Settled : List (Placed Rule) → Type 0
  Settled [] = Unit {0}
  Settled (line n r ∷ ps) = Aimed (goto r) ps × Settled ps

  resolved-ok : (n : ℕ) (g : Option (List ℕ)) (ps : List (Placed Rule)) → Aimed g ps → (c : Checked (Placed Refusal) ℕ) → resolved E.reader n g ps >> c ≡ c
  resolved-ok n None ps a c = refl
  resolved-ok n (Some g) ps (l, e) c = rw e

  pub settle-ok : (ps : List (Placed Rule)) → Settled ps → settle E.reader ps ≡ ok 0
  unfolding settle
  settle-ok [] s = refl
  settle-ok (line n r ∷ ps) (a, s) = resolved-ok n (goto r) ps a (settle E.reader ps) ∙ settle-ok ps s

  found_aimed : (n : ℕ) (g : List ℕ) (ps : List (Placed Rule)) (o : Option ℕ) → goes_to E.reader g ps ≡ o → Holds (λ (_ : ℕ). Aimed (Some g) ps) (found o (line n label_missing))
  found_aimed n g ps None e = tt
  found_aimed n g ps (Some l) e = (l, e)

  resolved_aimed : (n : ℕ) (g : Option (List ℕ)) (ps : List (Placed Rule)) → Holds (λ (_ : ℕ). Aimed g ps) (resolved E.reader n g ps)
  resolved_aimed n None ps = tt
  resolved_aimed n (Some g) ps = found_aimed n g ps (goes_to E.reader g ps) refl

  pub settled : (ps : List (Placed Rule)) → Holds (λ (_ : ℕ). Settled ps) (settle E.reader ps)
  unfolding settle
  settled [] = tt
  settled (line n r ∷ ps) =
      holds-seq (λ (_ : ℕ). Aimed (goto r) ps) (λ (_ : ℕ). Settled (line n r ∷ ps)) (resolved E.reader n (goto r) ps) (settle E.reader ps)
      (resolved_aimed n (goto r) ps)
      (λ _ a. holds-map (λ (_ : ℕ). Settled ps) (λ (_ : ℕ). Settled (line n r ∷ ps)) (settle E.reader ps) (settled ps) (λ _ s. (a, s)))

  -- a rule that is found before the seam is found in the join
  pub goes_to-left : (g : List ℕ) (xs ys : List (Placed Rule)) (l : ℕ) → goes_to E.reader g xs ≡ Some l → goes_to E.reader g (xs ++ ys) ≡ Some l
  unfolding goes_to
  goes_to-left g [] ys l e = absurd (none-some l e)
  goes_to-left g (line n r ∷ xs) ys l e =
      pick-found (has_label g (label r)) n l (goes_to E.reader g xs) (goes_to E.reader g (xs ++ ys)) (goes_to-left g xs ys l) e

  pub goes_to-shift : (k : ℕ) (g : List ℕ) (xs : List (Placed Rule)) → goes_to E.reader g (shift k xs) ≡ option_map (λ (x : ℕ). k + x) (goes_to E.reader g xs)
  unfolding goes_to
  goes_to-shift k g [] = refl
  goes_to-shift k g (line n r ∷ xs) =
      pick-moved (has_label g (label r)) k n (goes_to E.reader g xs) (goes_to E.reader g (shift k xs)) (goes_to-shift k g xs)

  aimed_left : (g : Option (List ℕ)) (xs ys : List (Placed Rule)) → Aimed g xs → Aimed g (xs ++ ys)
  aimed_left None xs ys a = tt
  aimed_left (Some g) xs ys (l, e) = (l, goes_to-left g xs ys l e)

  pub settled_append : (xs ys : List (Placed Rule)) → Settled xs → Settled ys → Settled (xs ++ ys)
  settled_append [] ys s t = t
  settled_append (line n r ∷ xs) ys (a, s) t = (aimed_left (goto r) xs ys a, settled_append xs ys s t)

  pub settled_right : (xs ys : List (Placed Rule)) → Settled (xs ++ ys) → Settled ys
  settled_right [] ys s = s
  settled_right (line n r ∷ xs) ys (a, s) = settled_right xs ys s

  aimed_shift : (k : ℕ) (g : Option (List ℕ)) (xs : List (Placed Rule)) → Aimed g xs → Aimed g (shift k xs)
  aimed_shift k None xs a = tt
  aimed_shift k (Some g) xs (l, e) = (k + l, goes_to-shift k g xs ∙ ap (option_map (λ (x : ℕ). k + x)) e)

  pub settled_shift : (k : ℕ) (xs : List (Placed Rule)) → Settled xs → Settled (shift k xs)
  settled_shift k [] s = tt
  settled_shift k (line n r ∷ xs) (a, s) = (aimed_shift k (goto r) xs a, settled_shift k xs s)

  unmoved : (k : ℕ) (o : Option ℕ) (l : ℕ) → option_map (λ (x : ℕ). k + x) o ≡ Some l → (m : ℕ) × (o ≡ Some m)
  unmoved k None l e = absurd (none-some l e)
  unmoved k (Some m) l e = (m, refl)

  aimed_unshift : (k : ℕ) (g : Option (List ℕ)) (xs : List (Placed Rule)) → Aimed g (shift k xs) → Aimed g xs
  aimed_unshift k None xs a = tt
  aimed_unshift k (Some g) xs (l, e) = unmoved k (goes_to E.reader g xs) l (sym (goes_to-shift k g xs) ∙ e)

  pub settled_unshift : (k : ℕ) (xs : List (Placed Rule)) → Settled (shift k xs) → Settled xs
  settled_unshift k [] s = tt
  settled_unshift k (line n r ∷ xs) (a, s) = (aimed_unshift k (goto r) xs a, settled_unshift k xs s)
