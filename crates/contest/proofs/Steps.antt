-- Document 02, Item 7: the list as a loop over the claims makes it: one more claim adds its name or not.
-- Assumes nothing.
use Prim.Native.Nat.{ℕ}
use mathlib.Core.Path.{◌≡◌, refl, ap, ◌∙◌}
use mathlib.Core.Bool.{Bool, true, false, ◌||◌}
use mathlib.Core.List.{List, [], ◌∷◌, ◌++◌}
use Rattle.lists.specs.Lists.{pick, reject}
use Rattle.lists.specs.Bytes.{same_bytes, among}
use Rattle.lists.proofs.Bytes.{same-sym}
use Rattle.contest.specs.Contest.{firsts}

pub reject-append : {A : Type 0} (out : A → Bool) (xs ys : List A) → reject out (xs ++ ys) ≡ reject out xs ++ reject out ys
reject-append out [] ys = refl
reject-append {A} out (x ∷ xs) ys = at (out x) (reject-append out xs ys)
  where
    at : (t : Bool) → reject out (xs ++ ys) ≡ reject out xs ++ reject out ys
        → pick t (reject out (xs ++ ys)) (x ∷ reject out (xs ++ ys)) ≡ pick t (reject out xs) (x ∷ reject out xs) ++ reject out ys
    at true ih = ih
    at false ih = ap (λ (l : List A). x ∷ l) ih

-- later claims only add names
pub firsts_more : (xs ys : List (List ℕ)) → (zs : List (List ℕ)) × (firsts (xs ++ ys) ≡ firsts xs ++ zs)
firsts_more [] ys = (firsts ys, refl)
firsts_more (x ∷ xs) ys =
    let (zs, e) = firsts_more xs ys in
    let out : List ℕ → Bool = λ y. same_bytes y x in
    (reject out zs, ap (λ (l : List (List ℕ)). x ∷ reject out l) e ∙ ap (λ (l : List (List ℕ)). x ∷ l) (reject-append out (firsts xs) zs))

-- a name that was claimed before changes nothing, a new one goes last
pub firsts_snoc : (xs : List (List ℕ)) (x : List ℕ) → firsts (xs ++ (x ∷ [])) ≡ firsts xs ++ pick (among x xs) [] (x ∷ [])
firsts_snoc [] x = refl
firsts_snoc (y ∷ xs) x =
    ap (λ (l : List (List ℕ)). y ∷ reject (λ z. same_bytes z y) l) (firsts_snoc xs x)
    ∙ ap (λ (l : List (List ℕ)). y ∷ l) (reject-append (λ z. same_bytes z y) (firsts xs) (pick (among x xs) [] (x ∷ [])) ∙ ap (λ (l : List (List ℕ)). reject (λ z. same_bytes z y) (firsts xs) ++ l) (at (among x xs) (same_bytes y x) refl))
  where
    at : (s t : Bool) → same_bytes y x ≡ t → reject (λ z. same_bytes z y) (pick s [] (x ∷ [])) ≡ pick (t || s) [] (x ∷ [])
    at true true e = refl
    at true false e = refl
    at false true e = rw (same-sym x y ∙ e)
    at false false e = rw (same-sym x y ∙ e)
