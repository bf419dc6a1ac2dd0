-- A name that is met for the first time: who claims it, and its row.
-- Assumes nothing.
use Prim.Native.Nat.{ℕ, zero, suc, ◌+◌, ◌≤◌, ◌<◌}
use mathlib.Core.Path.{◌≡◌, refl, sym, ap, ap₂, ◌∙◌, subst}
use mathlib.Core.Bool.{Bool, true, false, not, ◌&&◌, ◌||◌}
use mathlib.Core.List.{List, [], ◌∷◌, ◌++◌}
use native.Mathlib.Omega.{arith}
use native.Mathlib.Numerals.{add-one}
use borrow.Author.Tests.{not-true}
use lib.IntN.{ℤ}
use lib.ListN.{length, take, drop}
use Rattle.lists.specs.Lists.{pick, any}
use Rattle.lists.specs.Bytes.{same_bytes, among, distinct}
use Rattle.lists.proofs.Moves.{ap_at}
use Rattle.lists.proofs.Tests.{and_both, neither, or-true}
use Rattle.lists.proofs.Bytes.{same-sym, same_refl}
use Rattle.outcome.specs.State.{State}
use Rattle.contest.specs.Contest as contest
use Rattle.contest.specs.Contest.{links_of, claims, rank, claimants, positions, highest, Listed, listed_by}
use Rattle.contest.proofs.Contest.{among-append, among-links}
use Rattle.claims.specs.Records.{states_in}
use Rattle.claims.specs.Claims.{as_claimant, HoldingIs}
use Rattle.claims.specs.declared.Claimant.{Claimant}
use Rattle.claims.specs.declared.Holding.{Holding}
use Rattle.holders.specs.Lists.{row_by, row_of, Naming}

-- the row by what the walk over the records found
pub naming-row : (t : List ℕ) (at : ℕ) (set : List ℕ) (p n : ℕ) (x : List ℕ) (first : Claimant) → Naming t at set p n x first
    → (list : List ℕ) (r : Holding) → HoldingIs list x (as_claimant first) (drop first.position (states_in set)) r
    → (holder : ℕ) → holder ≡ r.holder → row_by x holder (take r.count list) ≡ row_of set x
naming-row t at set p n x first w list r is holder e =
    ap₂ (λ (h : ℕ) (ps : List ℕ). row_by x h ps) (e ∙ is.holder) is.claimed ∙ ap (listed_by x) (sym w.claimed)

-- records that do not claim a name
pub claimants-from : (x : List ℕ) (n i : ℕ) (ss : List State) → any (claims x) (take i ss) ≡ false → claimants x n ss ≡ claimants x (n + i) (drop i ss)
claimants-from x n zero ss h = ap_at (λ m. claimants x m ss) n (n + 0) (omega arith)
claimants-from x n (suc i) [] h = refl
claimants-from x n (suc i) (s ∷ ss) h =
    let (a, b) = neither (claims x s) (any (claims x) (take i ss)) h in
    ap (λ (t : Bool). pick t (contest.claimant n s ∷ claimants x (suc n) ss) (claimants x (suc n) ss)) a
    ∙ claimants-from x (suc n) i ss b
    ∙ ap_at (λ m. claimants x m (drop i ss)) (suc n + i) (n + suc i) (omega arith)

-- the first that does
pub claimants-first : (x : List ℕ) (i : ℕ) (ss : List State) (s : State) → any (claims x) (take i ss) ≡ false → drop i ss ≡ s ∷ drop (suc i) ss → claims x s ≡ true
    → (c : contest.Claimant) → c ≡ record { position = i + 1; priority = rank s } → claimants x 1 ss ≡ c ∷ claimants x (suc (i + 1)) (drop (i + 1) ss)
claimants-first x i ss s h d y c e =
    claimants-from x 1 i ss h
    ∙ ap₂ (λ (m : ℕ) (rs : List State). claimants x m rs) up d
    ∙ ap (λ (t : Bool). pick t (contest.claimant (suc i) s ∷ claimants x (suc (suc i)) (drop (suc i) ss)) (claimants x (suc (suc i)) (drop (suc i) ss))) y
    ∙ ap (λ (m : ℕ). record { position = m; priority = rank s } ∷ claimants x (suc m) (drop m ss)) (sym (add-one i))
    ∙ ap (λ (f : contest.Claimant). f ∷ claimants x (suc (i + 1)) (drop (i + 1) ss)) (sym e)
  where
    up : 1 + i ≡ suc i
    up = omega arith

-- ---- whether a name was met before

-- not among those before it in its own record
apart-before : (xs : List (List ℕ)) (x : List ℕ) (ys : List (List ℕ)) → distinct (xs ++ (x ∷ ys)) ≡ true → among x xs ≡ false
apart-before [] x ys h = refl
apart-before (y ∷ xs) x ys h =
    let (a, b) = and_both (not (among y (xs ++ (x ∷ ys)))) (distinct (xs ++ (x ∷ ys))) h in
    let no : (among y xs || (same_bytes x y || among y ys)) ≡ false = sym (among-append y xs (x ∷ ys)) ∙ not-true (among y (xs ++ (x ∷ ys))) a in
    let (_, c) = neither (among y xs) (same_bytes x y || among y ys) no in
    let (d, _) = neither (same_bytes x y) (among y ys) c in
    ap₂ ◌||◌ (same-sym y x ∙ d) (apart-before xs x ys b)

pub met-before : (x : List ℕ) (ss : List State) (seen later : List (List ℕ)) → distinct (seen ++ (x ∷ later)) ≡ true → among x (links_of ss ++ seen) ≡ any (claims x) ss
met-before x ss seen later h =
    among-append x (links_of ss) seen ∙ ap₂ ◌||◌ (among-links x ss) (apart-before seen x later h) ∙ or-false (any (claims x) ss)
  where
    or-false : (t : Bool) → (t || false) ≡ t
    or-false true = refl
    or-false false = refl

-- its own record claims it
pub own_claim : (x : List ℕ) (s : State) (seen later : List (List ℕ)) → s.links ≡ seen ++ (x ∷ later) → claims x s ≡ true
own_claim x s seen later e =
    ap (among x) e
    ∙ among-append x seen (x ∷ later)
    ∙ ap (λ (t : Bool). among x seen || (t || among x later)) (same_refl x)
    ∙ or-true (among x seen)
