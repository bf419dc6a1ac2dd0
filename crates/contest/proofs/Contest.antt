-- Document 02, Item 7: the list is what is wanted of it.
-- Assumes nothing.
use Prim.Native.Nat.{ℕ, zero, suc, ◌+◌, ◌<◌}
use mathlib.Core.Path.{◌≡◌, refl, sym, ap, ap₂, ◌∙◌, subst}
use mathlib.Core.Bool.{Bool, true, false, not, ◌&&◌, ◌||◌, or_assoc}
use mathlib.Core.List.{List, [], ◌∷◌, ◌++◌, map}
use Rattle.std.proofs.lemmas.Option.{none-some, same_Some}
use native.Mathlib.Omega.{arith}
use lib.Dec.{eqb}
use Rattle.lists.specs.Lists.{pick, any, reject, All}
use Rattle.lists.specs.Bytes.{same_bytes, among, distinct}
use Rattle.lists.proofs.Lists.{All-map}
use Rattle.lists.proofs.Tests.{or-true}
use Rattle.lists.proofs.Bytes.{same-eq, same_refl, reject-distinct}
use Rattle.outcome.specs.State.{State}
use Rattle.contest.specs.Contest.{firsts, links_of, claims, rank, Claimant, claimant, claimants, positions, highest, listed_by, contest, names}
use Rattle.contest.specs.Promise.{Claims, Held, Contested}
use Rattle.contest.proofs.Order.{highest-is, Below, Rising, highest_top}

-- ---- names

pub among-append : (x : List ℕ) (ys zs : List (List ℕ)) → among x (ys ++ zs) ≡ (among x ys || among x zs)
among-append x [] zs = refl
among-append x (y ∷ ys) zs = ap (λ (t : Bool). same_bytes y x || t) (among-append x ys zs) ∙ sym (or_assoc (same_bytes y x) (among x ys) (among x zs))

-- taking out one name does not touch another
among_other : (x z : List ℕ) (ys : List (List ℕ)) → same_bytes z x ≡ false → among x (reject (λ y. same_bytes y z) ys) ≡ among x ys
among_other x z [] h = refl
among_other x z (y ∷ ys) h = at (same_bytes y z) refl (among_other x z ys h)
  where
    at : (t : Bool) → same_bytes y z ≡ t → among x (reject (λ y. same_bytes y z) ys) ≡ among x ys
        → among x (pick t (reject (λ y. same_bytes y z) ys) (y ∷ reject (λ y. same_bytes y z) ys)) ≡ (same_bytes y x || among x ys)
    at true e ih = ih ∙ ap (λ (t : Bool). t || among x ys) (sym (ap (λ (l : List ℕ). same_bytes l x) (same-eq y z e) ∙ h))
    at false e ih = ap (λ (t : Bool). same_bytes y x || t) ih

pub among-firsts : (x : List ℕ) (xs : List (List ℕ)) → among x (firsts xs) ≡ among x xs
among-firsts x [] = refl
among-firsts x (z ∷ xs) = at (same_bytes z x) refl (among-firsts x xs)
  where
    at : (t : Bool) → same_bytes z x ≡ t → among x (firsts xs) ≡ among x xs
        → (t || among x (reject (λ y. same_bytes y z) (firsts xs))) ≡ (t || among x xs)
    at true e ih = refl
    at false e ih = among_other x z (firsts xs) e ∙ ih

among-gone : (x : List ℕ) (ys : List (List ℕ)) → among x (reject (λ y. same_bytes y x) ys) ≡ false
among-gone x [] = refl
among-gone x (y ∷ ys) = at (same_bytes y x) refl (among-gone x ys)
  where
    at : (t : Bool) → same_bytes y x ≡ t → among x (reject (λ y. same_bytes y x) ys) ≡ false
        → among x (pick t (reject (λ y. same_bytes y x) ys) (y ∷ reject (λ y. same_bytes y x) ys)) ≡ false
    at true e ih = ih
    at false e ih = ap₂ ◌||◌ e ih

map_same : (xs : List (List ℕ)) → map (λ (y : List ℕ). y) xs ≡ xs
map_same [] = refl
map_same (x ∷ xs) = ap (λ (l : List (List ℕ)). x ∷ l) (map_same xs)

pub distinct-firsts : (xs : List (List ℕ)) → distinct (firsts xs) ≡ true
distinct-firsts [] = refl
distinct-firsts (x ∷ xs) =
    let d : distinct (map (λ (y : List ℕ). y) (firsts xs)) ≡ true = ap distinct (map_same (firsts xs)) ∙ distinct-firsts xs in
    let e : distinct (reject (λ y. same_bytes y x) (firsts xs)) ≡ true =
    ap distinct (sym (map_same (reject (λ y. same_bytes y x) (firsts xs)))) ∙ reject-distinct (λ (y : List ℕ). y) (λ y. same_bytes y x) (firsts xs) d
    in
    ap₂ ◌&&◌ (ap not (among-gone x (firsts xs))) e

names-listed : (f : List ℕ → List Claimant) (xs : List (List ℕ)) → names (map (λ x. listed_by x (f x)) xs) ≡ xs
names-listed f [] = refl
names-listed f (x ∷ xs) = ap (λ (l : List (List ℕ)). x ∷ l) (names-listed f xs)

pub names-ordered : (ss : List State) → names (contest ss) ≡ firsts (links_of ss)
unfolding contest
names-ordered ss = names-listed (λ x. claimants x 1 ss) (firsts (links_of ss))

-- ---- who claims a name

pub among-links : (x : List ℕ) (ss : List State) → among x (links_of ss) ≡ any (claims x) ss
among-links x [] = refl
among-links x (s ∷ ss) = among-append x s.links (links_of ss) ∙ ap (λ (t : Bool). claims x s || t) (among-links x ss)

pub any-claims : (x : List ℕ) (ss : List State) → any (claims x) ss ≡ true → (k : ℕ) × Claims x ss k
any-claims x [] h = let z : ◌≡◌ {A = ℕ} 0 1 = cc in absurd (omega arith)
any-claims x (s ∷ ss) h = at (claims x s) refl h (any-claims x ss)
  where
    at : (t : Bool) → claims x s ≡ t → (t || any (claims x) ss) ≡ true → (any (claims x) ss ≡ true → (k : ℕ) × Claims x ss k) → (k : ℕ) × Claims x (s ∷ ss) k
    at true e h ih = (0, record { state = s; there = refl; claimed = e })
    at false e h ih = let (k, c) = ih h in (suc k, record { state = c.state; there = c.there; claimed = c.claimed })

claims-any : (x : List ℕ) (ss : List State) (k : ℕ) → Claims x ss k → any (claims x) ss ≡ true
claims-any x [] k c = absurd (none-some c.state c.there)
claims-any x (s ∷ ss) zero c =
    let e : claims x s ≡ true = ap (claims x) (same_Some s c.state c.there) ∙ c.claimed in
    ap (λ (t : Bool). t || any (claims x) ss) e
claims-any x (s ∷ ss) (suc k) c =
    ap (λ (t : Bool). claims x s || t) (claims-any x ss k (record { state = c.state; there = c.there; claimed = c.claimed })) ∙ or-true (claims x s)

-- ---- claimants

-- a claimant is a record that claims the name
abbrev IsClaim : List ℕ → ℕ → List State → Claimant → Type 0
IsClaim x n ss c = (k : ℕ) × (h : Claims x ss k) × (c ≡ claimant (n + k) h.state)

later : (x : List ℕ) (n : ℕ) (s : State) (ss : List State) (c : Claimant) → IsClaim x (suc n) ss c → IsClaim x n (s ∷ ss) c
later x n s ss c (k, h, e) =
    (suc k, record { state = h.state; there = h.there; claimed = h.claimed }, e ∙ ap (λ (m : ℕ). claimant m h.state) (omega arith))

claimants_are : (x : List ℕ) (n : ℕ) (ss : List State) → All (IsClaim x n ss) (claimants x n ss)
claimants_are x n [] = tt
claimants_are x n (s ∷ ss) =
    let ih = All-map (IsClaim x (suc n) ss) (IsClaim x n (s ∷ ss)) (later x n s ss) (claimants x (suc n) ss) (claimants_are x (suc n) ss) in
    at (claims x s) refl ih
  where
    at : (t : Bool) → claims x s ≡ t → All (IsClaim x n (s ∷ ss)) (claimants x (suc n) ss)
        → All (IsClaim x n (s ∷ ss)) (pick t (claimant n s ∷ claimants x (suc n) ss) (claimants x (suc n) ss))
    at true e ih = ((0, record { state = s; there = refl; claimed = e }, ap (λ (m : ℕ). claimant m s) (omega arith)), ih)
    at false e ih = ih

-- and each such record is one
pub claimants_hold : (P : Claimant → Type 0) (x : List ℕ) (n : ℕ) (ss : List State) → All P (claimants x n ss) → (k : ℕ) (c : Claims x ss k) → P (claimant (n + k) c.state)
claimants_hold P x n [] h k c = absurd (none-some c.state c.there)
claimants_hold P x n (s ∷ ss) h zero c =
    let w : s ≡ c.state = same_Some s c.state c.there in
    let e : claims x s ≡ true = ap (claims x) w ∙ c.claimed in
    let t : All P (claimant n s ∷ claimants x (suc n) ss) = rw e at h in
    subst P (ap₂ claimant (omega arith) w) t.0
claimants_hold P x n (s ∷ ss) h (suc k) c =
    let t : All P (claimants x (suc n) ss) = rest (claims x s) h in
    subst (λ (m : ℕ). P (claimant m c.state)) (omega arith)
    (claimants_hold P x (suc n) ss t k (record { state = c.state; there = c.there; claimed = c.claimed }))
  where
    rest : (t : Bool) → All P (pick t (claimant n s ∷ claimants x (suc n) ss) (claimants x (suc n) ss)) → All P (claimants x (suc n) ss)
    rest true (_, h) = h
    rest false h = h

claimants_rise : (x : List ℕ) (m n : ℕ) (ss : List State) → m < n → Rising m (claimants x n ss)
claimants_rise x m n [] l = tt
claimants_rise x m n (s ∷ ss) l = at (claims x s) (claimants_rise x n (suc n) ss (omega arith)) (claimants_rise x m (suc n) ss (omega arith))
  where
    at : (t : Bool) → Rising n (claimants x (suc n) ss) → Rising m (claimants x (suc n) ss) → Rising m (pick t (claimant n s ∷ claimants x (suc n) ss) (claimants x (suc n) ss))
    at true h k = (l, h)
    at false h k = k

-- ---- the holder

held_by : (x : List ℕ) (ss : List State) (k : ℕ) → Claims x ss k → (cs : List Claimant) → claimants x 1 ss ≡ cs → Held ss (listed_by x cs)
held_by x ss k c [] e = absurd (claimants_hold (λ _. ⊥) x 1 ss (subst (All (λ (_ : Claimant). ⊥)) (sym e) tt) k c)
held_by x ss k c (d ∷ ds) e =
    let (are, ares) = subst (All (IsClaim x 1 ss)) e (claimants_are x 1 ss) in
    let (i, h, q) = highest-is (IsClaim x 1 ss) d ds are ares in
    let rise : Rising 0 (d ∷ ds) = subst (Rising 0) e (claimants_rise x 0 1 ss (omega arith)) in
    let top : All (Below (highest d ds)) (d ∷ ds) = highest_top d ds rise.1 in
    let below = claimants_hold (Below (highest d ds)) x 1 ss (subst (All (Below (highest d ds))) (sym e) top) in
    let p : (highest d ds).priority ≡ rank h.state = ap (λ (c : Claimant). c.priority) q in
    let n : (highest d ds).position ≡ suc i = ap (λ (c : Claimant). c.position) q ∙ omega arith in
    record {
      place = i;
      position = n;
      holder = h;
      highest = λ k c. rw p at (below k c).0;
      earliest = λ k c l. rw p at ((below k c).1 (omega arith));
      others = ap (λ (cs : List Claimant). reject (λ p. eqb p (highest d ds).position) (positions cs)) (sym e);
    }

all_held : (ss : List State) (xs : List (List ℕ)) → All (λ (x : List ℕ). any (claims x) ss ≡ true) xs → All (Held ss) (map (λ x. listed_by x (claimants x 1 ss)) xs)
all_held ss [] h = tt
all_held ss (x ∷ xs) (h, hs) = let (k, c) = any-claims x ss h in (held_by x ss k c (claimants x 1 ss) refl, all_held ss xs hs)

-- each name that stands in a list is among it
pub all_among : (xs : List (List ℕ)) → All (λ (x : List ℕ). among x xs ≡ true) xs
all_among [] = tt
all_among (x ∷ xs) = (
  ap (λ (t : Bool). t || among x xs) (same_refl x),
  All-map (λ (y : List ℕ). among y xs ≡ true) (λ (y : List ℕ). among y (x ∷ xs) ≡ true)
      (λ y h. ap (λ (t : Bool). same_bytes x y || t) h ∙ or-true (same_bytes x y)) xs (all_among xs),
)

pub listed-any : (x : List ℕ) (ss : List State) → among x (firsts (links_of ss)) ≡ any (claims x) ss
listed-any x ss = among-firsts x (links_of ss) ∙ among-links x ss

-- document 02, Item 7, of any records
pub contested : (ss : List State) → Contested ss (contest ss)
contested ss =
    record {
      listed = λ x. (λ h. any-claims x ss (sym (is x) ∙ h), λ (k, c). is x ∙ claims-any x ss k c);
      once = ap distinct (names-ordered ss) ∙ distinct-firsts (links_of ss);
      ordered = names-ordered ss;
      held = unfold contest in
          all_held ss (firsts (links_of ss))
          (All-map (λ (x : List ℕ). among x (firsts (links_of ss)) ≡ true) (λ (x : List ℕ). any (claims x) ss ≡ true)
          (λ x h. sym (listed-any x ss) ∙ h) (firsts (links_of ss)) (all_among (firsts (links_of ss))));
    }
  where
    is : (x : List ℕ) → among x (names (contest ss)) ≡ any (claims x) ss
    is x = ap (among x) (names-ordered ss) ∙ listed-any x ss
