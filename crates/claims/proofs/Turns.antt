-- Turns of the walks over the records of a set.
-- Assumes nothing.
use Prim.Native.Nat.{ℕ, suc, ◌+◌, ◌-◌, ◌≤◌, ◌<◌}
use mathlib.Core.Path.{◌≡◌, refl, sym, ap, ap₂, ◌∙◌, subst}
use mathlib.Core.Bool.{Bool, true, false, ◌||◌}
use Rattle.std.specs.Prelude.{Some, None}
use mathlib.Core.List.{List, [], ◌∷◌, ◌++◌, append_assoc, append-nil}
use native.Mathlib.Omega.{arith}
use native.Mathlib.Numerals.{add-one}
use lib.ListN.{length, take, drop, set, drop_of_length-le}
use lib.Seq.{take-suc-set}
use lib.IntN.{ℤ}
use lib.Signed.{lt_z}
use Rattle.std.specs.Option.{is_some}
use Rattle.lists.specs.Lists.{pick, any}
use Rattle.lists.proofs.Lists.{pick_both}
use Rattle.outcome.specs.State.{State}
use Rattle.contest.specs.Contest.{claims, rank, Claimant, claimant, claimants, positions, higher, highest}
use Rattle.claims.specs.Records.{states_in, Standing, StandsAt}
use Rattle.claims.specs.Claims.{ClaimIs}
use Rattle.claims.specs.declared.Claim.{Claim}
use Rattle.claims.proofs.Records.{next_of}

-- ---- a priority that is given or not

pub picked-some : (t : Bool) (z : ℤ) → is_some (pick t (Some z) None) ≡ t
picked-some true z = refl
picked-some false z = refl

picked-made : (t : Bool) (y z : ℤ) → pick t (Some y) None ≡ Some z → (t ≡ true) × (y ≡ z)
picked-made true y z e = let same : y ≡ z = cc in (refl, same)
picked-made false y z e = let none : ◌≡◌ {A = ℕ} 0 1 = cc in absurd (omega arith)

-- ---- a turn

module _ (lent : List ℕ) (q i : ℕ) (w : Standing lent q (drop i (states_in lent))) (h : i < length (states_in lent)) where
  abbrev state : State
  state = (next_of (states_in lent) i h).0

  splits : drop i (states_in lent) ≡ state ∷ drop (suc i) (states_in lent)
  splits = (next_of (states_in lent) i h).1

  at_state : Standing lent q (state ∷ drop (suc i) (states_in lent))
  at_state = subst (Standing lent q) splits w

  pub next_stands : StandsAt lent q
  next_stands = (state, drop (suc i) (states_in lent), at_state)

  module _ (x : List ℕ) (r : Claim) (f : (s : State) (ss : List State) → Standing lent q (s ∷ ss) → ClaimIs lent x s ss r) where
    is : ClaimIs lent x state (drop (suc i) (states_in lent)) r
    is = f state (drop (suc i) (states_in lent)) at_state

    pub next-standing : Standing lent r.end (drop (i + 1) (states_in lent))
    next-standing = subst (λ (n : ℕ). Standing lent r.end (drop n (states_in lent))) (sym (add-one i)) is.others

    made : is_some r.priority ≡ claims x state
    made = ap is_some is.priority ∙ picked-some (claims x state) (rank state)

    -- of n records, whether one claims the name
    pub any-turn : (n : ℕ) → i < n → any (claims x) (take (n - i) (drop i (states_in lent))) ≡ (is_some r.priority || any (claims x) (take (n - (i + 1)) (drop (i + 1) (states_in lent))))
    any-turn n l =
        ap₂ (λ (m : ℕ) (ss : List State). any (claims x) (take m ss)) counted splits
        ∙ ap₂ (λ (t : Bool) (m : ℕ). t || any (claims x) (take (n - (i + 1)) (drop m (states_in lent)))) (sym made) (sym (add-one i))
      where
        counted : n - i ≡ suc (n - (i + 1))
        counted = omega arith

    -- who claims it
    abbrev rest : ℕ → List Claimant
    rest m = claimants x (suc m) (drop m (states_in lent))

    claimants-turn : claimants x (suc i) (drop i (states_in lent)) ≡ pick (claims x state) (claimant (suc i) state ∷ rest (suc i)) (rest (suc i))
    claimants-turn = ap (claimants x (suc i)) splits

    pub missed-turn : is_some r.priority ≡ false → claimants x (suc i) (drop i (states_in lent)) ≡ rest (i + 1)
    missed-turn e =
        claimants-turn
        ∙ ap (λ (t : Bool). pick t (claimant (suc i) state ∷ rest (suc i)) (rest (suc i))) (sym made ∙ e)
        ∙ ap rest (sym (add-one i))

    pub made-turn : (z : ℤ) → r.priority ≡ Some z → claimants x (suc i) (drop i (states_in lent)) ≡ record { position = i + 1; priority = z } ∷ rest (i + 1)
    made-turn z e =
        let (t, k) = picked-made (claims x state) (rank state) z (sym is.priority ∙ e) in
        let same : claimant (suc i) state ≡ record { position = i + 1; priority = z } = λ j. record { position = sym (add-one i) j; priority = k j } in
        claimants-turn
        ∙ ap (λ (t : Bool). pick t (claimant (suc i) state ∷ rest (suc i)) (rest (suc i))) t
        ∙ ap₂ (λ (c : Claimant) (m : ℕ). c ∷ rest m) same (sym (add-one i))

-- ---- the walk that finds the holder

abbrev others : List ℕ → List ℕ → ℕ → List Claimant
others lent x i = claimants x (suc i) (drop i (states_in lent))

-- so far: those that claim the name, and the highest of them
pub record Seen (lent x : List ℕ) (c : Claimant) (list : List ℕ) (top : Claimant) (q i count n : ℕ) : Type 0 where
  pub standing : Standing lent q (drop i (states_in lent))
  pub upto : i ≤ n
  pub few : count ≤ i
  pub low : top.position ≤ i
  pub listed : take count list ++ positions (others lent x i) ≡ positions (c ∷ others lent x c.position)
  pub highest-is : highest top (others lent x i) ≡ highest c (others lent x c.position)

pub seen_as : {lent x : List ℕ} {c : Claimant} {list list' : List ℕ} {top top' : Claimant} {q i count count' n : ℕ} → list' ≡ list → top' ≡ top → count' ≡ count
    → Seen lent x c list top q i count n → Seen lent x c list' top' q i count' n
seen_as a b d w = rw (a, b, d) w

module _ (lent x : List ℕ) (c : Claimant) (n : ℕ) where
  pub seen_first : (list list' : List ℕ) (q v : ℕ) → 0 < c.position → c.position ≤ n → Standing lent q (drop c.position (states_in lent)) → 0 < length list → v ≡ c.position
      → list' ≡ set list 0 v → Seen lent x c list' c q c.position 1 n
  seen_first list list' q v some upto w h e l =
      let first : take 1 list' ≡ c.position ∷ [] = ap (take 1) l ∙ take-suc-set list 0 v h ∙ ap (λ (m : ℕ). m ∷ []) e in
      record {
        standing = w;
        upto = upto;
        few = some;
        low = omega arith;
        listed = ap (λ (l : List ℕ). l ++ positions (others lent x c.position)) first;
        highest-is = refl;
      }

  module _ (list : List ℕ) (top : Claimant) (q i count : ℕ) (w : Seen lent x c list top q i count n) (h : i < length (states_in lent)) (l : i < n)
      (r : Claim) (f : (s : State) (ss : List State) → Standing lent q (s ∷ ss) → ClaimIs lent x s ss r) where
    onward : Standing lent r.end (drop (i + 1) (states_in lent))
    onward = next-standing lent q i w.standing h x r f

    pub seen_missed : is_some r.priority ≡ false → Seen lent x c list top r.end (i + 1) count n
    seen_missed e =
        let same : others lent x i ≡ others lent x (i + 1) = missed-turn lent q i w.standing h x r f e in
        record {
          standing = onward;
          upto = omega arith;
          few = omega (arith, w.few);
          low = omega (arith, w.low);
          listed = ap (λ (cs : List Claimant). take count list ++ positions cs) (sym same) ∙ w.listed;
          highest-is = ap (highest top) (sym same) ∙ w.highest-is;
        }

    pub seen-made : (list' : List ℕ) (v : ℕ) (top' : Claimant) (z : ℤ) → r.priority ≡ Some z → count < length list → v ≡ i + 1 → list' ≡ set list count v
        → top' ≡ higher top (record { position = i + 1; priority = z }) → Seen lent x c list' top' r.end (i + 1) (count + 1) n
    seen-made list' v top' z e k u g t =
        let here : Claimant = record { position = i + 1; priority = z } in
        let same : others lent x i ≡ here ∷ others lent x (i + 1) = made-turn lent q i w.standing h x r f z e in
        let grown : take (count + 1) list' ≡ take count list ++ ((i + 1) ∷ []) =
        ap₂ (λ (m : ℕ) (l : List ℕ). take m l) (add-one count) g ∙ take-suc-set list count v k ∙ ap (λ (m : ℕ). take count list ++ (m ∷ [])) u
        in
        record {
          standing = onward;
          upto = omega arith;
          few = omega (arith, w.few);
          low = subst (λ (d : Claimant). d.position ≤ i + 1) (sym t) (pick_both (λ (d : Claimant). d.position ≤ i + 1) (lt_z top.priority z) here top (omega arith) (omega (arith, w.low)));
          listed = ap (λ (l : List ℕ). l ++ positions (others lent x (i + 1))) grown
              ∙ append_assoc (take count list) ((i + 1) ∷ []) (positions (others lent x (i + 1)))
              ∙ ap (λ (cs : List Claimant). take count list ++ positions cs) (sym same)
              ∙ w.listed;
          highest-is = ap (λ (d : Claimant). highest d (others lent x (i + 1))) t ∙ ap (highest top) (sym same) ∙ w.highest-is;
        }

  pub seen_all : (list : List ℕ) (top : Claimant) (q i count : ℕ) → Seen lent x c list top q i count n → length (states_in lent) ≤ i
      → (top ≡ highest c (others lent x c.position)) × (take count list ≡ positions (c ∷ others lent x c.position))
  seen_all list top q i count w h =
      let none : others lent x i ≡ [] = ap (claimants x (suc i)) (drop_of_length-le (states_in lent) h) in (
        ap (highest top) (sym none) ∙ w.highest-is,
        sym (append-nil (take count list)) ∙ ap (λ (cs : List Claimant). take count list ++ positions cs) (sym none) ∙ w.listed,
      )
