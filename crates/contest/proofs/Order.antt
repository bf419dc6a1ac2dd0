-- The order of signed numbers, and the highest claimant.
-- Assumes nothing.
use Prim.Native.Nat.{ℕ, ◌<◌}
use mathlib.Core.Path.{◌≡◌, refl}
use mathlib.Core.Bool.{Bool, true, false}
use mathlib.Core.List.{List, [], ◌∷◌}
use native.Mathlib.Omega.{arith}
use lib.Dec.{T, ltb→lt, le→leb}
use lib.IntN.{ℤ, pos, negsuc}
use lib.Signed.{lt_z, ◌≤ℤ◌, ◌<ℤ◌, le_z_yes, lt_z_yes, lt_z_no, ≤ℤ_refl, <ℤ-≤ℤ_trans, clash_ℤ}
use Rattle.lists.specs.Lists.{pick, All}
use Rattle.lists.proofs.Lists.{pick_both}
use Rattle.contest.specs.Contest.{Claimant, higher, highest}

-- ---- the order

pub lt-le : {a b : ℤ} → a <ℤ b → a ≤ℤ b
lt-le {a} {b} h = at a b h.lt
  where
    at : (a b : ℤ) → T (lt_z a b) → a ≤ℤ b
    at (pos a) (pos b) t = let l = ltb→lt a b t in le_z_yes (le→leb a b (omega arith))
    at (pos a) (negsuc b) t = absurd t
    at (negsuc a) (pos b) t = le_z_yes tt
    at (negsuc a) (negsuc b) t = let l = ltb→lt b a t in le_z_yes (le→leb b a (omega arith))

pub le_trans : {a b c : ℤ} → a ≤ℤ b → b ≤ℤ c → a ≤ℤ c
le_trans {a} {b} {c} h k = at (lt_z c a) refl
  where
    at : (t : Bool) → lt_z c a ≡ t → a ≤ℤ c
    at true e = clash_ℤ (<ℤ-≤ℤ_trans (lt_z_yes (rw e tt)) h) k
    at false e = lt_z_no (rw e tt)

pub le-lt : {a b c : ℤ} → a ≤ℤ b → b <ℤ c → a <ℤ c
le-lt {a} {b} {c} h k = at (lt_z a c) refl
  where
    at : (t : Bool) → lt_z a c ≡ t → a <ℤ c
    at true e = lt_z_yes (rw e tt)
    at false e = clash_ℤ k (le_trans (lt_z_no (rw e tt)) h)

-- ---- the highest claimant

-- what holds of all claimants holds of it
pub highest-is : (P : Claimant → Type 0) (c : Claimant) (ds : List Claimant) → P c → All P ds → P (highest c ds)
highest-is P c [] h k = h
highest-is P c (d ∷ ds) h (k, ks) = highest-is P (higher c d) ds (pick_both P (lt_z c.priority d.priority) d c k h) ks

-- a claimant does not outrank another, and equals it only if it comes later
abbrev pub Below : Claimant → Claimant → Type 0
Below b c = (c.priority ≤ℤ b.priority) × (c.position < b.position → c.priority <ℤ b.priority)

-- positions rise
abbrev pub Rising : ℕ → List Claimant → Type 0
Rising n [] = Unit {0}
Rising n (c ∷ cs) = (n < c.position) × Rising c.position cs

rising-from : (m n : ℕ) (ds : List Claimant) → m < n → Rising n ds → Rising m ds
rising-from m n [] l h = tt
rising-from m n (d ∷ ds) l (k, h) = (omega arith, h)

pub highest_top : (c : Claimant) (ds : List Claimant) → Rising c.position ds → Below (highest c ds) c × All (Below (highest c ds)) ds
highest_top c [] h = ((≤ℤ_refl c.priority, λ (l : c.position < c.position). absurd (omega arith)), tt)
highest_top c (d ∷ ds) (l, h) = at (lt_z c.priority d.priority) refl (λ c' h'. highest_top c' ds h')
  where
    at : (t : Bool) → lt_z c.priority d.priority ≡ t
        → ((c' : Claimant) → Rising c'.position ds → Below (highest c' ds) c' × All (Below (highest c' ds)) ds)
        → Below (highest (pick t d c) ds) c × All (Below (highest (pick t d c) ds)) (d ∷ ds)
    at true e ih =
        let ((a, f), r) = ih d h in
        let less : c.priority <ℤ (highest d ds).priority = <ℤ-≤ℤ_trans (lt_z_yes (rw e tt)) a in
        ((lt-le less, λ _. less), ((a, f), r))
    at false e ih =
        let ((a, f), r) = ih c (rising-from c.position d.position ds l h) in
        let below : d.priority ≤ℤ c.priority = lt_z_no (rw e tt) in
        ((a, f), ((le_trans below a, λ (m : d.position < (highest c ds).position). le-lt below (f (omega arith))), r))
