-- There are pieces for every list of cuts: a text cut behind newlines of given numbers, each of which joins nothing, has pieces that join to it
-- and are cut there.
-- Assumes nothing.
use Prim.Native.Nat.{ℕ, zero, suc, ◌+◌, ◌-◌, ◌≤◌, ◌<◌}
use mathlib.Core.Path.{◌≡◌, refl, sym, ◌∙◌, ap, subst}
use mathlib.Core.Logic.{◌⊎◌, inl, inr}
use mathlib.Core.Bool.{Bool, true, false}
use mathlib.Core.List.{List, [], ◌∷◌, ◌++◌, append-nil}
use native.Mathlib.Omega.{arith}
use lib.Dec.{eqb}
use lib.ListN.{length, length-append}
use Rattle.lists.specs.Lists.{All}
use Rattle.text.specs.Lines.{Stage, blank, is_slash, next, stage_of, newlines, one_more}
use Rattle.text.specs.Joined.{join, EndsWhole, Cuttable, cuts}
use Rattle.text.proofs.Lines.{stage_append, ended-blank}

abbrev pub less_one : Bool → ℕ → ℕ
less_one true k = k
less_one false k = suc k

-- a text up to and with its k-th newline, and what follows that
unfoldable pub up_to : ℕ → List ℕ → List ℕ
up_to k [] = []
up_to zero (b ∷ bs) = []
up_to (suc k) (b ∷ bs) = b ∷ up_to (less_one (eqb b 10) k) bs

unfoldable pub beyond : ℕ → List ℕ → List ℕ
beyond k [] = []
beyond zero (b ∷ bs) = b ∷ bs
beyond (suc k) (b ∷ bs) = beyond (less_one (eqb b 10) k) bs

-- a text cut after its newlines of these numbers, of which n stand before it
unfoldable pub pieces : ℕ → List ℕ → List ℕ → List (List ℕ)
pieces n [] t = t ∷ []
pieces n (c ∷ cs) t = up_to (c - n) t ∷ pieces c cs (beyond (c - n) t)

-- the numbers rise from n to at most m
abbrev pub Rising : ℕ → ℕ → List ℕ → Type 0
Rising n m [] = Unit {0}
Rising n m (c ∷ cs) = (n < c) × (c ≤ m) × Rising c m cs

pub up_to-beyond : (k : ℕ) (t : List ℕ) → up_to k t ++ beyond k t ≡ t
unfolding up_to beyond
up_to-beyond k [] = refl
up_to-beyond zero (b ∷ bs) = refl
up_to-beyond (suc k) (b ∷ bs) = ap (λ (l : List ℕ). b ∷ l) (up_to-beyond (less_one (eqb b 10) k) bs)

-- what stands up to a newline, and what behind it
record Cut (k : ℕ) (t : List ℕ) : Type 0 where
  before : newlines (up_to k t) ≡ k
  after : k + newlines (beyond k t) ≡ newlines t

cut_step : (x : Bool) (k : ℕ) (bs : List ℕ) → Cut (less_one x k) bs
    → (one_more x (newlines (up_to (less_one x k) bs)) ≡ suc k) × (suc k + newlines (beyond (less_one x k) bs) ≡ one_more x (newlines bs))
cut_step true k bs h = (omega (arith, h.before), omega (arith, h.after))
cut_step false k bs h = (h.before, h.after)

below : (x : Bool) (k m : ℕ) → suc k ≤ one_more x m → less_one x k ≤ m
below true k m l = omega arith
below false k m l = l

cut : (k : ℕ) (t : List ℕ) → k ≤ newlines t → Cut k t
unfolding up_to beyond newlines
cut k [] h = record { before = omega arith; after = omega arith }
cut zero (b ∷ bs) h = record { before = refl; after = omega arith }
cut (suc k) (b ∷ bs) h =
    let s = cut_step (eqb b 10) k bs (cut (less_one (eqb b 10) k) bs (below (eqb b 10) k (newlines bs) h)) in
    record { before = s.0; after = s.1 }

less_add : (x : Bool) (k m : ℕ) → less_one x (k + m) ≡ less_one x k + m
less_add true k m = refl
less_add false k m = omega arith

-- up to a newline, and on to a later one
up_to-add : (k m : ℕ) (t : List ℕ) → up_to (k + m) t ≡ up_to k t ++ up_to m (beyond k t)
unfolding up_to beyond
up_to-add k m [] = refl
up_to-add zero m (b ∷ bs) = let e : 0 + m ≡ m = omega arith in rw e
up_to-add (suc k) m (b ∷ bs) =
    let e : suc k + m ≡ suc (k + m) = omega arith in
    rw e (ap (λ (l : List ℕ). b ∷ l) (ap (λ (n : ℕ). up_to n bs) (less_add (eqb b 10) k m) ∙ up_to-add (less_one (eqb b 10) k) m bs))

-- ---- ends that join nothing

-- of bytes that follow others, which left the line in stage s
abbrev EndsFrom : Stage → List ℕ → Type 0
EndsFrom s t = (t ≡ []) ⊎ ((u : List ℕ) × (t ≡ u ++ (10 ∷ [])) × (is_slash (stage_of s u) ≡ false))

ends_tail : (s : Stage) (b c : ℕ) (t : List ℕ) → EndsFrom s (b ∷ c ∷ t) → EndsFrom (next s b) (c ∷ t)
unfolding stage_of
ends_tail s b c t (inl e) = absurd (omega (arith, ap length e))
ends_tail s b c t (inr ([], e, j)) = absurd (omega (arith, ap length e))
ends_tail s b c t (inr (d ∷ u, e, j)) =
    let f : b ≡ d = cc in
    inr (u, cc, rw f j)

ends-drop : (s : Stage) (p q : List ℕ) → EndsFrom s (p ++ q) → EndsFrom (stage_of s p) q
unfolding stage_of
ends-drop s [] q h = h
ends-drop s (b ∷ p) [] h = inl refl
ends-drop s (b ∷ []) (c ∷ q) h = ends_tail s b c q h
ends-drop s (b ∷ d ∷ p) (c ∷ q) h = ends-drop (next s b) (d ∷ p) (c ∷ q) (ends_tail s b d (p ++ (c ∷ q)) h)

-- behind such an end a line begins
ends_stage : (p : List ℕ) → EndsWhole p → stage_of blank p ≡ blank
unfolding stage_of
ends_stage p (inl e) = rw e
ends_stage p (inr (u, e, j)) = rw (e, stage_append blank u (10 ∷ [])) (ended-blank (stage_of blank u) 10 refl j)

ends-later : (k m : ℕ) (t : List ℕ) → EndsWhole (up_to k t) → EndsWhole (up_to (k + m) t) → EndsWhole (up_to m (beyond k t))
ends-later k m t h g =
    subst (λ (s : Stage). EndsFrom s (up_to m (beyond k t))) (ends_stage (up_to k t) h)
    (ends-drop blank (up_to k t) (up_to m (beyond k t)) (rw (up_to-add k m t) at g))

-- the newlines of these numbers join nothing
abbrev pub Stand : ℕ → List ℕ → List ℕ → Type 0
Stand n cs t = All (λ (c : ℕ). EndsWhole (up_to (c - n) t)) cs

stand_later : (n c d m : ℕ) (cs t : List ℕ) → n < c → c ≤ d → EndsWhole (up_to (c - n) t) → Rising d m cs → Stand n cs t → Stand c cs (beyond (c - n) t)
stand_later n c d m [] t h k e r s = tt
stand_later n c d m (x ∷ cs) t h k e (l, u, r) (s, ss) =
    let q : x - n ≡ (c - n) + (x - c) = omega arith in
    (ends-later (c - n) (x - c) t e (subst (λ (z : ℕ). EndsWhole (up_to z t)) q s), stand_later n c x m cs t h (omega arith) e r ss)

joinable_cons : (p : List ℕ) (ps : List (List ℕ)) → EndsWhole p → Cuttable ps → Cuttable (p ∷ ps)
joinable_cons p [] e j = tt
joinable_cons p (q ∷ ps) e j = (e, j)

cuts-cons : (n : ℕ) (p : List ℕ) (ps : List (List ℕ)) → Cuttable ps → cuts n (p ∷ ps) ≡ (n + newlines p) ∷ cuts (n + newlines p) ps
cuts-cons n p [] j = absurd j
cuts-cons n p (q ∷ ps) j = refl

pub record Pieces (n : ℕ) (cs t : List ℕ) : Type 0 where
  pub cuttable : Cuttable (pieces n cs t)
  pub joined : join (pieces n cs t) ≡ t
  pub cut_there : cuts n (pieces n cs t) ≡ cs

pub cut_pieces : (cs : List ℕ) (n : ℕ) (t : List ℕ) → Rising n (n + newlines t) cs → Stand n cs t → Pieces n cs t
unfolding pieces join
cut_pieces [] n t h e = record { cuttable = tt; joined = append-nil t; cut_there = refl }
cut_pieces (c ∷ cs) n t (l, m, h) (e, es) =
    let k = cut (c - n) t (omega arith) in
    let rest = cut_pieces cs c (beyond (c - n) t) (subst (λ (z : ℕ). Rising c z cs) (omega (arith, k.after)) h) (stand_later n c c (n + newlines t) cs t l (omega arith) e h es) in
    let q : n + newlines (up_to (c - n) t) ≡ c = omega (arith, k.before) in
    record {
      cuttable = joinable_cons (up_to (c - n) t) (pieces c cs (beyond (c - n) t)) e rest.cuttable;
      joined = rw rest.joined (up_to-beyond (c - n) t);
      cut_there = cuts-cons n (up_to (c - n) t) (pieces c cs (beyond (c - n) t)) rest.cuttable ∙ rw (q, rest.cut_there);
    }
