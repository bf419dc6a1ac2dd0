-- One row of the list, byte by byte.
-- Assumes nothing.
use Prim.Native.Nat.{ℕ, suc, ◌+◌, ◌-◌, ◌≤◌, ◌<◌}
use mathlib.Core.Path.{◌≡◌, refl, sym, ap, ap₂, ◌∙◌}
use mathlib.Core.Bool.{Bool, true, false}
use mathlib.Core.List.{List, [], ◌∷◌, ◌++◌, append_assoc, append-nil}
use native.Mathlib.Omega.{arith}
use native.Mathlib.Numerals.{add-one}
use lib.Dec.{eqb}
use lib.ListN.{length, take, drop, get_or, set, length-append, take-append-drop}
use lib.Seq.{take-suc, drop-cons, take_all}
use Rattle.lists.specs.Lists.{pick, reject}
use Rattle.lists.proofs.Moves.{ap_at}
use Rattle.splice.specs.Moves.{stored}
use Rattle.splice.proofs.Laws.{set-stored, length-stored, stored-stored, stored_over}
use Rattle.contest.specs.Operation.{enc_listed}
use Rattle.contest.proofs.Steps.{reject-append}
use Rattle.holders.specs.Lists.{row_by}

-- ---- the others

abbrev pub but : ℕ → List ℕ → List ℕ
but h ps = reject (λ p. eqb p h) ps

module _ (h : ℕ) (ps : List ℕ) (k : ℕ) (l : k < length ps) where
  one : take (k + 1) ps ≡ take k ps ++ (get_or ps k 0 ∷ [])
  one = ap_at (λ i. take i ps) (k + 1) (suc k) (omega arith) ∙ take-suc ps k 0 l

  split : but h (take (k + 1) ps) ≡ but h (take k ps) ++ but h (get_or ps k 0 ∷ [])
  split = ap (but h) one ∙ reject-append (λ p. eqb p h) (take k ps) (get_or ps k 0 ∷ [])

  pub but_holder : eqb (get_or ps k 0) h ≡ true → but h (take (k + 1) ps) ≡ but h (take k ps)
  but_holder e = split ∙ ap (λ (t : Bool). but h (take k ps) ++ pick t [] (get_or ps k 0 ∷ [])) e ∙ append-nil (but h (take k ps))

  pub but_other : eqb (get_or ps k 0) h ≡ false → but h (take (k + 1) ps) ≡ but h (take k ps) ++ (get_or ps k 0 ∷ [])
  but_other e = split ∙ ap (λ (t : Bool). but h (take k ps) ++ pick t [] (get_or ps k 0 ∷ [])) e

  -- there is room for it
  pub but_room : eqb (get_or ps k 0) h ≡ false → length (but h (take k ps)) < length (but h ps)
  but_room e =
      let whole : but h ps ≡ but h (take (k + 1) ps) ++ but h (drop (k + 1) ps) =
      ap (but h) (sym (take-append-drop (k + 1) ps)) ∙ reject-append (λ p. eqb p h) (take (k + 1) ps) (drop (k + 1) ps)
      in
      let grown : length (but h (take (k + 1) ps)) ≡ length (but h (take k ps)) + 1 = ap length (but_other e) ∙ length-append (but h (take k ps)) (get_or ps k 0 ∷ []) in
      omega (arith, ap length whole, length-append (but h (take (k + 1) ps)) (but h (drop (k + 1) ps)), grown)

pub but-all : (h : ℕ) (ps : List ℕ) (k : ℕ) → k ≤ length ps → length ps ≤ k → but h (take k ps) ≡ but h ps
but-all h ps k a b = ap (but h) (ap_at (λ i. take i ps) k (length ps) (omega arith) ∙ take_all (length ps) ps (omega arith))

pub stored-none : (t : List ℕ) (at : ℕ) → t ≡ stored t at []
stored-none t at = sym (take-append-drop at t) ∙ ap (λ (i : ℕ). take at t ++ drop i t) same
  where
    same : at ≡ at + 0
    same = omega arith

-- one byte more behind those that were stored
pub put_one : (t₀ t x : List ℕ) (at end v : ℕ) → t ≡ stored t₀ at x → end ≡ at + length x → end < length t₀ → set t end v ≡ stored t₀ at (x ++ (v ∷ []))
put_one t₀ t x at end v e f l =
    let fits : at + length x ≤ length t₀ = omega arith in
    let size : length t ≡ length t₀ = ap length e ∙ length-stored t₀ at x fits in
    set-stored t end v (omega arith)
    ∙ ap₂ (λ (u : List ℕ) (i : ℕ). stored u i (v ∷ [])) e f
    ∙ stored-stored t₀ at x (v ∷ []) (omega arith)

-- ---- the row

-- what comes before is stored last
pub stored-before : (t x y : List ℕ) (at : ℕ) → at + length x + length y ≤ length t → stored (stored t (at + length x) y) at x ≡ stored t at (x ++ y)
stored-before t x y at h =
    stored_over t at x (omega arith) (y ++ drop (at + length x + length y) t)
    ∙ ap (λ (u : List ℕ). take at t ++ u) (sym (append_assoc x y (drop (at + length x + length y) t)))
    ∙ ap (λ (i : ℕ). take at t ++ ((x ++ y) ++ drop i t)) size
  where
    size : at + length x + length y ≡ at + length (x ++ y)
    size = omega (arith, length-append x y)

pub row-size : (x : List ℕ) (holder : ℕ) (ps : List ℕ) → length (enc_listed (row_by x holder ps)) ≡ 3 + length x + length (but holder ps)
row-size x holder ps = omega (arith, length-append x (but holder ps))

-- the three stores of a row: the name, the others behind it, the head
module _ (t t₁ t₂ t₃ : List ℕ) (at holder : ℕ) (x ps : List ℕ) where
  pub record Stores : Type 0 where
    pub room : at + length (enc_listed (row_by x holder ps)) ≤ length t
    pub named : t₁ ≡ stored t (at + 3) x
    pub others : t₂ ≡ stored t₁ (at + 3 + length x) (but holder ps)
    pub headed : t₃ ≡ stored t₂ at (length x ∷ holder ∷ length (but holder ps) ∷ [])

  pub row-stored : Stores → t₃ ≡ stored t at (enc_listed (row_by x holder ps))
  row-stored w =
      let head : List ℕ = length x ∷ holder ∷ length (but holder ps) ∷ [] in
      let both : t₂ ≡ stored t (at + 3) (x ++ but holder ps) =
      w.others ∙ ap (λ (u : List ℕ). stored u (at + 3 + length x) (but holder ps)) w.named ∙ stored-stored t (at + 3) x (but holder ps) (omega (arith, w.room, row-size x holder ps))
      in
      w.headed ∙ ap (λ (u : List ℕ). stored u at head) both ∙ stored-before t head (x ++ but holder ps) at (omega (arith, w.room, row-size x holder ps, length-append x (but holder ps)))
