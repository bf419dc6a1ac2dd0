-- Heads written field by field, and entries written into a gap part by part.
-- Assumes nothing.
use Prim.Native.Nat.{ℕ, suc, ◌+◌, ◌-◌, ◌*◌, ◌≤◌, ◌<◌}
use mathlib.Core.Path.{◌≡◌, refl, sym, ap, ap₂, ◌∙◌}
use mathlib.Core.List.{List, [], ◌∷◌, ◌++◌, append_assoc, append-nil}
use native.Mathlib.Omega.{arith}
use lib.ListN.{length, get_or, take, drop, set, length-append, length-set, length-take, length-drop}
use lib.Seq.{drop-drop}
use Rattle.lists.specs.Bytes.{Bytes, part}
use Rattle.lists.proofs.Moves.{ap_at}
use Rattle.bits.specs.Bits.{put_at}
use Rattle.bits.specs.Fields.{Field, width, packed, fields_at}
use Rattle.bits.proofs.Fields.{length-packed}
use Rattle.splice.specs.Moves.{stored, opened, inserted}
use Rattle.splice.proofs.Laws.{set-stored, stored-stored, stored-opened, length-stored}
use Rattle.entries.specs.Entry.{enc_text, prop_fields}
use Rattle.entries.proofs.Heads.{with_number, place_of, width_of, head_back, head_put}
use Rattle.row_edits.specs.Edits.{run_bits}

-- ---- heads

-- one field of a head written
field-written : (fs : List Field) (i v k : ℕ) → i < length fs → width fs ≡ 8 * k → put_at (packed fs) (place_of i fs) (width_of i fs) v ≡ packed (with_number i v fs)
field-written fs i v k h w =
    ap (λ (x : List ℕ). put_at x (place_of i fs) (width_of i fs) v) (sym (append-nil (packed fs)))
    ∙ head_put fs i v k [] h w (λ j. omega arith)
    ∙ append-nil (packed (with_number i v fs))

pub property_head : (s s₁ s₂ : List ℕ) (at k v : ℕ) → length s ≡ 2 → Bytes s → s₁ ≡ put_at s 0 7 k → at ≡ 7 → s₂ ≡ put_at s₁ at 9 v → s₂ ≡ packed (prop_fields k v)
property_head s s₁ s₂ at k v l b e p f =
    let fs : List Field = fields_at s 0 (7 ∷ 9 ∷ []) in
    let e₁ : s₁ ≡ packed (with_number 0 k fs) = e ∙ ap (λ (x : List ℕ). put_at x 0 7 k) (sym (head_back s (7 ∷ 9 ∷ []) 2 refl l b)) ∙ field-written fs 0 k 2 (omega arith) refl in
    f ∙ ap₂ (λ (x : List ℕ) (i : ℕ). put_at x i 9 v) e₁ p ∙ field-written (with_number 0 k fs) 1 v 2 (omega arith) refl

pub run_head : (s s₁ s₂ s₃ s₄ : List ℕ) (p₁ p₂ p₃ b p k : ℕ) → length s ≡ 2 → Bytes s
    → s₁ ≡ put_at s 0 1 b → p₁ ≡ 1 → s₂ ≡ put_at s₁ p₁ 5 p → p₂ ≡ 6 → s₃ ≡ put_at s₂ p₂ 9 k → p₃ ≡ 15 → s₄ ≡ put_at s₃ p₃ 1 0 → s₄ ≡ packed (run_bits b p k)
run_head s s₁ s₂ s₃ s₄ p₁ p₂ p₃ b p k l y e₁ q₁ e₂ q₂ e₃ q₃ e₄ =
    let fs : List Field = fields_at s 0 (1 ∷ 5 ∷ 9 ∷ 1 ∷ []) in
    let f₁ : List Field = with_number 0 b fs in
    let f₂ : List Field = with_number 1 p f₁ in
    let f₃ : List Field = with_number 2 k f₂ in
    let w₁ : s₁ ≡ packed f₁ = e₁ ∙ ap (λ (x : List ℕ). put_at x 0 1 b) (sym (head_back s (1 ∷ 5 ∷ 9 ∷ 1 ∷ []) 2 refl l y)) ∙ field-written fs 0 b 2 (omega arith) refl in
    let w₂ : s₂ ≡ packed f₂ = e₂ ∙ ap₂ (λ (x : List ℕ) (i : ℕ). put_at x i 5 p) w₁ q₁ ∙ field-written f₁ 1 p 2 (omega arith) refl in
    let w₃ : s₃ ≡ packed f₃ = e₃ ∙ ap₂ (λ (x : List ℕ) (i : ℕ). put_at x i 9 k) w₂ q₂ ∙ field-written f₂ 2 k 2 (omega arith) refl in
    e₄ ∙ ap₂ (λ (x : List ℕ) (i : ℕ). put_at x i 1 0) w₃ q₃ ∙ field-written f₃ 3 0 2 (omega arith) refl

-- ---- entries

-- the part that was lent for a head
pub lent : (at : ℕ) (g y : List ℕ) → length y ≡ 2 → take at g ++ (y ++ drop (at + 2 - at) (drop at g)) ≡ stored g at y
lent at g y e =
    ap (λ (z : List ℕ). take at g ++ (y ++ z))
    (drop-drop (at + 2 - at) at g ∙ ap_at (λ i. drop i g) (at + (at + 2 - at)) (at + length y) (omega arith))

module _ (t : List ℕ) (at used : ℕ) (h : at ≤ used) where
  gap_length : (n : ℕ) → used + n ≤ length t → length (opened t at used n) ≡ length t
  gap_length n k = simp (length-append, length-take, length-drop) (omega arith)

  -- a gap of n bytes, filled with as many
  filled : (n : ℕ) (x : List ℕ) → n ≡ length x → used + n ≤ length t → stored (opened t at used n) at x ≡ inserted t at used x
  filled n x e k = ap (λ (i : ℕ). stored (opened t at used i) at x) e ∙ stored-opened t at x (omega arith) used

  -- a text behind its length
  pub text-inserted : (x t₁ t₂ : List ℕ) → used + (1 + length x) ≤ length t → t₁ ≡ opened t at used (1 + length x) → t₂ ≡ stored (set t₁ at (length x)) (at + 1) x
      → t₂ ≡ inserted t at used (enc_text x)
  text-inserted x t₁ t₂ k e f =
      let g : List ℕ = opened t at used (1 + length x) in
      let l : length g ≡ length t = gap_length (1 + length x) k in
      f
      ∙ ap (λ (y : List ℕ). stored (set y at (length x)) (at + 1) x) e
      ∙ ap (λ (y : List ℕ). stored y (at + 1) x) (set-stored g at (length x) (omega arith))
      ∙ stored-stored g at (length x ∷ []) x (omega arith)
      ∙ filled (1 + length x) (enc_text x) (omega arith) k

  -- a head of two bytes, and one text behind it
  pub one-inserted : (y x t₁ t₂ : List ℕ) → length y ≡ 2 → used + (2 + length x) ≤ length t → t₁ ≡ opened t at used (2 + length x)
      → t₂ ≡ stored (take at t₁ ++ (y ++ drop (at + 2 - at) (drop at t₁))) (at + 2) x → t₂ ≡ inserted t at used (y ++ x)
  one-inserted y x t₁ t₂ l k e f =
      let g : List ℕ = opened t at used (2 + length x) in
      let m : length g ≡ length t = gap_length (2 + length x) k in
      f
      ∙ ap (λ (z : List ℕ). stored (take at z ++ (y ++ drop (at + 2 - at) (drop at z))) (at + 2) x) e
      ∙ ap₂ (λ (z : List ℕ) (i : ℕ). stored z i x) (lent at g y l) (let q : at + 2 ≡ at + length y = omega arith in q)
      ∙ stored-stored g at y x (omega arith)
      ∙ filled (2 + length x) (y ++ x) (omega (arith, length-append y x)) k

  -- and two of them
  pub two_inserted : (y a b t₁ t₂ t₃ : List ℕ) → length y ≡ 2 → used + (2 + length a + length b) ≤ length t → t₁ ≡ opened t at used (2 + length a + length b)
      → t₂ ≡ stored (take at t₁ ++ (y ++ drop (at + 2 - at) (drop at t₁))) (at + 2) a → t₃ ≡ stored t₂ (at + 2 + length a) b → t₃ ≡ inserted t at used (y ++ (a ++ b))
  two_inserted y a b t₁ t₂ t₃ l k e f c =
      let n : ℕ = 2 + length a + length b in
      let g : List ℕ = opened t at used n in
      let m : length g ≡ length t = gap_length n k in
      let w : t₂ ≡ stored g at (y ++ a) =
      f
      ∙ ap (λ (z : List ℕ). stored (take at z ++ (y ++ drop (at + 2 - at) (drop at z))) (at + 2) a) e
      ∙ ap₂ (λ (z : List ℕ) (i : ℕ). stored z i a) (lent at g y l) (let q : at + 2 ≡ at + length y = omega arith in q)
      ∙ stored-stored g at y a (omega arith)
      in
      c
      ∙ ap₂ (λ (z : List ℕ) (i : ℕ). stored z i b) w (let q : at + 2 + length a ≡ at + length (y ++ a) = omega (arith, length-append y a) in q)
      ∙ stored-stored g at (y ++ a) b (omega (arith, length-append y a))
      ∙ ap (stored g at) (append_assoc y a b)
      ∙ filled n (y ++ (a ++ b)) (omega (arith, length-append y (a ++ b), length-append a b)) k
