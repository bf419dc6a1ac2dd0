-- Heads of the run list written field by field, and parts of the target that were lent.
-- Assumes nothing.
use Prim.Native.Nat.{ℕ, ◌+◌, ◌-◌, ◌*◌, ◌≤◌, ◌<◌}
use mathlib.Core.Path.{◌≡◌, refl, sym, ap, ap₂, ◌∙◌}
use mathlib.Core.List.{List, [], ◌∷◌, ◌++◌, append_assoc, append-nil}
use native.Mathlib.Omega.{arith}
use lib.ListN.{length, take, drop, length-append, length-drop, take-append-drop}
use lib.Seq.{drop-drop, drop-append-le, length-take-le}
use Rattle.lists.specs.Bytes.{Bytes}
use Rattle.lists.proofs.Moves.{ap_at}
use Rattle.bits.specs.Bits.{put_at}
use Rattle.bits.specs.Fields.{Field, width, packed, fields_at}
use Rattle.entries.proofs.Heads.{with_number, place_of, width_of, head_back, head_put}
use Rattle.splice.specs.Moves.{stored}
use Rattle.splice.proofs.Laws.{stored_over}

-- ---- heads

-- one field of a head written
field-written : (fs : List Field) (i v k : ℕ) → i < length fs → width fs ≡ 8 * k → put_at (packed fs) (place_of i fs) (width_of i fs) v ≡ packed (with_number i v fs)
field-written fs i v k h w =
    ap (λ (x : List ℕ). put_at x (place_of i fs) (width_of i fs) v) (sym (append-nil (packed fs)))
    ∙ head_put fs i v k [] h w (λ j. omega arith)
    ∙ append-nil (packed (with_number i v fs))

pub count_head : (s s₁ s₂ : List ℕ) (p₁ n : ℕ) → length s ≡ 1 → Bytes s → s₁ ≡ put_at s 0 5 n → p₁ ≡ 5 → s₂ ≡ put_at s₁ p₁ 3 0 → s₂ ≡ packed ((5, n) ∷ (3, 0) ∷ [])
count_head s s₁ s₂ p₁ n l b e p f =
    let fs : List Field = fields_at s 0 (5 ∷ 3 ∷ []) in
    let e₁ : s₁ ≡ packed (with_number 0 n fs) = e ∙ ap (λ (x : List ℕ). put_at x 0 5 n) (sym (head_back s (5 ∷ 3 ∷ []) 1 refl l b)) ∙ field-written fs 0 n 1 (omega arith) refl in
    f ∙ ap₂ (λ (x : List ℕ) (i : ℕ). put_at x i 3 0) e₁ p ∙ field-written (with_number 0 n fs) 1 0 1 (omega arith) refl

pub command_head : (s s₁ s₂ s₃ : List ℕ) (p₁ p₂ b k : ℕ) → length s ≡ 2 → Bytes s
    → s₁ ≡ put_at s 0 1 b → p₁ ≡ 1 → s₂ ≡ put_at s₁ p₁ 10 k → p₂ ≡ 11 → s₃ ≡ put_at s₂ p₂ 5 0 → s₃ ≡ packed ((1, b) ∷ (10, k) ∷ (5, 0) ∷ [])
command_head s s₁ s₂ s₃ p₁ p₂ b k l y e₁ q₁ e₂ q₂ e₃ =
    let fs : List Field = fields_at s 0 (1 ∷ 10 ∷ 5 ∷ []) in
    let f₁ : List Field = with_number 0 b fs in
    let f₂ : List Field = with_number 1 k f₁ in
    let w₁ : s₁ ≡ packed f₁ = e₁ ∙ ap (λ (x : List ℕ). put_at x 0 1 b) (sym (head_back s (1 ∷ 10 ∷ 5 ∷ []) 2 refl l y)) ∙ field-written fs 0 b 2 (omega arith) refl in
    let w₂ : s₂ ≡ packed f₂ = e₂ ∙ ap₂ (λ (x : List ℕ) (i : ℕ). put_at x i 10 k) w₁ q₁ ∙ field-written f₁ 1 k 2 (omega arith) refl in
    e₃ ∙ ap₂ (λ (x : List ℕ) (i : ℕ). put_at x i 5 0) w₂ q₂ ∙ field-written f₂ 2 0 2 (omega arith) refl

-- ---- a part from a up to b that was lent, and is y now

abbrev pub lent_part : List ℕ → ℕ → ℕ → List ℕ → List ℕ
lent_part t a b y = take a t ++ (y ++ drop (b - a) (drop a t))

module _ (t y : List ℕ) (a b : ℕ) (h : a ≤ b) (k : b ≤ length t) (e : length y ≡ b - a) where
  pub lent-whole : lent_part t a b y ≡ stored t a y
  lent-whole =
      ap (λ (z : List ℕ). take a t ++ (y ++ z))
      (drop-drop (b - a) a t ∙ ap_at (λ i. drop i t) (a + (b - a)) (a + length y) (omega arith))

  -- only its first n bytes are new
  pub lent-first : (n : ℕ) → n ≤ b - a → drop n y ≡ drop n (take (b - a) (drop a t)) → lent_part t a b y ≡ stored t a (take n y)
  lent-first n l f =
      let m : ℕ = b - a in
      let u : List ℕ = drop a t in
      let lu : m ≤ length u = omega (arith, length-drop a t) in
      let rest : drop n y ++ drop m u ≡ drop n u =
      ap (λ (z : List ℕ). z ++ drop m u) f
      ∙ sym (drop-append-le n (take m u) (drop m u) (omega (arith, length-take-le m u lu)))
      ∙ ap (drop n) (take-append-drop m u)
      in
      ap (λ (z : List ℕ). take a t ++ (z ++ drop m u)) (sym (take-append-drop n y))
      ∙ ap (λ (z : List ℕ). take a t ++ z) (append_assoc (take n y) (drop n y) (drop m u) ∙ ap (λ (z : List ℕ). take n y ++ z) (rest ∙ drop-drop n a t))
      ∙ ap_at (λ i. take a t ++ (take n y ++ drop (a + i) t)) n (length (take n y)) (sym (length-take-le n y (omega arith)))

-- a head written before the text behind it
pub head_stored : (t : List ℕ) (at : ℕ) (h x : List ℕ) → at + length h ≤ length t → stored (stored t (at + length h) x) at h ≡ stored t at (h ++ x)
head_stored t at h x l =
    stored_over t at h l (x ++ drop (at + length h + length x) t)
    ∙ ap (λ (z : List ℕ). take at t ++ z) (sym (append_assoc h x (drop (at + length h + length x) t)))
    ∙ ap_at (λ i. take at t ++ ((h ++ x) ++ drop i t)) (at + length h + length x) (at + length (h ++ x)) (omega (arith, length-append h x))
