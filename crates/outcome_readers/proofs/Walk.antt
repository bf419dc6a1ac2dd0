-- A turn of a walk over the entries of a row that were read.
-- Assumes nothing.
use Prim.Native.Nat.{ℕ, zero, suc, ◌-◌, ◌<◌}
use mathlib.Core.Path.{◌≡◌, refl, sym, ap, ◌∙◌}
use mathlib.Core.Bool.{Bool}
use mathlib.Core.List.{List, ◌∷◌}
use native.Mathlib.Nat.{not-suc-le-zero}
use native.Mathlib.Omega.{arith}
use lib.ListN.{length, take, drop}
use Rattle.lists.proofs.Moves.{ap_at}
use Rattle.entries.specs.Parse.{Parse, got, many}
use Rattle.entries.proofs.Rows.{through}
use Rattle.rows.specs.Entry.{size, name, Placed}
use Rattle.rows.specs.Row.{names}
use Rattle.rows.specs.declared.Kind.{Kind}
use Rattle.rows.specs.declared.Entry.{Entry}
use Rattle.rows.proofs.Turns.{place-name, place-next}
use Rattle.rows.proofs.Readers.{Reads, one-got}

-- the first entry, and the others
pub record Turn (A : Type 0) (one : List ℕ → Parse A) (first : A) (left : ℕ) (bs z : List ℕ) (xs : List A) : Type 0 where
  pub others : List A
  pub whole : xs ≡ first ∷ others
  pub read : many one (left - 1) bs ≡ got others z

module _ {A : Type 0} {kind : Kind} {one : List ℕ → Parse A} {ok : List ℕ → Bool} {here : List ℕ → A} (R : Reads A kind one ok here) where
  first_read : (left : ℕ) (bs : List ℕ) (xs : List A) (z : List ℕ) → 0 < left → many one left bs ≡ got xs z
      → Turn A one (here bs) left (drop (size kind bs) bs) z xs
  first_read zero bs xs z h e = absurd (not-suc-le-zero h)
  first_read (suc m) bs xs z h e =
      through (one bs) _ xs z e λ a q p₁ e₁.
      through (many one m q) _ xs z e₁ λ ys q' p₂ e₂.
      made a q ys q' e₂ (one-got R bs a q p₁).1 (one-got R bs a q p₁).2 p₂
    where
      made : (a : A) (q : List ℕ) (ys : List A) (q' : List ℕ) → got (a ∷ ys) q' ≡ got xs z → here bs ≡ a → drop (size kind bs) bs ≡ q → many one m q ≡ got ys q'
          → Turn A one (here bs) (suc m) (drop (size kind bs) bs) z xs
      made a q ys q' e f g k =
          let j : xs ≡ a ∷ ys = cc in
          let v : q' ≡ z = cc in
          record {
            others = ys;
            whole = j ∙ ap (λ (x : A). x ∷ ys) (sym f);
            read = ap_at (λ i. many one i (drop (size kind bs) bs)) (suc m - 1) m (omega arith) ∙ ap (many one m) g ∙ k ∙ ap (λ (x : List ℕ). got ys x) v;
          }

  -- in the places that code has
  pub many-turn : (l : List ℕ) (p left : ℕ) (e : Entry) → Placed kind l p e → 0 < left → (xs : List A) (z : List ℕ) → many one left (drop p l) ≡ got xs z
      → Turn A one (here (drop p l)) left (drop e.end l) z xs
  many-turn l p left e w h xs z m =
      let t = first_read left (drop p l) xs z h m in
      record { others = t.others; whole = t.whole; read = ap (many one (left - 1)) (place-next kind l p e w) ∙ t.read }

-- the names of a row: the first, and the others
names-first : (kind : Kind) (left : ℕ) (bs : List ℕ) → 0 < left → names kind left bs ≡ name kind bs ∷ names kind (left - 1) (drop (size kind bs) bs)
names-first kind zero bs h = absurd (not-suc-le-zero h)
names-first kind (suc m) bs h = ap_at (λ i. name kind bs ∷ names kind i (drop (size kind bs) bs)) m (suc m - 1) (omega arith)

pub names-turn : (kind : Kind) (l : List ℕ) (p left : ℕ) (e : Entry) → Placed kind l p e → 0 < left
    → names kind left (drop p l) ≡ take (e.rest - e.name) (drop e.name l) ∷ names kind (left - 1) (drop e.end l)
names-turn kind l p left e w h = names-first kind left (drop p l) h ∙ rw (place-name kind l p e w, place-next kind l p e w)
