-- The bytes of a line without its joins (document 02, Item 10).
-- Assumes nothing.
use Prim.Native.Nat.{ℕ, suc, ◌+◌, ◌≤◌}
use mathlib.Core.Path.{◌≡◌, refl, ap}
use mathlib.Core.Bool.{Bool, true, false, ◌&&◌, ◌||◌}
use mathlib.Core.List.{List, [], ◌∷◌}
use native.Mathlib.Omega.{arith}
use lib.Dec.{eqb}
use lib.ListN.{length}
use borrow.Author.Tests.{eqb-true}
use Rattle.lists.specs.Bytes.{holds}
use Rattle.lists.proofs.Tests.{and_both, neither}
use Rattle.text.specs.Lines.{one_more, newlines, starts_newline, without, unjoined}

-- no newline is left
pub unjoined_flat : (l : List ℕ) → holds 10 (unjoined l) ≡ false
unfolding unjoined
unjoined_flat [] = refl
unjoined_flat (b ∷ l) = at (eqb b 10) (eqb b 92 && starts_newline l) refl (unjoined_flat l)
  where
    at : (t u : Bool) → eqb b 10 ≡ t → holds 10 (unjoined l) ≡ false → holds 10 (without (t || u) b (unjoined l)) ≡ false
    at true u e h = h
    at false true e h = h
    at false false e h = rw (e, h)

pub unjoined-size : (l : List ℕ) → length (unjoined l) ≤ length l
unfolding unjoined
unjoined-size [] = omega arith
unjoined-size (b ∷ l) = at (eqb b 10 || (eqb b 92 && starts_newline l)) (unjoined-size l)
  where
    at : (t : Bool) → length (unjoined l) ≤ length l → length (without t b (unjoined l)) ≤ suc (length l)
    at true h = omega arith
    at false h = omega arith

-- each newline of its joins is gone
pub unjoined-newlines : (l : List ℕ) → length (unjoined l) + newlines l ≤ length l
unfolding unjoined newlines
unjoined-newlines [] = omega arith
unjoined-newlines (b ∷ l) = at (eqb b 10) (eqb b 92 && starts_newline l) (unjoined-newlines l)
  where
    at : (t u : Bool) → length (unjoined l) + newlines l ≤ length l → length (without (t || u) b (unjoined l)) + one_more t (newlines l) ≤ suc (length l)
    at true u h = omega arith
    at false true h = omega arith
    at false false h = omega arith

-- without a newline nothing is joined
pub unjoined-same : (l : List ℕ) → holds 10 l ≡ false → unjoined l ≡ l
unfolding unjoined
unjoined-same [] h = refl
unjoined-same (b ∷ l) h =
    let (x, y) = neither (eqb b 10) (holds 10 l) h in
    rw (x, no_newline l y) (at (eqb b 92) (unjoined-same l y))
  where
    no_newline : (m : List ℕ) → holds 10 m ≡ false → starts_newline m ≡ false
    no_newline [] k = refl
    no_newline (c ∷ m) k = (neither (eqb c 10) (holds 10 m) k).0

    at : (t : Bool) → unjoined l ≡ l → without (t && false) b (unjoined l) ≡ b ∷ l
    at true k = ap (λ (m : List ℕ). b ∷ m) k
    at false k = ap (λ (m : List ℕ). b ∷ m) k

-- NUL stands in the joined bytes where it stands in the line as lent
pub unjoined_nul : (l : List ℕ) → holds 0 (unjoined l) ≡ holds 0 l
unfolding unjoined
unjoined_nul [] = refl
unjoined_nul (b ∷ l) = at (eqb b 10) (eqb b 92) (starts_newline l) refl refl (unjoined_nul l)
  where
    other : (c : ℕ) → suc 0 ≤ c → eqb b c ≡ true → eqb b 0 ≡ false
    other c h e = go (eqb b 0) refl
      where
        go : (t : Bool) → eqb b 0 ≡ t → t ≡ false
        go true f = let x = eqb-true b c e in let y = eqb-true b 0 f in absurd (omega arith)
        go false f = refl

    at : (n s m : Bool) → eqb b 10 ≡ n → eqb b 92 ≡ s → holds 0 (unjoined l) ≡ holds 0 l → holds 0 (without (n || (s && m)) b (unjoined l)) ≡ (eqb b 0 || holds 0 l)
    at true s m e f h = rw (other 10 (omega arith) e, h)
    at false true true e f h = rw (other 92 (omega arith) f, h)
    at false true false e f h = rw h
    at false false m e f h = rw h
