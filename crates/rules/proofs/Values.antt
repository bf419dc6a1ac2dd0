-- A value as code reads it: the place of its closing mark, and its length without unescaping.
-- Assumes nothing.
use Prim.Native.Nat.{ℕ, zero, suc, ◌+◌, ◌-◌, ◌≤◌}
use mathlib.Core.Path.{◌≡◌, refl, sym, ap, ◌∙◌}
use mathlib.Core.Bool.{Bool, true, false, not, ◌&&◌}
use mathlib.Core.List.{List, [], ◌∷◌}
use Rattle.std.specs.Prelude.{Option, None, Some}
use Rattle.std.proofs.lemmas.Option.{none-some, same_Some}
use native.Mathlib.Omega.{arith}
use lib.Dec.{eqb}
use lib.ListN.{length, take, drop}
use Rattle.lists.specs.Lists.{pick}
use Rattle.lists.specs.Runs.{Part}
use Rattle.rules.specs.Reading.{quoted, quoted_step, starts_mark, unescape, unescape_step}
use Rattle.rules.specs.Places.{close_end, cut_at, weight, weights}

-- the closing mark stands inside
pub close_ge : (e : Bool) (bs : List ℕ) (i c : ℕ) → close_end e bs i ≡ Some c → i ≤ c
unfolding close_end
close_ge e [] i c h = absurd (none-some c h)
close_ge e (b ∷ bs) i c h = go (eqb b 34 && not e) h (λ q. close_ge (eqb b 92) bs (i + 1) c q)
  where
    go : (t : Bool) → pick t (Some i) (close_end (eqb b 92) bs (i + 1)) ≡ Some c → (close_end (eqb b 92) bs (i + 1) ≡ Some c → i + 1 ≤ c) → i ≤ c
    go true q ih = let r : i ≡ c = same_Some i c q in omega arith
    go false q ih = let r = ih q in omega arith

cut_next : (b : ℕ) (bs : List ℕ) (i : ℕ) (o : Option ℕ) → ((c : ℕ) → o ≡ Some c → i + 1 ≤ c)
    → quoted_step false b bs (cut_at o (i + 1) bs) ≡ cut_at o i (b ∷ bs)
cut_next b bs i None h = refl
cut_next b bs i (Some c) h =
    let g : i + 1 ≤ c = h c refl in
    let d : c - i ≡ suc (c - (i + 1)) = omega arith in
    let f : c - i + 1 ≡ suc (c - (i + 1) + 1) = omega arith in
    rw (f, d)

-- the value as written is cut at the place of the closing mark
pub quoted_at : (e : Bool) (bs : List ℕ) (i : ℕ) → quoted e bs ≡ cut_at (close_end e bs i) i bs
unfolding quoted close_end
quoted_at e [] i = refl
quoted_at e (b ∷ bs) i = go (eqb b 34 && not e) (quoted_at (eqb b 92) bs (i + 1))
  where
    go : (t : Bool) → quoted (eqb b 92) bs ≡ cut_at (close_end (eqb b 92) bs (i + 1)) (i + 1) bs
        → quoted_step t b bs (quoted (eqb b 92) bs) ≡ cut_at (pick t (Some i) (close_end (eqb b 92) bs (i + 1))) i (b ∷ bs)
    go true h = let z : i - i ≡ 0 = omega arith in rw z
    go false h = ap (quoted_step false b bs) h ∙ cut_next b bs i (close_end (eqb b 92) bs (i + 1)) (λ c q. close_ge (eqb b 92) bs (i + 1) c q)

-- ---- the length

escape-length : (x : Bool) (b : ℕ) (v : List ℕ) (n : ℕ) → length v ≡ n + pick x 1 0 → length (unescape_step x b v) ≡ suc n
escape-length true b v n h = h ∙ omega arith
escape-length false b v n h = let e : length v ≡ n = h ∙ omega arith in ap (λ (m : ℕ). suc m) e

mark_weight : (m e : Bool) → (m && not e) ≡ false → pick m 0 1 + pick (e && m) 1 0 ≡ 1
mark_weight true true h = refl
mark_weight true false h = let z : ◌≡◌ {A = ℕ} 0 1 = cc in absurd (omega arith)
mark_weight false true h = refl
mark_weight false false h = refl

no_extra : (e : Bool) → 0 ≡ 0 + pick (e && false) 1 0
no_extra true = refl
no_extra false = refl

-- the length of a value, from its bytes as written
pub value_length : (e : Bool) (bs : List ℕ) (p : Part (List ℕ)) → quoted e bs ≡ Some p
    → length (unescape p.value) ≡ weights p.value + pick (e && starts_mark p.value) 1 0
unfolding quoted unescape weights
value_length e [] p h = absurd (none-some p h)
value_length e (b ∷ bs) p h = go (eqb b 34 && not e) refl (quoted (eqb b 92) bs) h (λ q k. value_length (eqb b 92) bs q k)
  where
    go : (t : Bool) → (eqb b 34 && not e) ≡ t → (o : Option (Part (List ℕ))) → quoted_step t b bs o ≡ Some p
        → ((q : Part (List ℕ)) → o ≡ Some q → length (unescape q.value) ≡ weights q.value + pick (eqb b 92 && starts_mark q.value) 1 0)
        → length (unescape p.value) ≡ weights p.value + pick (e && starts_mark p.value) 1 0
    go true m o k ih =
        let r = same_Some _ p k in
        rw (← r) (no_extra e)
    go false m None k ih = absurd (none-some p k)
    go false m (Some q) k ih =
        let r = same_Some _ p k in
        let l = escape-length (eqb b 92 && starts_mark q.value) b (unescape q.value) (weights q.value) (ih q refl) in
        let w = mark_weight (eqb b 34) e m in
        rw (← r) (l ∙ omega arith)
