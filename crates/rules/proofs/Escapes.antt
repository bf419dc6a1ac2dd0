-- A value as written is known from its unescaped bytes, so that two values are the same exactly where they are written the same.
-- Assumes nothing.
use Prim.Native.Nat.{ℕ}
use mathlib.Core.Path.{◌≡◌, refl, sym, ap, ◌∙◌, subst}
use mathlib.Core.Bool.{Bool, true, false, not, ◌&&◌}
use mathlib.Core.List.{List, [], ◌∷◌}
use Rattle.std.specs.Prelude.{Option, None, Some}
use Rattle.std.proofs.lemmas.Option.{none-some, same_Some}
use native.Mathlib.Omega.{arith}
use lib.Dec.{eqb}
use borrow.Author.Tests.{eqb-true}
use Rattle.lists.specs.Lists.{pick}
use Rattle.lists.specs.Bytes.{same_bytes}
use Rattle.lists.specs.Runs.{Part}
use Rattle.lists.proofs.Bytes.{same_refl, same-eq}
use Rattle.rules.specs.Reading.{quoted, quoted_step, starts_mark, unescape, unescape_step}

abbrev pub escape_step : Bool → ℕ → List ℕ → List ℕ
escape_step true b bs = 92 ∷ b ∷ bs
escape_step false b bs = b ∷ bs

-- each mark behind a backslash
unfoldable pub escape : List ℕ → List ℕ
escape [] = []
escape (b ∷ bs) = escape_step (eqb b 34) b (escape bs)

-- what unescaping took away at the front: a backslash that stood before a mark
abbrev back : Bool → List ℕ → List ℕ
back escaped w = pick (escaped && starts_mark w) (92 ∷ w) w

-- the two bytes are not both
mark_only : (b : ℕ) → eqb b 34 ≡ true → eqb b 92 ≡ true → ⊥
mark_only b m s = let p = eqb-true b 34 m in let q = eqb-true b 92 s in omega arith

plain : (e : Bool) (v w : List ℕ) → w ≡ pick (e && false) v w
plain true v w = refl
plain false v w = refl

step_back : (m s n e : Bool) (b : ℕ) (w v : List ℕ) → eqb b 34 ≡ m → eqb b 92 ≡ s → starts_mark w ≡ n → (m && not e) ≡ false
    → escape v ≡ pick (s && n) (92 ∷ w) w → escape (unescape_step (s && n) b v) ≡ pick (e && m) (92 ∷ b ∷ w) (b ∷ w)
unfolding escape
step_back true true n e b w v p q r h i = absurd (mark_only b p q)
step_back true false n true b w v p q r h i = rw (p, i)
step_back true false n false b w v p q r h i = let z : ◌≡◌ {A = ℕ} 0 1 = cc in absurd (omega arith)
step_back false true true e b w v p q r h i = i ∙ (ap (λ (c : ℕ). c ∷ w) (sym (eqb-true b 92 q)) ∙ plain e (92 ∷ b ∷ w) (b ∷ w))
step_back false true false e b w v p q r h i = rw (p, i) (plain e (92 ∷ b ∷ w) (b ∷ w))
step_back false false n e b w v p q r h i = rw (p, i) (plain e (92 ∷ b ∷ w) (b ∷ w))

nothing : (e : Bool) → escape [] ≡ back e []
unfolding escape
nothing true = refl
nothing false = refl

pub escape-back : (e : Bool) (bs : List ℕ) (p : Part (List ℕ)) → quoted e bs ≡ Some p → escape (unescape p.value) ≡ back e p.value
unfolding quoted unescape
escape-back e [] p h = absurd (none-some p h)
escape-back e (b ∷ bs) p h = go (eqb b 34 && not e) refl (quoted (eqb b 92) bs) h (λ q k. escape-back (eqb b 92) bs q k)
  where
    go : (t : Bool) → (eqb b 34 && not e) ≡ t → (o : Option (Part (List ℕ))) → quoted_step t b bs o ≡ Some p
        → ((q : Part (List ℕ)) → o ≡ Some q → escape (unescape q.value) ≡ back (eqb b 92) q.value) → escape (unescape p.value) ≡ back e p.value
    go true m o k ih = let r = same_Some _ p k in rw (← r) (nothing e)
    go false m None k ih = absurd (none-some p k)
    go false m (Some q) k ih =
        let r = same_Some _ p k in
        rw (← r) (step_back (eqb b 34) (eqb b 92) (starts_mark q.value) e b q.value (unescape q.value) refl refl refl m (ih q refl))

written-again : (bs : List ℕ) (p : Part (List ℕ)) → quoted false bs ≡ Some p → p.value ≡ escape (unescape p.value)
written-again bs p h = sym (escape-back false bs p h)

-- two values are the same where they are written the same
pub written_same : (bs cs : List ℕ) (p q : Part (List ℕ)) → quoted false bs ≡ Some p → quoted false cs ≡ Some q
    → same_bytes p.value q.value ≡ same_bytes (unescape p.value) (unescape q.value)
written_same bs cs p q h k = at (same_bytes p.value q.value) refl (same_bytes (unescape p.value) (unescape q.value)) refl
  where
    at : (s : Bool) → same_bytes p.value q.value ≡ s → (t : Bool) → same_bytes (unescape p.value) (unescape q.value) ≡ t → s ≡ t
    at true e true f = refl
    at false e false f = refl
    at true e false f =
        let w : p.value ≡ q.value = same-eq p.value q.value e in
        let z : same_bytes (unescape p.value) (unescape q.value) ≡ true = rw w (same_refl (unescape q.value)) in
        sym z ∙ f
    at false e true f =
        let w : unescape p.value ≡ unescape q.value = same-eq (unescape p.value) (unescape q.value) f in
        let v : p.value ≡ q.value = written-again bs p h ∙ ap escape w ∙ sym (written-again cs q k) in
        let z : same_bytes p.value q.value ≡ true = rw v (same_refl q.value) in
        sym e ∙ z
