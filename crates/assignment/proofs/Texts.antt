-- Every rule of an accepted text can be assigned.
-- Assumes nothing.
use Prim.Native.Nat.{ℕ, zero, suc}
use mathlib.Core.Path.{◌≡◌, refl}
use mathlib.Core.Bool.{Bool, true, false}
use mathlib.Core.List.{List, [], ◌∷◌, map}
use native.Mathlib.Omega.{arith}
use lib.Dec.{leb}
use lib.ListN.{length}
use Rattle.lists.specs.Checked.{Checked, ok, Holds, require, Placed, line, in_place}
use Rattle.lists.specs.Refusal.{text_long}
use Rattle.lists.specs.Sizes.{most_text, most_rules}
use Rattle.lists.proofs.Checked.{holds-bind, holds-seq, holds_at, holds-require}
use Rattle.text.specs.Engine as text
use Rattle.text.specs.Lines.{is_open, unjoined, lines}
use Rattle.text.specs.Reading.{collect, settle, lent_by, read_lent, reads, read_text}
use Rattle.rules.specs.Pair.{Rule}
use Rattle.rules.specs.Reading.{unblank, read_line, reader}
use Rattle.rules.proofs.Pairs.{line-pairs}
use Rattle.rules.proofs.Sound.{rule-sound}
use Rattle.assignment.specs.Assignment.{Assignables}
use Rattle.assignment.proofs.Sound.{assignables, any-holds}

abbrev pub AllSound : List (Placed Rule) → Type 0
AllSound [] = Unit {0}
AllSound (line n r ∷ rs) = Assignables r × AllSound rs

lent-rule : (l : List ℕ) (r : Rule) → read_lent reader l ≡ text.rule r → read_line (unjoined l) ≡ text.rule r
unfolding read_lent
lent-rule l r e = at (is_open l) e
  where
    at : (t : Bool) → lent_by reader t l ≡ text.rule r → read_line (unjoined l) ≡ text.rule r
    at true q = let z : ◌≡◌ {A = ℕ} 0 1 = cc in absurd (omega arith)
    at false q = q

abbrev read_as : List (Placed (List ℕ)) → List (Placed (text.LineRead Rule))
read_as ls = map (in_place (read_lent reader)) ls

collect-sound : (k : ℕ) (ls : List (Placed (List ℕ))) → Holds AllSound (collect k (read_as ls))
unfolding collect
collect-sound k [] = tt
collect-sound k (line n l ∷ ls) = go (λ j. collect-sound j ls) k (read_lent reader l) refl
  where
    go : ((j : ℕ) → Holds AllSound (collect j (read_as ls))) → (k : ℕ) (x : text.LineRead Rule) → read_lent reader l ≡ x → Holds AllSound (collect k (line n x ∷ read_as ls))
    go b k text.skip e = b k
    go b k (text.fault f) e = tt
    go b zero (text.rule r) e = tt
    go b (suc k) (text.rule r) e =
        let q = lent-rule l r e in
        holds-bind AllSound AllSound (collect k (read_as ls)) _ (b k) (λ rs h. (assignables (unblank (unjoined l)) r (line-pairs (unjoined l) r q) (rule-sound (unjoined l) r q), h))

pub text-sound : (x : List ℕ) (rs : List (Placed Rule)) → read_text reader x ≡ ok rs → AllSound rs
unfolding read_text
text-sound x rs e =
    holds_at AllSound e
    (holds-seq (λ (_ : Unit {0}). leb (length x) most_text ≡ true) AllSound (require (leb (length x) most_text) (line 0 text_long)) _ (holds-require (leb (length x) most_text) (line 0 text_long))
    (λ _ _. holds-bind AllSound AllSound (collect most_rules (reads reader x)) _ (collect-sound most_rules (lines x))
    (λ rs h. holds-seq (λ (_ : ℕ). Unit {0}) AllSound (settle reader rs) (ok rs) (any-holds (settle reader rs)) (λ _ _. h))))
