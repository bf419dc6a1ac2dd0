-- What a line without a fault is, by its first byte that is no blank.
-- Assumes nothing.
use Prim.Native.Nat.{ℕ}
use mathlib.Core.Path.{◌≡◌, refl, sym, ap, ◌∙◌, subst}
use mathlib.Core.Bool.{Bool, true, false, not, ◌&&◌}
use mathlib.Core.List.{List, [], ◌∷◌}
use native.Mathlib.Omega.{arith}
use lib.Dec.{eqb, leb}
use lib.ListN.{length}
use Rattle.lists.specs.Bytes.{holds}
use Rattle.lists.specs.Checked.{Checked, refused, ok}
use Rattle.lists.specs.Refusal.{Refusal}
use Rattle.lists.specs.Sizes.{most_line, most_pairs}
use Rattle.text.specs.Engine as text
use Rattle.rules.specs.Pair.{Pair, Rule}
use Rattle.rules.specs.Pairs.{Pairs}
use Rattle.rules.specs.Reading.{unblank, read_pairs, rule_read, comment_or, read_unblank, read_sized, read_line}
use Rattle.rules.proofs.Pairs.{line-pairs}

-- a line that is skipped or a rule
abbrev pub NoFault : text.LineRead Rule → Type 0
NoFault text.skip = Unit {0}
NoFault (text.fault f) = ⊥
NoFault (text.rule r) = Unit {0}

sized : (l : List ℕ) (t : Bool) → NoFault (read_sized t l) → read_sized t l ≡ read_unblank (unblank l)
sized l true h = refl
sized l false h = absurd h

-- without a fault, the line is read from its first byte that is no blank
pub line_read : (l : List ℕ) → NoFault (read_line l) → read_line l ≡ read_unblank (unblank l)
unfolding read_line
line_read l h = sized l (leb (length l) most_line && not (holds 0 l)) h

-- only blanks
pub blank_skipped : (l : List ℕ) → NoFault (read_line l) → unblank l ≡ [] → read_line l ≡ text.skip
blank_skipped l h e = line_read l h ∙ ap read_unblank e

-- a comment
pub comment_skipped : (l : List ℕ) (bs : List ℕ) → NoFault (read_line l) → unblank l ≡ 35 ∷ bs → read_line l ≡ text.skip
comment_skipped l bs h e = line_read l h ∙ ap read_unblank e

-- anything else is a rule
pub record IsRule (l : List ℕ) : Type 0 where
  pub rule : Rule
  pub reads : read_line l ≡ text.rule rule
  pub pairs : Pairs (unblank l) rule

rule_of_lem : (c : Checked Refusal (List Pair)) → NoFault (rule_read c) → (r : Rule) × (rule_read c ≡ text.rule r)
rule_of_lem (refused f) h = absurd h
rule_of_lem (ok r) h = (r, refl)

pub line-rule : (l : List ℕ) (b : ℕ) (bs : List ℕ) → NoFault (read_line l) → unblank l ≡ b ∷ bs → eqb b 35 ≡ false → IsRule l
line-rule l b bs h e c =
    let q : read_line l ≡ rule_read (read_pairs most_pairs false false (b ∷ bs)) = line_read l h ∙ ap read_unblank e ∙ ap (λ (t : Bool). comment_or t (b ∷ bs)) c in
    let (r, w) = rule_of_lem (read_pairs most_pairs false false (b ∷ bs)) (subst NoFault q h) in
    record { rule = r; reads = q ∙ w; pairs = line-pairs l r (q ∙ w) }
