-- A pair whose content is judged: 15 after 11 to 14.
-- Assumes nothing.
use Prim.Native.Nat.{ℕ}
use mathlib.Core.Path.{◌≡◌, refl, sym}
use mathlib.Core.Bool.{true, false, not, ◌&&◌}
use mathlib.Core.List.{List, [], ◌∷◌}
use Rattle.std.specs.Prelude.{Ok}
use native.Mathlib.Omega.{arith}
use lib.Dec.{eqb, eqb-suc-zero}
use lib.ListN.{length, drop}
use Rattle.lists.specs.Lists.{is_empty}
use Rattle.lists.specs.Checked.{refused}
use Rattle.lists.specs.Refusal.{content_bad}
use Rattle.lists.specs.Bytes.{part}
use Rattle.pattern.proofs.Plain.{plain_well_formed}
use Rattle.glob.specs.Plain.{PlainIf, FormIs}
use Rattle.glob.specs.declared.Form.{Form}
use Rattle.glob.specs.declared.Form.TheVariants.{Plain, Sound, Faulty}
use Rattle.rules.specs.Key.{Key, PROGRAM, same_key, Op, is_match}
use Rattle.rules.specs.Reading.{sound, read_pair}
use Rattle.keys.specs.Table.{key_of, operator_of}
use Rattle.refusals.specs.Refusals.{refusal_of}
use Rattle.refusals.specs.declared.Refusal as code
use Rattle.pairs.specs.declared.Pair.{Pair}
use Rattle.pairs.specs.Stages.{pair_written}
use Rattle.pairs.specs.Answers.{unescaped, read_by}
use Rattle.pairs.proofs.Whole.{read_written}
use Rattle.pair_content.specs.Content.{ContentIs}

-- what a value that is a pattern is as one is its content
pub pattern_content : (f : Form) (k : Key) (o : Op) (v : List ℕ) → (is_match o && not (same_key k PROGRAM)) ≡ true → FormIs f v → ContentIs f k o v
unfolding sound
pattern_content Plain k o v t e = (rw t (plain_well_formed v e), e)
pattern_content Sound k o v t e = rw t e
pattern_content Faulty k o v t e = rw t e

-- without a mark nothing is said
pub unmarked : (v : List ℕ) → PlainIf false v
unmarked v e = let z : ◌≡◌ {A = ℕ} 0 1 = cc e in absurd (never z)
  where
    never : ◌≡◌ {A = ℕ} 0 1 → ⊥
    never z = omega arith

-- a list without an element
pub length-empty : (v : List ℕ) → eqb (length v) 0 ≡ is_empty v
length-empty [] = refl
length-empty (b ∷ v) = eqb-suc-zero (length v)

module _ (line : List ℕ) (at : ℕ) where
  module _ (p : Pair) (written : read_by line (Ok p) ≡ pair_written (drop at line)) where
    pub pair_sound : sound (key_of p.key) (operator_of p.operator) (unescaped p.coded (part line p.start p.end)) ≡ true
        → read_by line (Ok p) ≡ read_pair (drop at line)
    pair_sound s = sym (rw (read_written (drop at line), ← written, s))

    pub pair_unsound : sound (key_of p.key) (operator_of p.operator) (unescaped p.coded (part line p.start p.end)) ≡ false
        → refused content_bad ≡ read_pair (drop at line)
    pair_unsound s = sym (rw (read_written (drop at line), ← written, s))

  pub pair_refused : (f : code.Refusal) → refused (refusal_of f) ≡ pair_written (drop at line) → refused (refusal_of f) ≡ read_pair (drop at line)
  pair_refused f written = sym (rw (read_written (drop at line), ← written))
