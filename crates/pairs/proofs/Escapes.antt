-- A value without an escape, told from its length.
-- Assumes nothing.
use Prim.Native.Nat.{ℕ, suc, ◌+◌, ◌-◌, ◌≤◌}
use mathlib.Core.Path.{◌≡◌, refl, ap}
use mathlib.Core.Bool.{Bool, true, false}
use mathlib.Core.List.{List, [], ◌∷◌}
use native.Mathlib.Omega.{arith}
use lib.Dec.{eqb}
use lib.ListN.{length, drop}
use Rattle.lists.specs.Lists.{pick}
use Rattle.lists.proofs.Tests.{and-false}
use Rattle.rules.specs.Places.{weights}
use Rattle.lists.specs.Runs.{Part}
use Rattle.lists.specs.Bytes.{part}
use Rattle.rules.specs.Reading.{starts_mark, unescape}
use Rattle.rules.proofs.Values.{value_length}
use Rattle.escapes.proofs.Values.{plain-written}
use Rattle.pairs.specs.Answers.{unescaped}
use Rattle.pairs.specs.Bounds.{ValueAt}
use Rattle.pairs.proofs.Parts.{part_length}

-- ---- without a mark

weight-le : (t : Bool) → pick t 0 1 ≤ 1
weight-le true = omega arith
weight-le false = omega arith

weights-le : (s : List ℕ) → weights s ≤ length s
unfolding weights
weights-le [] = omega arith
weights-le (b ∷ s) = omega (arith, weights-le s, weight-le (eqb b 34))

no_mark : (t : Bool) (n m : ℕ) → pick t 0 1 + n ≡ suc m → n ≤ m → t ≡ false
no_mark true n m e h = absurd (omega arith)
no_mark false n m e h = refl

starts-no : (s : List ℕ) → weights s ≡ length s → starts_mark s ≡ false
unfolding weights
starts-no [] h = refl
starts-no (b ∷ s) h = no_mark (eqb b 34) (weights s) (length s) h (weights-le s)

-- a value that does not get shorter is the value as written
pub plain_value : (s : List ℕ) → weights s ≡ length s → unescape s ≡ s
unfolding weights unescape
plain_value [] h = refl
plain_value (b ∷ s) h =
    let n = no_mark (eqb b 34) (weights s) (length s) h (weights-le s) in
    let w : weights s ≡ length s = rest (eqb b 34) n h in
    rw (starts-no s w, and-false (eqb b 92)) (ap (λ (l : List ℕ). b ∷ l) (plain_value s w))
  where
    rest : (t : Bool) → t ≡ false → pick t 0 1 + weights s ≡ suc (length s) → weights s ≡ length s
    rest true n e = absurd (omega (arith, weights-le s))
    rest false n e = omega arith

-- a value whose length is the number of its places, in either form
pub plain-part : (line : List ℕ) (c : Bool) (s e n : ℕ) → ValueAt line c s e n → n ≡ e - s → unescaped c (part line s e) ≡ part line s e
plain-part line true s e n v h =
    let w = v.written in
    plain-written line s e (record { from = w.from; within = w.within; closed = w.closed }) (omega (arith, v.size))
plain-part line false s e n v h =
    let p : Part (List ℕ) = record { value = part line s e; rest = drop (e + 1) line } in
    let l = value_length false (drop s line) p v.written.closed in
    let w = v.written.within in
    plain_value (part line s e) (omega (arith, v.size, part_length line s e v.written.from (omega arith)))
