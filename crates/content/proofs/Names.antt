-- A component of a link's name by its bytes, and a turn of the check of all components.
-- Assumes nothing.
use Prim.Native.Nat.{ℕ, suc, ◌+◌, ◌-◌, ◌≤◌, ◌<◌}
use mathlib.Core.Path.{◌≡◌, refl, sym, ap, ◌∙◌}
use mathlib.Core.Bool.{Bool, true, false, not, ◌&&◌}
use mathlib.Core.List.{List, [], ◌∷◌}
use native.Mathlib.Omega.{arith}
use borrow.Author.Tests.{eq-eqb, ne_eqb}
use lib.Dec.{eqb}
use lib.ListN.{length, get_or, take, drop, drop_of_length-le}
use Rattle.lists.specs.Lists.{all}
use Rattle.lists.specs.Bytes.{same_bytes}
use Rattle.lists.specs.Runs.{span, span_at, split_at}
use Rattle.lists.proofs.Rest.{rest_at}
use Rattle.lists.proofs.Runs.{run_at, rest_of}
use Rattle.lists.proofs.Scan.{parts_behind, split-first}
use Rattle.lists.proofs.Tests.{and-false}
use Rattle.scan.specs.Ends.{RunEnd, is_not}
use Rattle.outcome.specs.Content.{ok_part}

-- ---- one component

pub part-empty : (x : List ℕ) → length x ≡ 0 → ok_part x ≡ false
part-empty [] h = refl
part-empty (a ∷ x) h = absurd (omega arith)

pub part-long : (x : List ℕ) → 2 < length x → ok_part x ≡ true
unfolding same_bytes
part-long [] h = absurd (omega arith)
part-long (a ∷ []) h = absurd (omega arith)
part-long (a ∷ b ∷ []) h = absurd (omega arith)
part-long (a ∷ b ∷ c ∷ x) h = rw (and-false (eqb a 46), and-false (eqb b 46), and-false (eqb a 46))

pub part_other : (x : List ℕ) → 0 < length x → (get_or x 0 0 ≡ 46 → ⊥) → ok_part x ≡ true
unfolding same_bytes
part_other [] h n = absurd (omega arith)
part_other (a ∷ x) h n = rw (ne_eqb a 46 n)

pub part_dot : (x : List ℕ) → length x ≡ 1 → get_or x 0 0 ≡ 46 → ok_part x ≡ false
unfolding same_bytes
part_dot [] h e = absurd (omega arith)
part_dot (a ∷ []) h e = rw (eq-eqb a 46 e)
part_dot (a ∷ b ∷ x) h e = absurd (omega arith)

pub part_second : (x : List ℕ) → length x ≡ 2 → (get_or x 1 0 ≡ 46 → ⊥) → ok_part x ≡ true
unfolding same_bytes
part_second [] h n = absurd (omega arith)
part_second (a ∷ []) h n = absurd (omega arith)
part_second (a ∷ b ∷ []) h n = rw (ne_eqb b 46 n, and-false (eqb a 46))
part_second (a ∷ b ∷ c ∷ x) h n = absurd (omega arith)

pub part_dots : (x : List ℕ) → length x ≡ 2 → get_or x 0 0 ≡ 46 → get_or x 1 0 ≡ 46 → ok_part x ≡ false
unfolding same_bytes
part_dots [] h e f = absurd (omega arith)
part_dots (a ∷ []) h e f = absurd (omega arith)
part_dots (a ∷ b ∷ []) h e f = rw (eq-eqb a 46 e, eq-eqb b 46 f)
part_dots (a ∷ b ∷ c ∷ x) h e f = absurd (omega arith)

-- ---- a turn: the component from i up to e

module _ (s : List ℕ) (i e : ℕ) (w : RunEnd (is_not 47) s i e) (h : i ≤ length s) where
  first : split_at 47 (drop i s) ≡ take (e - i) (drop i s) ∷ parts_behind 47 (drop e s)
  first =
      split-first 47 (drop i s)
      ∙ rw (run_at (is_not 47) s i, rest_of (is_not 47) s i, ← w.place)

  pub name-bad : ok_part (take (e - i) (drop i s)) ≡ false → all ok_part (split_at 47 (drop i s)) ≡ false
  name-bad t = rw (first, t)

  pub name_last : ok_part (take (e - i) (drop i s)) ≡ true → length s ≤ e → all ok_part (split_at 47 (drop i s)) ≡ true
  name_last t k = rw (first, t, drop_of_length-le s k)

  pub name-next : ok_part (take (e - i) (drop i s)) ≡ true → e < length s → all ok_part (split_at 47 (drop i s)) ≡ all ok_part (split_at 47 (drop (e + 1) s))
  name-next t k = rw (first, t, rest_at s e k)
