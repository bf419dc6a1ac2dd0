-- A line as code reads it: 10 first, then its first byte that is no blank, then its pairs.
-- Assumes nothing.
use Prim.Native.Nat.{ℕ, ◌+◌, ◌-◌, ◌≤◌, ◌<◌}
use mathlib.Core.Path.{◌≡◌, refl, sym, ap, ◌∙◌}
use mathlib.Core.Bool.{true, false}
use mathlib.Core.List.{List, []}
use native.Mathlib.Omega.{arith}
use borrow.Author.Tests.{le-leb, lt-leb, ne_eqb}
use lib.Dec.{leb}
use lib.ListN.{length, get_or, drop, drop_of_length-le}
use Rattle.lists.specs.Bytes.{is_blank, holds}
use Rattle.lists.specs.Runs.{span_at}
use Rattle.lists.specs.Refusal.{line_bad, line_open}
use Rattle.lists.proofs.Rest.{rest_at}
use Rattle.lists.proofs.Tests.{and-false}
use Rattle.text.specs.Engine as text
use Rattle.text.specs.Lines.{is_open, unjoined}
use Rattle.text.specs.Reading.{read_lent}
use Rattle.rules.specs.Reading.{read_unblank, read_line, read_pairs, rule_read, reader}
use Rattle.pairs.proofs.Reading.{unblank_at}
use Rattle.rule_lines.specs.declared.Fill.{Fill}
use Rattle.rule_lines.specs.Filling.{start, Room}
use Rattle.rule_lines.specs.Answers.{Grown}

-- NUL, whatever else stands on the line
pub nul_fault : (line : List ℕ) → holds 0 line ≡ true → read_line line ≡ text.fault line_bad
unfolding read_line
nul_fault line z = rw (z, and-false (leb (length line) 1024))

module _ (line : List ℕ) where
  pub line-long : 1024 < length line → read_line line ≡ text.fault line_bad
  unfolding read_line
  line-long h = rw (lt-leb (length line) 1024 h)

  module _ (h : length line ≤ 1024) (z : holds 0 line ≡ false) (at : ℕ) (b : at ≡ span_at is_blank line 0) where
    from-unblank : read_line line ≡ read_unblank (drop at line)
    unfolding read_line
    from-unblank = rw (le-leb (length line) 1024 h, z) (ap read_unblank (unblank_at line 0 at b))

    pub line-blank : length line ≤ at → read_line line ≡ text.skip
    line-blank l = rw (from-unblank, drop_of_length-le line {i = at} l)

    module _ (l : at < length line) where
      pub line-comment : get_or line at 0 ≡ 35 → read_line line ≡ text.skip
      line-comment e = rw (from-unblank, rest_at line at l, e)

      pub line-rule : (get_or line at 0 ≡ 35 → ⊥) → read_line line ≡ rule_read (read_pairs 32 false false (drop at line))
      line-rule n = rw (from-unblank, rest_at line at l, ne_eqb (get_or line at 0) 35 n)

-- ---- a line as lent

module _ (l : List ℕ) where
  pub lent_open : is_open l ≡ true → read_lent reader l ≡ text.fault line_open
  unfolding read_lent
  lent_open h = rw h

  pub lent-joined : is_open l ≡ false → read_lent reader l ≡ read_line (unjoined l)
  unfolding read_lent
  lent-joined h = rw h

-- ---- room

-- room for more is room for less
pub room_less : (m k : ℕ) (v r : List ℕ) (s : Fill) → k ≤ m → Room m v r s → Room k v r s
room_less m k v r s h x = record { values = omega (arith, x.values); small = x.small; few = x.few; rows = omega (arith, x.rows) }

pub grown_from : (from : ℕ) (s : Fill) (v r : List ℕ) (m k : ℕ) (s' : Fill) (v' r' : List ℕ) (m' : ℕ) → Grown from s v r m s' v' r' m' → Grown from s v r k s' v' r' m'
grown_from from s v r m k s' v' r' m' g = record { held = g.held; kept = g.kept; used = g.used; rows = g.rows; room = g.room }

-- the next line starts without a label and a jump
pub room_start : (m k : ℕ) (v r : List ℕ) (s : Fill) → k ≤ m → Room m v r s → Room k v r (start s.rows s.used)
room_start m k v r s h x = record { values = omega (arith, x.values); small = x.small; few = x.few; rows = omega (arith, x.rows) }
