-- What an entry put into a row, or taken out, leaves of the target's bytes and of the layout.
-- Assumes nothing.
use Rattle.std.specs.Prelude.{ℕ, ◌+◌, ◌≡◌, List, [], ◌∷◌, ◌++◌, length}
use Rattle.lists.specs.Bytes.{Bytes}
use Rattle.bits.specs.Bits.{put_at}
use Rattle.bits.specs.Fields.{Field, packed}
use Rattle.splice.specs.Moves.{stored, inserted, removed, replaced}
use Rattle.entries.specs.Entry.{prop_fields}
use Rattle.outcome_target.specs.Layout.{end_of, moved_by, count_place, count_width}
use Rattle.outcome_target.specs.declared.Layout.{Layout}
use Rattle.outcome_target.specs.declared.Section.{Section}
use Rattle.outcome_target.specs.declared.Section.TheVariants as section

-- a run by the numbers of its head
abbrev pub run_bits : ℕ → ℕ → ℕ → List Field
run_bits builtin place len = (1, builtin) ∷ (5, place) ∷ (9, len) ∷ (1, 0) ∷ []

abbrev pub encoded_run : ℕ → ℕ → List ℕ → List ℕ
encoded_run builtin place x = packed (run_bits builtin place (length x)) ++ x

-- x behind the last entry of a row, which then has n
pub record Grown (l : List ℕ) (lay : Layout) (section : Section) (n : ℕ) (x : List ℕ) (l' : List ℕ) (lay' : Layout) : Type 0 where
  pub between : Bytes (inserted l (end_of lay section) lay.end x)
  pub bytes : l' ≡ put_at (inserted l (end_of lay section) lay.end x) (count_place section) (count_width section) n
  pub layout : lay' ≡ moved_by lay section 0 (length x)

-- without the k bytes at `at`, where a row then has n entries
pub record Cut (l : List ℕ) (lay : Layout) (section : Section) (at k n : ℕ) (l' : List ℕ) (lay' : Layout) : Type 0 where
  pub between : Bytes (removed l at lay.end k)
  pub bytes : l' ≡ put_at (removed l at lay.end k) (count_place section) (count_width section) n
  pub layout : lay' ≡ moved_by lay section k 0

-- with another value for the property at `at`, and its length in the property's head
pub record Revalued (l : List ℕ) (lay : Layout) (at key old : ℕ) (value l' : List ℕ) (lay' : Layout) : Type 0 where
  pub bytes : l' ≡ stored (replaced l (at + 2 + key) old lay.end value) at (packed (prop_fields key (length value)))
  pub layout : lay' ≡ moved_by lay section.Properties old (length value)
