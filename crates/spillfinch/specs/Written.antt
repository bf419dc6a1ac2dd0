-- Document 02, Item 2, of the exported function: what is wanted of the texts that calls of `spillfinch_write` make.
-- Assumes nothing.
use Rattle.std.specs.Prelude.{ℕ, ◌+◌, ◌≤◌, ◌≡◌, List, length, take}
use Rattle.rules.specs.Pair.{Rule}
use Rattle.writing.specs.Wanted.{Reads}
use Rattle.spillfinch.specs.Exports.{WriteGives}
use Rattle.spillfinch.specs.Joined.{number_in, used_in}

-- the text that a call made: the target cut at the used length
abbrev pub made_in : List ℕ → List ℕ → List ℕ
made_in written target = take (used_in written) target

-- of a call that is not refused
pub record WellMade (text : List ℕ) (room : ℕ) (written target : List ℕ) : Type 0 where
  -- it reads back to the rules of the text, in their order
  pub reads_back : (rs : List Rule) × Reads text rs × Reads (made_in written target) rs
  -- a call for it with the same room writes the same numbers and the same target
  pub twice : (written' target' : List ℕ) → WriteGives (made_in written target) room written' target' → (written' ≡ written) × (target' ≡ target)
  -- it is no longer than the text and one final newline
  pub no_longer : used_in written ≤ length text + 1

-- of every call that is not refused
abbrev pub Made : Type 0
Made = (text : List ℕ) (room : ℕ) (written target : List ℕ) → WriteGives text room written target → number_in written ≡ 0 → WellMade text room written target
