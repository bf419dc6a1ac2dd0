-- The entries of a run list and their lines, on bytes alone.
-- Assumes nothing.
use Rattle.std.specs.Prelude.{ℕ, zero, suc, ◌+◌, ◌≤◌, ◌≡◌, List, [], ◌++◌, length, take, drop}
use Rattle.bits.specs.Bits.{number_at}
use Rattle.bits.specs.Fields.{flag_at}
use Rattle.engine.specs.Operations.{Command}
use Rattle.engine.specs.Listing.{command_line}
use Rattle.listing_commands.specs.declared.CommandHead.{CommandHead}

-- how many bytes the first entry has: its head and its text
abbrev pub size : List ℕ → ℕ
size bs = 2 + number_at bs 1 10

-- the first entry
abbrev pub first : List ℕ → Command
first bs = record { builtin = flag_at bs 0; text = take (number_at bs 1 10) (drop 2 bs) }

-- what its head says
pub record First (bs : List ℕ) (r : CommandHead) : Type 0 where
  pub builtin : r.builtin ≡ flag_at bs 0
  pub len : r.len ≡ number_at bs 1 10

-- n entries stand at the front
abbrev pub Entries : ℕ → List ℕ → Type 0
Entries zero bs = Unit {0}
Entries (suc n) bs = (size bs ≤ length bs) × Entries n (drop (size bs) bs)

-- as many as the list's head says
abbrev pub Stands : List ℕ → Type 0
Stands list = (1 ≤ length list) × Entries (number_at list 0 5) (drop 1 list)

-- their lines
abbrev pub entry_lines : ℕ → List ℕ → List ℕ
entry_lines zero bs = []
entry_lines (suc n) bs = command_line (first bs) ++ entry_lines n (drop (size bs) bs)
