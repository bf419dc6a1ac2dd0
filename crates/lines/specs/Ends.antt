-- Where a line ends, and what it holds without its joins.
-- Assumes nothing.
use Rattle.std.specs.Prelude.{ℕ, ◌+◌, ◌≤◌, ◌<◌, ◌≡◌, ◌⊎◌, Bool, true, false, ◌&&◌, ◌||◌, List, [], ◌∷◌, eqb, length, take, drop}
use Rattle.std.specs.Prelude.{Option, None, Some, Result, Ok, Err}
use Rattle.lists.specs.Bytes.{holds, part}
use Rattle.lists.specs.Refusal.{line_open, line_bad}
use Rattle.text.specs.Lines.{blank, newlines, is_open, starts_newline, unjoined}
use Rattle.text.proofs.Places.{line_size}
use Rattle.scan.specs.Ends.{RunEnd, is_not}
use Rattle.refusals.specs.Refusals.{refusal_of}
use Rattle.lines.specs.declared.Extent.{Extent}
use Rattle.lines.specs.declared.Line.{Line}
use Rattle.lines.specs.declared.LineFault.{LineFault}

-- ---- a physical line

unfoldable pub ends_slash : List ℕ → Bool
ends_slash [] = false
ends_slash (b ∷ []) = eqb b 92
ends_slash (b ∷ c ∷ w) = ends_slash (c ∷ w)

-- one from a place to another, without NUL
pub record CleanLine (text : List ℕ) (at e : ℕ) : Type 0 where
  pub run : RunEnd (is_not 10) text at e
  pub clean : holds 0 (part text at e) ≡ false

-- ---- a line as lent

-- the end of the line that starts at a place
abbrev pub end_from : List ℕ → ℕ → ℕ
end_from text at = at + line_size blank (drop at text)

-- whether nothing follows its last backslash
abbrev pub Reaches : List ℕ → ℕ → Extent → Bool → Type 0
Reaches text at x k = (x.end ≡ end_from text at) × (newlines (part text at x.end) ≡ x.newlines) × (is_open (part text at x.end) ≡ k)

abbrev pub JoinedAt : List ℕ → ℕ → Result Extent Extent → Type 0
JoinedAt text at (Ok x) = Reaches text at x false
JoinedAt text at (Err x) = Reaches text at x true

-- a line that joins nothing
abbrev pub EndsAt : List ℕ → ℕ → Option ℕ → Type 0
EndsAt text at (Some e) = CleanLine text at e × Reaches text at (record { end = e; newlines = 0 }) false
EndsAt text at None = Unit {0}

-- ---- without its joins

-- the first byte goes
unfoldable pub goes : List ℕ → Bool
goes [] = false
goes (b ∷ bs) = eqb b 10 || (eqb b 92 && starts_newline bs)

-- too long, or with NUL
abbrev pub BadLine : List ℕ → Type 0
BadLine bs = (1024 < length (unjoined bs)) ⊎ (holds 0 (unjoined bs) ≡ true)

-- a line's bytes stand without its joins at the front of others
abbrev pub UnjoinedIs : List ℕ → List ℕ → Option ℕ → Type 0
UnjoinedIs bs line (Some n) = (n ≤ 1024) × (take n line ≡ unjoined bs) × (holds 0 (unjoined bs) ≡ false)
UnjoinedIs bs line None = BadLine bs

-- ---- a line and its bytes

-- in the text, or in the copy
abbrev pub bytes_in : List ℕ → List ℕ → ℕ → ℕ → Option ℕ → List ℕ
bytes_in text copy at e None = part text at e
bytes_in text copy at e (Some n) = part copy 0 n

abbrev pub held_in : List ℕ → List ℕ → ℕ → Line → List ℕ
held_in text copy at l = bytes_in text copy at l.extent.end l.copied

abbrev pub CopyIn : List ℕ → Option ℕ → Type 0
CopyIn copy None = Unit {0}
CopyIn copy (Some n) = n ≤ length copy

pub record Found (text copy : List ℕ) (at : ℕ) (l : Line) : Type 0 where
  pub joined_at : Reaches text at l.extent false
  pub room : CopyIn copy l.copied
  pub held : held_in text copy at l ≡ unjoined (part text at l.extent.end)
  pub clean : holds 0 (held_in text copy at l) ≡ false

-- a line that is open, or bad
abbrev pub FaultAt : List ℕ → ℕ → LineFault → Type 0
FaultAt text at f = ((refusal_of f.refusal ≡ line_open) × Reaches text at f.extent true)
    ⊎ ((refusal_of f.refusal ≡ line_bad) × Reaches text at f.extent false × BadLine (part text at f.extent.end))

abbrev pub FoundIs : List ℕ → List ℕ → ℕ → Result Line LineFault → Type 0
FoundIs text copy at (Ok l) = Found text copy at l
FoundIs text copy at (Err f) = FaultAt text at f
