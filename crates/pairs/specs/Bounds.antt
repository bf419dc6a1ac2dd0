-- Where the places of the code's answers lie in the line.
-- Assumes nothing.
use Rattle.std.specs.Prelude.{ℕ, ◌+◌, ◌-◌, ◌≤◌, ◌<◌, ◌≡◌, Bool, true, false, List, ltb, length, drop}
use Rattle.std.specs.Prelude.{None, Some, Result, Ok, Err}
use Rattle.lists.specs.Lists.{pick}
use Rattle.lists.specs.Sizes.{most_value}
use Rattle.lists.specs.Bytes.{part}
use Rattle.rules.specs.Places.{close_end, weights}
use Rattle.rules.specs.Coded.{coded}
use Rattle.rules.specs.Reading.{quoted}
use Rattle.escapes.specs.Values.{decoded}
use Rattle.refusals.specs.declared.Refusal.{Refusal}
use Rattle.pairs.specs.declared.Pair.{Pair}
use Rattle.pairs.specs.declared.Argument.{Argument}
use Rattle.pairs.specs.declared.OperatorRead.{OperatorRead}
use Rattle.pairs.specs.declared.Value.{Value}
use Rattle.pairs.specs.declared.Close.{Close}
use Rattle.pairs.specs.Answers.{unescaped}
pub use Rattle.escapes.specs.Values.{Put}

-- behind a place; one that is given ends before its brace, which stands in the line
abbrev pub ArgumentIn : List ℕ → ℕ → Result Argument Refusal → Type 0
ArgumentIn line at (Ok a) =
    (a.start ≤ a.end) × (a.end ≤ length line) × (at ≤ length line → a.next ≤ length line) × (at < a.next → (a.end < length line) × (a.next ≡ a.end + 1))
ArgumentIn line at (Err f) = Unit {0}

abbrev pub OperatorIn : Result OperatorRead Refusal → Type 0
OperatorIn (Ok w) = w.width ≤ 2
OperatorIn (Err f) = Unit {0}

-- the first mark that closes a value that starts at a place, or the end of the line; each other byte of the value adds
-- one to its length, and a mark none
pub record Closes (line : List ℕ) (start : ℕ) (c : Close) : Type 0 where
  pub place : close_end false (drop start line) start ≡ pick (ltb c.end (length line)) (Some c.end) None
  pub from : start ≤ c.end
  pub within : c.end ≤ length line
  pub marks : c.marks + weights (part line start c.end) ≡ c.end - start

-- a value as written from s to e, closed by the mark behind it
abbrev pub ClosedAt : List ℕ → Bool → ℕ → ℕ → Type 0
ClosedAt line true s e = coded 0 (drop s line) ≡ Some (record { value = decoded (part line s e); rest = drop (e + 1) line })
ClosedAt line false s e = quoted false (drop s line) ≡ Some (record { value = part line s e; rest = drop (e + 1) line })

pub record WrittenAt (line : List ℕ) (c : Bool) (s e : ℕ) : Type 0 where
  pub from : s ≤ e
  pub within : e < length line
  pub closed : ClosedAt line c s e

-- of n bytes after unescaping
pub record ValueAt (line : List ℕ) (c : Bool) (s e n : ℕ) : Type 0 where
  pub written : WrittenAt line c s e
  pub size : n ≡ length (unescaped c (part line s e))
  pub short : n ≤ most_value

abbrev pub ValueIn : List ℕ → Result Value Refusal → Type 0
ValueIn line (Ok v) = ValueAt line v.coded v.start v.end v.len
ValueIn line (Err f) = Unit {0}

pub record PairIn (line : List ℕ) (p : Pair) : Type 0 where
  pub argument : p.arg_start ≤ p.arg_end
  pub argument_in : p.arg_end ≤ length line
  pub value : ValueAt line p.coded p.start p.end p.len
  pub behind : p.end < p.next
  pub next_in : p.next ≤ length line

abbrev pub ReadIn : List ℕ → Result Pair Refusal → Type 0
ReadIn line (Ok p) = PairIn line p
ReadIn line (Err f) = Unit {0}
