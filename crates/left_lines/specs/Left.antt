-- What is left of the lines of a text, as code goes over them with their notes.
-- Assumes nothing.
use Rattle.std.specs.Prelude.{ℕ, zero, suc, ◌+◌, ◌-◌, ◌*◌, ◌≤◌, ◌<◌, ◌≡◌, Bool, List, [], ◌∷◌, ◌++◌, map, eqb, ltb, length, take, drop, replicate}
use Rattle.lists.specs.Lists.{pick, All}
use Rattle.lists.specs.Checked.{Placed, line, line_of}
use Rattle.lists.specs.Refusal.{number}
use Rattle.lists.specs.Sizes.{most_text}
use Rattle.lists.specs.Bytes.{part}
use Rattle.text.specs.Engine.{LineRead, skip, fault, rule}
use Rattle.text.specs.Rules.{rules_in}
use Rattle.text.proofs.Places.{lines_from, lines_at}
use Rattle.rules.specs.Pair.{Rule, goto_of}
use Rattle.rules.specs.Reading.{reader}
use Rattle.striking.specs.Striking.{strikes_of, all_left, together, answered_by, unanswered, strikes, struck, laid_out}
use Rattle.table.specs.Table.{rules_from}
use Rattle.table.specs.Puts.{Added}
use Rattle.reader.specs.Read.{noted}
use Rattle.lost_jumps.specs.Lost.{emptied}
use Rattle.left_lines.specs.declared.Fate.{Fate}
use Rattle.left_lines.specs.declared.Left.{Left}

-- ---- what is noted of a line

-- all of these lines have greater numbers
abbrev pub After : ℕ → List (Placed (LineRead Rule)) → Type 0
After n ys = All (λ (p : Placed (LineRead Rule)). n < line_of p) ys

-- the notes of lines stand from a place up to another, and their rules in a table from a number on, the lost ones emptied
pub record Unread (t s : List ℕ) (read end rule : ℕ) (ys : List (Placed (LineRead Rule))) : Type 0 where
  pub reached : read ≤ end
  pub within : end ≤ length s
  pub notes : part s read end ≡ noted ys
  pub values : List ℕ
  pub rows : List ℕ
  pub count : ℕ
  pub room : count * 4 ≤ length t
  pub rules : rules_from values rows t rule (count - rule) ≡ emptied (rules_in ys)

-- a line in the end, before those behind it
abbrev pub final : LineRead Rule → List (Placed (LineRead Rule)) → LineRead Rule
final skip ys = skip
final (fault f) ys = fault f
final (rule r) ys = answered_by reader (goto_of r) r (rules_in (unanswered reader ys))

-- the number that strikes it, or 0
abbrev pub fault_of : LineRead Rule → ℕ
fault_of skip = 0
fault_of (fault f) = number f
fault_of (rule r) = 0

-- where a line is struck its note is read
pub record FateIs (t s : List ℕ) (read end : ℕ) (y : LineRead Rule) (ys : List (Placed (LineRead Rule))) (r : Fate) : Type 0 where
  pub fault : r.fault ≡ fault_of (final y ys)
  pub unread : Unread t s r.read end r.rule ys
  pub stays : read ≤ r.read
  pub noted : (r.fault ≡ 0 → ⊥) → read + 2 ≤ r.read

-- ---- what is left of it

abbrev pub next_of : List ℕ → ℕ → ℕ
next_of x e = pick (ltb e (length x)) (e + 1) e

-- the line with its newline, or its newlines
abbrev pub left_bytes : List ℕ → ℕ → ℕ → ℕ → ℕ → List ℕ
left_bytes x at e k f = pick (eqb f 0) (part x at (next_of x e)) (replicate (k + (next_of x e - e)) 10)

abbrev pub strike_at : ℕ → ℕ → List ℕ
strike_at n f = pick (eqb f 0) [] (n ∷ f ∷ [])

-- a strike is put, and what stands behind it stays
pub record Listed (n f used : ℕ) (s s' : List ℕ) (r : ℕ) : Type 0 where
  pub end : r ≡ used + length (strike_at n f)
  pub added : Added (strike_at n f) used s s'
  pub behind : (k : ℕ) → r ≤ k → drop k s' ≡ drop k s

-- ---- the lines of a text

pub record Leaves (x t s g : List ℕ) (end : ℕ) (d : Left) : Type 0 where
  pub short : length x ≤ most_text
  pub room : most_text ≤ length g
  pub counts : 0 < d.number
  pub number_at : d.number ≤ d.at + 1
  pub used_at : d.used ≤ d.at
  pub used_small : d.used ≤ length x
  pub listed_small : d.listed ≤ d.read
  pub rest : List (Placed (LineRead Rule))
  pub unread : Unread t s d.read end d.rule rest
  pub numbers : map line_of rest ≡ map line_of (lines_at x d.at d.number)
  pub text : struck reader x ≡ take d.used g ++ together (all_left (lines_from x d.at) (unanswered reader rest))
  pub list : laid_out (strikes reader x) ≡ take d.listed s ++ laid_out (strikes_of (unanswered reader rest))

-- behind the line at a place
abbrev pub LeftIs : List ℕ → ℕ → List ℕ → List ℕ → List ℕ → ℕ → Left → Type 0
LeftIs x at t s g end d = (at < d.at) × (d.at ≤ length x + 1) × Leaves x t s g end d

-- behind the last
pub record AllLeft (x s g : List ℕ) (d : Left) : Type 0 where
  pub text : struck reader x ≡ take d.used g
  pub used : d.used ≤ length g
  pub list : laid_out (strikes reader x) ≡ take d.listed s
  pub listed : d.listed ≤ length s
