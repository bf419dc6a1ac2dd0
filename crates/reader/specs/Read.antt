-- What the code's answers stand for, and what is known while the lines of a text are read into a table.
-- Assumes nothing.
use Rattle.std.specs.Prelude.{ℕ, ◌+◌, ◌-◌, ◌*◌, ◌≤◌, ◌<◌, ◌≡◌, Bool, true, false, List, [], ◌∷◌, ◌++◌, map, length, get_or, take}
use Rattle.std.specs.Prelude.{Option, None, Some, Result, Ok, Err}
use Rattle.lists.specs.Checked.{Checked, refused, ok, ◌>>=◌, Placed, line, in_place}
use Rattle.lists.specs.Refusal.{Refusal, number}
use Rattle.lists.specs.Sizes.{most_rules, most_text}
use Rattle.text.specs.Engine as text
use Rattle.text.specs.Reading.{read_lent, collect, reads}
use Rattle.text.specs.Rules.{rules_in}
use Rattle.text.proofs.Places.{lines_at}
use Rattle.rules.specs.Pair.{Rule}
use Rattle.refusals.specs.declared.Refusal as code
use Rattle.refusals.specs.declared.LineRefusal.{LineRefusal}
use Rattle.refusals.specs.Refusals.{refusal_of}
use Rattle.lines.specs.declared.LineFault.{LineFault}
use Rattle.rules.specs.Reading.{read_line, reader}
use Rattle.striking.specs.Striking.{most_strikes, past_most}
use Rattle.table.specs.Table.{rules_from, Rows}
use Rattle.table.specs.Rules.{RuleIn, Rules, mark_of}
use Rattle.table.specs.Puts.{Four, Kept, Added}
use Rattle.rule_lines.specs.declared.Fill.{Fill}
use Rattle.rule_lines.specs.Filling.{start, held, Room}
use Rattle.rule_lines.specs.Answers.{Grown}
use Rattle.reader.specs.declared.Counts.{Counts}
use Rattle.reader.specs.declared.Place.{Place}

-- ---- a line

abbrev pub LineIs : List ℕ → ℕ → ℕ → ℕ → List ℕ → List ℕ → List ℕ → List ℕ → Result (Option Fill) code.Refusal → Type 0
LineIs bs beyond n used v r v' r' (Ok None) = (read_line bs ≡ text.skip) × (v' ≡ v) × (r' ≡ r)
LineIs bs beyond n used v r v' r' (Err f) = (read_line bs ≡ text.fault (refusal_of f)) × Kept used n v r v' r'
LineIs bs beyond n used v r v' r' (Ok (Some s)) =
    (read_line bs ≡ text.rule (held v' r' n s)) × Grown n (start n used) v r (beyond + length bs + 1) s v' r' beyond

-- ---- the lines

-- the rules of all lines
abbrev pub collected : List ℕ → Checked (Placed Refusal) (List (Placed Rule))
collected t = collect most_rules (reads reader t)

-- the lines from a place on, numbered from n, as they are read
abbrev pub reads_at : List ℕ → ℕ → ℕ → List (Placed (text.LineRead Rule))
reads_at t at n = map (in_place (read_lent reader)) (lines_at t at n)

-- ---- the rules so far

-- a table with room for all rules, filled so far
pub record Filled (v r t l : List ℕ) (c : Counts) : Type 0 where
  pub few : c.rules ≤ most_rules
  pub rules_room : length t ≡ most_rules * 4
  pub labels_room : length l ≡ most_rules
  pub rows : Rows v r c.rows c.used
  pub rules : (i : ℕ) → i < c.rules → RuleIn v r t l c.rows i

-- strictly: the rules of all lines are those so far, and those of the lines from a place on
pub record UpTo (x v r t l : List ℕ) (at number : ℕ) (c : Counts) : Type 0 where
  pub filled : Filled v r t l c
  pub whole : collected x ≡ (collect (most_rules - c.rules) (reads_at x at number) >>= λ qs. ok (rules_from v r t 0 c.rules ++ qs))

-- what m bytes can hold still fits
abbrev pub Fits : ℕ → List ℕ → List ℕ → Counts → Type 0
Fits m v r c = Room m v r (start c.rows c.used)

-- room for a text of so many bytes
pub record Lends (n : ℕ) (v r : List ℕ) : Type 0 where
  pub values : n ≤ length v
  pub small : length v < 65536
  pub few : length r < 65536
  pub rows : (n + 1) * 4 ≤ length r * 7

pub record RulePut (i number from : ℕ) (s : Fill) (t l t' l' : List ℕ) : Type 0 where
  pub four : Four (i * 4) number from s.rows (mark_of s.goto) t t'
  pub label : get_or l' i 0 ≡ mark_of s.label
  pub before : (k : ℕ) → k < i → get_or l' k 0 ≡ get_or l k 0
  pub size : length l' ≡ length l

-- ---- notes (document 02, Item 12)

-- two numbers for each line that is not skipped: its own, and that of its fault, or 0 for a rule
unfoldable pub noted : List (Placed (text.LineRead Rule)) → List ℕ
noted [] = []
noted (line n text.skip ∷ ls) = noted ls
noted (line n (text.fault f) ∷ ls) = n ∷ number f ∷ noted ls
noted (line n (text.rule r) ∷ ls) = n ∷ 0 ∷ noted ls

-- the lines of a text with the faults of reading and 18
abbrev pub counted : List ℕ → List (Placed (text.LineRead Rule))
counted x = past_most most_rules (reads reader x)

-- those from a place on, numbered from n, behind so many rules
abbrev pub counted_at : List ℕ → ℕ → ℕ → ℕ → List (Placed (text.LineRead Rule))
counted_at x at n rules = past_most (most_rules - rules) (reads_at x at n)

-- the lines before a place are noted
pub record NotedTo (x v r t l s : List ℕ) (d : Place) : Type 0 where
  pub filled : Filled v r t l d.counts
  pub room : most_strikes * 2 ≤ length s
  pub done : List (Placed (text.LineRead Rule))
  pub whole : counted x ≡ done ++ counted_at x d.at d.number d.counts.rules
  pub rules : rules_in done ≡ rules_from v r t 0 d.counts.rules
  pub list : noted done ≡ take d.used s
  -- a line that is noted has a byte and an end, and takes two numbers
  pub small : d.used ≤ d.at
  pub half : ℕ
  pub twice : d.used ≡ half * 2

abbrev pub RuleNoted : ℕ → ℕ → Bool → List ℕ → List ℕ → ℕ → Type 0
RuleNoted number used true s s' r = Unit {0}
RuleNoted number used false s s' r = (r ≡ used + 2) × Added (number ∷ 0 ∷ []) used s s'

-- a fault refuses the text, or is noted
abbrev pub FaultTaken : List ℕ → List ℕ → Place → LineFault → Bool → Result Place code.Refusal → Type 0
FaultTaken s s' d f strict (Err g) = (strict ≡ true) × (g ≡ f.refusal)
FaultTaken s s' d f strict (Ok p) =
    (strict ≡ false)
    × (p ≡ record { at = f.extent.end + 1; number = d.number + f.extent.newlines + 1; counts = d.counts; used = d.used + 2 })
    × Added (d.number ∷ number (refusal_of f.refusal) ∷ []) d.used s s'

-- ---- before a line is read, at a place

pub record Stands (x : List ℕ) (at number : ℕ) (bs v r : List ℕ) (c : Counts) : Type 0 where
  pub short : length x ≤ most_text
  pub starts : at ≤ length x
  pub number_at : number ≤ at + 1
  pub copy_room : length bs ≡ 1024
  pub fits : Fits (length x + 1 - at) v r c

-- the lines before it: strictly, or with notes
pub record Before (x v r t l s : List ℕ) (strict : Bool) (d : Place) : Type 0 where
  pub filled : Filled v r t l d.counts
  pub strictly : strict ≡ true → UpTo x v r t l d.at d.number d.counts
  pub noting : strict ≡ false → NotedTo x v r t l s d

pub record Reads (x bs v r t l s : List ℕ) (strict : Bool) (d : Place) : Type 0 where
  pub stands : Stands x d.at d.number bs v r d.counts
  pub before : Before x v r t l s strict d

-- the line at a place
abbrev pub TakenIs : List ℕ → Place → List ℕ → List ℕ → List ℕ → List ℕ → List ℕ → Bool → Result Place code.Refusal → Type 0
TakenIs x d v r t l s strict (Err f) = (strict ≡ true) × (collected x ≡ refused (line d.number (refusal_of f)))
TakenIs x d v r t l s strict (Ok p) =
    (d.at < p.at) × (p.at ≤ length x + 1) × (p.number ≤ p.at + 1) × Before x v r t l s strict p × Fits (length x + 1 - p.at) v r p.counts

-- all lines, noted
pub record AllNoted (x v r t l s : List ℕ) (d : Place) : Type 0 where
  pub few : d.counts.rules ≤ most_rules
  pub table : Rules v r t l d.counts.rows d.counts.used d.counts.rules
  pub rules : rules_in (counted x) ≡ rules_from v r t 0 d.counts.rules
  pub list : noted (counted x) ≡ take d.used s
  pub within : d.used ≤ length s

-- where the lines end, or the line whose fault refuses the text
abbrev pub EndedIs : List ℕ → List ℕ → List ℕ → List ℕ → List ℕ → List ℕ → Bool → Result Place LineRefusal → Type 0
EndedIs x v r t l s strict (Err f) = (strict ≡ true) × (f.line < 65536) × (collected x ≡ refused (line f.line (refusal_of f.refusal)))
EndedIs x v r t l s strict (Ok d) = Filled v r t l d.counts × (strict ≡ true → collected x ≡ ok (rules_from v r t 0 d.counts.rules)) × (strict ≡ false → AllNoted x v r t l s d)

abbrev pub LinesAre : List ℕ → List ℕ → List ℕ → List ℕ → List ℕ → Result Counts LineRefusal → Type 0
LinesAre x v r t l (Err f) = (f.line < 65536) × (collected x ≡ refused (line f.line (refusal_of f.refusal)))
LinesAre x v r t l (Ok c) = (collected x ≡ ok (rules_from v r t 0 c.rules)) × (c.rules ≤ most_rules) × Rows v r c.rows c.used × ((i : ℕ) → i < c.rules → RuleIn v r t l c.rows i)
