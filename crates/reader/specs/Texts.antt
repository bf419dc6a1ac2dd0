-- A text that is read into a table: the promise of reading.
-- Assumes nothing.
use Rattle.std.specs.Prelude.{ℕ, ◌≤◌, ◌<◌, ◌≡◌, List}
use Rattle.std.specs.Prelude.{Result, Ok, Err}
use Rattle.lists.specs.Checked.{refused, ok, line}
use Rattle.lists.specs.Sizes.{most_rules}
use Rattle.text.specs.Reading.{read_text}
use Rattle.rules.specs.Reading.{reader}
use Rattle.refusals.specs.declared.LineRefusal.{LineRefusal}
use Rattle.refusals.specs.Refusals.{refusal_of}
use Rattle.table.specs.Table.{rules_from}
use Rattle.table.specs.Rules.{Rules}
use Rattle.jumps.specs.Jumps.{Jumps}
use Rattle.reader.specs.declared.Counts.{Counts}

-- the table holds exactly the rules of the text, and where each jump goes
pub record Read (x v r t l js : List ℕ) (c : Counts) : Type 0 where
  pub is : read_text reader x ≡ ok (rules_from v r t 0 c.rules)
  pub few : c.rules ≤ most_rules
  pub rules : Rules v r t l c.rows c.used c.rules
  pub jumps : Jumps v r t c.rules js c.rules

abbrev pub TextIs : List ℕ → List ℕ → List ℕ → List ℕ → List ℕ → List ℕ → Result Counts LineRefusal → Type 0
TextIs x v r t l js (Err f) = (f.line < 65536) × (read_text reader x ≡ refused (line f.line (refusal_of f.refusal)))
TextIs x v r t l js (Ok c) = Read x v r t l js c
