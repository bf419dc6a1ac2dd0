-- What the code's answers stand for in the definitions, beside the line that their places are of.
-- Assumes nothing.
use Rattle.std.specs.Prelude.{ℕ, ◌+◌, Bool, true, false, List, drop}
use Rattle.std.specs.Prelude.{Option, None, Some, Result, Ok, Err}
use Rattle.lists.specs.Runs.{Part}
use Rattle.lists.specs.Checked.{Checked, refused, ok}
use Rattle.lists.specs.Refusal.{Refusal}
use Rattle.lists.specs.Bytes.{part}
use Rattle.rules.specs.Key as rules
use Rattle.rules.specs.Pair as pair
use Rattle.rules.specs.Reading.{unescape}
use Rattle.escapes.specs.Values.{decoded}
use Rattle.keys.specs.Table.{key_of, operator_of}
use Rattle.refusals.specs.Refusals.{refusal_of}
use Rattle.refusals.specs.declared.Refusal as code
use Rattle.pairs.specs.declared.Pair.{Pair}
use Rattle.pairs.specs.declared.Argument.{Argument}
use Rattle.pairs.specs.declared.OperatorRead.{OperatorRead}
use Rattle.pairs.specs.declared.Value.{Value}

-- an argument and what follows it
abbrev pub argument_by : List ℕ → Result Argument code.Refusal → Checked Refusal (Part (List ℕ))
argument_by line (Ok a) = ok (record { value = part line a.start a.end; rest = drop a.next line })
argument_by line (Err f) = refused (refusal_of f)

-- an operator, and what follows its width
abbrev pub operator_by : Option OperatorRead → List ℕ → Option (Part rules.Op)
operator_by None bs = None
operator_by (Some w) bs = Some (record { value = operator_of w.operator; rest = drop w.width bs })

-- an operator at a place, and what follows it
abbrev pub operator_read_by : List ℕ → ℕ → Result OperatorRead code.Refusal → Checked Refusal (Part rules.Op)
operator_read_by line at (Ok w) = ok (record { value = operator_of w.operator; rest = drop (at + w.width) line })
operator_read_by line at (Err f) = refused (refusal_of f)

-- the value that the bytes between its marks stand for, behind an `e` or plain
abbrev pub unescaped : Bool → List ℕ → List ℕ
unescaped true written = decoded written
unescaped false written = unescape written

abbrev pub value_by : List ℕ → Result Value code.Refusal → Checked Refusal (Part (List ℕ))
value_by line (Ok v) = ok (record { value = unescaped v.coded (part line v.start v.end); rest = drop (v.end + 1) line })
value_by line (Err f) = refused (refusal_of f)

abbrev pub pair_of : List ℕ → Pair → pair.Pair
pair_of line p = record {
  key = key_of p.key;
  argument = part line p.arg_start p.arg_end;
  op = operator_of p.operator;
  value = unescaped p.coded (part line p.start p.end);
}

-- a pair and what follows it
abbrev pub part_of : List ℕ → Pair → Part pair.Pair
part_of line p = record { value = pair_of line p; rest = drop p.next line }

abbrev pub read_by : List ℕ → Result Pair code.Refusal → Checked Refusal (Part pair.Pair)
read_by line (Ok p) = ok (part_of line p)
read_by line (Err f) = refused (refusal_of f)
