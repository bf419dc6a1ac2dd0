-- `pairs::read_operator` meets its contract.
use Prim.Native.Nat.{ℕ, ◌+◌}
use mathlib.Core.Path.{◌≡◌, sym, ◌∙◌}
use mathlib.Core.List.{List}
use Rattle.std.specs.Prelude.{Option, None, Some}
use lib.Seq.{drop-drop}
use lib.ListN.{get_or, drop}
use Rattle.keys.specs.Table.{allowed_of}
use Rattle.rules.specs.Reading.{op_of}
use Rattle.pairs.specs.declared.OperatorRead.{OperatorRead}
use Rattle.pairs.specs.Answers.{operator_by}
use Rattle.pairs.proofs.Reading.{operator_at}
use Rattle.pairs.proofs.read_operator.Goals as goal

-- the operator is read by the two bytes at a place
operator_read : (line : List ℕ) (at a b : ℕ) (r : Option OperatorRead) → a ≡ get_or line at 0 → b ≡ get_or line (at + 1) 0
    → ((bs : List ℕ) → operator_by r bs ≡ op_of a b (drop 1 bs) (drop 2 bs))
    → (bs : List ℕ) → operator_by r bs ≡ op_of (get_or line at 0) (get_or line (at + 1) 0) (drop 1 bs) (drop 2 bs)
operator_read line at a b r e f h bs = h bs ∙ rw (e, f)

pub returns-in_default : goal.returns-in_default
returns-in_default c =
    let line = c.args.line.now in
    let read = operator_read line c.args.at c.byte_at.result c.byte_at-2.result None c.byte_at.ensures c.byte_at-2.ensures c.in_default.ensures.by_index in
    (sym (operator_at line c.args.at (allowed_of c.args.operators) None read), tt)

pub returns-then-allows : goal.returns-then-allows
returns-then-allows c =
    let line = c.args.line.now in
    let r = c.in-Some.read in
    let read = operator_read line c.args.at c.byte_at.result c.byte_at-2.result (Some r) c.byte_at.ensures c.byte_at-2.ensures c.in-Some.ensures.by_index in
    (sym (operator_at line c.args.at (allowed_of c.args.operators) (Some r) read ∙ rw (← c.allows.ensures, c.if-allows.true, drop-drop r.width c.args.at line)), c.in-Some.ensures.width_in)

pub returns-else-allows : goal.returns-else-allows
returns-else-allows c =
    let line = c.args.line.now in
    let r = c.in-Some.read in
    let read = operator_read line c.args.at c.byte_at.result c.byte_at-2.result (Some r) c.byte_at.ensures c.byte_at-2.ensures c.in-Some.ensures.by_index in
    (sym (operator_at line c.args.at (allowed_of c.args.operators) (Some r) read ∙ rw (← c.allows.ensures, c.if-allows.false)), tt)
