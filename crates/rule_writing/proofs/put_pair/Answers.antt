-- `rule_writing::put_pair` meets its contract.
use mathlib.Core.Path.{ap}
use native.Mathlib.Omega.{arith}
use lib.ListN.{length, length-append}
use Rattle.lists.specs.Bytes.{part}
use Rattle.writing.specs.Writing.{pair_text, name_of, argument_text, op_text}
use Rattle.rule_writing.proofs.Writes.{Writes, writes-from, writes_more, writes_last, part_room, rest_room}
use Rattle.rule_writing.proofs.Parts.{behind_name, behind_argument, behind_operator, pair_parts}
use Rattle.table.specs.Table.{entry_of}
use Rattle.keys.specs.Table.{key_of, operator_of}
use Rattle.rule_writing.proofs.put_pair.Goals.{After-put_argument-argued, After-put_name-named, After-put_operator-operated}
use Rattle.rule_writing.proofs.put_pair.Goals as goal

named : (c : After-put_name-named) → let a = c.args in
    Writes (pair_text (entry_of a.values.now a.pair)) a.out.now a.used (behind_name a.values.now a.pair) c.put_name-named.new.out c.put_name-named.result
named c =
    writes_more _ _ (writes-from (pair_parts c.args.values.now c.args.pair) (omega (arith, c.requires.1))) c.put_name-named.ensures

argued : (c : After-put_argument-argued) → let a = c.args in
    Writes (pair_text (entry_of a.values.now a.pair)) a.out.now a.used (behind_argument a.values.now a.pair) c.put_argument-argued.new.out c.put_argument-argued.result
argued c =
    let named : let a = c.args in Writes (pair_text (entry_of a.values.now a.pair)) a.out.now a.used (behind_name a.values.now a.pair) c.put_name-named.new.out c.put_name-named.result = writes_more _ _ (writes-from (pair_parts c.args.values.now c.args.pair) (omega (arith, c.requires.1))) c.put_name-named.ensures in
    writes_more _ _ (named) c.put_argument-argued.ensures

operated : (c : After-put_operator-operated) → let a = c.args in
    Writes (pair_text (entry_of a.values.now a.pair)) a.out.now a.used (behind_operator a.values.now a.pair) c.put_operator-operated.new.out c.put_operator-operated.result
operated c =
    let argued : let a = c.args in Writes (pair_text (entry_of a.values.now a.pair)) a.out.now a.used (behind_argument a.values.now a.pair) c.put_argument-argued.new.out c.put_argument-argued.result = let named : let a = c.args in Writes (pair_text (entry_of a.values.now a.pair)) a.out.now a.used (behind_name a.values.now a.pair) c.put_name-named.new.out c.put_name-named.result = writes_more _ _ (writes-from (pair_parts c.args.values.now c.args.pair) (omega (arith, c.requires.1))) c.put_name-named.ensures in
    writes_more _ _ (named) c.put_argument-argued.ensures in
    writes_more _ _ (argued) c.put_operator-operated.ensures

pub put_name-named-requires : goal.put_name-named-requires
put_name-named-requires c =
    let v = c.args.values.now in
    let p = c.args.pair in
    omega (arith, c.requires.1, ap length (pair_parts v p), length-append (name_of (key_of p.key)) (behind_name v p))

pub put_argument-argued-requires : goal.put_argument-argued-requires
put_argument-argued-requires c =
    let v = c.args.values.now in
    let p = c.args.pair in
    part_room (argument_text (part v p.start p.middle)) (behind_argument v p) (named (goal.at.put_argument-argued-requires c).After-put_name-named) c.requires.1

pub put_operator-operated-requires : goal.put_operator-operated-requires
put_operator-operated-requires c =
    let p = c.args.pair in
    part_room (op_text (operator_of p.operator)) (behind_operator c.args.values.now p) (argued (goal.at.put_operator-operated-requires c).After-put_argument-argued) c.requires.1

pub put_value-requires : goal.put_value-requires
put_value-requires c = rest_room (operated (goal.at.put_value-requires c).After-put_operator-operated) c.requires.1

pub returns : goal.returns
returns c = writes_last (operated (goal.at.returns c).After-put_operator-operated) c.put_value.ensures
