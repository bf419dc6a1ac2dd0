-- `table::put_pair` meets its contract.
use native.Mathlib.Omega.{arith}
use Rattle.keys.specs.Table.{key_of, operator_of}
use Rattle.lists.proofs.Moves.{length_part}
use Rattle.lists.specs.Bytes.{part}
use Rattle.pairs.specs.Answers.{unescaped}
use Rattle.kinds.proofs.Numbers.{key_few, op_few, plain_few}
use Rattle.table.proofs.Pairs.{pair_put}
use Rattle.table.proofs.put_pair.Goals as goal

pub put_four-requires : goal.put_four-requires
put_four-requires c =
    let pair = c.args.pair in
    let kind = c.kind_of-kind in (
      c.requires.3,
      omega (arith, kind.ensures, key_few (key_of pair.key), op_few (operator_of pair.operator), plain_few c.args.plain),
      omega arith,
      omega arith,
      omega arith,
    )

pub returns : goal.returns
returns c =
    let args = c.args in
    let line = args.line.now in
    let p = args.pair in
    let put-bytes = c.put_bytes in
    let put-value = c.put_value in
    let put_four = c.put_four in
    let n = length_part line p.arg_start p.arg_end c.requires.0.argument_in in
    pair_put (part line p.arg_start p.arg_end) (unescaped p.coded (part line p.start p.end)) (key_of p.key) (operator_of p.operator) args.plain c.requires.4
    args.values.now put-bytes.new.values put-value.new.values args.rows.now put_four.new.l args.n args.used _ _
    (omega (arith, n)) (omega (arith, c.requires.0.value.size)) c.requires.1 put-bytes.ensures put-value.ensures
    (rw c.kind_of-kind.ensures at put_four.ensures)
