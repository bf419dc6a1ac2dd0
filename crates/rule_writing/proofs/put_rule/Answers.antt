-- `rule_writing::put_rule` meets its contract.
use Prim.Native.Nat.{◌+◌, ◌-◌}
use mathlib.Core.Path.{ap}
use native.Mathlib.Omega.{arith}
use lib.ListN.{length, length-append}
use Rattle.rule_writing.proofs.Parts.{above, line-none, line-here}
use Rattle.rule_writing.proofs.Writes.{writes-from, writes_more, writes_last, rest_room, placed_as}
use Rattle.rule_writing.specs.Tables.{others}
use Rattle.writing.specs.Writing.{pair_text}
use Rattle.table.proofs.Pairs.{entry_in}
use Rattle.table.specs.Table.{entry_of, pairs_from}
use Rattle.insertion.proofs.Laws.{appended_none}
use Rattle.rule_writing.proofs.put_rule.Goals as goal

pub returns-then-from-to : goal.returns-then-from-to
returns-then-from-to c =
    let a = c.args in
    placed_as (line-none a.values.now a.rows.now a.from a.to (omega (arith, c.if-from-to.true))) (appended_none a.out.now a.used (omega (arith, c.requires.2)))

pub pair_at-pair-requires : goal.pair_at-pair-requires
pair_at-pair-requires c =
    let a = c.args in
    omega (arith, c.requires.1.room, above a.from a.to c.requires.0 c.if-from-to.false)

pub put_pair-end-requires : goal.put_pair-end-requires
put_pair-end-requires c =
    let a = c.args in
    let v = a.values.now in
    let r = a.rows.now in
    let pair = pair_text (entry_of v c.pair_at-pair.result) in
    let rest = others (pairs_from v r (a.from + 1) (a.to - (a.from + 1))) in
    let below = above a.from a.to c.requires.0 c.if-from-to.false in
    let is = line-here v r a.from a.to c.pair_at-pair.result c.pair_at-pair.ensures below in
    (entry_in v r a.from a.to c.pair_at-pair.result c.pair_at-pair.ensures below c.requires.1, omega (arith, c.requires.2, ap length is, length-append pair rest))

pub put_others-requires : goal.put_others-requires
put_others-requires c =
    let a = c.args in
    let v = a.values.now in
    let r = a.rows.now in
    let pair = pair_text (entry_of v c.pair_at-pair.result) in
    let rest = others (pairs_from v r (a.from + 1) (a.to - (a.from + 1))) in
    let below = above a.from a.to c.requires.0 c.if-from-to.false in
    let is = line-here v r a.from a.to c.pair_at-pair.result c.pair_at-pair.ensures below in
    let first = writes_more pair rest (writes-from is (omega (arith, c.requires.2))) c.put_pair-end.ensures in
    (omega (arith, below), c.requires.1, rest_room first c.requires.2)

pub returns : goal.returns
returns c =
    let a = c.args in
    let v = a.values.now in
    let r = a.rows.now in
    let pair = pair_text (entry_of v c.pair_at-pair.result) in
    let rest = others (pairs_from v r (a.from + 1) (a.to - (a.from + 1))) in
    let below = above a.from a.to c.requires.0 c.if-from-to.false in
    let is = line-here v r a.from a.to c.pair_at-pair.result c.pair_at-pair.ensures below in
    let first = writes_more pair rest (writes-from is (omega (arith, c.requires.2))) c.put_pair-end.ensures in
    writes_last first c.put_others.ensures
