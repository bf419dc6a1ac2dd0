use Prim.Native.Nat.{◌+◌, ◌-◌}
use mathlib.Core.List.{[], ◌∷◌, ◌++◌}
use mathlib.Core.Path.{refl}
use native.Mathlib.Omega.{arith}
use Rattle.rule_writing.proofs.Parts.{others-here, others-end}
use Rattle.rule_writing.proofs.Writes.{writes-from, writes_as, writes_more, writes_end, writes_kept, part_room}
use Rattle.rule_writing.specs.Tables.{others}
use Rattle.writing.specs.Writing.{pair_text}
use Rattle.table.proofs.Pairs.{entry_in}
use Rattle.table.specs.Table.{entry_of, pairs_from}
use Rattle.rule_writing.proofs.put_others.Goals as goal

pub loop-i-init : goal.loop-i-init
loop-i-init c = (omega (arith, c.requires.0), writes-from refl (omega (arith, c.requires.2)))

pub pair_at-pair-requires : goal.pair_at-pair-requires
pair_at-pair-requires c = omega (arith, c.requires.1.room)

pub put_one-parted-requires : goal.put_one-parted-requires
put_one-parted-requires c =
    let a = c.args in
    let v = a.values.now in
    let r = a.rows.now in
    let pair = pair_text (entry_of v c.pair_at-pair.result) in
    let rest = others (pairs_from v r (c.loop-i.i + 1) (a.to - (c.loop-i.i + 1))) in
    let here = writes_as (others-here v r c.loop-i.i a.to c.pair_at-pair.result c.pair_at-pair.ensures c.loop-i-test.true) c.loop-i.invariant.1 in
    part_room (44 ∷ []) (pair ++ rest) here c.requires.2

pub put_pair-end-requires : goal.put_pair-end-requires
put_pair-end-requires c =
    let a = c.args in
    let v = a.values.now in
    let r = a.rows.now in
    let pair = pair_text (entry_of v c.pair_at-pair.result) in
    let rest = others (pairs_from v r (c.loop-i.i + 1) (a.to - (c.loop-i.i + 1))) in
    let here = writes_as (others-here v r c.loop-i.i a.to c.pair_at-pair.result c.pair_at-pair.ensures c.loop-i-test.true) c.loop-i.invariant.1 in
    let parted = writes_more (44 ∷ []) (pair ++ rest) here c.put_one-parted.ensures in
    (entry_in v r c.loop-i.i a.to c.pair_at-pair.result c.pair_at-pair.ensures c.loop-i-test.true c.requires.1, part_room pair rest parted c.requires.2)

pub loop-i-preserved : goal.loop-i-preserved
loop-i-preserved c =
    let a = c.args in
    let v = a.values.now in
    let r = a.rows.now in
    let pair = pair_text (entry_of v c.pair_at-pair.result) in
    let rest = others (pairs_from v r (c.loop-i.i + 1) (a.to - (c.loop-i.i + 1))) in
    let here = writes_as (others-here v r c.loop-i.i a.to c.pair_at-pair.result c.pair_at-pair.ensures c.loop-i-test.true) c.loop-i.invariant.1 in
    let parted = writes_more (44 ∷ []) (pair ++ rest) here c.put_one-parted.ensures in
    (omega arith, writes_more pair rest parted c.put_pair-end.ensures)

pub shape_of-out : goal.shape_of-out
shape_of-out c = writes_kept c.loop-i.invariant.1

pub returns : goal.returns
returns c =
    let a = c.args in
    writes_end (writes_as (others-end a.values.now a.rows.now c.loop-i.i a.to (omega arith)) c.loop-i.invariant.1)
