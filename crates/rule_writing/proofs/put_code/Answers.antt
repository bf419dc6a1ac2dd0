use Prim.Native.Nat.{◌-◌}
use mathlib.Core.Path.{refl}
use native.Mathlib.Omega.{arith}
use lib.ListN.{get_or}
use Rattle.rule_writing.proofs.Writes.{writes-from, writes_more, writes_kept, part_room, byte-here, bytes-end}
use Rattle.writing.specs.Writing.{code_byte}
use Rattle.rule_writing.proofs.put_code.Goals as goal

pub loop-b-init : goal.loop-b-init
loop-b-init c = (omega arith, writes-from refl (omega (arith, c.requires)))

pub put_code_byte-end-requires : goal.put_code_byte-end-requires
put_code_byte-end-requires c =
    let a = c.args in
    part_room (code_byte (get_or a.value.now c.loop-b.b-index 0)) _ (byte-here code_byte a.value.now c.loop-b.b-index c.loop-b.invariant.1 c.loop-b-test.true) c.requires

pub loop-b-preserved : goal.loop-b-preserved
loop-b-preserved c =
    let a = c.args in
    (omega arith, writes_more (code_byte (get_or a.value.now c.loop-b.b-index 0)) _ (byte-here code_byte a.value.now c.loop-b.b-index c.loop-b.invariant.1 c.loop-b-test.true) c.put_code_byte-end.ensures)

pub shape_of-out : goal.shape_of-out
shape_of-out c = writes_kept c.loop-b.invariant.1

pub returns : goal.returns
returns c =
    let a = c.args in
    bytes-end code_byte a.value.now c.loop-b.b-index c.loop-b.invariant.1 (omega arith)
