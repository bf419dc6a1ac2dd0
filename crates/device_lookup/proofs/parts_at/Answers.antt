-- `device_lookup::parts_at` meets its contract.
-- Assumes nothing.
use native.Mathlib.Omega.{arith}
use Rattle.device_lookup.proofs.Members.{standing_head, parts_placed, parts-ordered}
use Rattle.device_lookup.proofs.parts_at.Goals as goal

pub read_lens-lens-requires : goal.read_lens-lens-requires
read_lens-lens-requires c = (standing_head c.args.rec.now c.args.at c.requires, c.requires.short)

pub overflow_add-path : goal.overflow_add-path
overflow_add-path c = omega (arith, standing_head c.args.rec.now c.args.at c.requires, c.requires.short)

pub overflow_add-subsystem : goal.overflow_add-subsystem
overflow_add-subsystem c =
    let h = standing_head c.args.rec.now c.args.at c.requires in
    let k = c.requires.short in
    omega (arith, c.read_lens-lens.ensures.path)

pub overflow_add-driver : goal.overflow_add-driver
overflow_add-driver c =
    let h = standing_head c.args.rec.now c.args.at c.requires in
    let k = c.requires.short in
    let e = c.read_lens-lens.ensures in
    omega (arith, e.path, e.subsystem)

pub overflow_add-result : goal.overflow_add-result
overflow_add-result c =
    let h = standing_head c.args.rec.now c.args.at c.requires in
    let k = c.requires.short in
    let e = c.read_lens-lens.ensures in
    omega (arith, e.path, e.subsystem, e.driver)

pub returns : goal.returns
returns c =
    let s = c.requires in
    let l = c.args.rec.now in
    let placed = parts_placed l c.args.at c.read_lens-lens.result c.read_lens-lens.ensures.is in
    (placed, parts-ordered l c.args.at s.member s.lies _ (placed s.member s.lies))
