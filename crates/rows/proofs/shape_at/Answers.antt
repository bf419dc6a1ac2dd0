-- `rows::shape_at` meets its contract.
use Prim.Native.Nat.{◌+◌}
use Rattle.lists.proofs.Moves.{length_part}
use Rattle.rows.proofs.Heads.{text_shaped, property_shaped, run_shaped, reply_shaped}
use native.Mathlib.Omega.{arith}
use Rattle.rows.proofs.shape_at.Goals as goal

pub bounds-rec-p : goal.bounds-rec-p
bounds-rec-p c = let h = rw c.in-Text.is at c.requires in omega arith

pub slice_bounds-property_shape-end : goal.slice_bounds-property_shape-end
slice_bounds-property_shape-end c = let h = rw c.in-Property.is at c.requires in omega arith

pub property_shape-requires : goal.property_shape-requires
property_shape-requires c =
    let a = c.args in
    let h = rw c.in-Property.is at c.requires in omega (arith, length_part a.rec.now a.p (a.p + 2) h)

pub slice_bounds-run_shape-end : goal.slice_bounds-run_shape-end
slice_bounds-run_shape-end c = let h = rw c.in-Run.is at c.requires in omega arith

pub run_shape-requires : goal.run_shape-requires
run_shape-requires c =
    let a = c.args in
    let h = rw c.in-Run.is at c.requires in omega (arith, length_part a.rec.now a.p (a.p + 2) h)

pub slice_bounds-reply_shape-end : goal.slice_bounds-reply_shape-end
slice_bounds-reply_shape-end c = let h = rw c.in-Reply.is at c.requires in omega arith

pub reply_shape-requires : goal.reply_shape-requires
reply_shape-requires c =
    let a = c.args in
    let h = rw c.in-Reply.is at c.requires in omega (arith, length_part a.rec.now a.p (a.p + 3) h)

pub returns-in-Text : goal.returns-in-Text
returns-in-Text c =
    let a = c.args in
    let text-shape = c.text_shape in
    rw c.in-Text.is (text_shaped a.rec.now a.p text-shape.result text-shape.ensures.0 text-shape.ensures.1 text-shape.ensures.2)

pub returns-in-Property : goal.returns-in-Property
returns-in-Property c =
    let a = c.args in
    let property-shape = c.property_shape in
    rw c.in-Property.is (property_shaped a.rec.now a.p property-shape.result property-shape.ensures.0 property-shape.ensures.1 property-shape.ensures.2 property-shape.ensures.3)

pub returns-in-Run : goal.returns-in-Run
returns-in-Run c =
    let a = c.args in
    let run-shape = c.run_shape in
    rw c.in-Run.is (run_shaped a.rec.now a.p run-shape.result run-shape.ensures.0 run-shape.ensures.1 run-shape.ensures.2)

pub returns-in-Reply : goal.returns-in-Reply
returns-in-Reply c =
    let a = c.args in
    let reply-shape = c.reply_shape in
    rw c.in-Reply.is (reply_shaped a.rec.now a.p reply-shape.result reply-shape.ensures.0 reply-shape.ensures.1 reply-shape.ensures.2 reply-shape.ensures.3)
