-- `sheet_examples::say_reply` meets its contract: the output lies in the sheet.
use native.Mathlib.Omega.{arith}
use Rattle.sheet.specs.Sheet.{decode}
use Rattle.sheet_check.proofs.Sheets.{sound-some}
use Rattle.sheet_examples.proofs.say_reply.Goals as goal

pub slice_bounds-say-count : goal.slice_bounds-say-count
slice_bounds-say-count c =
    let (a, d) = sound-some (decode c.args.sheet.now) c.requires in
    let told = c.in-Some.ensures a d in
    omega (arith, told.within)

pub slice_bounds-say-start : goal.slice_bounds-say-start
slice_bounds-say-start c =
    let (a, d) = sound-some (decode c.args.sheet.now) c.requires in
    let told = c.in-Some.ensures a d in
    omega (arith, told.within)

pub slice_bounds-say-end-2 : goal.slice_bounds-say-end-2
slice_bounds-say-end-2 c =
    let (a, d) = sound-some (decode c.args.sheet.now) c.requires in
    let told = c.in-Some.ensures a d in
    omega (arith, told.within)
