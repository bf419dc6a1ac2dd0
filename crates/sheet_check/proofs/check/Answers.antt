-- `sheet_check::check` meets its contract.
use mathlib.Core.Path.{sym, ap, ◌∙◌}
use native.Mathlib.Omega.{arith}
use Rattle.lists.specs.Lists.{is_some}
use Rattle.sheet_check.proofs.Sheets.{sheet_empty, sheet_long, sheet_many, sheet_bad, sheet_more, sheet_row, sheet_judged}
use Rattle.sheet_check.proofs.check.Goals as goal

pub returns-then-sheet-lt1 : goal.returns-then-sheet-lt1
returns-then-sheet-lt1 c = sym (ap is_some (sheet_empty c.args.sheet.now c.if-sheet-lt1.true))

pub returns-then-sheet-gt32768 : goal.returns-then-sheet-gt32768
returns-then-sheet-gt32768 c = sym (ap is_some (sheet_long c.args.sheet.now c.if-sheet-gt32768.true))

pub overflow_cast-n : goal.overflow_cast-n
overflow_cast-n c = omega (arith, (c.type_inv.sheet 0).fits)

pub returns-then-n-gt64 : goal.returns-then-n-gt64
returns-then-n-gt64 c = sym (ap is_some (sheet_many c.args.sheet.now c.if-sheet-lt1.false c.if-sheet-gt32768.false c.if-n-gt64.true))

pub returns-in_default : goal.returns-in_default
returns-in_default c =
    let sheet = c.args.sheet.now in
    sym (ap is_some (sheet_bad sheet c.if-sheet-lt1.false c.if-sheet-gt32768.false (sym c.in_default.ensures)))

pub returns-then-end-sheet : goal.returns-then-end-sheet
returns-then-end-sheet c =
    let sheet = c.args.sheet.now in
    let ends = sym c.in-Some.ensures in
    sym (ap is_some (sheet_more sheet c.if-sheet-lt1.false c.if-sheet-gt32768.false c.in-Some.end ends c.if-end-sheet.true))

pub distinct-requires : goal.distinct-requires
distinct-requires c =
    let ends = sym c.in-Some.ensures in
    (c.if-sheet-lt1.false, sheet_row c.args.sheet.now c.in-Some.end ends)

pub returns : goal.returns
returns c =
    let sheet = c.args.sheet.now in
    let ends = sym c.in-Some.ensures in
    let short = c.if-sheet-gt32768.false in
    c.distinct.ensures ∙ sym (sheet_judged sheet c.if-sheet-lt1.false short c.in-Some.end c.if-n-gt64.false ends c.if-end-sheet.false)
