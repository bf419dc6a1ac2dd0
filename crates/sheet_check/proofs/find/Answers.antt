-- `sheet_check::find` meets its contract.
-- Assumes nothing.
use Prim.Native.Nat.{ℕ, ◌+◌, ◌-◌, ◌≤◌}
use mathlib.Core.Path.{sym, ap, ◌∙◌}
use native.Mathlib.Omega.{arith}
use lib.Dec.{eqb}
use lib.ListN.{length, take, drop}
use Rattle.lists.proofs.Moves.{ap_at}
use Rattle.bits.specs.Bits.{number_at}
use Rattle.sheet_check.proofs.Sheets.{sound-row, head_within, says_at, says_missing}
use Rattle.sheet_check.proofs.find.Goals as goal

pub bounds-sheet-0 : goal.bounds-sheet-0
bounds-sheet-0 c = (sound-row c.args.sheet.now c.requires).0

pub overflow_cast-n : goal.overflow_cast-n
overflow_cast-n c = omega (arith, (c.type_inv.sheet 0).fits)

pub find-requires : goal.find-requires
find-requires c = sound-row c.args.sheet.now c.requires

pub slice_bounds-reply_head-end : goal.slice_bounds-reply_head-end
slice_bounds-reply_head-end c =
    let w : c.in-Ok.found.at + 3 ≤ length c.args.sheet.now = head_within c.args.sheet.now c.args.command.now _ c.requires (sym c.in-Ok.ensures.0) in
    omega arith

pub returns-in-Ok : goal.returns-in-Ok
returns-in-Ok c =
    let a = c.args in
    let p = c.in-Ok.found.at in
    let success = c.reply_head-h.ensures.success ∙ ap_at (λ i. number_at (take i (drop p a.sheet.now)) 0 1) (p + 3 - p) 3 (omega arith) in
    says_at a.sheet.now a.command.now _ _ (sym c.in-Ok.ensures.0) (ap (λ (i : ℕ). eqb i 1) success)

pub returns-in-Err : goal.returns-in-Err
returns-in-Err c = says_missing c.args.sheet.now c.args.command.now _ (sym c.in-Err.ensures.0)
