use Prim.Native.Nat.{◌≤◌}
use borrow.Author.Tests.{eqb-true, eqb-false}
use lib.ListN.{length, drop}
use mathlib.Core.Path.{◌≡◌, sym, ◌∙◌, subst}
use Rattle.entries.specs.Parse.{bad}
use Rattle.files.specs.Files.{most_files, one_file}
use Rattle.set_rows.proofs.Walk.{set-empty, set-above}
use Rattle.file_rows.specs.Places.{FileIs, FilesAre}
use Rattle.file_rows.proofs.Walk.{found_first, found-next, found-bad, found-behind, found_all}
use native.Mathlib.Omega.{arith}
use Rattle.file_rows.proofs.find_files.Goals as goal

pub returns-then-is_empty : goal.returns-then-is_empty
returns-then-is_empty c =
    let none = eqb-true (length c.args.set.now) 0 (sym c.is_empty.ensures ∙ c.if-is_empty.true) in
    set-empty one_file 0 most_files c.args.set.now (omega (arith, none))

pub returns-then-count-gt-MOST_FILES : goal.returns-then-count-gt-MOST_FILES
returns-then-count-gt-MOST_FILES c = set-above one_file 0 most_files c.args.set.now (omega (arith, c.if-count-gt-MOST_FILES.true, c.count_of-count.ensures.0))

pub loop-i-init : goal.loop-i-init
loop-i-init c =
    let some : 1 ≤ length c.args.set.now = omega (arith, eqb-false (length c.args.set.now) 0 (sym c.is_empty.ensures ∙ c.if-is_empty.false)) in
    found_first c.args.set.now _ c.count_of-count.result some c.count_of-count.ensures.0 (omega (arith, c.if-count-gt-MOST_FILES.false)) c.requires

pub file_at-requires : goal.file_at-requires
file_at-requires c = c.loop-i.invariant.within

pub returns-in_err-p : goal.returns-in_err-p
returns-in_err-p c =
    let none : one_file (drop c.loop-i.p c.args.set.now) ≡ bad = c.in_err-p.ensures in
    subst (FilesAre c.args.set.now _) (sym c.from_residual.ensures)
    (found-bad c.args.set.now c.loop-i.starts c.loop-i.p c.loop-i.i c.count_of-count.result c.loop-i.invariant (omega (arith, c.loop-i-test.true)) none)

pub loop-i-preserved : goal.loop-i-preserved
loop-i-preserved c =
    let is : FileIs c.args.set.now c.loop-i.p c.in_ok-p.p = c.in_ok-p.ensures in
    found-next c.args.set.now c.loop-i.starts c.loop-i.p c.loop-i.i c.count_of-count.result c.loop-i.invariant (omega (arith, c.loop-i-test.true)) _ is

pub returns-then-p-set : goal.returns-then-p-set
returns-then-p-set c = found_all c.args.set.now c.loop-i.starts c.loop-i.p c.loop-i.i c.count_of-count.result c.loop-i.invariant (omega (arith, c.loop-i-test.false)) c.if-p-set.true

pub returns-else-p-set : goal.returns-else-p-set
returns-else-p-set c = found-behind c.args.set.now c.loop-i.starts c.loop-i.p c.loop-i.i c.count_of-count.result c.loop-i.invariant (omega (arith, c.loop-i-test.false)) c.if-p-set.false
