-- `file_rows::file_at` meets its contract.
use Prim.Native.Nat.{◌+◌}
use mathlib.Core.Path.{◌≡◌, sym, subst}
use lib.ListN.{drop}
use Rattle.entries.specs.Parse.{bad}
use Rattle.entries.specs.Entry.{one_text}
use Rattle.sets.specs.Sets.{one_long}
use Rattle.files.specs.Files.{ok_name}
use Rattle.set_rows.specs.Places.{LongIs}
use Rattle.file_rows.specs.Places.{NameIs, FileReads}
use Rattle.file_rows.proofs.Files.{no-file, no_name, no_text, no-rank, file-is}
use native.Mathlib.Omega.{arith}
use Rattle.file_rows.proofs.file_at.Goals as goal

pub returns-then-set-p : goal.returns-then-set-p
returns-then-set-p c = no-file c.args.set.now c.args.p (omega (arith, c.if-set-p.true))

pub returns-in_err-name : goal.returns-in_err-name
returns-in_err-name c =
    let none : one_text ok_name (drop (c.args.p + 1) c.args.set.now) ≡ bad = c.in_err-name.ensures in
    subst (FileReads c.args.set.now c.args.p) (sym c.from_residual.ensures) (no_name c.args.set.now c.args.p (omega (arith, c.if-set-p.false)) none)

pub returns-in_err-text : goal.returns-in_err-text
returns-in_err-text c =
    let is : NameIs c.args.set.now (c.args.p + 1) c.in_ok-name.name = c.in_ok-name.ensures in
    let none : one_long (drop c.in_ok-name.name.end c.args.set.now) ≡ bad = c.in_err-text.ensures in
    subst (FileReads c.args.set.now c.args.p) (sym c.from_residual-in_err-text.ensures) (no_text c.args.set.now c.args.p (omega (arith, c.if-set-p.false)) _ is none)

pub returns-then-from-gt-LAST_RANK : goal.returns-then-from-gt-LAST_RANK
returns-then-from-gt-LAST_RANK c =
    let is : NameIs c.args.set.now (c.args.p + 1) c.in_ok-name.name = c.in_ok-name.ensures in
    let at : LongIs c.args.set.now c.in_ok-name.name.end c.in_ok-text.text = c.in_ok-text.ensures in
    no-rank c.args.set.now c.args.p (omega (arith, c.if-set-p.false)) _ is _ at (omega (arith, c.from.ensures, c.if-from-gt-LAST_RANK.true))

pub returns : goal.returns
returns c =
    let is : NameIs c.args.set.now (c.args.p + 1) c.in_ok-name.name = c.in_ok-name.ensures in
    let at : LongIs c.args.set.now c.in_ok-name.name.end c.in_ok-text.text = c.in_ok-text.ensures in
    file-is c.args.set.now c.args.p (omega (arith, c.if-set-p.false)) _ is _ at (omega (arith, c.from.ensures, c.if-from-gt-LAST_RANK.false))
