-- `run_files::run_winners` meets its contract.
use mathlib.Core.Path.{sym, ◌∙◌}
use Rattle.std.specs.Prelude.{Ok, Err}
use lib.ListN.{length}
use Rattle.file_order.proofs.Numbers.{kept_at}
use Rattle.run_files.specs.Running.{FilesAreRead}
use Rattle.run_files.proofs.Answers.{ranked, gives-text}
use native.Mathlib.Omega.{arith}
use Rattle.run_files.proofs.run_winners.Goals as goal

pub read_files-requires : goal.read_files-requires
read_files-requires c = ranked c.args.set.now c.args.starts.now c.args.n c.args.order.now c.args.count c.requires.0

pub run_read-requires : goal.run_read-requires
run_read-requires c =
    let is : FilesAreRead c.args.set.now c.args.starts.now c.args.order.now c.args.count (Ok tt) = c.in-Ok.ensures in
    (c.requires.0, is, c.requires.1)

pub refuse-requires : goal.refuse-requires
refuse-requires c =
    let a = c.args in
    let is : FilesAreRead a.set.now a.starts.now a.order.now a.count (Err c.in-Err.fault) = c.in-Err.ensures in
    let number = kept_at a.n a.order.now a.count is.k c.requires.0.winners.kept is.few in
    (omega (arith, is.position, number, c.requires.0.files.few), omega (arith, is.line))

pub returns-in-Err : goal.returns-in-Err
returns-in-Err c =
    let a = c.args in
    let is : FilesAreRead a.set.now a.starts.now a.order.now a.count (Err c.in-Err.fault) = c.in-Err.ensures in
    c.refuse.ensures ∙ sym (gives-text a.set.now a.starts.now a.n a.order.now a.count c.requires.0 a.dev.now a.rec.now a.sheet.now (length a.t.now) c.requires.1 _ _ _ is)
