-- `run::run_lent` meets its contract.
use mathlib.Core.Path.{sym, ◌∙◌}
use native.Mathlib.Omega.{arith}
use Rattle.std.specs.Prelude.{Ok, Err}
use lib.ListN.{length}
use Rattle.reader.specs.Texts.{TextIs}
use Rattle.runner.proofs.Running.{runnable}
use Rattle.run.proofs.Laws.{run-text}
use Rattle.run.proofs.run_lent.Goals as goal

pub run_table-requires : goal.run_table-requires
run_table-requires c =
    let x = c.read_text in
    let is : TextIs c.args.text.now x.new.values x.new.rows x.new.rules x.new.labels x.new.jumps (Ok c.in-Ok.counts) = c.in-Ok.ensures in (
      c.requires.0,
      runnable c.args.text.now _ _ _ _ _ c.in-Ok.counts is (omega (arith, x.auto.rules, c.requires.2)) (omega (arith, x.auto.jumps, c.requires.4)),
      c.check.ensures,
    )

pub refuse-requires : goal.refuse-requires
refuse-requires c =
    let x = c.read_text in
    let is : TextIs c.args.text.now x.new.values x.new.rows x.new.rules x.new.labels x.new.jumps (Err c.in-Err.fault) = c.in-Err.ensures in
    omega (arith, is.0)

pub returns-in-Ok : goal.returns-in-Ok
returns-in-Ok c =
    let x = c.read_text in
    let is : TextIs c.args.text.now x.new.values x.new.rows x.new.rules x.new.labels x.new.jumps (Ok c.in-Ok.counts) = c.in-Ok.ensures in
    c.run_table.ensures c.args.text.now is.is

pub returns-in-Err : goal.returns-in-Err
returns-in-Err c =
    let a = c.args in
    let x = c.read_text in
    let is : TextIs a.text.now x.new.values x.new.rows x.new.rules x.new.labels x.new.jumps (Err c.in-Err.fault) = c.in-Err.ensures in
    c.refuse.ensures ∙ sym (run-text a.text.now a.device.now a.outcome.now a.sheet.now (length a.target.now) c.requires.0 _ is.1)
