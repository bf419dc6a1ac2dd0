-- `run_files::run_text` meets its contract.
use mathlib.Core.Path.{refl, subst}
use mathlib.Core.List.{List}
use Rattle.std.specs.Prelude.{Ok, Err}
use Rattle.std.proofs.lemmas.Result.{err_from_is_err_and}
use Rattle.lists.specs.Checked.{Placed}
use Rattle.rules.specs.Pair.{Rule}
use Rattle.text.specs.Running.{next, run_from}
use Rattle.engine.specs.Operations.{engine}
use Rattle.reader.specs.Texts.{TextIs}
use Rattle.runner.specs.Runs.{Says}
use Rattle.runner.proofs.Running.{runnable}
use Rattle.run_files.proofs.Loading.{one_reading, no_reading}
use native.Mathlib.Omega.{arith}
use Rattle.run_files.proofs.run_text.Goals as goal

pub run_rules-requires : goal.run_rules-requires
run_rules-requires c =
    let x = c.read_text.new in
    let is : TextIs c.args.text.now x.values x.rows x.rules x.labels x.jumps (Ok c.in_ok-counts.counts) = c.in_ok-counts.ensures in
    (runnable c.args.text.now _ _ _ _ _ c.in_ok-counts.counts is (omega (arith, c.read_text.auto.rules)) (omega (arith, c.read_text.auto.jumps)), c.requires.0, c.requires.1)

pub returns : goal.returns
returns c =
    let x = c.read_text.new in
    let is : TextIs c.args.text.now x.values x.rows x.rules x.labels x.jumps (Ok c.in_ok-counts.counts) = c.in_ok-counts.ensures in
    record {
      says = λ rs e a q d s z.
          subst (λ (r : List (Placed Rule)). Says c.args.dev.now c.args.chain d c.run_rules.new.t c.run_rules.result (run_from (engine a) d next s r)) (one_reading c.args.text.now is.is e) (c.run_rules.ensures.says a q d s z);
      small = c.run_rules.ensures.small;
      length = c.run_rules.ensures.length;
    }

pub returns-in_err-counts : goal.returns-in_err-counts
returns-in_err-counts c =
    let x = c.read_text.new in
    let p = err_from_is_err_and c.from_residual.result c.from_residual.ensures.1 in
    let is : TextIs c.args.text.now x.values x.rows x.rules x.labels x.jumps (Err _) = c.in_err-counts.ensures in
    rw (p.1, p.2) (record { says = λ rs e a q d s z. no_reading c.args.text.now is.1 e; small = is.0; length = refl })
