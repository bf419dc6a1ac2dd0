-- `outcome_check::check_runs` meets its contract.
-- Assumes nothing.
use Rattle.std.proofs.Common.{refl, ◌∙◌}
use Rattle.rows.proofs.Readers.{passed_read}
use Rattle.outcome_check.specs.Check.{ok_run_of}
use Rattle.outcome_check.proofs.Runs.{run-reads}
use Rattle.outcome_check.proofs.check_runs.Goals as goal

pub returns : goal.returns
returns c =
    let a = c.args in
    c.check_entries.ensures ∙ passed_read (run-reads a.chain) (λ head template rest. ok_run_of a.chain head template) (λ bs. refl) a.rec.now a.n a.at c.requires
