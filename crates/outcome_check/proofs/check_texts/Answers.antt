-- `outcome_check::check_texts` meets its contract.
-- Assumes nothing.
use Rattle.std.proofs.Common.{refl, ◌∙◌}
use Rattle.rows.proofs.Readers.{text-reads, passed_read}
use Rattle.outcome_target.specs.Texts.{ok_of}
use Rattle.outcome_check.proofs.check_texts.Goals as goal

pub returns : goal.returns
returns c =
    let a = c.args in
    c.check_entries.ensures ∙ passed_read (text-reads (ok_of a.list)) (λ head x rest. ok_of a.list x) (λ bs. refl) a.rec.now a.n a.at c.requires
