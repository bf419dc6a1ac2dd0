-- `sheet_check::check_replies` meets its contract.
-- Assumes nothing.
use Rattle.std.proofs.Common.{refl, ◌∙◌}
use Rattle.rows.proofs.Readers.{passed_read}
use Rattle.sheet_check.specs.Replies.{ok_reply_of}
use Rattle.sheet_check.proofs.Replies.{reply_reads}
use Rattle.sheet_check.proofs.check_replies.Goals as goal

pub returns : goal.returns
returns c =
    let a = c.args in
    c.check_entries.ensures ∙ passed_read reply_reads ok_reply_of (λ bs. refl) a.sheet.now a.n a.at c.requires
