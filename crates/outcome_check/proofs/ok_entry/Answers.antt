-- `outcome_check::ok_entry` meets its contract.
use Rattle.outcome_check.proofs.ok_entry.Goals as goal

pub returns-in-Links : goal.returns-in-Links
returns-in-Links c = rw c.in-Links.is c.ok_link.ensures

pub returns-in-Tags : goal.returns-in-Tags
returns-in-Tags c = rw c.in-Tags.is c.ok_text.ensures
