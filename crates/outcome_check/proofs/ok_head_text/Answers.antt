-- `outcome_check::ok_head_text` meets its contract.
use Rattle.outcome_check.proofs.ok_head_text.Goals as goal

pub returns-in-Output : goal.returns-in-Output
returns-in-Output c = rw c.in-Output.is c.ok_output.ensures

pub returns-in-Name : goal.returns-in-Name
returns-in-Name c = rw c.in-Name.is c.ok_owner.ensures
