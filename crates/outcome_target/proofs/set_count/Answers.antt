-- `outcome_target::set_count` meets its contract.
use Rattle.outcome_target.proofs.set_count.Goals as goal

pub returns-in-Links : goal.returns-in-Links
returns-in-Links c = rw c.in-Links.is c.put_field.ensures

pub returns-in-Properties : goal.returns-in-Properties
returns-in-Properties c = rw c.in-Properties.is c.put_field-in-Properties.ensures

pub returns-in-Tags : goal.returns-in-Tags
returns-in-Tags c = rw c.in-Tags.is c.put_field-in-Tags.ensures

pub returns-in-Runs : goal.returns-in-Runs
returns-in-Runs c = rw c.in-Runs.is c.put_field-in-Runs.ensures
