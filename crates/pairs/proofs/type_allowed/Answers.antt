-- `pairs::type_allowed` meets its contract.
use Rattle.pairs.proofs.type_allowed.Goals as goal

pub returns-in-Nothing : goal.returns-in-Nothing
returns-in-Nothing c = rw c.in-Nothing.is

pub returns-in-One : goal.returns-in-One
returns-in-One c = rw c.in-One.is

pub returns-in-RunType : goal.returns-in-RunType
returns-in-RunType c = rw c.in-RunType.is c.is_type.ensures
