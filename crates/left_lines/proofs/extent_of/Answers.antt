-- `left_lines::extent_of` meets its contract.
use Rattle.left_lines.proofs.extent_of.Goals as goal

pub returns-in-Ok : goal.returns-in-Ok
returns-in-Ok c = (c.in-Ok.ensures.0, c.in-Ok.ensures.1)

pub returns-in-Err : goal.returns-in-Err
returns-in-Err c = (c.in-Err.ensures.0, c.in-Err.ensures.1)
