-- `answers::refused` meets its contract.
use lib.ListN.{replicate}
use Rattle.answers.proofs.refused.Goals as goal

pub returns : goal.returns
returns c = λ room. λ i. record { number = c.number.ensures i; line = c.args.line; visited = 0; tried = 0; used = 0; bytes = replicate room 0 }
