-- `set_answers::refused` meets its contract.
use lib.ListN.{replicate}
use Rattle.set_answers.proofs.refused.Goals as goal

pub returns : goal.returns
returns c =
    let number = c.number in
    let narrow = c.narrow in
    let narrow2 = c.narrow-2 in
    λ room. λ i. record {
      number = number.ensures i;
      position = narrow.ensures i;
      line = narrow2.ensures i;
      visited = 0;
      tried = 0;
      used = 0;
      count = 0;
      bytes = replicate room 0;
    }
