-- `table::pair_at` meets its contract.
use Rattle.table.proofs.pair_at.Goals as goal

pub returns : goal.returns
returns c =
    let kind = c.number_at-kind in
    let start = c.number_at-start in
    let middle = c.number_at-middle in
    let end = c.number_at-end in
    record {
      is = λ v. rw (← kind.ensures.0, ← start.ensures.0, ← middle.ensures.0, ← end.ensures.0, ← c.key_with-key.ensures, ← c.operator_with-operator.ensures);
      start = start.ensures.0;
      middle = middle.ensures.0;
      end = end.ensures.0;
      plain = rw (← kind.ensures.0) c.plain_with-plain.ensures;
    }
