-- `listing_lines::put_word` meets its contract.
use Rattle.std.proofs.Common.{[], ◌∷◌}
use Rattle.listing_lines.proofs.Laws.{behind}
use Rattle.listing_lines.proofs.put_word.Goals as goal

pub returns : goal.returns
returns c = behind c.in_ok-worded.ensures (32 ∷ []) c.put_byte.result c.put_byte.new.out c.put_byte.ensures
