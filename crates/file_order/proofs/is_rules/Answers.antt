-- `file_order::is_rules` meets its contract.
use mathlib.Core.Path.{◌∙◌}
use Rattle.lists.specs.Quoted.{bytes}
use Rattle.scan.proofs.Equality.{same_pairs}
use Rattle.file_order.proofs.Names.{ends-with}
use Rattle.file_order.proofs.is_rules.Goals as goal

pub returns : goal.returns
unfolding bytes
returns c = c.ends_with.ensures.value ∙ same_pairs (bytes ".rules") _ ∙ ends-with (bytes ".rules") c.args.name.now
