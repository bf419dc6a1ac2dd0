use lib.ListN.{length-set}
use Rattle.sheet_examples.proofs.read_sheet.Goals as goal

pub loop-i-preserved : goal.loop-i-preserved
loop-i-preserved c = simp length-set c.loop-i.invariant
