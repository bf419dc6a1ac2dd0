-- `insertion::put_text` meets its contract.
use mathlib.Core.Path.{refl}
use native.Mathlib.Omega.{arith}
use lib.ListN.{length-map}
use Rattle.lists.specs.Bytes.{no_space}
use Rattle.insertion.proofs.Laws.{length-asked}
use Rattle.insertion.proofs.put_text.Goals as goal
use Rattle.insertion.proofs.put_text.Goals.{then-spaceless, else-spaceless}

pub returns-then-out-used : goal.returns-then-out-used
returns-then-out-used c =
    let entry = c.args in
    omega (arith, length-asked entry.spaceless entry.src.now)

pub returns : goal.returns
returns c =
    let src = c.args.src.now in
    elim c.if-spaceless.branch [
      | then-spaceless w ↦
          rw (w.if-spaceless.true, w.out-is) (record { end = omega (arith, length-map src no_space); room = omega arith; bytes = w.store_spaceless.ensures })
      | else-spaceless w ↦
          rw (w.if-spaceless.false, w.out-is) (record { end = refl; room = omega arith; bytes = w.store.ensures })
    ]
