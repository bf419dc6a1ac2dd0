-- `claims::higher` meets its contract.
use lib.Signed.{lt_z}
use mathlib.Core.Bool.{true, false}
use mathlib.Core.Path.{◌≡◌}
use borrow.Author.Rules.{rules}
use mir.Facts.{to_z-of_z}
use mir.Syntax.{w32}
use Rattle.claims.proofs.higher.Goals as goal

pub returns-then-c-d : goal.returns-then-c-d
returns-then-c-d c =
    let entry = c.args in
    let if1 = c.if-c-d in
    let below : lt_z entry.c.priority entry.d.priority ≡ true = rw (to_z-of_z {w = w32} {z = entry.c.priority} (search rules), to_z-of_z {w = w32} {z = entry.d.priority} (search rules)) at if1.true in
    rw below

pub returns-else-c-d : goal.returns-else-c-d
returns-else-c-d c =
    let entry = c.args in
    let if1 = c.if-c-d in
    let below : lt_z entry.c.priority entry.d.priority ≡ false = rw (to_z-of_z {w = w32} {z = entry.c.priority} (search rules), to_z-of_z {w = w32} {z = entry.d.priority} (search rules)) at if1.false in
    rw below
