-- `content::ok_part` meets its contract.
use mathlib.Core.Path.{sym}
use native.Mathlib.Omega.{arith}
use Rattle.content.proofs.Names.{part-empty, part-long, part_other, part_second, part_dot, part_dots}
use Rattle.content.proofs.ok_part.Goals as goal
use Rattle.content.proofs.ok_part.Goals.{in_default, in_default-2, in_default-3, in_default-4, in-empty, in-empty-2, in-empty-3}

pub returns : goal.returns
returns c =
    let x = c.args.x.now in
    elim c.if-matches.branch [
      | in_default w ↦ rw w.matches-is (sym (part_other x (omega arith) (λ e. omega arith)))
      | in_default-2 w ↦ rw w.matches-is (sym (part_second x (omega arith) (λ e. omega arith)))
      | in_default-3 w ↦ rw w.matches-is (sym (part_other x (omega arith) (λ e. omega arith)))
      | in_default-4 w ↦ rw w.matches-is (sym (part-long x (omega arith)))
      | in-empty w ↦ rw w.matches-is (sym (part-empty x (omega arith)))
      | in-empty-2 w ↦ rw w.matches-is (sym (part_dot x (omega arith) (omega arith)))
      | in-empty-3 w ↦ rw w.matches-is (sym (part_dots x (omega arith) (omega arith) (omega arith)))
    ]
