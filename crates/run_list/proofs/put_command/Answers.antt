-- `run_list::put_command` meets its contract.
use Prim.Native.Nat.{◌+◌, ◌≤◌}
use mathlib.Core.Bool.{false}
use mathlib.Core.Path.{refl, ◌∙◌}
use native.Mathlib.Omega.{arith}
use Rattle.run_list.proofs.Entries.{command_made}
use Rattle.run_list.proofs.Heads.{lent_part}
use Rattle.engine.specs.Substitute.{filled}
use Rattle.lists.proofs.Moves.{length_part}
use Rattle.run_list.proofs.put_command.Goals as goal

pub overflow_add-result : goal.overflow_add-result
overflow_add-result c =
    let a = c.args in
    let w = c.in_ok-k.ensures c.requires.2.0 c.requires.2.1 in
    let few : c.in_ok-k.k ≤ 512 = omega (arith, w.room, length_part a.t.now (a.at + 2) (a.at + 2 + 512) (omega arith)) in
    omega arith

pub returns : goal.returns
returns c =
    let a = c.args in
    let k = c.in_ok-k.k in
    let out = c.substitute.new.out in
    let head = c.write_head.new.head in
    let w = c.in_ok-k.ensures c.requires.2.0 c.requires.2.1 in
    let few : k ≤ 512 = omega (arith, w.room, length_part a.t.now (a.at + 2) (a.at + 2 + 512) (omega arith)) in (
      omega arith,
      λ s h.
          let v = c.in_ok-k.ensures s h in
          command_made a.t.now out (lent_part a.t.now (a.at + 2) (a.at + 2 + 512) out) head
          (lent_part (lent_part a.t.now (a.at + 2) (a.at + 2 + 512) out) a.at (a.at + 2) head)
          a.at k a.builtin (filled false s a.template.now)
          c.requires.0 v (v.size ∙ length_part a.t.now (a.at + 2) (a.at + 2 + 512) (omega arith) ∙ omega arith) few refl c.write_head.ensures refl,
    )

pub returns-in_err-k : goal.returns-in_err-k
returns-in_err-k c = rw c.from_residual.ensures (tt, λ s h. c.in_err-k.ensures s h)
