use mathlib.Core.Path.{refl}
use native.Mathlib.Omega.{arith}
use Rattle.pieces.proofs.Pieces.{written_on, written-out}
use Rattle.pieces.proofs.written_end.Goals as goal
use Rattle.pieces.proofs.written_end.Goals.{in-36, in_default, in_default-2}

pub loop-i-init : goal.loop-i-init
loop-i-init c = record { from = omega arith; within = c.requires; same = refl }

pub returns-then-matches : goal.returns-then-matches
returns-then-matches c = c.loop-i.invariant

pub loop-i-preserved : goal.loop-i-preserved
loop-i-preserved c =
    let l = c.loop-i in
    let on = written_on c.args.template.now c.args.at l.i l.invariant (omega arith) in
    elim c.if-matches-2.branch [
      | in-36 w ↦ cc
      | in_default w ↦ on (λ e. omega arith) (λ e. omega arith)
      | in_default-2 w ↦ on (λ e. omega arith) (λ e. omega arith)
    ]

pub returns : goal.returns
returns c = written-out c.args.template.now c.args.at c.loop-i.i c.loop-i.invariant c.loop-i-test.false
