-- `substitution::substitute` meets its contract.
use mathlib.Core.Path.{refl, subst}
use mathlib.Core.List.{List}
use Prim.Native.Nat.{ℕ}
use native.Mathlib.Omega.{arith}
use lib.ListN.{length}
use Rattle.std.specs.Prelude.{Option, Some, None}
use Rattle.substitution.proofs.Texts.{filled-text, filled_full}
use Rattle.substitution.specs.Turns.{GoesOn, Onward, Turned}
use Rattle.substitution.specs.declared.Turn.{Turn}
use Rattle.substitution.proofs.substitute.Goals as goal

pub loop-turn-init : goal.loop-turn-init
loop-turn-init c = (omega arith, c.requires.0, omega arith, refl, λ s h r m z. z)

pub put_at-requires : goal.put_at-requires
put_at-requires c = (c.loop-turn.invariant.0, c.loop-turn.invariant.1, c.requires.1, c.loop-turn.invariant.2)

pub loop-turn-smaller : goal.loop-turn-smaller
loop-turn-smaller c =
    let l = c.loop-turn in
    let turn = c.in-Some.turn in
    let w : Onward c.args.template.now l.i turn.next turn.used (length l.out) =
    subst (λ (v : Option Turn). GoesOn c.args.template.now l.i (length l.out) (Some v)) c.in-Some.is c.in_ok-turn.ensures.0 in
    omega (arith, w.forward, w.inside)

pub loop-turn-preserved : goal.loop-turn-preserved
loop-turn-preserved c =
    let a = c.args in
    let l = c.loop-turn in
    let turn = c.in-Some.turn in
    let w : Onward a.template.now l.i turn.next turn.used (length l.out) =
    subst (λ (v : Option Turn). GoesOn a.template.now l.i (length l.out) (Some v)) c.in-Some.is c.in_ok-turn.ensures.0 in (
      w.inside,
      w.sound,
      omega (arith, w.room),
      omega arith,
      λ s h r m z.
          let t : Turned a.spaceless s a.template.now l.i l.out l.used (Some (Some turn)) _ =
          subst (λ (v : Option Turn). Turned a.spaceless s a.template.now l.i l.out l.used (Some v) c.put_at.new.out) c.in-Some.is (c.in_ok-turn.ensures.1 s h) in
          l.invariant.4 s h r m (t r m z),
    )

pub returns-in_err-turn : goal.returns-in_err-turn
returns-in_err-turn c =
    let a = c.args in
    let l = c.loop-turn in
    rw c.from_residual.ensures
    (λ s h. filled_full a.spaceless s a.template.now a.out.now c.requires.2 c.put_at.new.out (l.invariant.4 s h None c.put_at.new.out (c.in_err-turn.ensures.1 s h)))

pub returns : goal.returns
returns c =
    let a = c.args in
    let l = c.loop-turn in
    λ s h.
    let t : Turned a.spaceless s a.template.now l.i l.out l.used (Some None) _ =
    subst (λ (v : Option Turn). Turned a.spaceless s a.template.now l.i l.out l.used (Some v) c.put_at.new.out) c.in_default.is (c.in_ok-turn.ensures.1 s h) in
    filled-text a.spaceless s a.template.now a.out.now c.requires.2 l.used _ (l.invariant.4 s h (Some l.used) _ t)
