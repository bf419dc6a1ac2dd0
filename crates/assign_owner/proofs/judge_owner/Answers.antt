-- `assign_owner::judge_owner` meets its contract.
use mathlib.Core.Path.{refl, sym, ◌∙◌}
use native.Mathlib.Omega.{arith}
use borrow.Author.Tests.{eqb-true, eqb-false}
use lib.ListN.{length}
use Rattle.assign_owner.proofs.Owners.{in_short, in_faulty, in_sound}
use Rattle.assign_owner.proofs.judge_owner.Goals as goal

pub returns-then-is_empty : goal.returns-then-is_empty
returns-then-is_empty c =
    let x = c.args.x.now in
    let none = eqb-true (length x) 0 (sym c.is_empty.ensures ∙ c.if-is_empty.true) in
    (in_short x (omega (arith, none)), refl)

pub returns-then-not-ok_owner : goal.returns-then-not-ok_owner
returns-then-not-ok_owner c = (in_faulty c.args.x.now (sym c.ok_owner.ensures ∙ c.if-not-ok_owner.true), refl)

pub returns : goal.returns
returns c =
    let x = c.args.x.now in
    let some = eqb-false (length x) 0 (sym c.is_empty.ensures ∙ c.if-is_empty.false) in
    let sound = sym c.ok_owner.ensures ∙ c.if-not-ok_owner.false in
    (in_sound x (omega (arith, some)) sound, sound)
