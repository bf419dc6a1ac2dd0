-- `signed::integer_of` meets its contract.
use Prim.Native.Nat.{◌-◌, ◌≤◌}
use mathlib.Core.Path.{◌≡◌, ap, ◌∙◌}
use mathlib.Core.Bool.{true}
use native.Mathlib.Omega.{arith}
use borrow.Author.Tests.{ne_eqb, ltb-true, leb-false}
use lib.ListN.{length, get_or, drop, length-drop, get_or-eq_default}
use lib.Seq.{take_all}
use Rattle.rules.specs.Setting.{integer_of, digits_from}
use Rattle.signed.proofs.integer_of.Goals as goal
use Rattle.signed.proofs.integer_of.Goals.{in_default-via-then-s-lt1, in_default-via-else-s-lt1+in_default-1}

pub returns-in-45 : goal.returns-in-45
unfolding integer_of
returns-in-45 c =
    let s = c.args.s.now in
    let e : get_or s 0 0 ≡ 45 = omega arith in
    rw e (c.digits_from.ensures ∙ ap (λ d. digits_from d 0 0 true) (take_all (length s - 1) (drop 1 s) (omega (arith, length-drop 1 s))))

pub returns-in_default : goal.returns-in_default
unfolding integer_of
returns-in_default c =
    let s = c.args.s.now in
    let n : get_or s 0 0 ≡ 45 → ⊥ = λ e. elim c.in_default.branch [
      | in_default-via-then-s-lt1 w ↦ let l : length s ≤ 0 = omega (arith, ltb-true, leb-false) in omega (arith, get_or-eq_default s 0 l)
      | in_default-via-else-s-lt1+in_default-1 w ↦ omega arith
    ] in
    rw (ne_eqb (get_or s 0 0) 45 n) c.digits_from-in_default.ensures
