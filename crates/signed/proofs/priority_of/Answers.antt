-- `signed::priority_of` meets its contract.
use Prim.Native.Nat.{◌-◌}
use mathlib.Core.Path.{◌≡◌, sym, ap, ◌∙◌}
use Rattle.std.specs.Prelude.{Some}
use native.Mathlib.Omega.{arith}
use mir.Facts.{to_z-of_z}
use lib.IntN.{ℤ}
use lib.Seq.{take_all}
use lib.ListN.{length, drop, length-drop}
use Rattle.rules.specs.Setting.{integer_of, priority}
use Rattle.signed.proofs.Numbers.{integer_fits}
use Rattle.signed.proofs.priority_of.Goals as goal

pub returns : goal.returns
returns c =
    let v = c.args.value.now in
    let e : c.integer_of.result ≡ integer_of (drop 14 v) =
    c.integer_of.ensures ∙ ap integer_of (take_all (length v - 14) (drop 14 v) (omega (arith, length-drop 14 v))) in
    rw (← e, c.in_ok-integer_of.was)
    (ap (λ (z : ℤ). Some (priority z)) (to_z-of_z (integer_fits (drop 14 v) c.in_ok-integer_of.field-0 (sym e ∙ c.in_ok-integer_of.was))))

pub returns-in_err-integer_of : goal.returns-in_err-integer_of
returns-in_err-integer_of c =
    let v = c.args.value.now in
    let e : c.integer_of.result ≡ integer_of (drop 14 v) =
    c.integer_of.ensures ∙ ap integer_of (take_all (length v - 14) (drop 14 v) (omega (arith, length-drop 14 v))) in
    rw (← e, c.in_err-integer_of.was, c.from_residual.ensures)
