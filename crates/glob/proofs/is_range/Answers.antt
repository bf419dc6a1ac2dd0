-- `glob::is_range` meets its contract.
use Prim.Native.Nat.{◌+◌}
use mathlib.Core.Path.{sym}
use mathlib.Core.Logic.{⊎_elim, inl, inr}
use native.Mathlib.Omega.{arith}
use borrow.Author.Tests.{eq-eqb, ne_eqb}
use lib.Dec.{eqb}
use lib.ListN.{get_or-eq_default, get_or}
use Rattle.lists.proofs.Tests.{and-false}
use Rattle.lists.proofs.Rest.{get_d_any}
use Rattle.glob.proofs.is_range.Goals as goal

pub returns-then-pattern-i : goal.returns-then-pattern-i
returns-then-pattern-i c =
    let s = c.args.pattern.now in
    rw (get_or-eq_default s 124 {n = c.args.i + 2} c.if-pattern-i.true) (sym (and-false (eqb (get_or s (c.args.i + 1) 124) 45)))

pub returns-then-pattern-i-ne45 : goal.returns-then-pattern-i-ne45
returns-then-pattern-i-ne45 c =
    let args = c.args in
    let s = args.pattern.now in
    rw (← get_d_any s (args.i + 1) 0 124 (omega arith), ne_eqb _ _ c.if-pattern-i-ne45.true)

pub returns-in-93 : goal.returns-in-93
returns-in-93 c =
    let entry = c.args in
    let args = entry in
    let s = args.pattern.now in
    rw (← get_d_any s (args.i + 2) 0 124 (omega arith))
    (⊎_elim (λ w. rw w (sym (and-false (eqb (get_or s (args.i + 1) 124) 45))))
    (λ w. rw w (sym (and-false (eqb (get_or s (args.i + 1) 124) 45)))) c.in-93.is)

pub returns-in_default : goal.returns-in_default
returns-in_default c =
    let entry = c.args in
    let if2 = c.if-pattern-i-ne45 in
    let args = entry in
    let s = args.pattern.now in
    let n = c.in_default.in_default-own.rest.1 in
    rw (
      ← get_d_any s (args.i + 1) 0 124 (omega arith),
      ← get_d_any s (args.i + 2) 0 124 (omega arith),
      eq-eqb _ _ if2.false,
      ne_eqb (get_or s (args.i + 2) 0) 93 (λ e. n (inl e)),
      ne_eqb (get_or s (args.i + 2) 0) 124 (λ e. n (inr e)),
    )
