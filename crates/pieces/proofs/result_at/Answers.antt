-- `pieces::result_at` meets its contract.
use Prim.Native.Nat.{◌+◌}
use mathlib.Core.Path.{sym, ◌∙◌}
use native.Mathlib.Omega.{arith}
use Rattle.pieces.proofs.Braces.{brace_here, brace_none}
use Rattle.pieces.proofs.result_at.Goals as goal

pub returns-then-byte_at-eq123 : goal.returns-then-byte_at-eq123
returns-then-byte_at-eq123 c =
    let args = c.args in
    (rw (brace_here args.template.now (args.at + args.n) (sym c.byte_at.ensures ∙ c.if-byte_at-eq123.true)), tt)

pub returns-else-byte_at-eq123 : goal.returns-else-byte_at-eq123
returns-else-byte_at-eq123 c =
    let args = c.args in
    let pre = c.requires in (
      rw (brace_none args.template.now (args.at + args.n) (λ e. c.if-byte_at-eq123.false (c.byte_at.ensures ∙ e))),
      record { forward = omega (arith, pre.1); inside = pre.0; text = tt },
    )
