-- `escapes::escape_at` meets its contract.
use mathlib.Core.Path.{sym, ap, ◌∙◌}
use Rattle.rules.specs.Coded.{taking}
use Rattle.escapes.proofs.Bytes.{escape-hex}
use Rattle.escapes.proofs.escape_at.Goals as goal

pub returns-in_err-byte-clause-value : goal.returns-in_err-byte-clause-value
returns-in_err-byte-clause-value c =
    let h = rw (c.byte_at-then-letter-eq120.ensures, c.byte_at.ensures) at c.hex_byte.ensures in
    rw c.from_residual.ensures
    (sym (escape-hex c.args.line.now c.args.at (sym c.byte_at-letter.ensures ∙ c.if-letter-eq120.true) ∙ ap (taking 3) (sym h ∙ c.in_err-byte.was)))

pub returns-then-letter-eq120-clause-value : goal.returns-then-letter-eq120-clause-value
returns-then-letter-eq120-clause-value c =
    let h = rw (c.byte_at-then-letter-eq120.ensures, c.byte_at.ensures) at c.hex_byte.ensures in
    sym (escape-hex c.args.line.now c.args.at (sym c.byte_at-letter.ensures ∙ c.if-letter-eq120.true) ∙ ap (taking 3) (sym h ∙ c.in_ok-byte.was))
