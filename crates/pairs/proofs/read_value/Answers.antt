-- `pairs::read_value` meets its contract.
use mathlib.Core.Path.{sym, ◌∙◌}
use Rattle.lists.proofs.Rest.{byte_in}
use Rattle.pairs.proofs.Reading.{value_plain, no_mark, no_mark_behind, value_coded}
use native.Mathlib.Omega.{arith}
use Rattle.pairs.proofs.read_value.Goals as goal

pub returns-then-b-eq34 : goal.returns-then-b-eq34
returns-then-b-eq34 c =
    (c.read_plain.ensures.0 ∙ sym (value_plain c.args.line.now c.args.at (sym c.byte_at-b.ensures ∙ c.if-b-eq34.true)), c.read_plain.ensures.1)

pub returns-then-b-ne101 : goal.returns-then-b-ne101
returns-then-b-ne101 c =
    let byte = c.byte_at-b.ensures in
    (sym (no_mark c.args.line.now c.args.at (λ e. c.if-b-eq34.false (byte ∙ e)) (λ e. c.if-b-ne101.true (byte ∙ e))), tt)

pub overflow_add-at : goal.overflow_add-at
overflow_add-at c =
    omega (arith, byte_in c.args.line.now c.args.at 101 (sym c.byte_at-b.ensures ∙ c.if-b-ne101.false) (omega arith))

pub returns-then-byte_at-ne34 : goal.returns-then-byte_at-ne34
returns-then-byte_at-ne34 c =
    (sym (no_mark_behind c.args.line.now c.args.at (sym c.byte_at-b.ensures ∙ c.if-b-ne101.false) (λ e. c.if-byte_at-ne34.true (c.byte_at.ensures ∙ e))), tt)

pub overflow_add-start : goal.overflow_add-start
overflow_add-start c =
    omega (arith, byte_in c.args.line.now c.args.at 101 (sym c.byte_at-b.ensures ∙ c.if-b-ne101.false) (omega arith))

pub returns : goal.returns
returns c =
    (c.read_coded.ensures.0 ∙ sym (value_coded c.args.line.now c.args.at (sym c.byte_at-b.ensures ∙ c.if-b-ne101.false) (sym c.byte_at.ensures ∙ c.if-byte_at-ne34.false)), c.read_coded.ensures.1)
