-- `pieces::text_at` meets its contract.
use mathlib.Core.Path.{refl, sym, ◌∙◌}
use native.Mathlib.Omega.{arith}
use Rattle.lists.proofs.Rest.{byte_in}
use Rattle.pieces.proofs.Braces.{text-none, text_open, text-fits, text-empty, text_long}
use Rattle.pieces.proofs.text_at.Goals as goal

pub returns-then-byte_at-ne123 : goal.returns-then-byte_at-ne123
returns-then-byte_at-ne123 c =
    let args = c.args in
    (sym (text-none args.template.now args.at (λ e. c.if-byte_at-ne123.true (c.byte_at.ensures ∙ e))), tt)

pub overflow_add-start : goal.overflow_add-start
overflow_add-start c =
    let args = c.args in
    omega (arith, byte_in args.template.now args.at 123 (sym c.byte_at.ensures ∙ c.if-byte_at-ne123.false) (omega arith))

pub returns-then-template-end : goal.returns-then-template-end
returns-then-template-end c =
    let entry = c.args in
    let byte_at = c.byte_at in
    let if1 = c.if-byte_at-ne123 in
    let args = entry in (
      sym
          (text_open args.template.now args.at (sym byte_at.ensures ∙ if1.false) c.byte_end-end.result
          c.byte_end-end.ensures c.if-template-end.true),
      tt,
    )

pub overflow_sub-end : goal.overflow_sub-end
overflow_sub-end c = omega (arith, c.byte_end-end.ensures.from)

pub overflow_sub-result : goal.overflow_sub-result
overflow_sub-result c = omega (arith, c.byte_end-end.ensures.from)

pub returns-in-1-to-64 : goal.returns-in-1-to-64
returns-in-1-to-64 c =
    let entry = c.args in
    let byte_at = c.byte_at in
    let if1 = c.if-byte_at-ne123 in
    let byte-end-call = c.byte_end-end in
    let if2 = c.if-template-end in
    let args = entry in
    let byte-end = byte-end-call in (
      sym
          (text-fits args.template.now args.at (sym byte_at.ensures ∙ if1.false) byte-end.result byte-end.ensures
          if2.false (omega arith) (omega arith)),
      (refl, omega (arith, byte-end.ensures.from)),
    )

pub returns-in_default : goal.returns-in_default
returns-in_default c =
    let entry = c.args in
    let byte_at = c.byte_at in
    let if1 = c.if-byte_at-ne123 in
    let byte-end-call = c.byte_end-end in
    let args = entry in
    let byte-end = byte-end-call in (
      sym
          (text-empty args.template.now args.at (sym byte_at.ensures ∙ if1.false) byte-end.result byte-end.ensures
          c.if-template-end.false (omega arith)),
      tt,
    )

pub returns-in_default-2 : goal.returns-in_default-2
returns-in_default-2 c =
    let entry = c.args in
    let byte_at = c.byte_at in
    let if1 = c.if-byte_at-ne123 in
    let byte-end-call = c.byte_end-end in
    let if2 = c.if-template-end in
    let args = entry in
    let byte-end = byte-end-call in (
      sym
          (text_long args.template.now args.at (sym byte_at.ensures ∙ if1.false) byte-end.result byte-end.ensures
          if2.false (omega arith) (omega arith)),
      tt,
    )
