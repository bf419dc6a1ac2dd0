use mathlib.Core.Path.{sym, ◌∙◌}
use native.Mathlib.Omega.{arith}
use borrow.Author.Tests.{not-true}
use Rattle.glob.proofs.Plain.{special_at, plain_more, plain-whole}
use Rattle.glob.proofs.few_plain.Goals as goal

pub loop-b-init : goal.loop-b-init
loop-b-init c = λ k h l. absurd (omega arith)

pub returns-then-not-is_plain : goal.returns-then-not-is_plain
returns-then-not-is_plain c =
    sym (special_at c.args.pattern.now c.loop-b.b-index (omega arith) (sym c.is_plain.ensures ∙ c.if-not-is_plain.true))

pub loop-b-preserved : goal.loop-b-preserved
loop-b-preserved c =
    let plain = sym c.is_plain.ensures ∙ c.if-not-is_plain.false in
    plain_more c.args.pattern.now 0 c.loop-b.b-index c.loop-b.invariant (not-true _ plain)

pub returns : goal.returns
returns c = sym (plain-whole c.args.pattern.now c.loop-b.b-index (omega arith) c.loop-b.invariant)
