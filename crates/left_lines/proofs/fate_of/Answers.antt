-- `left_lines::fate_of` meets its contract.
use Rattle.left_lines.proofs.Fates.{two_there, fate_none, fate_fault, rule_in, fate_lost, fate_kept}
use mathlib.Core.Path.{sym, ◌∙◌}
use native.Mathlib.Omega.{arith}
use borrow.Author.Rules.{rules}
use Rattle.left_lines.proofs.fate_of.Goals as goal

pub returns-then-end-read : goal.returns-then-end-read
returns-then-end-read c =
    λ y ys after u.
    let a = c.args in
    fate_none a.rules.now a.list.now a.read a.end a.rule a.number ys after y u (λ h e. absurd (omega (arith, c.if-end-read.true)))

pub returns-then-number_at-number : goal.returns-then-number_at-number
returns-then-number_at-number c =
    λ y ys after u.
    let a = c.args in
    fate_none a.rules.now a.list.now a.read a.end a.rule a.number ys after y u (λ h e. c.if-number_at-number.true (c.number_at.ensures.0 ∙ e))

pub number_at-fault-requires : goal.number_at-fault-requires
number_at-fault-requires c =
    let a = c.args in
    omega (arith, two_there a.rules.now a.list.now a.read a.end a.rule a.number c.requires.1.1.0 c.requires.1.1.1 c.requires.1.0 c.requires.1.1.2 (omega (arith, c.if-end-read.false)), c.requires.1.1.2.within)

pub returns-then-fault-ne0 : goal.returns-then-fault-ne0
returns-then-fault-ne0 c =
    λ y ys after u.
    let a = c.args in
    rw c.number_at-fault.ensures.0 (fate_fault a.rules.now a.list.now a.read a.end a.rule a.number ys after (omega (arith, c.if-end-read.false)) (sym c.number_at.ensures.0 ∙ c.if-number_at-number.false) y u (λ z. c.if-fault-ne0.true (c.number_at-fault.ensures.0 ∙ z)))

pub overflow_mul-rule : goal.overflow_mul-rule
overflow_mul-rule c =
    let a = c.args in
    let r = rule_in a.rules.now a.list.now a.read a.end a.rule a.number c.requires.1.1.0 c.requires.1.1.1 (omega (arith, c.if-end-read.false)) (sym c.number_at.ensures.0 ∙ c.if-number_at-number.false)
    (sym c.number_at-fault.ensures.0 ∙ c.if-fault-ne0.false) c.requires.1.0 c.requires.1.1.2 in
    omega (arith, r, c.requires.1.1.2.room)

pub number_at-requires-2 : goal.number_at-requires-2
number_at-requires-2 c =
    let a = c.args in
    let r = rule_in a.rules.now a.list.now a.read a.end a.rule a.number c.requires.1.1.0 c.requires.1.1.1 (omega (arith, c.if-end-read.false)) (sym c.number_at.ensures.0 ∙ c.if-number_at-number.false)
    (sym c.number_at-fault.ensures.0 ∙ c.if-fault-ne0.false) c.requires.1.0 c.requires.1.1.2 in
    omega (arith, r, c.requires.1.1.2.room)

pub overflow_add-result-then-number_at-eq0-2 : goal.overflow_add-result-then-number_at-eq0-2
overflow_add-result-then-number_at-eq0-2 c =
    let a = c.args in
    let r = rule_in a.rules.now a.list.now a.read a.end a.rule a.number c.requires.1.1.0 c.requires.1.1.1 (omega (arith, c.if-end-read.false)) (sym c.number_at.ensures.0 ∙ c.if-number_at-number.false)
    (sym c.number_at-fault.ensures.0 ∙ c.if-fault-ne0.false) c.requires.1.0 c.requires.1.1.2 in
    omega (arith, r, c.requires.1.1.2.room)

pub returns-then-number_at-eq0 : goal.returns-then-number_at-eq0
returns-then-number_at-eq0 c =
    λ y ys after u.
    let a = c.args in
    fate_lost a.rules.now a.list.now a.read a.end a.rule a.number ys after (omega (arith, c.if-end-read.false)) (sym c.number_at.ensures.0 ∙ c.if-number_at-number.false) (sym c.number_at-fault.ensures.0 ∙ c.if-fault-ne0.false)
    c.requires.0 y u (sym c.number_at-2.ensures.0 ∙ c.if-number_at-eq0.true)

pub overflow_add-result-3 : goal.overflow_add-result-3
overflow_add-result-3 c =
    let a = c.args in
    let r = rule_in a.rules.now a.list.now a.read a.end a.rule a.number c.requires.1.1.0 c.requires.1.1.1 (omega (arith, c.if-end-read.false)) (sym c.number_at.ensures.0 ∙ c.if-number_at-number.false)
    (sym c.number_at-fault.ensures.0 ∙ c.if-fault-ne0.false) c.requires.1.0 c.requires.1.1.2 in
    omega (arith, r, c.requires.1.1.2.room)

pub returns : goal.returns
returns c =
    λ y ys after u.
    let a = c.args in
    fate_kept a.rules.now a.list.now a.read a.end a.rule a.number ys after (omega (arith, c.if-end-read.false)) (sym c.number_at.ensures.0 ∙ c.if-number_at-number.false) (sym c.number_at-fault.ensures.0 ∙ c.if-fault-ne0.false)
    c.requires.0 y u (λ z. c.if-number_at-eq0.false (c.number_at-2.ensures.0 ∙ z))
