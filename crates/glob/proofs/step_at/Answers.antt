-- `glob::step_at` meets its contract.
use mathlib.Core.Path.{sym, ◌∙◌}
use native.Mathlib.Omega.{arith}
use Rattle.glob.proofs.Steps.{not_bar, step-star_last, step-star, step-done, step_left, step-one_short, step-one, step-set_short, step_set, step-byte}
use Rattle.glob.proofs.Place.{not_bar_in}
use Rattle.glob.proofs.step_at.Goals as goal

pub set_step-requires : goal.set_step-requires
set_step-requires c =
    let entry = c.args in
    let byte-or-bar = c.byte_or_bar-b in
    let match = c.in-91 in
    let args = entry in
    omega (
      arith,
      not_bar_in args.pattern.now args.p
          (not_bar args.pattern.now args.p 91 (sym byte-or-bar.ensures ∙ match.is) (λ z. absurd (omega arith))),
    )

pub returns-then-byte_or_bar-eq124 : goal.returns-then-byte_or_bar-eq124
returns-then-byte_or_bar-eq124 c =
    let entry = c.args in
    let byte-or-bar = c.byte_or_bar-b in
    let match = c.in-42 in
    let args = entry in
    step-star_last args.pattern.now args.p args.value.now args.t (sym byte-or-bar.ensures ∙ match.is)
    (sym c.byte_or_bar.ensures ∙ c.if-byte_or_bar-eq124.true)

pub returns-else-byte_or_bar-eq124 : goal.returns-else-byte_or_bar-eq124
returns-else-byte_or_bar-eq124 c =
    let entry = c.args in
    let byte-or-bar = c.byte_or_bar-b in
    let match = c.in-42 in
    let args = entry in
    step-star args.pattern.now args.p args.value.now args.t (sym byte-or-bar.ensures ∙ match.is)

pub returns-then-value-t : goal.returns-then-value-t
returns-then-value-t c =
    let entry = c.args in
    let byte-or-bar = c.byte_or_bar-b in
    let args = entry in
    step-done args.pattern.now args.p args.value.now args.t (sym byte-or-bar.ensures ∙ c.in-124.is)
    c.if-value-t.true

pub returns-else-value-t : goal.returns-else-value-t
returns-else-value-t c =
    let entry = c.args in
    let byte-or-bar = c.byte_or_bar-b in
    let args = entry in
    step_left args.pattern.now args.p args.value.now args.t (sym byte-or-bar.ensures ∙ c.in-124.is)
    c.if-value-t.false

pub returns-then-value-t-2 : goal.returns-then-value-t-2
returns-then-value-t-2 c =
    let entry = c.args in
    let byte-or-bar = c.byte_or_bar-b in
    let args = entry in
    step-one_short args.pattern.now args.p args.value.now args.t (sym byte-or-bar.ensures ∙ c.in-63.is)
    c.if-value-t-2.true

pub returns-else-value-t-2 : goal.returns-else-value-t-2
returns-else-value-t-2 c =
    let entry = c.args in
    let byte-or-bar = c.byte_or_bar-b in
    let args = entry in
    step-one args.pattern.now args.p args.value.now args.t (sym byte-or-bar.ensures ∙ c.in-63.is)
    c.if-value-t-2.false

pub returns-then-value-t-3 : goal.returns-then-value-t-3
returns-then-value-t-3 c =
    let entry = c.args in
    let byte-or-bar = c.byte_or_bar-b in
    let args = entry in
    step-set_short args.pattern.now args.p args.value.now args.t (sym byte-or-bar.ensures ∙ c.in-91.is)
    c.if-value-t-3.true

pub returns-else-value-t-3 : goal.returns-else-value-t-3
returns-else-value-t-3 c =
    let entry = c.args in
    let byte-or-bar = c.byte_or_bar-b in
    let match = c.in-91 in
    let if4 = c.if-value-t-3 in
    let args = entry in
    rw c.set_step.ensures
    (step_set args.pattern.now args.p args.value.now args.t (sym byte-or-bar.ensures ∙ match.is) if4.false)

pub returns-in_default : goal.returns-in_default
returns-in_default c =
    let entry = c.args in
    let byte-or-bar-call = c.byte_or_bar-b in
    let args = entry in
    let byte-or-bar = byte-or-bar-call in
    rw c.byte_step.ensures
    (step-byte args.pattern.now args.p args.value.now args.t byte-or-bar.result (sym byte-or-bar.ensures)
    c.in_default.in_default-own.rest.0.0.1 c.in_default.in_default-own.rest.0.0.0.1 c.in_default.in_default-own.rest.0.1
    c.in_default.in_default-own.rest.1)
