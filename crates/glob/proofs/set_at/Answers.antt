-- `glob::set_at` meets its contract.
use mathlib.Core.Path.{sym, ◌∙◌}
use Rattle.glob.proofs.Members.{set_opposite_short, set_opposite, set_short, set-plain}
use Rattle.glob.proofs.set_at.Goals as goal

pub set_from-requires : goal.set_from-requires
set_from-requires c = λ e. c.if-byte_or_bar-eq124.false (c.byte_or_bar-in-33.ensures ∙ e)

pub set_from-requires-in_default : goal.set_from-requires-in_default
set_from-requires-in_default c = λ e. c.in_default.in_default-own.rest.1 (c.byte_or_bar.ensures ∙ e)

pub returns-then-byte_or_bar-eq124 : goal.returns-then-byte_or_bar-eq124
returns-then-byte_or_bar-eq124 c =
    let entry = c.args in
    let byte-or-bar = c.byte_or_bar in
    let match = c.in-33 in
    let args = entry in
    sym
    (set_opposite_short args.pattern.now args.p args.x (sym byte-or-bar.ensures ∙ match.is)
    (sym c.byte_or_bar-in-33.ensures ∙ c.if-byte_or_bar-eq124.true))

pub returns-else-byte_or_bar-eq124 : goal.returns-else-byte_or_bar-eq124
returns-else-byte_or_bar-eq124 c =
    let entry = c.args in
    let byte-or-bar = c.byte_or_bar in
    let match = c.in-33 in
    let byte-or-bar2 = c.byte_or_bar-in-33 in
    let args = entry in
    c.set_from.ensures ∙ sym
    (set_opposite args.pattern.now args.p args.x (sym byte-or-bar.ensures ∙ match.is)
    (λ e. c.if-byte_or_bar-eq124.false (byte-or-bar2.ensures ∙ e)))

pub returns-in-124 : goal.returns-in-124
returns-in-124 c =
    let args = c.args in
    sym (set_short args.pattern.now args.p args.x (sym c.byte_or_bar.ensures ∙ c.in-124.is))

pub returns-in_default : goal.returns-in_default
returns-in_default c =
    let entry = c.args in
    let byte-or-bar-call = c.byte_or_bar in
    let args = entry in
    let byte-or-bar = byte-or-bar-call in
    c.set_from-in_default.ensures ∙ sym
    (set-plain args.pattern.now args.p args.x (λ e. c.in_default.in_default-own.rest.1 (byte-or-bar.ensures ∙ e))
    (λ e. c.in_default.in_default-own.rest.0.1 (byte-or-bar.ensures ∙ e)))
