-- `plan_due::is_fair` meets its contract.
use mathlib.Core.Bool.{Bool, ◌||◌}
use mathlib.Core.Path.{sym, ap, ◌∙◌}
use Rattle.lists.specs.Bytes.{between, holds}
use Rattle.plan_due.proofs.Fair.{fair-parts, holds-any}
use Rattle.plan_due.proofs.is_fair.Goals as goal

pub returns-then-is_ascii_alphanumeric : goal.returns-then-is_ascii_alphanumeric
returns-then-is_ascii_alphanumeric c =
    let b = c.args.b in
    let there = holds b c.args.marks.now in
    let known = sym c.is_ascii_alphanumeric.ensures.value ∙ c.if-is_ascii_alphanumeric.true in
    c.if-is_ascii_alphanumeric.true ∙ sym (ap (λ (t : Bool). t || there) known) ∙ fair-parts (between 48 57 b) (between 65 90 b) (between 97 122 b) there

pub returns-else-is_ascii_alphanumeric : goal.returns-else-is_ascii_alphanumeric
returns-else-is_ascii_alphanumeric c =
    let b = c.args.b in
    let there = holds b c.args.marks.now in
    let known = sym c.is_ascii_alphanumeric.ensures.value ∙ c.if-is_ascii_alphanumeric.false in
    c.contains.ensures.value ∙ holds-any b c.args.marks.now ∙ sym (ap (λ (t : Bool). t || there) known) ∙ fair-parts (between 48 57 b) (between 65 90 b) (between 97 122 b) there
