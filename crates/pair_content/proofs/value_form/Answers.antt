-- `pair_content::value_form` meets its contract.
use mathlib.Core.Path.{sym, ◌∙◌}
use Rattle.rules.specs.Reading.{sound}
use Rattle.keys.specs.Table.{key_of, operator_of}
use Rattle.pair_content.proofs.Pair.{pattern_content}
use Rattle.pair_content.proofs.value_form.Goals as goal

pub returns-then-is_pattern : goal.returns-then-is_pattern
returns-then-is_pattern c =
    let args = c.args in
    pattern_content c.form_of.result (key_of args.key) (operator_of args.operator) args.value.now (sym c.is_pattern.ensures ∙ c.if-is_pattern.true)
    c.form_of.ensures

pub returns-then-assigned_sound : goal.returns-then-assigned_sound
unfolding sound
returns-then-assigned_sound c = rw (← c.is_pattern.ensures, c.if-is_pattern.false) (sym c.assigned_sound.ensures ∙ c.if-assigned_sound.true)

pub returns-else-assigned_sound : goal.returns-else-assigned_sound
unfolding sound
returns-else-assigned_sound c = rw (← c.is_pattern.ensures, c.if-is_pattern.false) (sym c.assigned_sound.ensures ∙ c.if-assigned_sound.false)
