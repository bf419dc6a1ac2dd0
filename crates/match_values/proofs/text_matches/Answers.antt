-- `match_values::text_matches` meets its contract.
use mathlib.Core.Path.{◌∙◌}
use Rattle.match_values.proofs.Texts.{plain-same}
use Rattle.match_values.proofs.text_matches.Goals as goal

pub returns-then-plain : goal.returns-then-plain
returns-then-plain c =
    let args = c.args in
    c.same_short.ensures ∙ plain-same args.plain args.pattern.now args.text.now c.requires c.if-plain.true
