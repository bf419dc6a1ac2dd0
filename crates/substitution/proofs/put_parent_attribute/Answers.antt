-- `substitution::put_parent_attribute` meets its contract.
use mathlib.Core.Path.{ap, ◌∙◌}
use Rattle.substitution.proofs.Parts.{appended_same, nothing_put, attribute-matched, attribute-none}
use Rattle.std.specs.Prelude.{Some, None}
use Rattle.substitution.specs.Places.{MatchedIs, MatchedStands}
use Rattle.engine.specs.Substitute.{attr_at}
use Rattle.entries.specs.Entry.{or_empty}
use Rattle.lists.specs.Runs.{trim}
use Rattle.substitution.proofs.put_parent_attribute.Goals as goal

pub attribute_at-requires : goal.attribute_at-requires
attribute_at-requires c =
    let entry = c.args in
    let pre = c.requires in
    let matched = c.in-Some in
    let w : MatchedStands entry.dev.now (Some matched.at) = rw matched.is at pre.0 in
    w

pub returns-in-Some : goal.returns-in-Some
returns-in-Some c =
    let entry = c.args in
    let matched-call = c.in-Some in
    let attribute-at = c.attribute_at in
    let put-trimmed-call = c.put_trimmed in
    let args = entry in
    let matched = matched-call in
    let put-trimmed = put-trimmed-call in
    λ o h.
    let w : MatchedIs args.dev.now (Some matched.at) o = rw matched.is at h in
    appended_same args.spaceless _ (trim (or_empty (attr_at args.key.now o))) args.out.now args.used put-trimmed.result _
    (ap trim (attribute-at.ensures w.0 w.2 ∙ attribute-matched args.key.now o w.0 w.1)) put-trimmed.ensures

pub returns-in-None : goal.returns-in-None
returns-in-None c =
    let entry = c.args in
    let pre = c.requires in
    let args = entry in
    λ o h.
    let w : MatchedIs args.dev.now None o = rw c.in-None.is at h in
    nothing_put args.spaceless (trim (or_empty (attr_at args.key.now o))) args.out.now args.used
    (attribute-none args.key.now o w) pre.1
