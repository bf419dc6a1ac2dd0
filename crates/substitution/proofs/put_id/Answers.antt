-- `substitution::put_id` meets its contract.
use mathlib.Core.Path.{◌∙◌}
use Rattle.substitution.proofs.Parts.{appended_same, nothing_put, matched-text, unmatched_text}
use Rattle.std.specs.Prelude.{Some, None}
use Rattle.substitution.specs.Places.{MatchedIs, MatchedStands}
use Rattle.engine.specs.Substitute.{of_matched}
use Rattle.device.specs.Device.{name_of}
use Rattle.substitution.proofs.put_id.Goals as goal

pub name_at-requires : goal.name_at-requires
name_at-requires c =
    let entry = c.args in
    let pre = c.requires in
    let matched-call = c.in-Some in
    let matched = matched-call in
    let w : MatchedStands entry.dev.now (Some matched.at) = rw matched.is at pre.0 in
    w

pub returns-in-Some : goal.returns-in-Some
returns-in-Some c =
    let entry = c.args in
    let matched-call = c.in-Some in
    let name-at = c.name_at in
    let put-text-call = c.put_text in
    let args = entry in
    let matched = matched-call in
    let put-text = put-text-call in
    λ o h.
    let w : MatchedIs args.dev.now (Some matched.at) o = rw matched.is at h in
    appended_same args.spaceless _ (of_matched o name_of) args.out.now args.used put-text.result _
    (name-at.ensures w.0 w.2 ∙ matched-text name_of o w.0 w.1) put-text.ensures

pub returns-in-None : goal.returns-in-None
returns-in-None c =
    let entry = c.args in
    let pre = c.requires in
    let args = entry in
    λ o h.
    let w : MatchedIs args.dev.now None o = rw c.in-None.is at h in
    nothing_put args.spaceless (of_matched o name_of) args.out.now args.used (unmatched_text name_of o w) pre.1
