-- `substitution::put_number` meets its contract.
use mathlib.Core.Path.{refl, ap, ◌∙◌}
use lib.ListN.{length}
use Rattle.substitution.proofs.Parts.{appended_same}
use Rattle.lists.proofs.Moves.{end-part}
use Rattle.device.specs.Device.{name_of}
use Rattle.lists.specs.Runs.{end_digits}
use Rattle.substitution.proofs.put_number.Goals as goal

pub returns : goal.returns
returns c =
    let entry = c.args in
    let name-at = c.name_at-name in
    let digits-start-call = c.digits_start-start in
    let put-text-call = c.put_text in
    let args = entry in
    let name = name-at in
    let digits-start = digits-start-call in
    let put-text = put-text-call in
    λ m h.
    appended_same args.spaceless _ (end_digits (name_of m)) args.out.now args.used put-text.result _
    (end-part name.result.now (length name.result.now) digits-start.result refl ∙ digits-start.ensures.1 ∙ ap end_digits
    (name.ensures m h))
    put-text.ensures
