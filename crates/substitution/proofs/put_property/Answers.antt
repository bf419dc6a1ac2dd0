-- `substitution::put_property` meets its contract.
use Rattle.substitution.proofs.Parts.{appended_same}
use Rattle.substitution.proofs.put_property.Goals as goal

pub returns : goal.returns
returns c =
    let entry = c.args in
    let value_of_lem = c.value_of in
    let put-text-call = c.put_text in
    let args = entry in
    let put-text = put-text-call in
    appended_same args.spaceless _ _ args.out.now args.used put-text.result _ value_of_lem.ensures put-text.ensures
