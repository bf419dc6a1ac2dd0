-- `substitution::put_trimmed` meets its contract.
use Prim.Native.Nat.{◌-◌}
use mathlib.Core.Path.{◌∙◌}
use native.Mathlib.Omega.{arith}
use lib.ListN.{take}
use Rattle.substitution.proofs.Parts.{appended_same}
use Rattle.lists.proofs.Moves.{ap_at}
use Rattle.lists.specs.Runs.{trim}
use Rattle.substitution.proofs.put_trimmed.Goals as goal

pub returns : goal.returns
returns c =
    let entry = c.args in
    let trimmed-len-call = c.trimmed_len-end in
    let put-text-call = c.put_text in
    let args = entry in
    let trimmed_len = trimmed-len-call in
    let put-text = put-text-call in
    appended_same args.spaceless _ (trim args.value.now) args.out.now args.used put-text.result _
    (ap_at (λ i. take i args.value.now) (trimmed_len.result - 0) trimmed_len.result (omega arith) ∙ trimmed_len.ensures.1)
    put-text.ensures
