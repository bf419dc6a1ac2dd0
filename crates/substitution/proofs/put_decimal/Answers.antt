-- `substitution::put_decimal` meets its contract.
use mathlib.Core.Path.{ap, ◌∙◌}
use native.Mathlib.Omega.{arith}
use lib.Pow.{pow_mono}
use Rattle.substitution.proofs.Parts.{appended_same}
use Rattle.lists.proofs.Moves.{end-part}
use Rattle.template.specs.Decimal.{decimal as decimal_text}
use Rattle.bits.specs.Bits.{number_at}
use Rattle.substitution.proofs.put_decimal.Goals as goal

pub overflow_cast-field : goal.overflow_cast-field
overflow_cast-field c =
    let entry = c.args in
    let pre = c.requires in
    omega (arith, c.take-field.ensures.below, pow_mono {i = entry.n} {j = 20} pre.0)

pub returns : goal.returns
returns c =
    let entry = c.args in
    let take = c.take-field in
    let decimal-call = c.decimal-d in
    let put-text-call = c.put_text in
    let args = entry in
    let decimal = decimal-call in
    let put-text = put-text-call in
    appended_same args.spaceless _ (decimal_text (number_at args.dev.now args.at args.n)) args.out.now args.used
    put-text.result _
    (end-part decimal.result.digits 10 decimal.result.start decimal.ensures.size ∙ decimal.ensures.same ∙ ap decimal_text
    take.ensures.value)
    put-text.ensures
