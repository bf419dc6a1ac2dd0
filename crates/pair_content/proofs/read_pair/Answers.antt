-- `pair_content::read_pair` meets its contract.
use Rattle.std.proofs.lemmas.Result.{err_from_is_err_and}
use Rattle.lists.specs.Bytes.{part}
use Rattle.keys.specs.Table.{key_of, operator_of}
use Rattle.glob.specs.declared.Form.TheVariants.{Plain, Sound, Faulty}
use Rattle.pairs.specs.Answers.{unescaped}
use Rattle.pair_content.specs.Content.{ContentIs}
use Rattle.pair_content.proofs.Pair.{unmarked, pair_sound, pair_unsound, pair_refused}
use Rattle.pair_content.proofs.read_pair.Goals as goal

pub written_form-requires : goal.written_form-requires
written_form-requires c = c.in_ok-pair.ensures.1.value

pub returns-in_err-pair : goal.returns-in_err-pair
returns-in_err-pair c =
    let p = err_from_is_err_and c.from_residual.result c.from_residual.ensures.1 in
    rw (p.1, p.2) (pair_refused c.args.line.now c.args.at c.in_err-pair.field-0.0 c.in_err-pair.ensures.0, tt, tt)

pub returns-in-Plain : goal.returns-in-Plain
returns-in-Plain c =
    let line = c.args.line.now in
    let p = c.in_ok-pair.pair in
    let w : ContentIs Plain (key_of p.key) (operator_of p.operator) (unescaped p.coded (part line p.start p.end)) = rw c.in-Plain.is at c.written_form.ensures in
    (pair_sound line c.args.at p c.in_ok-pair.ensures.0 w.0, c.in_ok-pair.ensures.1, λ e. w.1)

pub returns-in-Sound : goal.returns-in-Sound
returns-in-Sound c =
    let line = c.args.line.now in
    let p = c.in_ok-pair.pair in
    let w : ContentIs Sound (key_of p.key) (operator_of p.operator) (unescaped p.coded (part line p.start p.end)) = rw c.in-Sound.is at c.written_form.ensures in
    (pair_sound line c.args.at p c.in_ok-pair.ensures.0 w, c.in_ok-pair.ensures.1, unmarked (unescaped p.coded (part line p.start p.end)))

pub returns-in-Faulty : goal.returns-in-Faulty
returns-in-Faulty c =
    let line = c.args.line.now in
    let p = c.in_ok-pair.pair in
    let w : ContentIs Faulty (key_of p.key) (operator_of p.operator) (unescaped p.coded (part line p.start p.end)) = rw c.in-Faulty.is at c.written_form.ensures in
    (pair_unsound line c.args.at p c.in_ok-pair.ensures.0 w, tt, tt)
