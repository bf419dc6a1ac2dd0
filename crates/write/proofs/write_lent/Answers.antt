-- `write::write_lent` meets its contract.
use mathlib.Core.Path.{sym, ap, ◌∙◌}
use native.Mathlib.Omega.{arith}
use lib.ListN.{length}
use Rattle.write.proofs.Laws.{write-text, written_few, rules_in_lem}
use Rattle.answers.specs.Answers.{answered}
use Rattle.write.proofs.write_lent.Goals as goal

pub write_table-requires : goal.write_table-requires
write_table-requires c =
    let a = c.args in
    let read = c.in-Ok.ensures in
    (c.requires.0, rules_in_lem a.text.now _ _ _ _ _ c.in-Ok.counts read (omega (arith, c.read_text.auto.rules, c.requires.2)), written_few a.text.now _ read.is)

pub refused-requires : goal.refused-requires
refused-requires c = omega (arith, c.in-Err.ensures.0)

pub returns-in-Ok : goal.returns-in-Ok
returns-in-Ok c = c.write_table.ensures c.args.text.now c.in-Ok.ensures.is

pub returns-in-Err : goal.returns-in-Err
returns-in-Err c =
    let a = c.args in
    ap (answered c.refused.result) c.clear.ensures ∙ c.refused.ensures (length a.target.now) ∙ sym (write-text a.text.now (length a.target.now) c.requires.0 _ c.in-Err.ensures.1)
