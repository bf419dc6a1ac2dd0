-- `reader::read_text` meets its contract.
use native.Mathlib.Omega.{arith}
use Rattle.std.proofs.lemmas.Result.{err_from_is_err_and}
use Rattle.table.specs.Rules.{Rules}
use Rattle.reader.proofs.Whole.{text_too_long, text-refused, text_settled, text_unsettled}
use Rattle.reader.proofs.read_text.Goals.{In_ok-counts}
use Rattle.reader.proofs.read_text.Goals as goal

held : (w : In_ok-counts) → Rules w.read_lines.new.values w.read_lines.new.rows w.read_lines.new.rules w.read_lines.new.labels w.in_ok-counts.counts.rows w.in_ok-counts.counts.used w.in_ok-counts.counts.rules
held w = record { rows = w.in_ok-counts.ensures.2; rules = w.in_ok-counts.ensures.3 }

pub returns-then-text-gt32768 : goal.returns-then-text-gt32768
returns-then-text-gt32768 c = (omega arith, text_too_long c.args.text.now c.if-text-gt32768.true)

pub read_lines-requires : goal.read_lines-requires
read_lines-requires c = (c.if-text-gt32768.false, c.requires.0 c.if-text-gt32768.false, c.requires.1, c.requires.2)

pub returns-in_err-counts : goal.returns-in_err-counts
returns-in_err-counts c =
    let p = err_from_is_err_and c.from_residual.result c.from_residual.ensures.1 in
    let y = c.in_err-counts.ensures in
    rw (p.1, p.2) (y.0, text-refused c.args.text.now c.if-text-gt32768.false _ _ y.1)

pub settle-requires : goal.settle-requires
settle-requires c =
    let pre = c.requires in
    let few = c.in_ok-counts.ensures.1 in (
      omega (arith, few),
      omega (arith, few, c.read_lines.auto.labels, pre.2),
      omega (arith, few, pre.3),
      omega (arith, few, c.read_lines.auto.rules, pre.1),
      (c.in_ok-counts.counts.rows, (c.in_ok-counts.counts.used, held (goal.at.settle-requires c).In_ok-counts)),
    )

pub returns-in-Ok : goal.returns-in-Ok
returns-in-Ok c =
    let lines = c.in_ok-counts.ensures in
    let rules = held (goal.at.returns-in-Ok c).In_ok-counts in
    let all = c.in-Ok.ensures c.in_ok-counts.counts.rows c.in_ok-counts.counts.used rules in
    record {
      is = text_settled c.args.text.now c.if-text-gt32768.false _ lines.0 all.0;
      few = lines.1;
      rules = rules;
      jumps = all.1;
    }

pub returns-in-Err : goal.returns-in-Err
returns-in-Err c =
    let y = c.in-Err.ensures c.in_ok-counts.counts.rows c.in_ok-counts.counts.used (held (goal.at.returns-in-Err c).In_ok-counts) in
    (y.0, text_unsettled c.args.text.now c.if-text-gt32768.false _ c.in_ok-counts.ensures.0 _ _ y.1)
