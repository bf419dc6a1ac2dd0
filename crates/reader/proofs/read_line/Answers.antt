-- `reader::read_line` meets its contract.
use mathlib.Core.Path.{refl, ap, ◌∙◌}
use native.Mathlib.Omega.{arith}
use Rattle.std.proofs.lemmas.Result.{err_from_is_err_and}
use Rattle.rules.specs.Reading.{rule_read}
use Rattle.rule_lines.specs.Filling.{start}
use Rattle.rule_lines.proofs.Filling.{kept_refl}
use Rattle.reader.proofs.Line.{line-long, line-blank, line-comment, line-rule, room_less, grown_from}
use Rattle.reader.proofs.read_line.Goals.{then-line-at-via-then-line-at, then-line-at-via-else-line-at+then-line-at-eq35}
use Rattle.reader.proofs.read_line.Goals as goal

pub returns-then-line-gt1024 : goal.returns-then-line-gt1024
returns-then-line-gt1024 c = λ beyond room. (line-long c.args.line.now c.if-line-gt1024.true, kept_refl _ _ c.args.values.now c.args.rows.now)

pub returns-then-line-at : goal.returns-then-line-at
returns-then-line-at c =
    let line = c.args.line.now in
    λ beyond room.
    elim c.then-line-at.branch [
      | then-line-at-via-then-line-at w ↦ (line-blank line (omega arith) c.requires.0 c.blank_end-at.result c.blank_end-at.ensures.place w.if-line-at.true, refl, refl)
      | then-line-at-via-else-line-at+then-line-at-eq35 w ↦ (line-comment line (omega arith) c.requires.0 c.blank_end-at.result c.blank_end-at.ensures.place w.if-line-at.false w.if-line-at-eq35.true, refl, refl)
    ]

pub returns-in_err-fill : goal.returns-in_err-fill
returns-in_err-fill c =
    let a = c.args in
    let p = err_from_is_err_and c.from_residual.result c.from_residual.ensures.1 in
    let rule = line-rule a.line.now (omega arith) c.requires.0 c.blank_end-at.result c.blank_end-at.ensures.place c.if-line-at.false c.if-line-at-eq35.false in
    λ beyond room.
    let t = c.in_err-fill.ensures beyond (room_less _ _ a.values.now a.rows.now (start a.n a.used) (omega arith) room) in
    rw (p.1, p.2) (rule ∙ ap rule_read t.0, t.1)

pub returns : goal.returns
returns c =
    let a = c.args in
    let rule = line-rule a.line.now (omega arith) c.requires.0 c.blank_end-at.result c.blank_end-at.ensures.place c.if-line-at.false c.if-line-at-eq35.false in
    λ beyond room.
    let t = c.in_ok-fill.ensures beyond (room_less _ _ a.values.now a.rows.now (start a.n a.used) (omega arith) room) in
    (rule ∙ ap rule_read t.0, grown_from a.n (start a.n a.used) a.values.now a.rows.now _ _ _ _ _ _ t.1)
