-- `rule_lines::pair_step` meets its contract.
use mathlib.Core.Path.{sym}
use native.Mathlib.Omega.{arith}
use Rattle.std.proofs.lemmas.Result.{err_from_is_err_and}
use Rattle.keys.specs.Table.{key_of}
use Rattle.rule_lines.proofs.Filling.{noted-is, kept_refl}
use Rattle.rule_lines.proofs.Pair.{step-refused, step_extra, again-here, room_here, step_last, step_comma, step-next}
use Rattle.rule_lines.proofs.pair_step.Goals as goal

pub returns-in_err-judged : goal.returns-in_err-judged
returns-in_err-judged c =
    let x = c.args in
    let p = err_from_is_err_and c.from_residual.result c.from_residual.ensures.1 in
    λ from beyond h room. rw (p.1, p.2) (step-refused x.line.now x.at x.left _ _ c.in_err-judged.ensures.0, kept_refl _ _ x.values.now x.rows.now)

pub returns-then-left-eq0 : goal.returns-then-left-eq0
returns-then-left-eq0 c =
    let x = c.args in
    λ from beyond h room. (step_extra x.line.now x.at x.left _ c.in_ok-judged.judged.pair c.in_ok-judged.ensures.0 c.if-left-eq0.true, kept_refl _ _ x.values.now x.rows.now)

pub returns-in_default : goal.returns-in_default
returns-in_default c =
    let a = c.args in
    let p = c.in_ok-judged.judged.pair in
    λ from beyond h room. (
      again-here a.line.now a.at p (sym c.in_ok-judged.ensures.0) c.in_ok-judged.ensures.1 a.left a.values.now a.rows.now from a.fill (omega arith) h c.in_default.ensures,
      kept_refl _ _ a.values.now a.rows.now,
    )

pub put_pair-used-requires : goal.put_pair-used-requires
put_pair-used-requires c =
    let a = c.args in
    let p = c.in_ok-judged.judged.pair in
    let noted = noted-is (key_of p.key) a.fill c.in-Some.noted c.in-Some.ensures in
    let x = room_here a.line.now a.at p (sym c.in_ok-judged.ensures.0) c.in_ok-judged.ensures.1 a.fill c.in-Some.noted noted a.values.now a.rows.now c.requires.1 in
    (c.in_ok-judged.ensures.1, x.0, c.requires.1.small, x.1, c.in_ok-judged.ensures.2)

pub returns-then-line-next : goal.returns-then-line-next
returns-then-line-next c =
    let a = c.args in
    let p = c.in_ok-judged.judged.pair in
    let put = c.put_pair-used in
    let noted = noted-is (key_of p.key) a.fill c.in-Some.noted c.in-Some.ensures in
    λ from beyond h room.
    step_last a.line.now a.at p (sym c.in_ok-judged.ensures.0) c.in_ok-judged.ensures.1 a.fill c.in-Some.noted noted a.left a.values.now a.rows.now
    put.new.values put.new.rows put.result from beyond (omega arith) h room put.ensures c.if-line-next.true

pub returns-then-line-next-ne44 : goal.returns-then-line-next-ne44
returns-then-line-next-ne44 c =
    let a = c.args in
    let p = c.in_ok-judged.judged.pair in
    let put = c.put_pair-used in
    let noted = noted-is (key_of p.key) a.fill c.in-Some.noted c.in-Some.ensures in
    λ from beyond h room. (
      step_comma a.line.now a.at p (sym c.in_ok-judged.ensures.0) c.in_ok-judged.ensures.1 a.fill c.in-Some.noted noted a.left a.values.now a.rows.now
          put.new.values put.new.rows put.result from beyond (omega arith) h room put.ensures c.if-line-next.false c.if-line-next-ne44.true,
      rw (noted.used, noted.rows) at put.ensures.kept,
    )

pub returns : goal.returns
returns c =
    let a = c.args in
    let p = c.in_ok-judged.judged.pair in
    let put = c.put_pair-used in
    let noted = noted-is (key_of p.key) a.fill c.in-Some.noted c.in-Some.ensures in
    λ from beyond h room.
    step-next a.line.now a.at p (sym c.in_ok-judged.ensures.0) c.in_ok-judged.ensures.1 a.fill c.in-Some.noted noted a.left a.values.now a.rows.now
    put.new.values put.new.rows put.result from beyond (omega arith) h room put.ensures c.if-line-next.false c.if-line-next-ne44.false
