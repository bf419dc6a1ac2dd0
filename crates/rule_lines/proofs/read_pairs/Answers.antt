-- `rule_lines::read_pairs` meets its contract.
use Prim.Native.Nat.{ℕ, ◌+◌, ◌-◌}
use mathlib.Core.Path.{sym, ap, ◌∙◌}
use mathlib.Core.List.{List}
use native.Mathlib.Omega.{arith}
use Rattle.std.proofs.lemmas.Result.{err_from_is_err_and}
use lib.ListN.{length, drop}
use Rattle.rules.specs.Pair.{Pair}
use Rattle.rule_lines.specs.Filling.{start, pairs_on}
use Rattle.rule_lines.proofs.Filling.{kept_on, held_none, grown_start, grown_on, room_zero, zero_room}
use Rattle.rule_lines.proofs.Steps.{on-start}
use Rattle.rule_lines.proofs.read_pairs.Goals as goal

pub loop-step-init : goal.loop-step-init
loop-step-init c =
    let a = c.args in (
      c.requires.0,
      ap (λ (ps : List Pair). pairs_on 32 ps (drop a.at a.line.now)) (held_none a.values.now a.rows.now a.n a.used) ∙ on-start 32 (drop a.at a.line.now),
      λ beyond room. grown_start a.values.now a.rows.now a.n a.used c.requires.1 (beyond + (length a.line.now - a.at) + 1) room,
    )

pub pair_step-requires : goal.pair_step-requires
pair_step-requires c =
    let a = c.args in
    let l = c.loop-step in
    let g = l.invariant.2 0 (room_zero (length a.line.now - a.at) a.values.now a.rows.now (start a.n a.used) c.requires.2) in
    (l.invariant.0, zero_room _ l.values l.rows l.fill g.room)

pub shape_of-values-in_err-step : goal.shape_of-values-in_err-step
shape_of-values-in_err-step c =
    let a = c.args in
    let g = c.loop-step.invariant.2 0 (room_zero (length a.line.now - a.at) a.values.now a.rows.now (start a.n a.used) c.requires.2) in
    c.pair_step.auto.values ∙ g.kept.values_size

pub shape_of-rows-in_err-step : goal.shape_of-rows-in_err-step
shape_of-rows-in_err-step c =
    let a = c.args in
    let g = c.loop-step.invariant.2 0 (room_zero (length a.line.now - a.at) a.values.now a.rows.now (start a.n a.used) c.requires.2) in
    c.pair_step.auto.rows ∙ g.kept.rows_size

pub returns-in_err-step : goal.returns-in_err-step
returns-in_err-step c = λ beyond room.
    let p = err_from_is_err_and c.from_residual.result c.from_residual.ensures.1 in
    let a = c.args in
    let l = c.loop-step in
    let g = l.invariant.2 beyond room in
    let t = c.in_err-step.ensures a.n beyond g.held g.room in
    rw (p.1, p.2) (sym l.invariant.1 ∙ t.0, kept_on a.used a.n l.fill.used l.fill.rows a.values.now a.rows.now l.values l.rows _ _ g.used g.rows g.kept t.1)

pub shape_of-values-in_default : goal.shape_of-values-in_default
shape_of-values-in_default c =
    let a = c.args in
    let g = c.loop-step.invariant.2 0 (room_zero (length a.line.now - a.at) a.values.now a.rows.now (start a.n a.used) c.requires.2) in
    c.pair_step.auto.values ∙ g.kept.values_size

pub shape_of-rows-in_default : goal.shape_of-rows-in_default
shape_of-rows-in_default c =
    let a = c.args in
    let g = c.loop-step.invariant.2 0 (room_zero (length a.line.now - a.at) a.values.now a.rows.now (start a.n a.used) c.requires.2) in
    c.pair_step.auto.rows ∙ g.kept.rows_size

pub returns-in_default : goal.returns-in_default
returns-in_default c = λ beyond room.
    let a = c.args in
    let l = c.loop-step in
    let g = l.invariant.2 beyond room in
    let t = rw c.in_default.is at (c.in_ok-step.ensures a.n beyond g.held g.room) in
    (sym l.invariant.1 ∙ t.0, grown_on a.n (start a.n a.used) l.fill c.in_ok-step.step.fill a.values.now a.rows.now l.values l.rows _ _ _ _ _ g t.1)

pub overflow_sub-left : goal.overflow_sub-left
overflow_sub-left c =
    let a = c.args in
    let l = c.loop-step in
    let g = l.invariant.2 0 (room_zero (length a.line.now - a.at) a.values.now a.rows.now (start a.n a.used) c.requires.2) in
    let t = rw c.in-Some.is at (c.in_ok-step.ensures a.n 0 g.held g.room) in
    omega (arith, t.2)

pub loop-step-smaller : goal.loop-step-smaller
loop-step-smaller c =
    let a = c.args in
    let l = c.loop-step in
    let g = l.invariant.2 0 (room_zero (length a.line.now - a.at) a.values.now a.rows.now (start a.n a.used) c.requires.2) in
    let t = rw c.in-Some.is at (c.in_ok-step.ensures a.n 0 g.held g.room) in
    omega (arith, t.2)

pub loop-step-preserved : goal.loop-step-preserved
loop-step-preserved c =
    let a = c.args in
    let l = c.loop-step in
    let g = l.invariant.2 0 (room_zero (length a.line.now - a.at) a.values.now a.rows.now (start a.n a.used) c.requires.2) in
    let t = rw c.in-Some.is at (c.in_ok-step.ensures a.n 0 g.held g.room) in (
      t.4,
      sym t.0 ∙ l.invariant.1,
      λ beyond room.
          let h = l.invariant.2 beyond room in
          let u = rw c.in-Some.is at (c.in_ok-step.ensures a.n beyond h.held h.room) in
          grown_on a.n (start a.n a.used) l.fill c.in_ok-step.step.fill a.values.now a.rows.now l.values l.rows _ _ _ _ _ h u.1,
    )
