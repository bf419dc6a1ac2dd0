use Rattle.reader.proofs.Notes.{noted-start, noted-end}
use Rattle.reader.proofs.Lines.{filled_none, upto_start, upto_end}
use mathlib.Core.Path.{◌≡◌, refl, sym, ◌∙◌}
use Prim.Native.Nat.{◌-◌}
use native.Mathlib.Omega.{arith}
use Rattle.reader.proofs.take_lines.Goals as goal

pub loop-place-init : goal.loop-place-init
loop-place-init c =
    let a = c.args in
    let lent = c.requires.1 in (
      omega arith,
      omega arith,
      record {
        filled = filled_none a.values.now a.rows.now a.rules.now a.labels.now c.requires.2 c.requires.3;
        strictly = λ z. upto_start a.text.now a.values.now a.rows.now a.rules.now a.labels.now c.requires.2 c.requires.3;
        noting = λ z. noted-start a.text.now a.values.now a.rows.now a.rules.now a.labels.now a.list.now c.requires.2 c.requires.3 (c.requires.4 z);
      },
      record { values = omega (arith, lent.values); small = lent.small; few = lent.few; rows = omega (arith, lent.rows) },
      refl,
      refl,
      refl,
      refl,
    )

pub slice_bounds-take_line-end : goal.slice_bounds-take_line-end
slice_bounds-take_line-end c =
    sym c.loop-place.invariant.6

pub shape_of-values-in-Err : goal.shape_of-values-in-Err
shape_of-values-in-Err c =
    c.take_line.auto.values ∙ c.loop-place.invariant.4

pub shape_of-rows-in-Err : goal.shape_of-rows-in-Err
shape_of-rows-in-Err c =
    c.take_line.auto.rows ∙ c.loop-place.invariant.5

pub shape_of-rules-in-Err : goal.shape_of-rules-in-Err
shape_of-rules-in-Err c =
    c.take_line.auto.rules ∙ c.loop-place.invariant.2.filled.rules_room ∙ sym c.requires.2

pub shape_of-labels-in-Err : goal.shape_of-labels-in-Err
shape_of-labels-in-Err c =
    c.take_line.auto.labels ∙ c.loop-place.invariant.2.filled.labels_room ∙ sym c.requires.3

pub shape_of-list-in-Err : goal.shape_of-list-in-Err
shape_of-list-in-Err c =
    c.take_line.auto.list ∙ c.loop-place.invariant.7

pub loop-place-smaller : goal.loop-place-smaller
loop-place-smaller c =
    omega (arith, c.in-Ok.ensures.0, c.in-Ok.ensures.1)

pub loop-place-preserved : goal.loop-place-preserved
loop-place-preserved c =
    let a = c.args in
    let t = c.in-Ok.ensures in
    (t.1, t.2, t.3, t.4, c.take_line.auto.values ∙ c.loop-place.invariant.4, c.take_line.auto.rows ∙ c.loop-place.invariant.5, c.take_line.auto.copy ∙ c.loop-place.invariant.6, c.take_line.auto.list ∙ c.loop-place.invariant.7)

pub shape_of-values : goal.shape_of-values
shape_of-values c =
    c.loop-place.invariant.4

pub shape_of-rows : goal.shape_of-rows
shape_of-rows c =
    c.loop-place.invariant.5

pub shape_of-rules : goal.shape_of-rules
shape_of-rules c =
    c.loop-place.invariant.2.filled.rules_room ∙ sym c.requires.2

pub shape_of-labels : goal.shape_of-labels
shape_of-labels c =
    c.loop-place.invariant.2.filled.labels_room ∙ sym c.requires.3

pub shape_of-list : goal.shape_of-list
shape_of-list c =
    c.loop-place.invariant.7

pub returns : goal.returns
returns c =
    let a = c.args in (
      c.loop-place.invariant.2.filled,
      λ z. upto_end a.text.now c.loop-place.values c.loop-place.rows c.loop-place.rules c.loop-place.labels c.loop-place.place.at c.loop-place.place.number c.loop-place.place.counts (c.loop-place.invariant.2.strictly z) (omega arith),
      λ z. noted-end a.text.now c.loop-place.values c.loop-place.rows c.loop-place.rules c.loop-place.labels c.loop-place.list c.loop-place.place c.requires.0 (c.loop-place.invariant.2.noting z) (omega arith) c.loop-place.invariant.0,
    )

pub returns-in-Err : goal.returns-in-Err
returns-in-Err c =
    let a = c.args in
    let t = c.in-Err.ensures in
    (t.0, omega (arith, c.requires.0, c.loop-place-test.true, c.loop-place.invariant.1), t.1)

pub take_line-requires : goal.take_line-requires
take_line-requires c =
    record {
      stands = record { short = c.requires.0; starts = c.loop-place-test.true; number_at = c.loop-place.invariant.1; copy_room = c.loop-place.invariant.6; fits = c.loop-place.invariant.3 };
      before = c.loop-place.invariant.2;
    }
