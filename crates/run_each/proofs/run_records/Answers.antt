use Prim.Native.Nat.{ℕ, ◌+◌, ◌*◌, ◌-◌, ◌≤◌}
use mathlib.Core.Path.{refl, ◌∙◌}
use native.Mathlib.Omega.{arith}
use borrow.Rule.Slice.PartMut.{same_len_mid}
use lib.ListN.{length}
use Rattle.lists.proofs.Moves.{length_part}
use Rattle.lists.specs.Sizes.{fullest_outcome}
use Rattle.run_each.proofs.Laws.{turning_first, turning_from, turning_next, turning_last}
use Rattle.run_each.proofs.run_records.Goals as goal

pub loop-i-init : goal.loop-i-init
loop-i-init c =
    let entry = c.args in
    let pre = c.requires in
    (turning_first entry.values.now entry.rows.now entry.rules.now entry.read entry.set.now entry.sheet.now entry.n entry.targets.now entry.answers.now pre.0, refl, refl)

pub lent_in-place-requires : goal.lent_in-place-requires
lent_in-place-requires c =
    let entry = c.args in
    let loop = c.loop-i in
    let loop-test = c.loop-i-test in
    turning_from entry.values.now entry.rows.now entry.rules.now entry.read entry.set.now entry.sheet.now entry.n loop.targets loop.answers
    loop.p loop.i loop.invariant.0 (omega (arith, loop-test.true))

pub overflow_mul-start : goal.overflow_mul-start
overflow_mul-start c =
    let loop-test = c.loop-i-test in
    let pre = c.requires in
    omega (arith, loop-test.true, pre.0.few)

pub overflow_add-end : goal.overflow_add-end
overflow_add-end c =
    let loop-test = c.loop-i-test in
    let pre = c.requires in
    omega (arith, loop-test.true, pre.0.few)

pub bytes_of-requires : goal.bytes_of-requires
bytes_of-requires c =
    let lent-in = c.lent_in-place in
    lent-in.ensures.device

pub bytes_of-requires-in-loop-i : goal.bytes_of-requires-in-loop-i
bytes_of-requires-in-loop-i c =
    let lent-in = c.lent_in-place in
    lent-in.ensures.outcome

pub slice_bounds-run_read-count : goal.slice_bounds-run_read-count
slice_bounds-run_read-count c =
    let loop-test = c.loop-i-test in
    let pre = c.requires in
    omega (arith, loop-test.true, pre.0.few)

pub slice_bounds-run_read-start : goal.slice_bounds-run_read-start
slice_bounds-run_read-start c =
    let loop-test = c.loop-i-test in
    let pre = c.requires in
    omega (arith, loop-test.true, pre.0.few)

pub slice_bounds-run_read-end : goal.slice_bounds-run_read-end
slice_bounds-run_read-end c =
    let loop-test = c.loop-i-test in
    let pre = c.requires in
    let loop = c.loop-i in
    omega (arith, loop-test.true, pre.0.room, loop.invariant.1)

pub run_read-given-requires : goal.run_read-given-requires
run_read-given-requires c =
    let loop = c.loop-i in
    let loop-test = c.loop-i-test in
    let pre = c.requires in
    let long = length_part loop.targets (loop.i * fullest_outcome) (loop.i * fullest_outcome + fullest_outcome) (omega (arith, loop-test.true, pre.0.room, loop.invariant.1)) in
    (omega (arith, long), pre.1, pre.2)

pub overflow_mul-i : goal.overflow_mul-i
overflow_mul-i c =
    let loop-test = c.loop-i-test in
    let pre = c.requires in
    omega (arith, loop-test.true, pre.0.few)

pub put_numbers-requires : goal.put_numbers-requires
put_numbers-requires c =
    let loop-test = c.loop-i-test in
    let pre = c.requires in
    let loop = c.loop-i in
    omega (arith, loop-test.true, pre.0.places, loop.invariant.2)

pub loop-i-preserved : goal.loop-i-preserved
loop-i-preserved c =
    let loop = c.loop-i in
    let entry = c.args in
    let pre = c.requires in
    let loop-test = c.loop-i-test in
    let lent-in = c.lent_in-place in
    let run-read = c.run_read-given in
    let bytes_of = c.bytes_of in
    let bytes-of2 = c.bytes_of-in-loop-i in
    let put-numbers = c.put_numbers in
    let start : ℕ = loop.i * fullest_outcome in
    let room : entry.n * fullest_outcome ≤ length loop.targets = omega (arith, pre.0.room, loop.invariant.1) in
    let size = length_part loop.targets start (start + fullest_outcome) (omega (arith, loop-test.true, room)) in (
      turning_next entry.values.now entry.rows.now entry.rules.now entry.read entry.set.now entry.sheet.now entry.n loop.targets loop.answers
          loop.p loop.i loop.invariant.0 (omega (arith, loop-test.true)) room
          lent-in.result lent-in.ensures run-read.result bytes_of.result.now bytes-of2.result.now run-read.new.target _
          bytes_of.ensures bytes-of2.ensures (size ∙ omega arith) run-read.auto.target run-read.ensures _ put-numbers.new.t put-numbers.ensures put-numbers.auto.t,
      same_len_mid start (start + fullest_outcome - start) loop.targets run-read.new.target run-read.auto.target ∙ loop.invariant.1,
      put-numbers.auto.t ∙ loop.invariant.2,
    )

pub overflow_mul-n : goal.overflow_mul-n
overflow_mul-n c =
    let pre = c.requires in
    omega (arith, pre.0.few)

pub slice_bounds-clear-count : goal.slice_bounds-clear-count
slice_bounds-clear-count c =
    let pre = c.requires in
    let loop = c.loop-i in
    omega (arith, pre.0.room, loop.invariant.1)

pub slice_bounds-clear-start : goal.slice_bounds-clear-start
slice_bounds-clear-start c =
    let pre = c.requires in
    let loop = c.loop-i in
    omega (arith, pre.0.room, loop.invariant.1)

pub slice_bounds-clear-end : goal.slice_bounds-clear-end
slice_bounds-clear-end c =
    let pre = c.requires in
    let loop = c.loop-i in
    omega (arith, pre.0.room, loop.invariant.1)

pub shape_of-targets : goal.shape_of-targets
shape_of-targets c =
    let entry = c.args in
    let loop = c.loop-i in
    let clear = c.clear in
    same_len_mid (entry.n * fullest_outcome) (length loop.targets - entry.n * fullest_outcome) loop.targets clear.new.t clear.auto.t ∙ loop.invariant.1

pub shape_of-answers : goal.shape_of-answers
shape_of-answers c =
    let loop = c.loop-i in
    loop.invariant.2

pub returns : goal.returns
returns c =
    let entry = c.args in
    let loop = c.loop-i in
    let loop-test = c.loop-i-test in
    let pre = c.requires in
    let clear = c.clear in
    λ text e. turning_last entry.values.now entry.rows.now entry.rules.now entry.read entry.set.now entry.sheet.now entry.n loop.targets loop.answers
    loop.p loop.i loop.invariant.0 (omega (arith, loop-test.false)) (omega (arith, pre.0.room, loop.invariant.1)) clear.new.t _ _ loop.invariant.1 loop.invariant.2 clear.ensures text e
