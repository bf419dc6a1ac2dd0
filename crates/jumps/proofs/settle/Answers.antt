use Prim.Native.Nat.{ℕ, ◌+◌, ◌-◌, ◌*◌}
use mathlib.Core.Path.{◌≡◌, refl, sym, ap, ◌∙◌}
use native.Mathlib.Omega.{arith}
use Rattle.std.proofs.lemmas.Result.{err_from_is_err_and}
use borrow.Author.Rules.{rules}
use lib.ListN.{length, length-set}
use Rattle.lists.specs.Checked.{refused, line}
use Rattle.lists.specs.Refusal.{label_missing}
use Rattle.jumps.specs.Labels.{Labels}
use Rattle.jumps.proofs.Labels.{labels_start, labels_kept}
use Rattle.jumps.proofs.Nineteen.{settle-on, settle_nowhere, settle-end, put, jumps_kept}
use Rattle.jumps.proofs.settle.Goals.{After-take_label, At-loop-i}
use Rattle.jumps.proofs.settle.Goals as goal

size : (w : At-loop-i) → length w.loop-i.jumps ≡ length w.args.jumps.now
size w = w.loop-i.invariant.1 ∙ w.put_labels.auto.later ∙ w.first_jump-first.auto.jumps

ready : (w : After-take_label) → Labels w.args.values.now w.args.rows.now w.args.labels.now w.put_labels.new.hashes w.take_label.new.heads w.loop-i.jumps (w.loop-i.i + 1) w.args.count
ready w =
    let x = w.args in
    w.take_label.ensures x.values.now x.rows.now x.count w.loop-i-test.true w.loop-i.invariant.2

pub first_jump-first-requires : goal.first_jump-first-requires
first_jump-first-requires c = (omega (arith, c.requires.0), c.requires.2, c.requires.3)

pub shape_of-jumps-then-first-count : goal.shape_of-jumps-then-first-count
shape_of-jumps-then-first-count c = c.first_jump-first.auto.jumps

pub returns-then-first-count : goal.returns-then-first-count
returns-then-first-count c =
    let a = c.args in
    λ m used x.
    let u = c.first_jump-first.ensures.1 a.values.now a.rows.now a.labels.now m used x in
    (u.0 ∙ settle-end a.values.now a.rows.now a.rules.now c.first_jump-first.result a.count (omega (arith, c.if-first-count.true)), λ k h. u.1 k (omega (arith, c.if-first-count.true)))

pub put_labels-requires : goal.put_labels-requires
put_labels-requires c =
    let x = c.args in (
      c.first_jump-first.ensures.0,
      c.requires.1,
      (x.rules.now, c.requires.4),
      labels_start x.values.now x.rows.now x.labels.now c.first_jump-first.new.jumps x.count c.requires.0 (omega (arith, c.requires.2, c.first_jump-first.auto.jumps)),
    )

pub loop-i-init : goal.loop-i-init
loop-i-init c =
    let a = c.args in (
      c.first_jump-first.ensures.0,
      refl,
      c.put_labels.ensures.0,
      λ m used x.
          let u = c.first_jump-first.ensures.1 a.values.now a.rows.now a.labels.now m used x in (
            u.0,
            jumps_kept a.values.now a.rows.now a.rules.now a.count
                c.first_jump-first.new.jumps c.put_labels.new.later
                c.first_jump-first.result c.put_labels.ensures.1 u.1,
          ),
    )

pub take_label-requires : goal.take_label-requires
take_label-requires c =
    let x = c.args in
    (omega (arith, c.loop-i-test.true, c.requires.1), (x.values.now, (x.rows.now, (x.count, c.loop-i-test.true, c.loop-i.invariant.2))))

pub jump_of-requires : goal.jump_of-requires
jump_of-requires c =
    (c.loop-i-test.true, c.requires.1, c.requires.3, c.requires.4, ready (goal.at.jump_of-requires c).After-take_label)

pub shape_of-jumps-in_err-rule : goal.shape_of-jumps-in_err-rule
shape_of-jumps-in_err-rule c = size (goal.at.shape_of-jumps-in_err-rule c).At-loop-i

pub returns-in_err-rule : goal.returns-in_err-rule
returns-in_err-rule c =
    let a = c.args in
    let p = err_from_is_err_and c.from_residual.result c.from_residual.ensures.1 in
    λ m used x.
    let (k, small, (g, e, w)) = c.in_err-rule.ensures m used x in
    rw (p.1, p.2) (
      small,
      (c.loop-i.invariant.3 m used x).0 ∙ settle_nowhere a.values.now a.rows.now a.rules.now c.loop-i.i a.count c.loop-i-test.true g e w
          ∙ ap (λ (n : ℕ). refused (line n label_missing)) (sym k),
    )

pub mark-requires : goal.mark-requires
mark-requires c = let (m, (used, x)) = c.requires.4 in omega (arith, (c.in_ok-rule.ensures m used x).1, c.requires.0)

pub offset_bounds-jumps-i : goal.offset_bounds-jumps-i
offset_bounds-jumps-i c =
    omega (arith, c.loop-i-test.true, c.requires.0)

pub bounds-jumps-i : goal.bounds-jumps-i
bounds-jumps-i c =
    omega (arith, c.loop-i-test.true, c.requires.2, size (goal.at.bounds-jumps-i c).At-loop-i)

pub loop-i-preserved : goal.loop-i-preserved
loop-i-preserved c = (
  omega (arith, c.loop-i-test.true),
  simp length-set c.loop-i.invariant.1,
  labels_kept c.args.values.now c.args.rows.now c.args.labels.now c.put_labels.new.hashes c.take_label.new.heads c.loop-i.jumps c.loop-i.i c.args.count c.mark.result (ready (goal.at.loop-i-preserved c).After-take_label),
  λ m used x.
      let a = c.in_ok-rule.ensures m used x in
      let u = c.loop-i.invariant.3 m used x in (
        u.0 ∙ settle-on c.args.values.now c.args.rows.now c.args.rules.now c.loop-i.i c.args.count c.loop-i-test.true _ a.0,
        rw c.mark.ensures (put c.args.values.now c.args.rows.now c.args.rules.now c.args.count c.loop-i.jumps c.loop-i.i _ (omega (arith, c.loop-i-test.true, c.requires.2, size (goal.at.loop-i-preserved c).At-loop-i)) u.1 a.0),
      ),
)

pub shape_of-jumps : goal.shape_of-jumps
shape_of-jumps c = size (goal.at.shape_of-jumps c).At-loop-i

pub returns : goal.returns
returns c =
    let a = c.args in
    λ m used x.
    let u = c.loop-i.invariant.3 m used x in
    (u.0 ∙ settle-end a.values.now a.rows.now a.rules.now c.loop-i.i a.count c.loop-i-test.false, λ k h. u.1 k (omega (arith, c.loop-i-test.false)))
