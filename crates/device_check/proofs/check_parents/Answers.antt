-- `device_check::check_parents` meets its contract: what the devices from p on say is what all of them say.
-- Assumes nothing.
use mathlib.Core.Path.{sym, ap₂, ◌∙◌}
use Rattle.std.proofs.Common.{arith, ◌+◌, ◌-◌, drop}
use Rattle.lists.proofs.Moves.{ap_at}
use Rattle.device_check.specs.Stages.{parents_in}
use Rattle.device.specs.Device.{cut_of}
use Rattle.device_head.specs.Read.{path_in}
use Rattle.device_check.proofs.Chain.{next_at, next-path, parents_bad, parents_apart, parents_turn, parents_none}
use Rattle.device_check.proofs.check_parents.Goals as goal

pub returns-in_default : goal.returns-in_default
returns-in_default c =
    let rec = c.args.rec.now in
    let l = c.loop in
    sym (parents_bad rec (path_in rec l.c) l.p (c.args.n - l.counter) (omega arith) (sym c.in_default.ensures)) ∙ l.invariant.2

pub returns-then-not-is_cut : goal.returns-then-not-is_cut
returns-then-not-is_cut c =
    let rec = c.args.rec.now in
    let l = c.loop in
    let n = next_at rec (λ i. (c.type_inv.rec i).fits) l.p c.in-Some.end (omega arith) (sym c.in-Some.ensures) in
    sym
    (parents_apart rec (path_in rec l.c) l.p (c.args.n - l.counter) (omega arith) c.in-Some.end n
    (sym (ap₂ cut_of c.path_at.ensures c.path_at-in-loop.ensures) ∙ sym c.is_cut.ensures ∙ c.if-not-is_cut.true))
    ∙ l.invariant.2

pub loop-preserved : goal.loop-preserved
loop-preserved c =
    let rec = c.args.rec.now in
    let l = c.loop in
    let n = next_at rec (λ i. (c.type_inv.rec i).fits) l.p c.in-Some.end (omega arith) (sym c.in-Some.ensures) in (
      n.within,
      next-path rec l.p c.in-Some.end n,
      sym
          (parents_turn rec (path_in rec l.c) l.p (c.args.n - l.counter) (omega arith) c.in-Some.end n
          (sym (ap₂ cut_of c.path_at.ensures c.path_at-in-loop.ensures) ∙ sym c.is_cut.ensures ∙ c.if-not-is_cut.false)
          ∙ ap_at (λ i. parents_in (path_in rec l.p) i (drop c.in-Some.end rec)) (c.args.n - l.counter - 1) (c.args.n - (l.counter + 1)) (omega arith))
          ∙ l.invariant.2,
    )

pub returns : goal.returns
returns c =
    let rec = c.args.rec.now in
    let l = c.loop in
    sym (parents_none rec (path_in rec l.c) l.p (c.args.n - l.counter) (omega arith) (omega arith)) ∙ l.invariant.2
