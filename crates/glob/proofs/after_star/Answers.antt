use Prim.Native.Nat.{◌+◌, ◌-◌}
use native.Mathlib.Omega.{arith}
use lib.ListN.{length}
use Rattle.glob.proofs.Search.{search_begins, search_done, search_star, search_eat, search_miss, search_stop, further_less, later_less}
use Rattle.glob.specs.declared.Step.TheVariants.{Done, Star, Miss, Stop}
use Rattle.glob.specs.Step.{StepIs, Eaten}
use Rattle.glob.proofs.after_star.Goals as goal

pub loop-behind-init : goal.loop-behind-init
loop-behind-init c =
    let args = c.args in
    let pre = c.requires in
    search_begins args.pattern.now args.star args.value.now args.from pre.0 pre.1

pub step_at-requires : goal.step_at-requires
step_at-requires c = c.loop-behind.invariant.place_in

pub returns-in-Done : goal.returns-in-Done
returns-in-Done c =
    let entry = c.args in
    let loop-call = c.loop-behind in
    let step-at = c.step_at in
    let args = entry in
    let loop = loop-call in
    let w : StepIs Done args.pattern.now loop.p args.value.now loop.t = rw c.in-Done.is at step-at.ensures in
    search_done args.pattern.now args.star args.value.now args.from loop.behind loop.start loop.p loop.t
    loop.invariant w

pub overflow_add-behind : goal.overflow_add-behind
overflow_add-behind c =
    let entry = c.args in
    let loop-call = c.loop-behind in
    let step-at = c.step_at in
    let args = entry in
    let loop = loop-call in
    let w : StepIs Star args.pattern.now loop.p args.value.now loop.t = rw c.in-Star.is at step-at.ensures in
    omega (arith, w.0)

pub loop-behind-smaller-in-Star : goal.loop-behind-smaller-in-Star
loop-behind-smaller-in-Star c =
    let entry = c.args in
    let loop-call = c.loop-behind in
    let step-at = c.step_at in
    let args = entry in
    let loop = loop-call in
    let w : StepIs Star args.pattern.now loop.p args.value.now loop.t = rw c.in-Star.is at step-at.ensures in
    further_less (length args.value.now - loop.t) (length args.value.now - loop.start) (length args.pattern.now + 1)
    (length args.pattern.now - (loop.p + 1)) (length args.pattern.now - loop.p) (omega (arith, loop.invariant.ahead))
    (omega (arith, w.0))

pub loop-behind-preserved-in-Star : goal.loop-behind-preserved-in-Star
loop-behind-preserved-in-Star c =
    let entry = c.args in
    let loop-call = c.loop-behind in
    let step-at = c.step_at in
    let args = entry in
    let loop = loop-call in
    let w : StepIs Star args.pattern.now loop.p args.value.now loop.t = rw c.in-Star.is at step-at.ensures in
    search_star args.pattern.now args.star args.value.now args.from loop.behind loop.start loop.p loop.t
    loop.invariant w

pub overflow_add-t : goal.overflow_add-t
overflow_add-t c =
    let entry = c.args in
    let loop-call = c.loop-behind in
    let step-at = c.step_at in
    let args = entry in
    let loop = loop-call in
    let w : Eaten args.pattern.now loop.p args.value.now loop.t c.in-Eat.next =
    rw c.in-Eat.is at step-at.ensures in
    omega (arith, w.byte)

pub loop-behind-smaller-in-Eat : goal.loop-behind-smaller-in-Eat
loop-behind-smaller-in-Eat c =
    let entry = c.args in
    let loop-call = c.loop-behind in
    let step-at = c.step_at in
    let args = entry in
    let loop = loop-call in
    let w : Eaten args.pattern.now loop.p args.value.now loop.t c.in-Eat.next =
    rw c.in-Eat.is at step-at.ensures in
    further_less (length args.value.now - loop.start) (length args.value.now - loop.start) (length args.pattern.now + 1)
    (length args.pattern.now - c.in-Eat.next) (length args.pattern.now - loop.p) (omega arith)
    (omega (arith, w.forward, w.inside))

pub loop-behind-preserved-in-Eat : goal.loop-behind-preserved-in-Eat
loop-behind-preserved-in-Eat c =
    let entry = c.args in
    let loop-call = c.loop-behind in
    let step-at = c.step_at in
    let args = entry in
    let loop = loop-call in
    let w : Eaten args.pattern.now loop.p args.value.now loop.t c.in-Eat.next =
    rw c.in-Eat.is at step-at.ensures in
    search_eat args.pattern.now args.star args.value.now args.from loop.behind loop.start loop.p loop.t
    loop.invariant c.in-Eat.next w

pub overflow_add-start : goal.overflow_add-start
overflow_add-start c =
    let entry = c.args in
    let loop-call = c.loop-behind in
    let step-at = c.step_at in
    let args = entry in
    let loop = loop-call in
    let w : StepIs Miss args.pattern.now loop.p args.value.now loop.t = rw c.in-Miss.is at step-at.ensures in
    omega (arith, w.0, loop.invariant.ahead)

pub next_start-start-requires : goal.next_start-start-requires
next_start-start-requires c =
    let entry = c.args in
    let loop-call = c.loop-behind in
    let step-at = c.step_at in
    let args = entry in
    let loop = loop-call in
    let w : StepIs Miss args.pattern.now loop.p args.value.now loop.t = rw c.in-Miss.is at step-at.ensures in
    omega (arith, w.0, loop.invariant.ahead)

pub loop-behind-smaller : goal.loop-behind-smaller
loop-behind-smaller c =
    let entry = c.args in
    let loop-call = c.loop-behind in
    let step-at = c.step_at in
    let args = entry in
    let loop = loop-call in
    let w : StepIs Miss args.pattern.now loop.p args.value.now loop.t =
    rw c.in-Miss.is at step-at.ensures in
    later_less (length args.value.now - c.next_start-start.result) (length args.value.now - loop.start) (length args.pattern.now)
    (length args.pattern.now - loop.behind) (length args.pattern.now - loop.p)
    (omega (arith, w.0, loop.invariant.ahead, c.next_start-start.ensures.ahead)) (omega arith)

pub loop-behind-preserved : goal.loop-behind-preserved
loop-behind-preserved c =
    let entry = c.args in
    let loop-call = c.loop-behind in
    let step-at = c.step_at in
    let args = entry in
    let loop = loop-call in
    let w : StepIs Miss args.pattern.now loop.p args.value.now loop.t =
    rw c.in-Miss.is at step-at.ensures in
    search_miss args.pattern.now args.star args.value.now args.from loop.behind loop.start loop.p loop.t
    loop.invariant w c.next_start-start.result c.next_start-start.ensures

pub returns-in-Stop : goal.returns-in-Stop
returns-in-Stop c =
    let entry = c.args in
    let loop-call = c.loop-behind in
    let step-at = c.step_at in
    let args = entry in
    let loop = loop-call in
    let w : StepIs Stop args.pattern.now loop.p args.value.now loop.t = rw c.in-Stop.is at step-at.ensures in
    search_stop args.pattern.now args.star args.value.now args.from loop.behind loop.start loop.p loop.t
    loop.invariant w
