use Prim.Native.Nat.{ℕ, ◌-◌, ◌≤◌}
use mathlib.Core.Path.{◌≡◌, refl, sym, ◌∙◌}
use mathlib.Core.Bool.{false}
use mathlib.Core.List.{List}
use mathlib.Core.Logic.{◌⊎◌, ⊎_elim}
use Rattle.glob.specs.Place.{matches_from}
use Rattle.glob.specs.declared.Step.{Step}
use native.Mathlib.Omega.{arith}
use lib.ListN.{length, length-drop, drop}
use Rattle.glob.specs.declared.Step.TheVariants.{Done, Star, Miss, Stop}
use Rattle.glob.specs.Step.{StepIs, Eaten}
use Rattle.glob.proofs.matches_from.Goals as goal

pub loop-next-init : goal.loop-next-init
loop-next-init c =
    let pre = c.requires in
    (pre.0, pre.1, refl)

pub step_at-requires : goal.step_at-requires
step_at-requires c = c.loop-next.invariant.0

pub returns-in-Done : goal.returns-in-Done
returns-in-Done c =
    let entry = c.args in
    let loop-call = c.loop-next in
    let step-at = c.step_at in
    let args = entry in
    let loop = loop-call in
    let w : StepIs Done args.pattern.now loop.p args.value.now loop.t = rw c.in-Done.is at step-at.ensures in
    sym w ∙ loop.invariant.2

pub overflow_add-p : goal.overflow_add-p
overflow_add-p c =
    let entry = c.args in
    let loop-call = c.loop-next in
    let step-at = c.step_at in
    let args = entry in
    let loop = loop-call in
    let w : StepIs Star args.pattern.now loop.p args.value.now loop.t = rw c.in-Star.is at step-at.ensures in
    omega (arith, w.0)

pub after_star-requires : goal.after_star-requires
after_star-requires c =
    let entry = c.args in
    let loop-call = c.loop-next in
    let step-at = c.step_at in
    let args = entry in
    let loop = loop-call in
    let w : StepIs Star args.pattern.now loop.p args.value.now loop.t = rw c.in-Star.is at step-at.ensures in
    (omega (arith, w.0), loop.invariant.1)

pub returns-in-Star : goal.returns-in-Star
returns-in-Star c =
    let entry = c.args in
    let loop-call = c.loop-next in
    let step-at = c.step_at in
    let args = entry in
    let loop = loop-call in
    let w : StepIs Star args.pattern.now loop.p args.value.now loop.t =
    rw c.in-Star.is at step-at.ensures in
    c.after_star.ensures ∙ sym (w.1 (drop loop.t args.value.now)) ∙ loop.invariant.2

pub overflow_add-t : goal.overflow_add-t
overflow_add-t c =
    let entry = c.args in
    let loop-call = c.loop-next in
    let step-at = c.step_at in
    let args = entry in
    let loop = loop-call in
    let w : Eaten args.pattern.now loop.p args.value.now loop.t c.in-Eat.next =
    rw c.in-Eat.is at step-at.ensures in
    omega (arith, w.byte)

pub loop-next-smaller : goal.loop-next-smaller
loop-next-smaller c =
    let entry = c.args in
    let loop-call = c.loop-next in
    let step-at = c.step_at in
    let args = entry in
    let loop = loop-call in
    let w : Eaten args.pattern.now loop.p args.value.now loop.t c.in-Eat.next =
    rw c.in-Eat.is at step-at.ensures in
    omega (arith, w.forward, w.inside)

pub loop-next-preserved : goal.loop-next-preserved
loop-next-preserved c =
    let entry = c.args in
    let loop-call = c.loop-next in
    let step-at = c.step_at in
    let args = entry in
    let loop = loop-call in
    let w : Eaten args.pattern.now loop.p args.value.now loop.t c.in-Eat.next =
    rw c.in-Eat.is at step-at.ensures in
    (w.inside, omega (arith, w.byte), sym w.here ∙ loop.invariant.2)

-- no match from here
missed : (r : Step) (s : List ℕ) (p : ℕ) (v : List ℕ) (t : ℕ) → t ≤ length v → StepIs r s p v t → (r ≡ Miss) ⊎ (r ≡ Stop) → matches_from s p (drop t v) ≡ false
missed r s p v t h w o =
    ⊎_elim (λ e. let k : StepIs Miss s p v t = rw e at w in k.1)
    (λ e. let k : StepIs Stop s p v t = rw e at w in k (drop t v) (omega (arith, length-drop t v))) o

pub returns-in-Miss : goal.returns-in-Miss
returns-in-Miss c =
    let entry = c.args in
    let loop = c.loop-next in
    sym (missed c.step_at.result entry.pattern.now loop.p entry.value.now loop.t loop.invariant.1 c.step_at.ensures c.in-Miss.is) ∙ loop.invariant.2
