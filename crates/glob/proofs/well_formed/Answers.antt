use Prim.Native.Nat.{◌-◌}
use mathlib.Core.Path.{refl, sym, ◌∙◌}
use native.Mathlib.Omega.{arith}
use Rattle.glob.proofs.Alternatives.{SoundOn, SoundIs, sound-set, sound-on, sound-end}
use Rattle.std.specs.Prelude.{None}
use Rattle.pattern.specs.Pattern.{well_formed}
use Rattle.glob.proofs.well_formed.Goals as goal

pub loop-p-init : goal.loop-p-init
unfolding well_formed
loop-p-init c = (omega arith, refl)

pub loop-p-smaller-in-Some : goal.loop-p-smaller-in-Some
loop-p-smaller-in-Some c =
    let entry = c.args in
    let loop-call = c.loop-p in
    let match = c.in-91 in
    let set-at-call = c.set_at in
    let args = entry in
    let loop = loop-call in
    let set_at = set-at-call in
    let k : SoundIs set_at.result args.pattern.now loop.p =
    rw set_at.ensures (sound-set args.pattern.now loop.p 0 (omega arith) match.is) in
    let w : SoundOn args.pattern.now loop.p c.in-Some.set.next = rw c.in-Some.is at k in
    omega (arith, w.forward, w.inside)

pub loop-p-preserved-in-Some : goal.loop-p-preserved-in-Some
loop-p-preserved-in-Some c =
    let entry = c.args in
    let loop-call = c.loop-p in
    let match = c.in-91 in
    let set-at-call = c.set_at in
    let args = entry in
    let loop = loop-call in
    let set_at = set-at-call in
    let k : SoundIs set_at.result args.pattern.now loop.p =
    rw set_at.ensures (sound-set args.pattern.now loop.p 0 (omega arith) match.is) in
    let w : SoundOn args.pattern.now loop.p c.in-Some.set.next = rw c.in-Some.is at k in
    (w.inside, sym w.same ∙ loop.invariant.1)

pub returns-in-None : goal.returns-in-None
returns-in-None c =
    let entry = c.args in
    let loop-call = c.loop-p in
    let match = c.in-91 in
    let set-at-call = c.set_at in
    let args = entry in
    let loop = loop-call in
    let set_at = set-at-call in
    let k : SoundIs set_at.result args.pattern.now loop.p =
    rw set_at.ensures (sound-set args.pattern.now loop.p 0 (omega arith) match.is) in
    let w : SoundIs None args.pattern.now loop.p = rw c.in-None.is at k in
    sym w ∙ loop.invariant.1

pub loop-p-preserved : goal.loop-p-preserved
loop-p-preserved c =
    let entry = c.args in
    let loop-call = c.loop-p in
    let loop = loop-call in
    (omega arith, sym (sound-on entry.pattern.now loop.p (omega arith) c.in_default.in_default-own.rest.1) ∙ loop.invariant.1)

pub returns : goal.returns
returns c = sym (sound-end c.args.pattern.now c.loop-p.p (omega arith)) ∙ c.loop-p.invariant.1
