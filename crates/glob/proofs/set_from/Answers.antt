use Prim.Native.Nat.{◌+◌, ◌-◌}
use mathlib.Core.Bool.{Bool}
use mathlib.Core.Path.{refl, sym, ap, ◌∙◌}
use native.Mathlib.Omega.{arith}
use Rattle.glob.proofs.Members.{read_closes, read_ends, read_on}
use Rattle.std.specs.Prelude.{None}
use Rattle.glob.specs.Sets.{answered, ReadOn, MemberIs}
use Rattle.glob.specs.Place.{NotBar}
use Rattle.glob.proofs.set_from.Goals as goal

pub loop-member-init : goal.loop-member-init
loop-member-init c = (c.requires, refl)

pub member_at-requires : goal.member_at-requires
member_at-requires c = c.loop-member.invariant.0

pub overflow_add-member : goal.overflow_add-member
overflow_add-member c =
    let entry = c.args in
    let loop = c.loop-member in
    let arm = c.in-Some.member in
    let r : ReadOn entry.pattern.now loop.i arm.low arm.high arm.next = c.in-Some.ensures in
    omega (arith, r.inside)

pub returns-in-93 : goal.returns-in-93
returns-in-93 c =
    let entry = c.args in
    let loop-call = c.loop-member in
    let arm = c.in-Some.member in
    let found_in = c.found_in-found in
    let byte-or-bar = c.byte_or_bar in
    let args = entry in
    let loop = loop-call in
    let r : ReadOn args.pattern.now loop.i arm.low arm.high arm.next = c.in-Some.ensures in
    c.answer.ensures ∙ ap (λ (t : Bool). answered args.opposite t (arm.next + 1)) found_in.ensures ∙ sym
    (read_closes args.pattern.now loop.i arm.low arm.high arm.next r args.opposite loop.found args.x
    (sym byte-or-bar.ensures ∙ c.in-93.is))
    ∙ loop.invariant.1

pub returns-in-124 : goal.returns-in-124
returns-in-124 c =
    let entry = c.args in
    let loop-call = c.loop-member in
    let arm = c.in-Some.member in
    let args = entry in
    let loop = loop-call in
    let r : ReadOn args.pattern.now loop.i arm.low arm.high arm.next = c.in-Some.ensures in
    sym
    (read_ends args.pattern.now loop.i arm.low arm.high arm.next r args.opposite loop.found args.x
    (sym c.byte_or_bar.ensures ∙ c.in-124.is))
    ∙ loop.invariant.1

pub loop-member-smaller : goal.loop-member-smaller
loop-member-smaller c =
    let entry = c.args in
    let loop = c.loop-member in
    let arm = c.in-Some.member in
    let r : ReadOn entry.pattern.now loop.i arm.low arm.high arm.next = c.in-Some.ensures in
    omega (arith, r.forward, r.inside)

pub loop-member-preserved : goal.loop-member-preserved
loop-member-preserved c =
    let entry = c.args in
    let loop-call = c.loop-member in
    let arm = c.in-Some.member in
    let found_in = c.found_in-found in
    let args = entry in
    let loop = loop-call in
    let byte-or-bar = c.byte_or_bar in
    let r : ReadOn args.pattern.now loop.i arm.low arm.high arm.next = c.in-Some.ensures in
    let n : NotBar args.pattern.now arm.next = λ e. c.in_default.in_default-own.rest.1 (byte-or-bar.ensures ∙ e) in (
      n,
      rw found_in.ensures
          (sym
          (read_on args.pattern.now loop.i arm.low arm.high arm.next r args.opposite loop.found args.x n
          (λ e. c.in_default.in_default-own.rest.0.1 (byte-or-bar.ensures ∙ e)))
          ∙ loop.invariant.1),
    )

pub returns-in-None : goal.returns-in-None
returns-in-None c =
    let entry = c.args in
    let args = entry in
    let loop = c.loop-member in
    let w : MemberIs None args.pattern.now loop.i = rw c.in-None.is at c.member_at.ensures in
    sym (w args.opposite loop.found args.x) ∙ loop.invariant.1
