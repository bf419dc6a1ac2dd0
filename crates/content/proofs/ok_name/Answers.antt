use Prim.Native.Nat.{◌-◌}
use mathlib.Core.Path.{sym, ◌∙◌}
use borrow.Author.Tests.{le-leb, lt-leb, not-true, not-false}
use lib.ListN.{length}
use Rattle.outcome.specs.Content.{ok_part}
use Rattle.content.proofs.Names.{name-bad, name_last, name-next}
use native.Mathlib.Omega.{arith}
use Rattle.content.proofs.ok_name.Goals as goal

pub returns-then-n-gt128 : goal.returns-then-n-gt128
returns-then-n-gt128 c = rw (lt-leb (length c.args.x.now) 128 c.if-n-gt128.true)

pub loop-n-init : goal.loop-n-init
loop-n-init c = (omega arith, rw (le-leb (length c.args.x.now) 128 c.if-n-gt128.false))

pub returns-then-not-ok_part : goal.returns-then-not-ok_part
returns-then-not-ok_part c =
    let l = c.loop-n in
    let byte-end = c.run_end-end in
    sym (l.invariant.1 ∙ name-bad c.args.x.now l.i byte-end.result byte-end.ensures l.invariant.0 (sym c.ok_part.ensures ∙ c.if-not-ok_part.true))

pub returns-then-n-end : goal.returns-then-n-end
returns-then-n-end c =
    let l = c.loop-n in
    let byte-end = c.run_end-end in
    sym (l.invariant.1 ∙ name_last c.args.x.now l.i byte-end.result byte-end.ensures l.invariant.0 (sym c.ok_part.ensures ∙ c.if-not-ok_part.false) c.if-n-end.true)

pub loop-n-preserved : goal.loop-n-preserved
loop-n-preserved c =
    let l = c.loop-n in
    let byte-end = c.run_end-end in
    (omega arith, l.invariant.1 ∙ name-next c.args.x.now l.i byte-end.result byte-end.ensures l.invariant.0 (sym c.ok_part.ensures ∙ c.if-not-ok_part.false) c.if-n-end.false)
