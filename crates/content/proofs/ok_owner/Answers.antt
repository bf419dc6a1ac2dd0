use mathlib.Core.Path.{sym, ◌∙◌}
use native.Mathlib.Omega.{arith}
use borrow.Author.Tests.{le-leb, lt-leb}
use lib.ListN.{length}
use Rattle.content.proofs.Owners.{owner_bad, owner-next, owner-end}
use Rattle.content.proofs.ok_owner.Goals as goal

pub returns-then-x-gt32 : goal.returns-then-x-gt32
returns-then-x-gt32 c = rw (lt-leb (length c.args.x.now) 32 c.if-x-gt32.true)

pub loop-b-init : goal.loop-b-init
loop-b-init c = rw (le-leb (length c.args.x.now) 32 c.if-x-gt32.false)

pub returns-then-not-owner_byte : goal.returns-then-not-owner_byte
returns-then-not-owner_byte c =
    let l = c.loop-b in
    sym (l.invariant ∙ owner_bad c.args.x.now l.b-index (omega arith) (sym c.owner_byte.ensures ∙ c.if-not-owner_byte.true))

pub loop-b-preserved : goal.loop-b-preserved
loop-b-preserved c =
    let l = c.loop-b in
    l.invariant ∙ owner-next c.args.x.now l.b-index (omega arith) (sym c.owner_byte.ensures ∙ c.if-not-owner_byte.false)

pub returns : goal.returns
returns c = sym (c.loop-b.invariant ∙ owner-end c.args.x.now c.loop-b.b-index (omega arith))
