use mathlib.Core.Path.{sym, ◌∙◌}
use native.Mathlib.Omega.{arith}
use Rattle.jumps.proofs.Labels.{looked, walk_start, walk_hash, walk_here, walk_on, walk_end, walk_less}
use Rattle.jumps.proofs.find_label.Goals as goal

pub loop-next-init : goal.loop-next-init
loop-next-init c =
    let a = c.args in
    λ t m used from n x ls. rw (c.place_at-next.ensures.0, c.requires.0) (walk_start a.values.now a.rows.now t a.labels.now a.name.now m used n x a.hashes.now a.heads.now a.later.now from ls)

pub is_named-requires : goal.is_named-requires
is_named-requires c =
    let a = c.args in
    let (t, (m, (used, (from, (n, few, x, ls))))) = c.requires.1 in
    let k = rw c.in-Some.is at (c.loop-next.invariant t m used from n x ls) in
    let f = looked a.values.now a.rows.now t a.labels.now a.name.now m used n x a.hashes.now a.heads.now a.later.now from ls c.in-Some.i k in
    (c.requires.0, omega (arith, f.within, ls.few), omega (arith, f.within, few), f.has.there, (t, (m, (used, (n, f.within, x)))))

pub returns-then-is_named : goal.returns-then-is_named
returns-then-is_named c =
    let a = c.args in
    λ t m used from n x ls.
    let k = rw c.in-Some.is at (c.loop-next.invariant t m used from n x ls) in
    let f = looked a.values.now a.rows.now t a.labels.now a.name.now m used n x a.hashes.now a.heads.now a.later.now from ls c.in-Some.i k in
    let h = walk_hash a.values.now a.rows.now t a.labels.now a.name.now m used n x a.hashes.now a.heads.now a.later.now from ls c.in-Some.i k in
    walk_here a.values.now a.rows.now t a.labels.now a.name.now m used n x a.hashes.now a.heads.now a.later.now from ls c.in-Some.i k
    (sym (c.is_named.ensures t m used n f.within x h) ∙ c.if-is_named.true)

pub place_at-next-requires-in-Some : goal.place_at-next-requires-in-Some
place_at-next-requires-in-Some c =
    let a = c.args in
    let (t, (m, (used, (from, (n, few, x, ls))))) = c.requires.1 in
    let k = rw c.in-Some.is at (c.loop-next.invariant t m used from n x ls) in
    let f = looked a.values.now a.rows.now t a.labels.now a.name.now m used n x a.hashes.now a.heads.now a.later.now from ls c.in-Some.i k in
    omega (arith, f.within, ls.later_room)

pub loop-next-smaller : goal.loop-next-smaller
loop-next-smaller c =
    let a = c.args in
    let (t, (m, (used, (from, (n, few, x, ls))))) = c.requires.1 in
    let k = rw c.in-Some.is at (c.loop-next.invariant t m used from n x ls) in
    rw (c.place_at-next-in-Some.ensures.0, c.in-Some.is) (walk_less a.values.now a.rows.now t a.labels.now a.name.now m used n x a.hashes.now a.heads.now a.later.now from ls c.in-Some.i k)

pub loop-next-preserved : goal.loop-next-preserved
loop-next-preserved c =
    let a = c.args in
    λ t m used from n x ls.
    let k = rw c.in-Some.is at (c.loop-next.invariant t m used from n x ls) in
    let f = looked a.values.now a.rows.now t a.labels.now a.name.now m used n x a.hashes.now a.heads.now a.later.now from ls c.in-Some.i k in
    let h = walk_hash a.values.now a.rows.now t a.labels.now a.name.now m used n x a.hashes.now a.heads.now a.later.now from ls c.in-Some.i k in
    rw c.place_at-next-in-Some.ensures.0 (walk_on a.values.now a.rows.now t a.labels.now a.name.now m used n x a.hashes.now a.heads.now a.later.now from ls c.in-Some.i k
    (sym (c.is_named.ensures t m used n f.within x h) ∙ c.if-is_named.false))

pub returns : goal.returns
returns c =
    let a = c.args in
    λ t m used from n x ls. walk_end a.values.now a.rows.now t a.labels.now a.name.now m used n x a.hashes.now a.heads.now a.later.now from ls (rw c.in_default.is at (c.loop-next.invariant t m used from n x ls))
