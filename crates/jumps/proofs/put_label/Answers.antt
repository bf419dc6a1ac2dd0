-- `jumps::put_label` meets its contract.
use Prim.Native.Nat.{◌+◌}
use mathlib.Core.Path.{refl, sym, ap, ◌∙◌}
use native.Mathlib.Omega.{arith}
use lib.Seq.{get_or-set_other}
use Rattle.jumps.specs.Labels.{hash_of}
use Rattle.jumps.proofs.Labels.{name-is, name-places, put-nothing, put_front}
use Rattle.jumps.proofs.put_label.Goals as goal

pub returns-in_default : goal.returns-in_default
returns-in_default c =
    let x = c.args in
    (λ n ls. put-nothing x.values.now x.rows.now x.labels.now x.hashes.now x.heads.now x.later.now x.i n ls (sym c.in_default.ensures.0), λ k h. refl)

pub value_of-requires : goal.value_of-requires
value_of-requires c =
    let a = c.args in
    let (t, (m, (used, (n, x, ls)))) = c.requires.1 in
    name-places a.values.now a.rows.now t a.labels.now m used n a.i x (omega (arith, ls.within)) c.in-Some.row c.in-Some.ensures.0

pub returns : goal.returns
returns c =
    let x = c.args in
    let (t, (m, (used, (n, w, at)))) = c.requires.1 in
    let hash = c.hash_of-hash.ensures.0 ∙ ap hash_of (c.value_of.ensures ∙ name-is x.values.now x.rows.now t x.labels.now m used n x.i w (omega (arith, at.within)) c.in-Some.row c.in-Some.ensures.0) in (
      λ n ls. rw (c.short.ensures, c.short-2.ensures)
          (put_front x.values.now x.rows.now x.labels.now x.hashes.now x.heads.now x.later.now x.i n ls (omega (arith, c.in-Some.ensures.0)) c.hash_of-hash.result hash),
      λ k h. get_or-set_other x.later.now x.i k _ 0 (λ o. omega arith),
    )
