use Prim.Native.Nat.{ℕ, suc, ◌+◌, ◌-◌, ◌<◌}
use borrow.Author.Tests.{not-true, not-false}
use lib.IntN.{ℤ}
use lib.ListN.{length, drop}
use mathlib.Core.List.{◌∷◌}
use Rattle.holders.proofs.list_record.Goals.{then-not-claimed_before, else-not-claimed_before}
use Rattle.std.specs.Prelude.{Some}
use mathlib.Core.Path.{◌≡◌, refl, sym, ap, ◌∙◌, subst}
use borrow.Author.Rules.{rules}
use mir.Facts.{to_z-of_z}
use mir.Syntax.{w32}
use native.Mathlib.Numerals.{add-one}
use native.Mathlib.Omega.{arith}
use Rattle.claims.proofs.Records.{first-from, first-here, next_of}
use Rattle.claims.specs.Records.{states_in, Standing}
use Rattle.holders.proofs.Lists.{names_few}
use Rattle.holders.proofs.Turns.{Turning, turning_first, turning_last, turning_fits, turning_known, turning_new, turning_room, turning_naming}
use Rattle.lists.proofs.Moves.{bytes_take, bytes_drop}
use Rattle.lists.specs.Bytes.{Bytes}
use Rattle.outcome.specs.State.{decode}
use Rattle.holders.proofs.list_record.Goals as goal

pub lent_in-requires : goal.lent_in-requires
lent_in-requires c =
    let entry = c.args in
    let pre = c.requires in
    let here = next_of (states_in entry.set.now) entry.done.records (omega (arith, pre.2, pre.0.counted)) in
    let standing : Standing entry.set.now entry.done.next (here.0 ∷ drop (suc entry.done.records) (states_in entry.set.now)) = subst (Standing entry.set.now entry.done.next) here.1 pre.1.standing in
    first-from entry.set.now entry.done.next (here.0, drop (suc entry.done.records) (states_in entry.set.now), standing)

pub bytes_of-rec-requires : goal.bytes_of-rec-requires
bytes_of-rec-requires c =
    let lent-in = c.lent_in in
    lent-in.ensures.outcome

pub claims_in-row-requires : goal.claims_in-row-requires
claims_in-row-requires c =
    let entry = c.args in
    let pre = c.requires in
    let lent-in = c.lent_in in
    let bytes_of = c.bytes_of-rec in
    let here = next_of (states_in entry.set.now) entry.done.records (omega (arith, pre.2, pre.0.counted)) in
    let standing : Standing entry.set.now entry.done.next (here.0 ∷ drop (suc entry.done.records) (states_in entry.set.now)) = subst (Standing entry.set.now entry.done.next) here.1 pre.1.standing in
    let first-is = first-here entry.set.now entry.done.next lent-in.result lent-in.ensures here.0 (drop (suc entry.done.records) (states_in entry.set.now)) standing in
    let held : decode first-is.chain bytes_of.result.now ≡ Some here.0 = ap (decode first-is.chain) bytes_of.ensures ∙ first-is.held in
    (first-is.chain, here.0, held)

pub overflow_add-first : goal.overflow_add-first
overflow_add-first c =
    let pre = c.requires in
    omega (arith, pre.2)

pub loop-init : goal.loop-init
loop-init c =
    let entry = c.args in
    let pre = c.requires in
    let lent-in = c.lent_in in
    let bytes_of = c.bytes_of-rec in
    let claims-in = c.claims_in-row in
    let here = next_of (states_in entry.set.now) entry.done.records (omega (arith, pre.2, pre.0.counted)) in
    let standing : Standing entry.set.now entry.done.next (here.0 ∷ drop (suc entry.done.records) (states_in entry.set.now)) = subst (Standing entry.set.now entry.done.next) here.1 pre.1.standing in
    let first-is = first-here entry.set.now entry.done.next lent-in.result lent-in.ensures here.0 (drop (suc entry.done.records) (states_in entry.set.now)) standing in
    let held : decode first-is.chain bytes_of.result.now ≡ Some here.0 = ap (decode first-is.chain) bytes_of.ensures ∙ first-is.held in
    let row = claims-in.ensures first-is.chain here.0 held in
    let priority = to_z-of_z {w = w32} {z = claims-in.result.priority} (search rules) in
    let whole : claims-in.result.count ≡ claims-in.result.count - 0 = omega arith in
    let start = turning_first entry.set.now bytes_of.result.now entry.done.records entry.t.now entry.done.end entry.done.names claims-in.result here.0 here.1 row pre.1.written in
    (subst (λ (z : ℤ). Turning entry.set.now bytes_of.result.now entry.done.records z entry.t.now entry.done.end entry.done.names claims-in.result.links (claims-in.result.count - 0)) (sym priority) (subst (Turning entry.set.now bytes_of.result.now entry.done.records claims-in.result.priority entry.t.now entry.done.end entry.done.names claims-in.result.links) whole start), refl)

pub parts_at-entry-requires : goal.parts_at-entry-requires
parts_at-entry-requires c =
    let loop = c.loop in
    let entry = c.args in
    let bytes_of = c.bytes_of-rec in
    let loop-test = c.loop-test in
    (loop.invariant.0.within, turning_fits entry.set.now bytes_of.result.now entry.done.records _ loop.t loop.used loop.names loop.q (c.claims_in-row.result.count - loop.counter) loop.invariant.0 (omega (arith, loop-test.true)))

pub slice_bounds-name-count : goal.slice_bounds-name-count
slice_bounds-name-count c =
    let parts_at = c.parts_at-entry in
    omega (arith, parts_at.ensures.middle, parts_at.ensures.end, parts_at.ensures.within)

pub slice_bounds-name-start : goal.slice_bounds-name-start
slice_bounds-name-start c =
    let parts_at = c.parts_at-entry in
    omega (arith, parts_at.ensures.middle, parts_at.ensures.end, parts_at.ensures.within)

pub slice_bounds-name-end : goal.slice_bounds-name-end
slice_bounds-name-end c =
    let parts_at = c.parts_at-entry in
    omega (arith, parts_at.ensures.middle, parts_at.ensures.end, parts_at.ensures.within)

pub claimed_before-requires : goal.claimed_before-requires
claimed_before-requires c =
    let pre = c.requires in
    (pre.0.standing, omega (arith, pre.2, pre.0.counted))

pub put_name-used-requires : goal.put_name-used-requires
put_name-used-requires c =
    let entry = c.args in
    let pre = c.requires in
    let lent-in = c.lent_in in
    let bytes_of = c.bytes_of-rec in
    let shared-slice-known = c.type_inv.set in
    let claimed-before = c.claimed_before in
    let if1 = c.if-not-claimed_before in
    let loop = c.loop in
    let loop-test = c.loop-test in
    let parts_at = c.parts_at-entry in
    let here = next_of (states_in entry.set.now) entry.done.records (omega (arith, pre.2, pre.0.counted)) in
    let standing : Standing entry.set.now entry.done.next (here.0 ∷ drop (suc entry.done.records) (states_in entry.set.now)) = subst (Standing entry.set.now entry.done.next) here.1 pre.1.standing in
    let first-is = first-here entry.set.now entry.done.next lent-in.result lent-in.ensures here.0 (drop (suc entry.done.records) (states_in entry.set.now)) standing in
    let held : decode first-is.chain bytes_of.result.now ≡ Some here.0 = ap (decode first-is.chain) bytes_of.ensures ∙ first-is.held in
    let next = subst (λ (m : ℕ). Standing entry.set.now lent-in.result.outcome.end (drop m (states_in entry.set.now))) (sym (add-one entry.done.records)) first-is.others in
    let by = subst Bytes (sym bytes_of.ensures) (bytes_take (lent-in.result.outcome.end - lent-in.result.outcome.start) (drop lent-in.result.outcome.start entry.set.now) (bytes_drop lent-in.result.outcome.start entry.set.now (λ i. (shared-slice-known i).fits))) in
    let unclaimed = sym claimed-before.ensures ∙ if1.true in
    turning_naming entry.set.now bytes_of.result.now entry.done.records _ loop.t loop.used loop.names loop.q (c.claims_in-row.result.count - loop.counter) loop.invariant.0
    (omega (arith, loop-test.true)) parts_at.result parts_at.ensures unclaimed
    entry.n lent-in.result.outcome.end entry.t.now _ pre.0 loop.invariant.1 by pre.2 next refl refl

pub overflow_add-names : goal.overflow_add-names
overflow_add-names c =
    let claimed-before = c.claimed_before in
    let if1 = c.if-not-claimed_before in
    let entry = c.args in
    let bytes_of = c.bytes_of-rec in
    let loop = c.loop in
    let loop-test = c.loop-test in
    let parts_at = c.parts_at-entry in
    let pre = c.requires in
    let unclaimed = sym claimed-before.ensures ∙ if1.true in
    let room = turning_room entry.set.now bytes_of.result.now entry.done.records _ loop.t loop.used loop.names loop.q (c.claims_in-row.result.count - loop.counter) loop.invariant.0
    (omega (arith, loop-test.true)) parts_at.result parts_at.ensures unclaimed entry.n entry.t.now pre.0 loop.invariant.1 in
    let few = names_few entry.set.now _ loop.t loop.used loop.names loop.invariant.0.written in
    omega (arith, room, few, loop.invariant.1)

pub loop-preserved : goal.loop-preserved
loop-preserved c =
    let claimed-before = c.claimed_before in
    let entry = c.args in
    let bytes_of = c.bytes_of-rec in
    let loop = c.loop in
    let loop-test = c.loop-test in
    let parts_at = c.parts_at-entry in
    let if1 = c.if-not-claimed_before in
    let more : 0 < c.claims_in-row.result.count - loop.counter = omega (arith, loop-test.true) in
    let fewer : c.claims_in-row.result.count - loop.counter - 1 ≡ c.claims_in-row.result.count - (loop.counter + 1) = omega arith in
    elim if1.branch [
      | then-not-claimed_before w ↦
          let unclaimed = sym claimed-before.ensures ∙ w.if-not-claimed_before.true in
          let size = ap length w.t-is ∙ w.put_name-used.auto.t in (
            subst (Turning entry.set.now bytes_of.result.now entry.done.records _ if1.t if1.used if1.names parts_at.result.end) fewer
                (turning_new entry.set.now bytes_of.result.now entry.done.records _ loop.t loop.used loop.names loop.q (c.claims_in-row.result.count - loop.counter) loop.invariant.0 more parts_at.result parts_at.ensures
                unclaimed if1.t if1.used if1.names (w.t-is ∙ w.put_name-used.ensures.0) (w.used-is ∙ w.put_name-used.ensures.1) size w.names-is),
            size ∙ loop.invariant.1,
          )
      | else-not-claimed_before w ↦
          let claimed = sym claimed-before.ensures ∙ w.if-not-claimed_before.false in (
            subst (Turning entry.set.now bytes_of.result.now entry.done.records _ if1.t if1.used if1.names parts_at.result.end) fewer
                (turning_known entry.set.now bytes_of.result.now entry.done.records _ loop.t loop.used loop.names loop.q (c.claims_in-row.result.count - loop.counter) loop.invariant.0 more parts_at.result parts_at.ensures
                claimed if1.t if1.used if1.names w.t-is w.used-is w.names-is),
            ap length w.t-is ∙ loop.invariant.1,
          )
    ]

pub overflow_add-result : goal.overflow_add-result
overflow_add-result c =
    let pre = c.requires in
    omega (arith, pre.2)

pub shape_of-t : goal.shape_of-t
shape_of-t c =
    let loop = c.loop in
    loop.invariant.1

pub returns : goal.returns
returns c =
    let entry = c.args in
    let pre = c.requires in
    let lent-in = c.lent_in in
    let bytes_of = c.bytes_of-rec in
    let loop = c.loop in
    let loop-test = c.loop-test in
    let here = next_of (states_in entry.set.now) entry.done.records (omega (arith, pre.2, pre.0.counted)) in
    let standing : Standing entry.set.now entry.done.next (here.0 ∷ drop (suc entry.done.records) (states_in entry.set.now)) = subst (Standing entry.set.now entry.done.next) here.1 pre.1.standing in
    let first-is = first-here entry.set.now entry.done.next lent-in.result lent-in.ensures here.0 (drop (suc entry.done.records) (states_in entry.set.now)) standing in
    let held : decode first-is.chain bytes_of.result.now ≡ Some here.0 = ap (decode first-is.chain) bytes_of.ensures ∙ first-is.held in
    let next = subst (λ (m : ℕ). Standing entry.set.now lent-in.result.outcome.end (drop m (states_in entry.set.now))) (sym (add-one entry.done.records)) first-is.others in
    (record { standing = next; written = turning_last entry.set.now bytes_of.result.now entry.done.records _ loop.t loop.used loop.names loop.q (c.claims_in-row.result.count - loop.counter) loop.invariant.0 (omega (arith, loop-test.false)) }, refl)
