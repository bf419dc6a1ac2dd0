-- `matching::nearest` meets its contract: no device before the one at hand satisfies all parent keys, and each row so far holds at this one.
use Prim.Native.Nat.{ℕ, ◌+◌, ◌-◌, ◌≤◌, ◌<◌}
use mathlib.Core.Path.{◌≡◌, refl, sym, ◌∙◌}
use mathlib.Core.Bool.{Bool}
use mathlib.Core.List.{List}
use Rattle.std.specs.Prelude.{Option}
use native.Mathlib.Omega.{arith}
use borrow.Author.Rules.{rules}
use borrow.Author.Tests.{not-true, not-false}
use lib.ListN.{length, get_or}
use Rattle.lists.specs.Bytes.{Bytes}
use Rattle.keys.specs.Table.{key_of}
use Rattle.table.specs.Table.{entry_of, pairs_from}
use Rattle.table.specs.declared.Entry.{Entry}
use Rattle.device.specs.Device.{Member, chain}
use Rattle.device.specs.Places.{Lies}
use Rattle.device_lookup.specs.declared.Chain.{Chain}
use Rattle.device_lookup.proofs.Devices.{chain_few}
use Rattle.outcome_target.specs.declared.Layout.{Layout}
use Rattle.engine.specs.Match.{parents_hold}
use Rattle.matching.specs.Judging.{Begun, Judging}
use Rattle.matching.specs.Subjects.{subject_of, at_parent, pair_on}
use Rattle.matching.specs.declared.Subject.{Subject}
use Rattle.matching.proofs.Keys.{parent_judged}
use Rattle.table.proofs.Pairs.{entry_in}
use Rattle.matching.proofs.Tests.{all_fails, all-next, all_end}
use Rattle.matching.proofs.Search.{near_here, near_later, near_none}
use Rattle.matching.proofs.Begin.{Nth, the_nth, judged_at}
use Rattle.matching.proofs.nearest.Invariants.{parent_test}
use Rattle.matching.proofs.nearest.Goals as goal

-- ---- the device and the row at hand

module _ (dev : List ℕ) (b : Bytes dev) (places : Chain) (t : List ℕ) (lay : Layout) where
  -- one of at most 16
  few : Begun dev places t lay → (k : ℕ) → k < places.len → k < 16
  few x k h = omega (arith, chain_few dev x.device x.decoded, x.chained.len)

  -- as the definitions judge it there
  judged : (values : List ℕ) (r : Entry) (u : Option Subject) → u ≡ subject_of (key_of r.key) → (v : Option Subject) → v ≡ at_parent u → (k : ℕ) (q : Bool)
      → ((x : Judging dev (get_or places.at k 0) t lay) → q ≡ pair_on v (entry_of values r) x.device x.member x.state)
      → (x : Begun dev places t lay) (m : Member) → Lies dev (get_or places.at k 0) m → parent_test m (entry_of values r) ≡ q
  judged values r u e v f k q h x m l = parent_judged values r u e v f x.device m x.state q (h (judged_at dev b places t lay x k m l))

-- ----

pub search-init : goal.search-init
search-init c = (omega arith, λ x. refl)

pub offset_bounds-places-k : goal.offset_bounds-places-k
offset_bounds-places-k c =
    let a = c.args in
    omega (arith, few a.dev.now (λ i. (c.type_inv.dev i).fits) a.chain a.t.now a.layout c.requires.2 c.search.k c.if-devices-k.false)

pub bounds-places-k : goal.bounds-places-k
bounds-places-k c =
    let a = c.args in
    few a.dev.now (λ i. (c.type_inv.dev i).fits) a.chain a.t.now a.layout c.requires.2 c.search.k c.if-devices-k.false

pub loop-i-init : goal.loop-i-init
loop-i-init c = λ m f. refl

pub pair_at-entry-requires : goal.pair_at-entry-requires
pair_at-entry-requires c = omega (arith, c.requires.1.room)

pub pair_holds-requires : goal.pair_holds-requires
pair_holds-requires c =
    let a = c.args in
    let b : Bytes a.dev.now = λ i. (c.type_inv.dev i).fits in
    let n = the_nth a.dev.now b a.chain a.t.now a.layout c.requires.2 c.search.k c.if-devices-k.false in (
      entry_in a.values.now a.rows.now c.loop-i.i a.to c.pair_at-entry.result c.pair_at-entry.ensures c.loop-i-test.true c.requires.1,
      judged_at a.dev.now b a.chain a.t.now a.layout c.requires.2 c.search.k n.member n.lies,
    )

pub loop-i-preserved : goal.loop-i-preserved
loop-i-preserved c =
    let a = c.args in
    let b : Bytes a.dev.now = λ i. (c.type_inv.dev i).fits in
    let r = c.pair_at-entry.result in
    λ m f.
    c.loop-i.invariant m f
    ∙ all-next a.values.now a.rows.now c.loop-i.i a.to r c.pair_at-entry.ensures (omega arith) (parent_test m)
    (judged a.dev.now b a.chain a.t.now a.layout a.values.now r c.subject_of.result c.subject_of.ensures c.at_parent-subject.result c.at_parent-subject.ensures
    c.search.k c.pair_holds.result c.pair_holds.ensures c.requires.2 m f
    ∙ not-false _ c.if-not-pair_holds.false-raw)

pub overflow_add-k : goal.overflow_add-k
overflow_add-k c =
    let a = c.args in
    omega (arith, few a.dev.now (λ i. (c.type_inv.dev i).fits) a.chain a.t.now a.layout c.requires.2 c.search.k c.if-devices-k.false)

pub search-preserved : goal.search-preserved
unfolding parents_hold
search-preserved c =
    let a = c.args in
    let b : Bytes a.dev.now = λ i. (c.type_inv.dev i).fits in
    let r = c.pair_at-entry.result in (
      omega arith,
      λ x.
          let q = c.search in
          let n = the_nth a.dev.now b a.chain a.t.now a.layout x q.k c.if-devices-k.false in
          let f =
          judged a.dev.now b a.chain a.t.now a.layout a.values.now r c.subject_of.result c.subject_of.ensures c.at_parent-subject.result c.at_parent-subject.ensures
          q.k c.pair_holds.result c.pair_holds.ensures x n.member n.lies
          ∙ not-true _ c.if-not-pair_holds.true-raw in
          q.invariant.1 x
          ∙ near_later (chain x.device) q.k (pairs_from a.values.now a.rows.now a.from (a.to - a.from)) n.member n.nth
          (c.loop-i.invariant n.member n.lies
          ∙ all_fails a.values.now a.rows.now c.loop-i.i a.to r c.pair_at-entry.ensures c.loop-i-test.true (parent_test n.member) f),
    )

pub returns-then-devices-k : goal.returns-then-devices-k
returns-then-devices-k c =
    let q = c.search in
    ((λ x. sym (q.invariant.1 x ∙ near_none (chain x.device) q.k _ (omega (arith, x.chained.len)))), refl, omega arith)

pub returns-after-loop-i : goal.returns-after-loop-i
unfolding parents_hold
returns-after-loop-i c =
    let a = c.args in
    let b : Bytes a.dev.now = λ i. (c.type_inv.dev i).fits in (
      (λ x.
          let q = c.search in
          let n = the_nth a.dev.now b a.chain a.t.now a.layout x q.k c.if-devices-k.false in
          sym
          (q.invariant.1 x
          ∙ near_here (chain x.device) q.k (pairs_from a.values.now a.rows.now a.from (a.to - a.from)) n.member n.nth
          (c.loop-i.invariant n.member n.lies ∙ all_end (parent_test n.member) a.values.now a.rows.now c.loop-i.i a.to (omega arith)))),
      refl,
      omega arith,
    )
