-- `matching::match_rule` meets its contract: every row so far holds, and `parents` is the first of them with a parent key; `asks` is whether one is to be asked.
use Prim.Native.Nat.{ℕ, ◌+◌, ◌-◌, ◌≤◌, ◌<◌}
use mathlib.Core.Path.{◌≡◌, refl, sym, ap, ◌∙◌, subst}
use mathlib.Core.Bool.{Bool, true, false}
use mathlib.Core.List.{List}
use Rattle.std.specs.Prelude.{Option, Some, Result, Ok, Err}
use native.Mathlib.Omega.{arith}
use Rattle.std.proofs.lemmas.Result.{err_from_is_err_and}
use borrow.Author.Tests.{not-true, not-false}
use lib.ListN.{get_or}
use Rattle.lists.specs.Lists.{all}
use Rattle.lists.specs.Bytes.{Bytes}
use Rattle.keys.specs.Table.{key_of, operator_of}
use Rattle.table.specs.Table.{entry_of, pairs_from, Got}
use Rattle.table.specs.declared.Entry.{Entry}
use Rattle.device.specs.Device.{chain}
use Rattle.device_lookup.specs.declared.Chain.{Chain}
use Rattle.outcome_target.specs.declared.Layout.{Layout}
use Rattle.engine.specs.Match.{pair_holds, all_hold, has_parents, is_parent, nearest, place_or}
use Rattle.matching.specs.Answers.{place_in, tried_in}
use Rattle.matching.specs.Judging.{Begun, Judging, PlacedOf, NearestOf}
use Rattle.matching.specs.Subjects.{subject_of, at_event, pair_on}
use Rattle.matching.proofs.Keys.{pair_subject, parent_here}
use Rattle.table.proofs.Pairs.{entry_in}
use Rattle.matching.proofs.Tests.{all_fails, all-next, all_end, fails_from}
use Rattle.matching.proofs.Search.{near_alike, place-by, matched-by, tried-by, tried_missed}
use Rattle.matching.proofs.Pending.{Noted, noted-start, noted-next, noted-none}
use Rattle.matching.proofs.Asked.{AsksFrom, asks-next, asks-end}
use Rattle.matching.proofs.Begin.{at_first}
use Rattle.matching.proofs.match_rule.Goals as goal

-- ---- the row at hand

module _ (dev : List ℕ) (b : Bytes dev) (places : Chain) (t : List ℕ) (lay : Layout) where
  -- as the definitions judge it at the event device
  judged : (values : List ℕ) (r : Entry) (q : Bool)
      → ((x : Judging dev (get_or places.at 0 0) t lay) → q ≡ pair_on (at_event (subject_of (key_of r.key)) (operator_of r.operator)) (entry_of values r) x.device x.member x.state)
      → (x : Begun dev places t lay) → pair_holds x.device x.state (entry_of values r) ≡ q
  judged values r q h x = pair_subject x.device x.state (entry_of values r) ∙ sym (h (at_first dev b places t lay x))

  -- a row of the rule fails: nothing is tried
  failed : (values rows : List ℕ) (from to row : ℕ) → from ≤ row → row < to → (r : Entry) → Got rows row r
      → ((x : Begun dev places t lay) → pair_holds x.device x.state (entry_of values r) ≡ false)
      → PlacedOf values rows from to dev places t lay (Err 0)
  unfolding all_hold
  failed values rows from to row l m r got here = (
    (λ x.
        let test = pair_holds x.device x.state in
        let fails = fails_from test values rows to from row l m (all_fails values rows row to r got m test (here x)) in
        (sym (matched-by x.device x.state _ false fails), sym (tried_missed x.device x.state _ fails))),
    omega arith,
  )

  -- all rows hold and one has a parent key: the search decides
  searched : (values rows : List ℕ) (from to i start : ℕ) (o : Result ℕ ℕ) → to ≤ i
      → ((x : Begun dev places t lay) → all (pair_holds x.device x.state) (pairs_from values rows from (to - from)) ≡ all (pair_holds x.device x.state) (pairs_from values rows i (to - i)))
      → Noted values rows to (pairs_from values rows from (to - from)) i (Some start)
      → NearestOf values rows start to dev places t lay o
      → PlacedOf values rows from to dev places t lay o
  unfolding all_hold
  searched values rows from to i start o h holds noted found = (
    (λ x.
        let hold = holds x ∙ all_end (pair_holds x.device x.state) values rows i to h in
        let near = found.0 x ∙ sym (near_alike _ _ noted.2.hold 1 (chain x.device)) in (
          near ∙ sym (matched-by x.device x.state _ true hold ∙ place-by x.device _ true noted.1),
          found.1 ∙ rw (x.chained.len, near) refl ∙ sym (tried-by x.device x.state _ true true hold noted.1),
        )),
    found.2,
  )

-- ----

pub loop-i-init : goal.loop-i-init
loop-i-init c = let a = c.args in ((λ x. refl), noted-start a.values.now a.rows.now a.from a.to, refl)

pub pair_at-requires : goal.pair_at-requires
pair_at-requires c = omega (arith, c.requires.1.room, c.in-Some.ensures.1)

pub row_holds_at-requires : goal.row_holds_at-requires
row_holds_at-requires c =
    let a = c.args in
    let b : Bytes a.dev.now = λ i. (c.type_inv.dev i).fits in (
      entry_in a.values.now a.rows.now c.in-Some.row a.to c.pair_at.result c.pair_at.ensures c.in-Some.ensures.1 c.requires.1,
      at_first a.dev.now b a.chain a.t.now a.layout c.requires.2,
    )

pub returns-then-not-row_holds_at : goal.returns-then-not-row_holds_at
returns-then-not-row_holds_at c =
    let a = c.args in
    let b : Bytes a.dev.now = λ i. (c.type_inv.dev i).fits in
    let p = c.pair_at in (
      failed a.dev.now b a.chain a.t.now a.layout a.values.now a.rows.now a.from a.to c.in-Some.row c.in-Some.ensures.0 c.in-Some.ensures.1 p.result p.ensures
          (λ x. judged a.dev.now b a.chain a.t.now a.layout a.values.now p.result c.row_holds_at.result c.row_holds_at.ensures x ∙ not-true _ c.if-not-row_holds_at.true-raw),
      tt,
    )

pub pair_at-entry-requires : goal.pair_at-entry-requires
pair_at-entry-requires c = omega (arith, c.requires.1.room)

pub row_holds_at-requires-in-loop-i : goal.row_holds_at-requires-in-loop-i
row_holds_at-requires-in-loop-i c =
    let a = c.args in
    let b : Bytes a.dev.now = λ i. (c.type_inv.dev i).fits in
    let p = c.pair_at-entry in (
      entry_in a.values.now a.rows.now c.loop-i.i a.to p.result p.ensures (omega arith) c.requires.1,
      at_first a.dev.now b a.chain a.t.now a.layout c.requires.2,
    )

pub returns-then-not-row_holds_at-2 : goal.returns-then-not-row_holds_at-2
returns-then-not-row_holds_at-2 c =
    let a = c.args in
    let b : Bytes a.dev.now = λ i. (c.type_inv.dev i).fits in
    let p = c.pair_at-entry in (
      failed a.dev.now b a.chain a.t.now a.layout a.values.now a.rows.now a.from a.to c.loop-i.i (omega arith) (omega arith) p.result p.ensures
          (λ x. judged a.dev.now b a.chain a.t.now a.layout a.values.now p.result c.row_holds_at-in-loop-i.result c.row_holds_at-in-loop-i.ensures x ∙ not-true _ c.if-not-row_holds_at-2.true-raw),
      tt,
    )

pub loop-i-preserved : goal.loop-i-preserved
loop-i-preserved c =
    let a = c.args in
    let l = c.loop-i in
    let p = c.pair_at-entry in
    let h : l.i < a.to = omega arith in
    let b : Bytes a.dev.now = λ i. (c.type_inv.dev i).fits in
    let parent = parent_here a.values.now p.result c.subject_of.result c.subject_of.ensures c.is_parent.result c.is_parent.ensures in (
      (λ x.
          l.invariant.0 x
          ∙ all-next a.values.now a.rows.now l.i a.to p.result p.ensures h (pair_holds x.device x.state)
          (judged a.dev.now b a.chain a.t.now a.layout a.values.now p.result c.row_holds_at-in-loop-i.result c.row_holds_at-in-loop-i.ensures x ∙ not-false _ c.if-not-row_holds_at-2.false-raw)),
      rw c.first_of-parents.ensures (noted-next a.values.now a.rows.now a.to _ l.i p.result p.ensures h l.parents c.is_parent.result parent l.invariant.1),
      rw c.asks_by-asks.ensures (asks-next a.values.now a.rows.now a.to _ l.i p.result p.ensures h l.asks l.invariant.2),
    )

-- all rows hold, and none has a parent key
pub returns-in_default-parents : goal.returns-in_default-parents
unfolding all_hold
returns-in_default-parents c =
    let a = c.args in
    let l = c.loop-i in
    let end : a.to ≤ l.i = omega arith in
    let ps = pairs_from a.values.now a.rows.now a.from (a.to - a.from) in
    let none = noted-none a.values.now a.rows.now a.to _ l.i end (subst (Noted a.values.now a.rows.now a.to ps l.i) c.in_default-parents.is l.invariant.1) in (
      (
        (λ x.
            let hold = l.invariant.0 x ∙ all_end (pair_holds x.device x.state) a.values.now a.rows.now l.i a.to end in
            (sym (matched-by x.device x.state _ true hold ∙ place-by x.device _ false none), sym (tried-by x.device x.state _ true false hold none))),
        omega arith,
      ),
      asks-end a.values.now a.rows.now a.to _ l.i end l.asks l.invariant.2,
    )

pub nearest-requires : goal.nearest-requires
nearest-requires c =
    let a = c.args in
    let l = c.loop-i in
    let ps = pairs_from a.values.now a.rows.now a.from (a.to - a.from) in
    let first = subst (Noted a.values.now a.rows.now a.to ps l.i) c.in-Some-parents.is l.invariant.1 in
    (omega (arith, first.0), c.requires.1, c.requires.2)

pub returns-in_err-place : goal.returns-in_err-place
returns-in_err-place c =
    let a = c.args in
    let l = c.loop-i in
    let end : a.to ≤ l.i = omega arith in
    let ps = pairs_from a.values.now a.rows.now a.from (a.to - a.from) in
    let first = subst (Noted a.values.now a.rows.now a.to ps l.i) c.in-Some-parents.is l.invariant.1 in
    let p = err_from_is_err_and c.from_residual.result c.from_residual.ensures.1 in
    rw (p.1, p.2) (searched a.dev.now (λ i. (c.type_inv.dev i).fits) a.chain a.t.now a.layout a.values.now a.rows.now a.from a.to l.i c.in-Some-parents.start (Err c.in_err-place.field-0.0) end l.invariant.0 first c.in_err-place.ensures, tt)

pub returns : goal.returns
returns c =
    let a = c.args in
    let l = c.loop-i in
    let end : a.to ≤ l.i = omega arith in
    let ps = pairs_from a.values.now a.rows.now a.from (a.to - a.from) in
    let first = subst (Noted a.values.now a.rows.now a.to ps l.i) c.in-Some-parents.is l.invariant.1 in (
      searched a.dev.now (λ i. (c.type_inv.dev i).fits) a.chain a.t.now a.layout a.values.now a.rows.now a.from a.to l.i c.in-Some-parents.start (Ok c.in_ok-place.place) end l.invariant.0 first c.in_ok-place.ensures,
      asks-end a.values.now a.rows.now a.to _ l.i end l.asks l.invariant.2,
    )
