-- `step::step` meets its contract.
use Prim.Native.Nat.{◌-◌, ◌≤◌}
use mathlib.Core.Path.{refl, subst}
use borrow.Author.Rules.{rules}
use Rattle.lists.proofs.Lists.{is-some}
use Rattle.sheet.specs.Sheet.{decode}
use Rattle.table.specs.Table.{pairs_from}
use Rattle.matching.specs.Answers.{tried_in, near_of}
use Rattle.matching.specs.declared.Matched.{Matched}
use Rattle.std.specs.Prelude.{Result}
use Prim.Native.Nat.{ℕ}
use Rattle.step.proofs.Rules.{begun-from, few_tried, says_few, step_missed, step_placed, asks_at}
use Rattle.step.proofs.step.Goals as goal

pub match_rule-requires : goal.match_rule-requires
match_rule-requires c =
    let entry = c in
    let x = entry.args in
    let (d, s, h) = entry.requires.1 in
    (entry.requires.0.ordered, entry.requires.0.rows, begun-from x.dev.now x.chain x.t.now x.layout d s h)

pub step_at-requires : goal.step_at-requires
step_at-requires c =
    let x = c.args in
    let m = c.match_rule in
    let few = subst (λ (y : Result Matched ℕ). tried_in (near_of y) ≤ x.chain.len) c.in-Ok.is m.ensures.0.1 in
    (c.requires.0, c.requires.1, few, c.requires.2, asks_at (pairs_from x.values.now x.rows.now x.from (x.to - x.from)) m.result m.ensures.1 _ c.in-Ok.is)

pub returns-in-Ok : goal.returns-in-Ok
returns-in-Ok c =
    let x = c.args in
    let m = c.match_rule in
    let at = c.in-Ok.matched in
    let step-at = c.step_at in
    let (d₀, s₀, h₀) = c.requires.1 in
    let (a₀, is₀) = is-some (decode x.sheet.now) c.requires.2 in
    let few = few_tried x.dev.now x.chain x.t.now x.layout d₀ s₀ h₀ at.place (subst (λ (y : Result Matched ℕ). tried_in (near_of y) ≤ x.chain.len) c.in-Ok.is m.ensures.0.1) in
    record {
      says = λ a is d s h.
          let e = m.ensures.0.0 (begun-from x.dev.now x.chain x.t.now x.layout d s h) in
          step_placed a d s (pairs_from x.values.now x.rows.now x.from (x.to - x.from)) m.result e.0 e.1 x.dev.now x.chain x.t.now x.layout h at c.in-Ok.is _ step-at.result (step-at.ensures a is d s h);
      few = says_few x.dev.now x.chain x.layout d₀ s₀ _ step-at.result _ at.place few (step-at.ensures a₀ is₀ d₀ s₀ h₀);
      length = search rules;
    }

pub returns-in-Err : goal.returns-in-Err
returns-in-Err c =
    let x = c.args in
    let m = c.match_rule in
    let tried = c.in-Err in
    let (d₀, s₀, h₀) = c.requires.1 in
    record {
      says = λ a is d s h.
          let e = m.ensures.0.0 (begun-from x.dev.now x.chain x.t.now x.layout d s h) in
          step_missed a d s (pairs_from x.values.now x.rows.now x.from (x.to - x.from)) m.result e.0 e.1 x.dev.now x.chain x.t.now x.layout h _ tried.is;
      few = few_tried x.dev.now x.chain x.t.now x.layout d₀ s₀ h₀ tried.tried (subst (λ (y : Result Matched ℕ). tried_in (near_of y) ≤ x.chain.len) tried.is m.ensures.0.1);
      length = refl;
    }
