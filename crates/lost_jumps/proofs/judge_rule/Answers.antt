-- `lost_jumps::judge_rule` meets its contract.
use Rattle.lost_jumps.proofs.Judged.{rule-kept, rule_lost}
use mathlib.Core.Path.{sym, ◌∙◌}
use borrow.Author.Rules.{rules}
use native.Mathlib.Omega.{arith}
use Rattle.lost_jumps.proofs.judge_rule.Goals as goal

pub returns-then-is_kept : goal.returns-then-is_kept
returns-then-is_kept c =
    λ m used x.
    let a = c.args in
    rule-kept a.values.now a.rows.now a.rules.now a.labels.now a.i m used a.count x c.requires.0 (sym c.is_kept.ensures ∙ c.if-is_kept.true)

pub empty_rule-requires : goal.empty_rule-requires
empty_rule-requires c =
    (omega (arith, c.requires.0, c.requires.2), omega (arith, c.requires.0, c.requires.1))

pub returns : goal.returns
returns c =
    λ m used x.
    let a = c.args in
    rule_lost a.values.now a.rows.now a.rules.now a.labels.now a.i m used a.count x c.requires.0 _ _ c.empty_rule.ensures (sym c.is_kept.ensures ∙ c.if-is_kept.false)
