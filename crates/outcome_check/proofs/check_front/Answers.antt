-- `outcome_check::check_front` meets its contract.
-- Assumes nothing.
use mathlib.Core.Path.{sym, ◌∙◌}
use Rattle.outcome.specs.Head.{header_size}
use Rattle.outcome.specs.Content.{ok_owner, ok_output}
use Rattle.outcome_check.proofs.Heads.{head_by}
use Rattle.outcome_check.proofs.Parts.{sized_at, no-owner, up_to-group}
use Rattle.outcome_check.proofs.check_front.Goals as goal

pub returns-in_err-group : goal.returns-in_err-group
returns-in_err-group c =
    let a = c.args in
    let x = sized_at a.rec.now ok_output a.c.output header_size c.in_ok-owner.owner c.requires (sym c.in_ok-owner.ensures) in
    c.from_residual-in_err-group.ensures
    ∙ sym (no-owner a.rec.now (head_by a.rec.now a.c) x (sym c.in_err-group.ensures))

pub returns : goal.returns
returns c =
    let a = c.args in
    let x = sized_at a.rec.now ok_output a.c.output header_size c.in_ok-owner.owner c.requires (sym c.in_ok-owner.ensures) in
    let o = sized_at a.rec.now ok_owner a.c.owner c.in_ok-owner.owner c.in_ok-group.group x.within (sym c.in_ok-group.ensures) in
    c.check_head_text-3.ensures ∙ up_to-group a.rec.now (head_by a.rec.now a.c) x o
