-- `jumps::take_label` meets its contract.
use mathlib.Core.Bool.{not}
use mathlib.Core.Path.{sym, ap, ◌∙◌}
use native.Mathlib.Omega.{arith}
use Rattle.table.proofs.Rules.{none-mark, some-mark}
use Rattle.jumps.proofs.Labels.{take-nothing, take-front}
use Rattle.jumps.proofs.take_label.Goals as goal

pub returns-then-is_none : goal.returns-then-is_none
returns-then-is_none c =
    let x = c.args in
    λ v r n h ls. take-nothing v r x.labels.now x.hashes.now x.heads.now x.later.now x.i n ls h
    (sym c.place_at.ensures.0 ∙ none-mark c.place_at.result (c.is_none.ensures ∙ ap not c.if-is_none.true))

pub returns : goal.returns
returns c =
    let x = c.args in
    λ v r n h ls. rw c.from-b.ensures (take-front v r x.labels.now x.hashes.now x.heads.now x.later.now x.i n ls h
    (omega (arith, c.place_at.ensures.0, some-mark c.place_at.result (c.is_none.ensures ∙ ap not c.if-is_none.false))))
