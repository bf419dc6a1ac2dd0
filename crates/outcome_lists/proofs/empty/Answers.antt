-- `outcome_lists::empty` meets its contract.
use Rattle.row_edits.specs.Edits.{Cut}
use Rattle.outcome_target.specs.Layout.{end_of}
use mathlib.Core.Path.{subst}
use Prim.Native.Nat.{ℕ, ◌-◌}
use Rattle.outcome_lists.proofs.Runs.{whole, section_emptied}
use native.Mathlib.Omega.{arith}
use Rattle.outcome_lists.proofs.empty.Goals as goal

pub overflow_sub-end : goal.overflow_sub-end
overflow_sub-end c =
    let x = c.args in
    let h = whole c.requires.0 x.t.now x.layout c.requires.1 c.requires.2 x.section in omega (arith, c.start_of-at.ensures, c.end_of-end.ensures)

pub cut-requires : goal.cut-requires
cut-requires c =
    let x = c.args in
    let h = whole c.requires.0 x.t.now x.layout c.requires.1 c.requires.2 x.section in (h.rising, omega (arith, c.start_of-at.ensures, c.end_of-end.ensures), h.end, h.most)

pub returns : goal.returns
returns c =
    let x = c.args in
    let a = x in λ n s w. section_emptied n a.t.now a.layout s w a.section c.cut.new.t c.cut.result
    c.cut.auto.t (subst (λ (i : ℕ). Cut a.t.now a.layout
    a.section i (end_of a.layout a.section - i) 0 c.cut.new.t c.cut.result)
    c.start_of-at.ensures
    (subst (λ (i : ℕ). Cut a.t.now a.layout a.section c.start_of-at.result
    (i - c.start_of-at.result) 0 c.cut.new.t c.cut.result)
    c.end_of-end.ensures c.cut.ensures))
