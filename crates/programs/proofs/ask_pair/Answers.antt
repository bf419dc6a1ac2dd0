-- `programs::ask_pair` meets its contract.
use mathlib.Core.Path.{sym, ◌∙◌}
use lib.ListN.{length}
use borrow.Author.Tests.{not-true, not-false}
use Rattle.table.specs.Table.{entry_of}
use Rattle.device.specs.Device.{chain}
use Rattle.programs.proofs.Programs.{pair_passed, pair_says}
use Rattle.programs.proofs.ask_pair.Goals as goal

pub returns-then-not-is_program : goal.returns-then-not-is_program
returns-then-not-is_program c =
    let x = c.args in
    λ a is d s h. (s, pair_passed a d x.place (entry_of x.values.now x.entry) s (sym c.is_program.ensures ∙ not-true _ c.if-not-is_program.true-raw), h.held)

pub ask-requires : goal.ask-requires
ask-requires c =
    let pre = c.requires in
    let program = sym c.is_program.ensures ∙ not-false _ c.if-not-is_program.false-raw in
    (pre.1, pre.2, pre.3, pre.0.1.program program)

pub returns : goal.returns
returns c =
    let x = c.args in
    let program = sym c.is_program.ensures ∙ not-false _ c.if-not-is_program.false-raw in
    let ask = c.ask in
    λ a is d s h. pair_says a d x.place (entry_of x.values.now x.entry) s program (length (chain d)) _ ask.result (ask.ensures a is d s h)
