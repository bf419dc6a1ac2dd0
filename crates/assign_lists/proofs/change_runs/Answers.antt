-- `assign_lists::change_runs` meets its contract.
use mathlib.Core.Path.{sym, ◌∙◌}
use lib.ListN.{length}
use borrow.Author.Tests.{eqb-true, eqb-false}
use Rattle.assign_lists.proofs.Lists.{run_ok, runs-kept, runs-changed}
use Rattle.assign_lists.proofs.change_runs.Goals as goal

pub returns-then-is_empty : goal.returns-then-is_empty
returns-then-is_empty c =
    let entry = c.args in
    runs-kept entry.builtin entry.place entry.value.now entry.t.now entry.layout (eqb-true (length c.args.value.now) 0 (sym c.is_empty.ensures ∙ c.if-is_empty.true))

pub add_run-requires : goal.add_run-requires
add_run-requires c =
    let pre = c.requires in
    let entry = c.args in
    let (n, s, h, k) = pre.0 in
    (n, s, h, run_ok n entry.place entry.builtin entry.value.now (eqb-false (length c.args.value.now) 0 (sym c.is_empty.ensures ∙ c.if-is_empty.false)) pre.1 pre.2 pre.3 pre.4 k)

pub returns : goal.returns
returns c =
    let entry = c.args in
    let pre = c.requires in
    let add-run = c.add_run in
    runs-changed entry.builtin entry.place entry.value.now entry.t.now entry.layout _ add-run.result (eqb-false (length c.args.value.now) 0 (sym c.is_empty.ensures ∙ c.if-is_empty.false))
    pre.1 pre.2 pre.3 pre.4 add-run.ensures
