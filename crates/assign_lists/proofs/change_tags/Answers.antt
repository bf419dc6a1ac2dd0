-- `assign_lists::change_tags` meets its contract.
use mathlib.Core.Path.{sym, ◌∙◌}
use lib.ListN.{length}
use borrow.Author.Tests.{eqb-true, eqb-false}
use Rattle.assign_lists.proofs.Lists.{tag_ok, tags-kept, tags-changed}
use Rattle.keys.specs.Table.{operator_of}
use Rattle.assign_lists.proofs.change_tags.Goals as goal

pub returns-then-is_empty : goal.returns-then-is_empty
returns-then-is_empty c =
    let entry = c.args in
    tags-kept (operator_of entry.operator) entry.value.now entry.t.now entry.layout (eqb-true (length c.args.value.now) 0 (sym c.is_empty.ensures ∙ c.if-is_empty.true))

pub change_entry-requires : goal.change_entry-requires
change_entry-requires c =
    let pre = c.requires in
    let entry = c.args in
    (pre.0, tag_ok entry.value.now (eqb-false (length c.args.value.now) 0 (sym c.is_empty.ensures ∙ c.if-is_empty.false)) pre.2 pre.1)

pub returns : goal.returns
returns c =
    let entry = c.args in
    let change-entry = c.change_entry in
    tags-changed (operator_of entry.operator) entry.value.now entry.t.now entry.layout _ change-entry.result (eqb-false (length c.args.value.now) 0 (sym c.is_empty.ensures ∙ c.if-is_empty.false))
    change-entry.ensures
