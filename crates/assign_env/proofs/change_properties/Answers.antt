-- `assign_env::change_properties` meets its contract.
use mathlib.Core.Path.{sym, ◌∙◌}
use lib.ListN.{length}
use borrow.Author.Tests.{eqb-true, eqb-false}
use Rattle.assign_env.proofs.Env.{property-removed, property-set}
use Rattle.assign_env.specs.Env.{escape_of}
use Rattle.assign_env.proofs.change_properties.Goals as goal

pub returns-then-is_empty : goal.returns-then-is_empty
returns-then-is_empty c =
    let entry = c.args in
    let remove-property = c.remove_property in
    property-removed (escape_of entry.escape) entry.key.now entry.value.now entry.t.now entry.layout _
    remove-property.result (eqb-true (length c.args.value.now) 0 (sym c.is_empty.ensures ∙ c.if-is_empty.true)) remove-property.ensures

pub returns : goal.returns
returns c =
    let entry = c.args in
    let set-clean = c.set_clean in
    property-set (escape_of entry.escape) entry.key.now entry.value.now entry.t.now entry.layout _ set-clean.result
    (eqb-false (length c.args.value.now) 0 (sym c.is_empty.ensures ∙ c.if-is_empty.false)) set-clean.ensures
