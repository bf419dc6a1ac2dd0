-- `assign_lists::change_entry` meets its contract.
use Rattle.assign_lists.proofs.Lists.{kept_on, entry-removed, entry_added}
use Rattle.assign_lists.proofs.change_entry.Goals as goal

pub returns-in-Remove : goal.returns-in-Remove
returns-in-Remove c =
    let a = c.args in
    entry-removed a.list a.x.now a.t.now a.layout _ a.operator c.remove.result c.in-Remove.is c.remove.ensures

pub returns-in_default : goal.returns-in_default
returns-in_default c =
    let a = c.args in
    entry_added a.list a.x.now a.t.now a.layout _ a.operator c.add.result (kept_on a.operator c.in_default.not-Remove) c.add.ensures
