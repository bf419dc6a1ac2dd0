-- `assign_owner::set_text` meets its contract.
use Rattle.assign_owner.proofs.set_text.Goals as goal

pub returns-in-Owner : goal.returns-in-Owner
returns-in-Owner c =
    let enum_told = c.in-Owner in
    rw enum_told.is c.set_owner.ensures

pub returns-in-Group : goal.returns-in-Group
returns-in-Group c =
    let enum-told2 = c.in-Group in
    rw enum-told2.is c.set_group.ensures

pub returns-in-Mode : goal.returns-in-Mode
returns-in-Mode c =
    let enum-told3 = c.in-Mode in
    rw enum-told3.is c.set_mode.ensures
