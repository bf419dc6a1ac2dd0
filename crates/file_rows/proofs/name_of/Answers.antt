-- `file_rows::name_of` meets its contract.
use mathlib.Core.Path.{◌∙◌}
use Rattle.file_rows.proofs.Files.{name-from, name_there}
use Rattle.file_rows.proofs.name_of.Goals as goal

pub name_in-requires : goal.name_in-requires
name_in-requires c =
    let entry = c.args in
    let pre = c.requires in
    name-from entry.set.now entry.p pre

pub bytes_of-requires : goal.bytes_of-requires
bytes_of-requires c =
    let name_in = c.name_in in
    name_in.ensures.inside

pub returns : goal.returns
returns c =
    let bytes_of = c.bytes_of in
    let entry = c.args in
    let pre = c.requires in
    let name_in = c.name_in in
    bytes_of.ensures ∙ name_there entry.set.now entry.p pre name_in.result name_in.ensures
