-- `file_rows::text_of` meets its contract.
use mathlib.Core.Path.{◌∙◌}
use Rattle.file_rows.proofs.Files.{name-from, text-from, text_there}
use Rattle.file_rows.proofs.text_of.Goals as goal

pub name_in-name-requires : goal.name_in-name-requires
name_in-name-requires c =
    let entry = c.args in
    let pre = c.requires in
    name-from entry.set.now entry.p pre

pub long_in-requires : goal.long_in-requires
long_in-requires c =
    let entry = c.args in
    let pre = c.requires in
    let name_in = c.name_in-name in
    text-from entry.set.now entry.p pre name_in.result name_in.ensures

pub bytes_of-requires : goal.bytes_of-requires
bytes_of-requires c =
    let long-in = c.long_in in
    long-in.ensures.inside

pub returns : goal.returns
returns c =
    let bytes_of = c.bytes_of in
    let entry = c.args in
    let pre = c.requires in
    let name_in = c.name_in-name in
    let long-in = c.long_in in
    bytes_of.ensures ∙ text_there entry.set.now entry.p pre name_in.result name_in.ensures long-in.result long-in.ensures
