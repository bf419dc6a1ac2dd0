-- `file_rows::rank_of` meets its contract.
use mathlib.Core.Path.{◌∙◌}
use Rattle.file_rows.proofs.Files.{rank_is}
use Rattle.file_rows.proofs.rank_of.Goals as goal

pub returns : goal.returns
returns c =
    let wide = c.from in
    let entry = c.args in
    let pre = c.requires in
    wide.ensures ∙ rank_is entry.set.now entry.p pre
