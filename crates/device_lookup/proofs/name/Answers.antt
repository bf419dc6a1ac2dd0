-- `device_lookup::name` meets its contract.
use mathlib.Core.Path.{◌∙◌}
use Rattle.device_head.proofs.Lying.{lies_path}
use Rattle.device_lookup.proofs.Members.{standing-path, name-part}
use Rattle.device_lookup.proofs.name.Goals as goal

pub path_at-p-requires : goal.path_at-p-requires
path_at-p-requires c = (standing-path c.args.rec.now c.args.at c.requires, c.requires.short)

pub returns : goal.returns
returns c =
    let entry = c.args in
    let path-at = c.path_at-p in
    λ m h.
    name-part path-at.result.now c.last_part-start.result m (path-at.ensures ∙ lies_path entry.rec.now entry.at m h)
    c.last_part-start.ensures.1
