-- `device_lookup::path` meets its contract.
use mathlib.Core.Path.{◌∙◌}
use Rattle.device_head.proofs.Lying.{lies_path}
use Rattle.device_lookup.proofs.Members.{standing-path}
use Rattle.device_lookup.proofs.path.Goals as goal

pub path_at-requires : goal.path_at-requires
path_at-requires c = (standing-path c.args.rec.now c.args.at c.requires, c.requires.short)

pub returns : goal.returns
returns c =
    let entry = c.args in
    λ m h. c.path_at.ensures ∙ lies_path entry.rec.now entry.at m h
