-- `device_lookup::member_end` meets its contract.
use mathlib.Core.Path.{◌∙◌}
use Rattle.device_lookup.proofs.Members.{attributes_stand, attributes_end}
use Rattle.device_lookup.proofs.member_end.Goals as goal

pub row_end-requires : goal.row_end-requires
row_end-requires c =
    let p = c.parts_at-parts in
    (p.ensures.1.within, attributes_stand c.args.rec.now c.args.at c.requires.member c.requires.lies p.result (p.ensures.0 c.requires.member c.requires.lies))

pub returns : goal.returns
returns c =
    let p = c.parts_at-parts in
    let a = c.args in
    λ m h. c.row_end.ensures.0 ∙ attributes_end a.rec.now a.at m h p.result (p.ensures.0 m h)
