-- `device_lookup::find_attribute` meets its contract.
use Rattle.device_lookup.proofs.Members.{attributes_stand, attribute-says}
use Rattle.device_lookup.proofs.find_attribute.Goals as goal

pub find_value-requires : goal.find_value-requires
find_value-requires c =
    let s = c in
    let p = c.parts_at-parts in (
      p.ensures.1.within,
      attributes_stand s.args.rec.now s.args.at s.requires.member s.requires.lies p.result
          (p.ensures.0 s.requires.member s.requires.lies),
    )

pub returns : goal.returns
returns c =
    let entry = c.args in
    let a = entry in
    let p = c.parts_at-parts in
    let f = c.find_value in (
      (λ m h. attribute-says a.rec.now a.key.now a.at m h p.result (p.ensures.0 m h) f.result f.ensures.0),
      f.ensures.1,
    )
