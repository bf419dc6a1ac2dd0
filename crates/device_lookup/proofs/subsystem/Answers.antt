-- `device_lookup::subsystem` meets its contract.
use Rattle.device_lookup.proofs.Members.{subsystem-part}
use Rattle.device_lookup.proofs.subsystem.Goals as goal

pub returns : goal.returns
returns c =
    let p = c.parts_at-parts in
    let a = c.args in
    λ m h. subsystem-part a.rec.now a.at m h p.result (p.ensures.0 m h)
