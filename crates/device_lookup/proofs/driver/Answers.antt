-- `device_lookup::driver` meets its contract.
use Rattle.device_lookup.proofs.Members.{driver-part}
use Rattle.device_lookup.proofs.driver.Goals as goal

pub returns : goal.returns
returns c =
    let p = c.parts_at-parts in
    let a = c.args in
    λ m h. driver-part a.rec.now a.at m h p.result (p.ensures.0 m h)
