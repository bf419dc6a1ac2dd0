-- `substitution::places_of` meets its contract.
use Rattle.substitution.proofs.Sources.{places-matched}
use Rattle.substitution.proofs.places_of.Goals as goal

pub returns-then-place-eq0 : goal.returns-then-place-eq0
returns-then-place-eq0 c = rw c.if-place-eq0.true

pub returns-else-place-eq0 : goal.returns-else-place-eq0
returns-else-place-eq0 c =
    let args = c.args in
    places-matched args.chain args.place args.properties args.count c.if-place-eq0.false
