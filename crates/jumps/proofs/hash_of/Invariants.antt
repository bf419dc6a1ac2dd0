-- `jumps::hash_of` meets its contract: the hash of what is left, on from the hash so far, is the whole hash.
use Prim.Native.Nat.{◌<◌}
use mathlib.Core.Path.{◌≡◌}
use lib.ListN.{drop}
use Rattle.jumps.specs.Labels.{hash_from, hash_of}
use Rattle.jumps.proofs.hash_of.Given as goal

abbrev pub invariant-loop-b : goal.invariant-loop-b
invariant-loop-b l = (l.hash < 65536) × (hash_from l.hash (drop l.b-index l.name) ≡ hash_of l.name)
