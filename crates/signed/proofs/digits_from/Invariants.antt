-- `signed::digits_from` meets its contract.
use Prim.Native.Nat.{◌≤◌, ◌<◌, ◌^◌}
use mathlib.Core.Path.{◌≡◌}
use lib.ListN.{drop}
use Rattle.rules.specs.Setting.{digits_from}
use Rattle.signed.proofs.digits_from.Given as goal

abbrev pub invariant-loop-n : goal.invariant-loop-n
invariant-loop-n l = (l.n ≤ 10) × (l.m < 10 ^ l.n) × (digits_from (drop l.n l.digits) l.n l.m l.negative ≡ digits_from l.digits 0 0 l.negative)
