-- Whether a jump is answered, by a search through the rules behind it.
-- Assumes nothing.
use Prim.Native.Nat.{ℕ, ◌+◌, ◌-◌, ◌*◌, ◌≤◌, ◌<◌}
use mathlib.Core.Path.{◌≡◌, refl, sym, ◌∙◌}
use mathlib.Core.Bool.{Bool, true, false}
use mathlib.Core.List.{List}
use native.Mathlib.Omega.{arith}
use lib.ListN.{get_or}
use Rattle.lists.specs.Lists.{is_some}
use Rattle.text.specs.Reading.{goes_to}
use Rattle.rules.specs.Reading.{reader}
use Rattle.table.specs.Table.{rules_from}
use Rattle.jumps.specs.Jumps.{labelled, NoneTo, Goes}
use Rattle.jumps.proofs.Goes.{goes_to_lem, goes_nowhere}

module _ (v r t g : List ℕ) (from count i : ℕ) (h : from ≤ i) (none_so_far : NoneTo v r t g from i) where
  pub answered-here : i < count → labelled v r t g i ≡ true → true ≡ is_some (goes_to reader g (rules_from v r t from (count - from)))
  answered-here k e = let w : Goes v r t g from count i = record { from = h; within = k; has = e; others = none_so_far } in rw (goes_to_lem v r t g count from i w)

  pub answered_nowhere : count ≤ i → from ≤ count → false ≡ is_some (goes_to reader g (rules_from v r t from (count - from)))
  answered_nowhere k f = rw (goes_nowhere v r t g count from f (λ n a b. none_so_far n a (omega arith)))
