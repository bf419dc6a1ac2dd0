-- A pair without a look at its content, part by part as the code reads it.
-- Assumes nothing.
use Rattle.std.specs.Prelude.{ℕ, Bool, true, false, List}
use Rattle.lists.specs.Runs.{Part}
use Rattle.lists.specs.Checked.{Checked, ok, ◌>>=◌}
use Rattle.lists.specs.Refusal.{Refusal}
use Rattle.rules.specs.Key.{Key, Op, Takes, takes_none, takes_one, takes_type, Row}
use Rattle.rules.specs.Pair.{Pair}
use Rattle.rules.specs.Reading.{unblank, is_type, read_key, read_argument, read_op, read_value}

-- whether a key that takes such an argument takes this one
abbrev pub type_allowed : Takes → List ℕ → Bool
type_allowed takes_none a = false
type_allowed takes_one a = true
type_allowed takes_type a = is_type a

-- the value of a pair of which the rest is known, and what follows the pair
unfoldable pub value_then : Key → List ℕ → Op → List ℕ → Checked Refusal (Part Pair)
value_then k a o bs =
    read_value (unblank bs) >>= λ v. ok (record { value = record { key = k; argument = a; op = o; value = v.value }; rest = unblank v.rest })

unfoldable pub operator_then : Key → List Op → List ℕ → List ℕ → Checked Refusal (Part Pair)
operator_then k allowed a bs = read_op allowed (unblank bs) >>= λ o. value_then k a o.value o.rest

unfoldable pub argument_then : Row → List ℕ → Checked Refusal (Part Pair)
argument_then r bs = read_argument r.takes bs >>= λ a. operator_then r.key r.allowed a.value a.rest

-- refusals 11 to 14
unfoldable pub pair_written : List ℕ → Checked Refusal (Part Pair)
pair_written bs = read_key (unblank bs) >>= λ k. argument_then k.value k.rest
