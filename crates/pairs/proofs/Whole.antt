-- A pair with its content: 15 after 11 to 14.
-- Assumes nothing.
use Prim.Native.Nat.{ℕ}
use mathlib.Core.Path.{◌≡◌, refl}
use mathlib.Core.List.{List}
use Rattle.lists.specs.Runs.{Part}
use Rattle.lists.specs.Checked.{Checked, refused, ok, ◌>>=◌, ◌>>◌, require}
use Rattle.lists.specs.Refusal.{Refusal, content_bad}
use Rattle.rules.specs.Key.{Key, Op, Row}
use Rattle.rules.specs.Pair.{Pair}
use Rattle.rules.specs.Reading.{unblank, read_key, read_argument, read_op, read_value, sound, read_pair}
use Rattle.pairs.specs.Stages.{value_then, operator_then, argument_then, pair_written}

-- the content of a pair that was read
abbrev pub judged : Part Pair → Checked Refusal (Part Pair)
judged p = require (sound p.value.key p.value.op p.value.value) content_bad >> ok p

module _ (k : Key) (a : List ℕ) (o : Op) where
  abbrev made : Part (List ℕ) → Part Pair
  made v = record { value = record { key = k; argument = a; op = o; value = v.value }; rest = unblank v.rest }

  of_value : (v : Checked Refusal (Part (List ℕ))) → (v >>= λ (x : Part (List ℕ)). judged (made x)) ≡ ((v >>= λ (x : Part (List ℕ)). ok (made x)) >>= judged)
  of_value (refused f) = refl
  of_value (ok v) = refl

of_operator : (k : Key) (a : List ℕ) (o : Checked Refusal (Part Op))
    → (o >>= λ (x : Part Op). read_value (unblank x.rest) >>= λ (v : Part (List ℕ)). judged (made k a x.value v))
    ≡ ((o >>= λ (x : Part Op). value_then k a x.value x.rest) >>= judged)
unfolding value_then
of_operator k a (refused f) = refl
of_operator k a (ok o) = of_value k a o.value (read_value (unblank o.rest))

of_argument : (r : Row) (a : Checked Refusal (Part (List ℕ)))
    → (a >>= λ (x : Part (List ℕ)). read_op r.allowed (unblank x.rest) >>= λ (o : Part Op). read_value (unblank o.rest) >>= λ (v : Part (List ℕ)). judged (made r.key x.value o.value v))
    ≡ ((a >>= λ (x : Part (List ℕ)). operator_then r.key r.allowed x.value x.rest) >>= judged)
unfolding operator_then
of_argument r (refused f) = refl
of_argument r (ok a) = of_operator r.key a.value (read_op r.allowed (unblank a.rest))

of_key : (k : Checked Refusal (Part Row))
    → (k >>= λ (x : Part Row). read_argument x.value.takes x.rest >>= λ (a : Part (List ℕ)). read_op x.value.allowed (unblank a.rest) >>= λ (o : Part Op). read_value (unblank o.rest) >>= λ (v : Part (List ℕ)). judged (made x.value.key a.value o.value v))
    ≡ ((k >>= λ (x : Part Row). argument_then x.value x.rest) >>= judged)
unfolding argument_then
of_key (refused f) = refl
of_key (ok k) = of_argument k.value (read_argument k.value.takes k.rest)

pub read_written : (bs : List ℕ) → read_pair bs ≡ (pair_written bs >>= judged)
unfolding read_pair pair_written
read_written bs = of_key (read_key (unblank bs))
