-- What is left behind a pair is shorter than what it was read from, so that reading pair by pair ends.
-- Assumes nothing.
use Prim.Native.Nat.{ℕ, zero, suc, ◌+◌, ◌≤◌, ◌<◌}
use mathlib.Core.Path.{◌≡◌, refl, sym, ap, ◌∙◌, subst}
use mathlib.Core.Bool.{Bool, true, false, not, ◌&&◌}
use mathlib.Core.List.{List, [], ◌∷◌, ◌++◌}
use Rattle.std.specs.Prelude.{Option, None, Some}
use native.Mathlib.Omega.{arith}
use lib.Dec.{eqb, leb}
use lib.ListN.{length, get_or, drop, length-drop, length-append}
use Rattle.lists.specs.Lists.{pick}
use Rattle.lists.specs.Bytes.{is_upper, is_blank, between}
use Rattle.lists.specs.Runs.{Part, span}
use Rattle.lists.specs.Items.{Item, is_in_braces, close_brace, in_braces}
use Rattle.lists.specs.Checked.{Checked, refused, ok, ◌>>=◌, ◌>>◌, require, found, Holds}
use Rattle.lists.specs.Refusal.{Refusal, key_bad, argument_bad, operator_bad, value_bad, content_bad}
use Rattle.lists.specs.Sizes.{most_key, most_value}
use Rattle.lists.proofs.Lists.{pick_both}
use Rattle.lists.proofs.Runs.{span-whole}
use Rattle.lists.proofs.Checked.{holds-bind, holds_at}
use Rattle.rules.specs.Key.{Op, equal, unequal, assign, add, remove, final, Takes, takes_none, takes_one, takes_type, Row, row_of, allows}
use Rattle.rules.specs.Pair.{Pair}
use Rattle.rules.specs.Coded.{coded_byte, put, coded_then, coded_step, coded}
use Rattle.rules.specs.Reading.{unblank, read_key, absent, is_type, present, argument_by, read_argument, if_equals, op_of, read_op, quoted_step, quoted, starts_mark, unescape, read_plain, read_coded, starts_coded, value_by, read_value, sound, read_pair}
use Rattle.rules.proofs.Sound.{InSome, pick_some, found_some, require-then}

-- at most n bytes are left
abbrev pub Left : {A : Type 0} → ℕ → Part A → Type 0
Left n p = length p.rest ≤ n

span_left : (p : ℕ → Bool) (bs : List ℕ) → length (span p bs).rest ≤ length bs
span_left p bs = omega (arith, ap length (span-whole p bs), length-append (span p bs).value (span p bs).rest)

key_left : (bs : List ℕ) → Holds (Left (length bs)) (read_key bs)
unfolding read_key
key_left bs =
    holds-bind (λ (_ : Row). Unit {0}) (Left (length bs)) (found (row_of (span is_upper bs).value) key_bad) _
    (found_some (λ (_ : Row). Unit {0}) (row_of (span is_upper bs).value) key_bad (any (row_of (span is_upper bs).value))) (λ r _. span_left is_upper bs)
  where
    any : (o : Option Row) → InSome (λ (_ : Row). Unit {0}) o
    any None = tt
    any (Some r) = tt

braces_left : (bs : List ℕ) → InSome (Left (length bs)) (in_braces bs)
unfolding in_braces
braces_left bs = at (span is_in_braces bs).rest refl
  where
    at : (rest : List ℕ) → (span is_in_braces bs).rest ≡ rest → InSome (Left (length bs)) (close_brace (span is_in_braces bs).value rest)
    at [] e = tt
    at (b ∷ rest) e =
        let h : length rest ≤ length bs = omega (arith, span_left is_in_braces bs, ap length e) in
        pick_some (Left (length bs)) (between 1 most_key (length (span is_in_braces bs).value)) (Some (record { value = (span is_in_braces bs).value; rest = rest })) None h tt

absent-left : (t : Takes) (bs : List ℕ) → Holds (Left (length bs)) (absent t bs)
absent-left takes_none bs = omega arith
absent-left takes_one bs = tt
absent-left takes_type bs = omega arith

present-left : (t : Takes) (bs : List ℕ) → Holds (Left (length bs)) (present t bs)
present-left takes_none bs = tt
present-left takes_one bs = found_some (Left (length bs)) (in_braces bs) argument_bad (braces_left bs)
present-left takes_type bs =
    holds-bind (Left (length bs)) (Left (length bs)) (found (in_braces bs) argument_bad) _ (found_some (Left (length bs)) (in_braces bs) argument_bad (braces_left bs))
    (λ a k. require-then (Left (length bs)) (is_type a.value) argument_bad (ok a) (λ _. k))

wider : {A : Type 0} (m n : ℕ) → m ≤ n → (c : Checked Refusal (Part A)) → Holds (Left m) c → Holds (Left n) c
wider m n l (refused f) h = tt
wider m n l (ok p) h = omega arith

argument_left : (t : Takes) (bs : List ℕ) → Holds (Left (length bs)) (read_argument t bs)
unfolding read_argument
argument_left t [] = absent-left t []
argument_left t (b ∷ bs) = at (eqb b 123)
  where
    at : (u : Bool) → Holds (Left (length (b ∷ bs))) (argument_by u t b bs)
    at true = wider (length bs) (length (b ∷ bs)) (omega arith) (present t bs) (present-left t bs)
    at false = absent-left t (b ∷ bs)

module _ (b c : ℕ) (bs : List ℕ) where
  one : length (drop 1 bs) ≤ length bs
  one = omega (arith, length-drop 1 bs)

  two : length (drop 2 bs) ≤ length bs
  two = omega (arith, length-drop 2 bs)

  if_left : (o : Op) → InSome (Left (length bs)) (if_equals c o (drop 2 bs))
  if_left o = pick_some (Left (length bs)) (eqb c 61) (Some (record { value = o; rest = drop 2 bs })) None two tt

  op_left : InSome (Left (length bs)) (op_of b c (drop 1 bs) (drop 2 bs))
  op_left =
      pick_some (Left (length bs)) (eqb b 61) _ _
      (pick_some (Left (length bs)) (eqb c 61) (Some (record { value = equal; rest = drop 2 bs })) (Some (record { value = assign; rest = drop 1 bs })) two one)
      (pick_some (Left (length bs)) (eqb b 33) (if_equals c unequal (drop 2 bs)) _ (if_left unequal)
      (pick_some (Left (length bs)) (eqb b 43) (if_equals c add (drop 2 bs)) _ (if_left add)
      (pick_some (Left (length bs)) (eqb b 45) (if_equals c remove (drop 2 bs)) _ (if_left remove)
      (pick_some (Left (length bs)) (eqb b 58) (if_equals c final (drop 2 bs)) None (if_left final) tt))))

operator_left : (allowed : List Op) (bs : List ℕ) → Holds (Left (length bs)) (read_op allowed bs)
unfolding read_op
operator_left allowed bs =
    holds-bind (Left (length bs)) (Left (length bs)) (found (op_of (get_or bs 0 0) (get_or bs 1 0) (drop 1 bs) (drop 2 bs)) operator_bad) _
    (found_some (Left (length bs)) (op_of (get_or bs 0 0) (get_or bs 1 0) (drop 1 bs) (drop 2 bs)) operator_bad (op_left (get_or bs 0 0) (get_or bs 1 0) bs))
    (λ o k. require-then (Left (length bs)) (allows allowed o.value) operator_bad (ok o) (λ _. k))

step_left : (t : Bool) (b : ℕ) (bs : List ℕ) (o : Option (Part (List ℕ))) → InSome (Left (length bs)) o → InSome (Left (suc (length bs))) (quoted_step t b bs o)
step_left true b bs o h = omega arith
step_left false b bs None h = tt
step_left false b bs (Some p) h = omega arith

quoted-left : (escaped : Bool) (bs : List ℕ) → InSome (Left (length bs)) (quoted escaped bs)
unfolding quoted
quoted-left escaped [] = tt
quoted-left escaped (b ∷ bs) = step_left (eqb b 34 && not escaped) b bs (quoted (eqb b 92) bs) (quoted-left (eqb b 92) bs)

-- the mark that opens the value is used up
abbrev Less : {A : Type 0} → ℕ → Part A → Type 0
Less n p = length p.rest < n

plain_less : (bs : List ℕ) → Holds (Less (length bs)) (read_plain bs)
unfolding read_plain
plain_less [] = tt
plain_less (b ∷ bs) =
    require-then (Less (suc (length bs))) (starts_mark (b ∷ bs)) value_bad _
    (λ _. holds-bind (Left (length bs)) (Less (suc (length bs))) (found (quoted false bs) value_bad) _ (found_some (Left (length bs)) (quoted false bs) value_bad (quoted-left false bs))
    (λ w k. require-then (Less (suc (length bs))) (leb (length (unescape w.value)) most_value) value_bad _ (λ _. omega arith)))

put-left : (n b : ℕ) (o : Option (Part (List ℕ))) → InSome (Left n) o → InSome (Left (suc n)) (put b o)
put-left n b None h = tt
put-left n b (Some p) h = omega arith

longer : (n : ℕ) (o : Option (Part (List ℕ))) → InSome (Left n) o → InSome (Left (suc n)) o
longer n None h = tt
longer n (Some p) h = omega arith

coded-left : (k : ℕ) (bs : List ℕ) → InSome (Left (length bs)) (coded k bs)
unfolding coded
coded-left k [] = tt
coded-left (suc k) (b ∷ bs) = longer (length bs) (coded k bs) (coded-left k bs)
coded-left zero (b ∷ bs) = at (eqb b 34) (λ m. coded-left m bs)
  where
    on : (o : Option (Item ℕ)) → ((m : ℕ) → InSome (Left (length bs)) (coded m bs)) → InSome (Left (suc (length bs))) (coded_then o (λ more. coded more bs))
    on None f = tt
    on (Some i) f = put-left (length bs) i.value (coded i.more bs) (f i.more)

    at : (t : Bool) → ((m : ℕ) → InSome (Left (length bs)) (coded m bs)) → InSome (Left (suc (length bs))) (coded_step t b bs (λ more. coded more bs))
    at true f = omega arith
    at false f = on (coded_byte b bs) f

-- and so are the `e` and the mark
coded_less : (bs : List ℕ) → starts_coded bs ≡ true → Holds (Less (length bs)) (read_coded (drop 2 bs))
unfolding read_coded
coded_less [] e = let z : ◌≡◌ {A = ℕ} 0 1 = cc in absurd (omega arith)
coded_less (b ∷ bs) e =
    holds-bind (Left (length (drop 2 (b ∷ bs)))) (Less (suc (length bs))) (found (coded 0 (drop 2 (b ∷ bs))) value_bad) _
    (found_some (Left (length (drop 2 (b ∷ bs)))) (coded 0 (drop 2 (b ∷ bs))) value_bad (coded-left 0 (drop 2 (b ∷ bs))))
    (λ v k. require-then (Less (suc (length bs))) (leb (length v.value) most_value) value_bad _ (λ _. omega (arith, length-drop 2 (b ∷ bs))))

value_less : (bs : List ℕ) → Holds (Less (length bs)) (read_value bs)
unfolding read_value
value_less bs = at (starts_coded bs) refl
  where
    at : (t : Bool) → starts_coded bs ≡ t → Holds (Less (length bs)) (value_by t bs)
    at true e = coded_less bs e
    at false e = plain_less bs

pair_less : (bs : List ℕ) → Holds (Less (length bs)) (read_pair bs)
unfolding read_pair
pair_less bs =
    let Q : Part Pair → Type 0 = Less (length bs) in
    let n₀ = span_left is_blank bs in
    holds-bind (Left (length (unblank bs))) Q (read_key (unblank bs)) _ (key_left (unblank bs))
    (λ k hk. holds-bind (Left (length k.rest)) Q (read_argument k.value.takes k.rest) _ (argument_left k.value.takes k.rest)
    (λ a ha. holds-bind (Left (length (unblank a.rest))) Q (read_op k.value.allowed (unblank a.rest)) _ (operator_left k.value.allowed (unblank a.rest))
    (λ o ho. holds-bind (Less (length (unblank o.rest))) Q (read_value (unblank o.rest)) _ (value_less (unblank o.rest))
    (λ v hv. require-then Q (sound k.value.key o.value v.value) content_bad _
    (λ _. omega (arith, span_left is_blank a.rest, span_left is_blank o.rest, span_left is_blank v.rest))))))

pub pair_shorter : (bs : List ℕ) (p : Part Pair) → read_pair bs ≡ ok p → length p.rest < length bs
pair_shorter bs p e = holds_at (Less (length bs)) e (pair_less bs)
