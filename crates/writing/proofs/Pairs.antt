-- A pair as it is written reads back, and is not longer than it was.
-- Assumes nothing.
use Prim.Native.Nat.{ℕ, zero, suc, ◌+◌, ◌≤◌, ◌<◌}
use mathlib.Core.Path.{◌≡◌, refl, sym, ap, ◌∙◌}
use mathlib.Core.Logic.{◌⊎◌, inl, inr}
use mathlib.Core.Bool.{Bool, true, false, not}
use mathlib.Core.List.{List, [], ◌∷◌, ◌++◌, append_assoc}
use Rattle.std.specs.Prelude.{Option, None, Some}
use native.Mathlib.Omega.{arith}
use lib.Dec.{eqb, leb}
use lib.ListN.{length, get_or, drop, length-append, length-drop}
use borrow.Author.Tests.{leb-true, eqb-true}
use Rattle.lists.specs.Lists.{pick, all, cat, All}
use Rattle.lists.specs.Bytes.{is_upper, is_blank, between, same_bytes, clean}
use Rattle.lists.specs.Runs.{Part, span, span_step}
use Rattle.lists.specs.Items.{is_in_braces, close_brace, in_braces}
use Rattle.lists.specs.Checked.{Checked, refused, ok, found, Holds}
use Rattle.lists.specs.Refusal.{Refusal, key_bad, argument_bad, operator_bad, content_bad}
use Rattle.lists.specs.Sizes.{most_key, most_value}
use Rattle.lists.specs.Quoted.{bytes}
use Rattle.lists.proofs.Checked.{holds-bind}
use Rattle.lists.proofs.Lists.{all_split}
use Rattle.lists.proofs.Tests.{and_both, both_and}
use Rattle.lists.proofs.Bytes.{same-eq}
use Rattle.lists.proofs.Rest.{byte_in}
use Rattle.lists.proofs.Runs.{span-whole, span-stop}
use Rattle.rules.specs.Key.{Key, Op, equal, unequal, assign, add, remove, final, Takes, takes_none, takes_one, takes_type, Row, rows, row_in, row_of, allows}
use Rattle.rules.specs.Pair.{Pair}
use Rattle.rules.specs.Reading.{unblank, read_key, absent, is_type, present, argument_by, read_argument, if_equals, op_of, read_op, read_value, sound, read_pair}
use Rattle.rules.proofs.Sound.{SoundPair, InSome, pick_some, found_some, require-then, PairOk, pair_ok}
use Rattle.writing.specs.Writing.{name_in, name_of, argument_text, op_text, plain_byte, code_byte, value_text, needs_code, pair_text}
use Rattle.writing.proofs.Values.{fair, Fair, Fits, value_again, value_fits}

-- ---- runs

-- a run of bytes that pass, up to one that fails
pub span_to : (p : ℕ → Bool) (xs : List ℕ) (c : ℕ) (rest : List ℕ) → all p xs ≡ true → p c ≡ false → span p (xs ++ (c ∷ rest)) ≡ record { value = xs; rest = c ∷ rest }
unfolding span
span_to p [] c rest h k = rw k
span_to p (x ∷ xs) c rest h k = let (a, b) = and_both (p x) (all p xs) h in rw (a, span_to p xs c rest b k)

pub span_passes : (p : ℕ → Bool) (bs : List ℕ) → all p (span p bs).value ≡ true
unfolding span
span_passes p [] = refl
span_passes p (b ∷ bs) = at (p b) refl (span_passes p bs)
  where
    at : (t : Bool) → p b ≡ t → all p (span p bs).value ≡ true → all p (span_step t b bs (span p bs)).value ≡ true
    at true e h = both_and (p b) (all p (span p bs).value) e h
    at false e h = refl

span-fair : (p : ℕ → Bool) (bs : List ℕ) → Fair bs → Fair (span p bs).value × Fair (span p bs).rest
span-fair p bs h = all_split fair (span p bs).value (span p bs).rest (rw (span-whole p bs) h)

span-size : (p : ℕ → Bool) (bs : List ℕ) → length (span p bs).value + length (span p bs).rest ≡ length bs
span-size p bs = sym (length-append (span p bs).value (span p bs).rest) ∙ ap length (span-whole p bs)

drop-fair : (n : ℕ) (bs : List ℕ) → Fair bs → Fair (drop n bs)
drop-fair zero bs h = h
drop-fair (suc n) [] h = refl
drop-fair (suc n) (b ∷ bs) h = drop-fair n bs (and_both (fair b) (all fair bs) h).1

-- blanks in front are gone
pub unblank-fair : (bs : List ℕ) → Fair bs → Fair (unblank bs)
unblank-fair bs h = (span-fair is_blank bs h).1

pub unblank-size : (bs : List ℕ) → length (unblank bs) ≤ length bs
unblank-size bs = omega (arith, span-size is_blank bs)

pub unblank-none : (b : ℕ) (bs : List ℕ) → is_blank b ≡ false → unblank (b ∷ bs) ≡ b ∷ bs
unblank-none b bs h = ap (λ (p : Part (List ℕ)). p.rest) (span-stop is_blank b bs h)

-- ---- the key

-- a row is found by its name, and its name by its key
pub record Named (r : Row) : Type 0 where
  pub by_key : name_of r.key ≡ r.name
  pub by_name : row_of r.name ≡ Some r
  pub upper : all is_upper r.name ≡ true
  pub clean : all fair r.name ≡ true
  pub some_byte : leb 1 (length r.name) ≡ true

-- by what is computed of a row
named : {r : Row} → ◌≡◌ {A = List ℕ × Option Row × Bool × Bool × Bool} (name_of r.key, row_of r.name, all is_upper r.name, all fair r.name, leb 1 (length r.name)) (r.name, Some r, true, true, true)
    → Named r
named e = record { by_key = ap (λ x. x.0) e; by_name = ap (λ x. x.1) e; upper = ap (λ x. x.2) e; clean = ap (λ x. x.3) e; some_byte = ap (λ x. x.4) e }

-- one row, and the rows behind it
infixr 40 ◌▸◌
◌▸◌ : {A B : Type 0} → A → B → A × B
a ▸ b = (a, b)

rows_named : All Named rows
unfolding rows row_of row_in name_in same_bytes
rows_named =
    named refl ▸ named refl ▸ named refl ▸ named refl ▸ named refl ▸ named refl ▸ named refl ▸ named refl ▸ named refl ▸ named refl ▸ named refl
    ▸ named refl ▸ named refl ▸ named refl ▸ named refl ▸ named refl ▸ named refl ▸ named refl ▸ named refl ▸ named refl ▸ named refl ▸ named refl
    ▸ tt

pub record Found (n : List ℕ) (r : Row) : Type 0 where
  pub named : Named r
  pub name-is : r.name ≡ n

row-found : (rs : List Row) → All Named rs → (n : List ℕ) → InSome (Found n) (row_in rs n)
unfolding row_in
row-found [] h n = tt
row-found (r ∷ rs) (h, hs) n = at (same_bytes r.name n) refl (row-found rs hs n)
  where
    at : (t : Bool) → same_bytes r.name n ≡ t → InSome (Found n) (row_in rs n) → InSome (Found n) (pick t (Some r) (row_in rs n))
    at true e k = record { named = h; name-is = same-eq r.name n e }
    at false e k = k

-- ---- the argument

abbrev Braced : List ℕ → Type 0
Braced a = (between 1 most_key (length a) ≡ true) × (all is_in_braces a ≡ true)

abbrev pub Argument : Takes → List ℕ → Type 0
Argument takes_none a = a ≡ []
Argument takes_one a = Braced a
Argument takes_type a = (a ≡ []) ⊎ (Braced a × (is_type a ≡ true))

braces_again : (a : List ℕ) → Braced a → (c : ℕ) (rest : List ℕ) → in_braces ((a ++ (125 ∷ [])) ++ (c ∷ rest)) ≡ Some (record { value = a; rest = c ∷ rest })
unfolding in_braces
braces_again a (h, k) c rest = rw (append_assoc a (125 ∷ []) (c ∷ rest), span_to is_in_braces a 125 (c ∷ rest) k refl, h)

argument_again : (t : Takes) (a : List ℕ) → Argument t a → (c : ℕ) (rest : List ℕ) → eqb c 123 ≡ false
    → read_argument t (argument_text a ++ (c ∷ rest)) ≡ ok (record { value = a; rest = c ∷ rest })
unfolding read_argument
argument_again takes_none a h c rest k = rw (h, k)
argument_again takes_one [] (h, g) c rest k = let z : ◌≡◌ {A = ℕ} 0 1 = cc in absurd (omega arith)
argument_again takes_one (b ∷ a) h c rest k = rw (braces_again (b ∷ a) h c rest)
argument_again takes_type [] h c rest k = rw k
argument_again takes_type (b ∷ a) (inl h) c rest k = absurd (omega (arith, ap length h))
argument_again takes_type (b ∷ a) (inr (h, g)) c rest k = rw (braces_again (b ∷ a) h c rest, g)

abbrev ArgumentFits : Takes → ℕ → Part (List ℕ) → Type 0
ArgumentFits t n a = Argument t a.value × (length (argument_text a.value) + length a.rest ≤ n) × Fair a.value × Fair a.rest

abbrev BracedFits : ℕ → Part (List ℕ) → Type 0
BracedFits n a = Braced a.value × (length (argument_text a.value) + length a.rest ≤ suc n) × Fair a.value × Fair a.rest

text-size : (a : List ℕ) → length (argument_text a) ≤ length a + 2
text-size [] = omega arith
text-size (b ∷ a) = omega (arith, length-append (b ∷ a) (125 ∷ []))

braces_fits : (bs : List ℕ) → Fair bs → InSome (BracedFits (length bs)) (in_braces bs)
unfolding in_braces
braces_fits bs h = at (span is_in_braces bs).rest refl
  where
    at : (rest : List ℕ) → (span is_in_braces bs).rest ≡ rest → InSome (BracedFits (length bs)) (close_brace (span is_in_braces bs).value rest)
    at [] e = tt
    at (b ∷ rest) e = on (between 1 most_key (length (span is_in_braces bs).value)) refl
      where
        on : (t : Bool) → between 1 most_key (length (span is_in_braces bs).value) ≡ t → InSome (BracedFits (length bs)) (pick t (Some (record { value = (span is_in_braces bs).value; rest = rest })) None)
        on true q =
            let (f, g) = span-fair is_in_braces bs h in (
              (q, span_passes is_in_braces bs),
              omega (arith, text-size (span is_in_braces bs).value, span-size is_in_braces bs, ap length e),
              f,
              (and_both (fair b) (all fair rest) (rw e at g)).1,
            )
        on false q = tt

present-fits : (t : Takes) (bs : List ℕ) → Fair bs → Holds (ArgumentFits t (suc (length bs))) (present t bs)
present-fits takes_none bs h = tt
present-fits takes_one bs h = found_some (BracedFits (length bs)) (in_braces bs) argument_bad (braces_fits bs h)
present-fits takes_type bs h =
    holds-bind (BracedFits (length bs)) (ArgumentFits takes_type (suc (length bs))) (found (in_braces bs) argument_bad) _ (found_some (BracedFits (length bs)) (in_braces bs) argument_bad (braces_fits bs h))
    (λ a k. require-then (ArgumentFits takes_type (suc (length bs))) (is_type a.value) argument_bad (ok a) (λ e. (inr (k.0, e), k.1, k.2, k.3)))

absent-fits : (t : Takes) (bs : List ℕ) → Fair bs → Holds (ArgumentFits t (length bs)) (absent t bs)
absent-fits takes_none bs h = (refl, omega arith, refl, h)
absent-fits takes_one bs h = tt
absent-fits takes_type bs h = (inl refl, omega arith, refl, h)

argument_fits : (t : Takes) (bs : List ℕ) → Fair bs → Holds (ArgumentFits t (length bs)) (read_argument t bs)
unfolding read_argument
argument_fits t [] h = absent-fits t [] h
argument_fits t (b ∷ bs) h = at (eqb b 123)
  where
    at : (u : Bool) → Holds (ArgumentFits t (suc (length bs))) (argument_by u t b bs)
    at true = present-fits t bs (and_both (fair b) (all fair bs) h).1
    at false = absent-fits t (b ∷ bs) h

-- ---- the operator

op_again : (allowed : List Op) (o : Op) → allows allowed o ≡ true → (c : ℕ) (rest : List ℕ) → eqb c 61 ≡ false
    → read_op allowed (op_text o ++ (c ∷ rest)) ≡ ok (record { value = o; rest = c ∷ rest })
unfolding read_op op_text bytes
op_again allowed equal h c rest k = rw h
op_again allowed unequal h c rest k = rw h
op_again allowed assign h c rest k = rw (k, h)
op_again allowed add h c rest k = rw h
op_again allowed remove h c rest k = rw h
op_again allowed final h c rest k = rw h

-- the first byte of an operator: no brace, no letter, no blank
pub record OpStart (o : Op) : Type 0 where
  pub first : ℕ
  pub others : List ℕ
  pub is : op_text o ≡ first ∷ others
  pub no_brace : eqb first 123 ≡ false
  pub no_upper : is_upper first ≡ false
  pub no-blank : is_blank first ≡ false
  pub clean : all fair (op_text o) ≡ true

pub op_start : (o : Op) → OpStart o
unfolding op_text bytes
op_start equal = record { first = 61; others = 61 ∷ []; is = refl; no_brace = refl; no_upper = refl; no-blank = refl; clean = refl }
op_start unequal = record { first = 33; others = 61 ∷ []; is = refl; no_brace = refl; no_upper = refl; no-blank = refl; clean = refl }
op_start assign = record { first = 61; others = []; is = refl; no_brace = refl; no_upper = refl; no-blank = refl; clean = refl }
op_start add = record { first = 43; others = 61 ∷ []; is = refl; no_brace = refl; no_upper = refl; no-blank = refl; clean = refl }
op_start remove = record { first = 45; others = 61 ∷ []; is = refl; no_brace = refl; no_upper = refl; no-blank = refl; clean = refl }
op_start final = record { first = 58; others = 61 ∷ []; is = refl; no_brace = refl; no_upper = refl; no-blank = refl; clean = refl }

abbrev OpFits : ℕ → Part Op → Type 0
OpFits n o = (length (op_text o.value) + length o.rest ≤ n) × Fair o.rest

module _ (bs : List ℕ) (h : Fair bs) where
  one-fits : (o : Op) → length (op_text o) ≡ 1 → get_or bs 0 0 ≡ 61 → OpFits (length bs) (record { value = o; rest = drop 1 bs })
  one-fits o l e = (omega (arith, length-drop 1 bs, byte_in bs 0 61 e (omega arith)), drop-fair 1 bs h)

  two_fits : (o : Op) → length (op_text o) ≤ 2 → get_or bs 1 0 ≡ 61 → OpFits (length bs) (record { value = o; rest = drop 2 bs })
  two_fits o l e = (omega (arith, length-drop 2 bs, byte_in bs 1 61 e (omega arith)), drop-fair 2 bs h)

  if_fits : (o : Op) → length (op_text o) ≤ 2 → InSome (OpFits (length bs)) (if_equals (get_or bs 1 0) o (drop 2 bs))
  if_fits o l = at (eqb (get_or bs 1 0) 61) refl
    where
      at : (t : Bool) → eqb (get_or bs 1 0) 61 ≡ t → InSome (OpFits (length bs)) (pick t (Some (record { value = o; rest = drop 2 bs })) None)
      at true e = two_fits o l (eqb-true (get_or bs 1 0) 61 e)
      at false e = tt

  op_of-fits : InSome (OpFits (length bs)) (op_of (get_or bs 0 0) (get_or bs 1 0) (drop 1 bs) (drop 2 bs))
  unfolding op_text bytes
  op_of-fits = at (eqb (get_or bs 0 0) 61) (eqb (get_or bs 1 0) 61) refl refl
    where
      at : (t u : Bool) → eqb (get_or bs 0 0) 61 ≡ t → eqb (get_or bs 1 0) 61 ≡ u
          → InSome (OpFits (length bs)) (pick t (pick u (Some (record { value = equal; rest = drop 2 bs })) (Some (record { value = assign; rest = drop 1 bs })))
          (pick (eqb (get_or bs 0 0) 33) (if_equals (get_or bs 1 0) unequal (drop 2 bs))
          (pick (eqb (get_or bs 0 0) 43) (if_equals (get_or bs 1 0) add (drop 2 bs))
          (pick (eqb (get_or bs 0 0) 45) (if_equals (get_or bs 1 0) remove (drop 2 bs))
          (pick (eqb (get_or bs 0 0) 58) (if_equals (get_or bs 1 0) final (drop 2 bs)) None)))))
      at true true e f = two_fits equal (omega arith) (eqb-true (get_or bs 1 0) 61 f)
      at true false e f = one-fits assign refl (eqb-true (get_or bs 0 0) 61 e)
      at false u e f =
          pick_some (OpFits (length bs)) (eqb (get_or bs 0 0) 33) (if_equals (get_or bs 1 0) unequal (drop 2 bs)) _ (if_fits unequal (omega arith))
          (pick_some (OpFits (length bs)) (eqb (get_or bs 0 0) 43) (if_equals (get_or bs 1 0) add (drop 2 bs)) _ (if_fits add (omega arith))
          (pick_some (OpFits (length bs)) (eqb (get_or bs 0 0) 45) (if_equals (get_or bs 1 0) remove (drop 2 bs)) _ (if_fits remove (omega arith))
          (pick_some (OpFits (length bs)) (eqb (get_or bs 0 0) 58) (if_equals (get_or bs 1 0) final (drop 2 bs)) None (if_fits final (omega arith)) tt)))

op_fits : (allowed : List Op) (bs : List ℕ) → Fair bs → Holds (λ (o : Part Op). OpFits (length bs) o × (allows allowed o.value ≡ true)) (read_op allowed bs)
unfolding read_op
op_fits allowed bs h =
    holds-bind (OpFits (length bs)) (λ (o : Part Op). OpFits (length bs) o × (allows allowed o.value ≡ true)) (found (op_of (get_or bs 0 0) (get_or bs 1 0) (drop 1 bs) (drop 2 bs)) operator_bad) _
    (found_some (OpFits (length bs)) (op_of (get_or bs 0 0) (get_or bs 1 0) (drop 1 bs) (drop 2 bs)) operator_bad (op_of-fits bs h))
    (λ o k. require-then (λ (o : Part Op). OpFits (length bs) o × (allows allowed o.value ≡ true)) (allows allowed o.value) operator_bad (ok o) (λ e. (k, e)))

-- ---- a pair

-- what reading ensures of a pair, for writing it
pub record Writable (p : Pair) : Type 0 where
  pub row : Row
  pub named : Named row
  pub key_is : row.key ≡ p.key
  pub argument : Argument row.takes p.argument
  pub argument_fair : Fair p.argument
  pub allowed : allows row.allowed p.op ≡ true
  pub value_clean : clean p.value ≡ true
  pub short : length p.value ≤ most_value
  pub content : sound p.key p.op p.value ≡ true

-- a value begins with a mark or an `e`
pub record ValueStart (v : List ℕ) : Type 0 where
  pub first : ℕ
  pub others : List ℕ
  pub is : value_text v ≡ first ∷ others
  pub no_equals : eqb first 61 ≡ false
  pub no-blank : is_blank first ≡ false

pub value_start : (v : List ℕ) → ValueStart v
unfolding value_text
value_start v = at (needs_code v) refl
  where
    at : (t : Bool) → needs_code v ≡ t → ValueStart v
    at true e = record { first = 101; others = 34 ∷ (cat code_byte v ++ (34 ∷ [])); is = rw e; no_equals = refl; no-blank = refl }
    at false e = record { first = 34; others = cat plain_byte v ++ (34 ∷ []); is = rw e; no_equals = refl; no-blank = refl }

pair_by : (bs : List ℕ) (k : Part Row) (a : Part (List ℕ)) (o : Part Op) (v : Part (List ℕ))
    → read_key (unblank bs) ≡ ok k → read_argument k.value.takes k.rest ≡ ok a → read_op k.value.allowed (unblank a.rest) ≡ ok o → read_value (unblank o.rest) ≡ ok v
    → sound k.value.key o.value v.value ≡ true
    → read_pair bs ≡ ok (record { value = record { key = k.value.key; argument = a.value; op = o.value; value = v.value }; rest = unblank v.rest })
unfolding read_pair
pair_by bs k a o v e f g h i = rw (e, f, g, h, i)

-- an upper-case letter is no blank
upper_blank : (b : ℕ) → is_upper b ≡ true → is_blank b ≡ false
upper_blank b h =
    let (p, q) = and_both (leb 65 b) (leb b 90) h in
    let l = leb-true 65 b p in
    rw (other 32 (omega arith), other 9 (omega arith))
  where
    other : (c : ℕ) → c < b → eqb b c ≡ false
    other c l = at (eqb b c) refl
      where
        at : (t : Bool) → eqb b c ≡ t → t ≡ false
        at true e = let z = eqb-true b c e in absurd (omega arith)
        at false e = refl

key_again : (r : Row) → Named r → (c : ℕ) (rest : List ℕ) → is_upper c ≡ false → read_key (unblank (name_of r.key ++ (c ∷ rest))) ≡ ok (record { value = r; rest = c ∷ rest })
unfolding read_key
key_again r n c rest h = rw n.by_key (at r.name refl)
  where
    at : (x : List ℕ) → r.name ≡ x → read_key (unblank (r.name ++ (c ∷ rest))) ≡ ok (record { value = r; rest = c ∷ rest })
    at [] e = let k = rw e at n.some_byte in let z : ◌≡◌ {A = ℕ} 0 1 = cc in absurd (omega arith)
    at (b ∷ x) e =
        let u : is_upper b ≡ true = (and_both (is_upper b) (all is_upper x) (rw e at n.upper)).0 in
        let w : unblank (r.name ++ (c ∷ rest)) ≡ r.name ++ (c ∷ rest) = rw e (unblank-none b (x ++ (c ∷ rest)) (upper_blank b u)) in
        rw (w, span_to is_upper r.name c rest n.upper h, n.by_name)

pub pair_again : (p : Pair) → Writable p → (rest : List ℕ) → read_pair (pair_text p ++ rest) ≡ ok (record { value = p; rest = unblank rest })
unfolding pair_text
pair_again p w rest =
    let o = op_start p.op in
    let v = value_start p.value in
    let vs : List ℕ = v.others ++ rest in
    let os : List ℕ = o.others ++ (v.first ∷ vs) in
    let e_v : value_text p.value ++ rest ≡ v.first ∷ vs = rw v.is in
    let e_o : op_text p.op ++ (v.first ∷ vs) ≡ o.first ∷ os = rw o.is in
    let shape : pair_text p ++ rest ≡ name_of p.key ++ (argument_text p.argument ++ (o.first ∷ os)) = whole (name_of p.key) (argument_text p.argument) (op_text p.op) (value_text p.value) rest (v.first ∷ vs) (o.first ∷ os) e_v e_o in
    shape2 shape (from (argument_text p.argument) refl o v vs os e_v e_o)
  where
    whole : (n a x y z vs os : List ℕ) → y ++ z ≡ vs → x ++ vs ≡ os → (n ++ (a ++ (x ++ y))) ++ z ≡ n ++ (a ++ os)
    whole n a x y z vs os e f = simp append_assoc (rw (e, f))

    shape2 : {l : List ℕ} → pair_text p ++ rest ≡ l → read_pair l ≡ ok (record { value = p; rest = unblank rest }) → read_pair (pair_text p ++ rest) ≡ ok (record { value = p; rest = unblank rest })
    shape2 e h = rw e h

    finish : (o : OpStart p.op) (v : ValueStart p.value) (vs os xs : List ℕ) → value_text p.value ++ rest ≡ v.first ∷ vs → op_text p.op ++ (v.first ∷ vs) ≡ o.first ∷ os
        → read_key (unblank (name_of p.key ++ xs)) ≡ ok (record { value = w.row; rest = xs }) → xs ≡ argument_text p.argument ++ (o.first ∷ os)
        → read_pair (name_of p.key ++ xs) ≡ ok (record { value = p; rest = unblank rest })
    finish o v vs os xs e_v e_o k x =
        pair_by (name_of p.key ++ xs) (record { value = w.row; rest = xs }) (record { value = p.argument; rest = o.first ∷ os }) (record { value = p.op; rest = v.first ∷ vs }) (record { value = p.value; rest = rest })
        k
        (rw x (argument_again w.row.takes p.argument w.argument o.first os o.no_brace))
        (rw (unblank-none o.first os o.no-blank, ← e_o) (op_again w.row.allowed p.op w.allowed v.first vs v.no_equals))
        (rw (unblank-none v.first vs v.no-blank, ← e_v) (value_again p.value rest w.short))
        (rw w.key_is w.content)
        ∙ ap (λ (k : Key). ok (record { value = record { key = k; argument = p.argument; op = p.op; value = p.value }; rest = unblank rest })) w.key_is

    from : (a : List ℕ) → argument_text p.argument ≡ a → (o : OpStart p.op) (v : ValueStart p.value) (vs os : List ℕ) → value_text p.value ++ rest ≡ v.first ∷ vs → op_text p.op ++ (v.first ∷ vs) ≡ o.first ∷ os
        → read_pair (name_of p.key ++ (argument_text p.argument ++ (o.first ∷ os))) ≡ ok (record { value = p; rest = unblank rest })
    from [] e o v vs os e_v e_o =
        rw e (finish o v vs os (o.first ∷ os) e_v e_o (rw (← w.key_is) (key_again w.row w.named o.first os o.no_upper)) (rw e))
    from (b ∷ a) e o v vs os e_v e_o =
        rw e (finish o v vs os (b ∷ (a ++ (o.first ∷ os))) e_v e_o (rw (← w.key_is) (key_again w.row w.named b (a ++ (o.first ∷ os)) (brace p.argument e))) (rw e))
      where
        brace : (x : List ℕ) → argument_text x ≡ b ∷ a → is_upper b ≡ false
        brace [] q = absurd (omega (arith, ap length q))
        brace (y ∷ x) q = let z : 123 ≡ b = cc in rw (← z)

-- ---- what reading ensures

pub record PairFits (n : ℕ) (p : Part Pair) : Type 0 where
  pub writable : Writable p.value
  pub size : length (pair_text p.value) + length p.rest ≤ n
  pub fair-rest : Fair p.rest

text-length : (p : Pair) → length (pair_text p) ≡ length (name_of p.key) + (length (argument_text p.argument) + (length (op_text p.op) + length (value_text p.value)))
unfolding pair_text
text-length p =
    length-append (name_of p.key) (argument_text p.argument ++ (op_text p.op ++ value_text p.value))
    ∙ omega (arith, length-append (argument_text p.argument) (op_text p.op ++ value_text p.value), length-append (op_text p.op) (value_text p.value))

abbrev KeyFits : List ℕ → Part Row → Type 0
KeyFits bs k = Found (span is_upper bs).value k.value × (k.rest ≡ (span is_upper bs).rest)

key_fits : (bs : List ℕ) → Holds (KeyFits bs) (read_key bs)
unfolding read_key row_of
key_fits bs =
    holds-bind (Found (span is_upper bs).value) (KeyFits bs) (found (row_of (span is_upper bs).value) key_bad) _
    (found_some (Found (span is_upper bs).value) (row_of (span is_upper bs).value) key_bad (row-found rows rows_named (span is_upper bs).value)) (λ r h. (h, refl))

fair-clean : (bs : List ℕ) → Fair bs → clean bs ≡ true
fair-clean [] h = refl
fair-clean (b ∷ bs) h =
    let (p, q) = and_both (fair b) (all fair bs) h in
    both_and (not (eqb b 0)) (clean bs) (and_both (not (eqb b 0)) (not (eqb b 10)) p).0 (fair-clean bs q)

module _ (bs : List ℕ) where
  abbrev Later : Part Pair → Type 0
  Later p = SoundPair p.value → PairFits (length bs) p

  parts : Fair bs → Holds Later (read_pair bs)
  unfolding read_pair
  parts h =
      holds-bind (KeyFits (unblank bs)) Later (read_key (unblank bs)) _ (key_fits (unblank bs))
      (λ k hk. let fk : Fair k.rest = rw hk.1 (span-fair is_upper (unblank bs) (unblank-fair bs h)).1 in
      holds-bind (ArgumentFits k.value.takes (length k.rest)) Later (read_argument k.value.takes k.rest) _ (argument_fits k.value.takes k.rest fk)
      (λ a ha. holds-bind (λ (o : Part Op). OpFits (length (unblank a.rest)) o × (allows k.value.allowed o.value ≡ true)) Later (read_op k.value.allowed (unblank a.rest)) _ (op_fits k.value.allowed (unblank a.rest) (unblank-fair a.rest ha.3))
      (λ o ho. holds-bind (Fits (length (unblank o.rest))) Later (read_value (unblank o.rest)) _ (value_fits (unblank o.rest) (unblank-fair o.rest ho.0.1))
      (λ v hv. require-then Later (sound k.value.key o.value v.value) content_bad _
      (λ e s. record {
        writable = record {
          row = k.value;
          named = hk.0.named;
          key_is = refl;
          argument = ha.0;
          argument_fair = ha.2;
          allowed = ho.1;
          value_clean = s.value;
          short = s.short;
          content = e;
        };
        size =
            let n : length (name_of k.value.key) ≡ length (span is_upper (unblank bs)).value = ap length (hk.0.named.by_key ∙ hk.0.name-is) in
            let m : length k.rest ≡ length (span is_upper (unblank bs)).rest = ap length hk.1 in
            omega (arith, text-length (record { key = k.value.key; argument = a.value; op = o.value; value = v.value }), n, m, span-size is_upper (unblank bs), unblank-size bs, ha.1, unblank-size a.rest, ho.0.0, unblank-size o.rest, hv.0, unblank-size v.rest);
        fair-rest = unblank-fair v.rest hv.1;
      })))))

-- the part that is not about content comes from how the parts are read
pub pair_fits : (bs : List ℕ) → Fair bs → Holds (PairFits (length bs)) (read_pair bs)
pair_fits bs h = both (read_pair bs) (pair_ok bs (fair-clean bs h)) (parts bs h)
  where
    both : (c : Checked Refusal (Part Pair)) → Holds PairOk c → Holds (λ (p : Part Pair). SoundPair p.value → PairFits (length bs) p) c → Holds (PairFits (length bs)) c
    both (refused f) g k = tt
    both (ok p) g k = k g.0
