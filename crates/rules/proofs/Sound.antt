-- What reading ensures of a rule: no NUL, and sizes and content as each key asks.
-- Assumes nothing.
use Prim.Native.Nat.{ℕ, zero, suc, ◌+◌, ◌-◌, ◌*◌, ◌≤◌, ◌<◌}
use mathlib.Core.Path.{◌≡◌, refl, sym, ap, ap₂, ◌∙◌, subst}
use mathlib.Core.Bool.{Bool, true, false, not, ◌&&◌, ◌||◌, true≢false}
use mathlib.Core.List.{List, [], ◌∷◌}
use Rattle.std.specs.Prelude.{Option, None, Some}
use native.Mathlib.Omega.{arith}
use lib.ListN.{length, get_or, drop}
use lib.Dec.{leb, ltb, eqb}
use lib.IntN.{ℤ, pos, negsuc}
use borrow.Author.Tests.{leb-true, not-true}
use Rattle.lists.specs.Lists.{pick, All}
use Rattle.lists.specs.Bytes.{is_digit, is_upper, is_blank, between, same_bytes, holds, starts, clean, ok_text}
use Rattle.lists.specs.Runs.{Part, span}
use Rattle.lists.specs.Items.{Item, is_in_braces, close_brace, in_braces}
use Rattle.lists.specs.Refusal.{Refusal, line_bad, key_bad, argument_bad, operator_bad, value_bad, content_bad, pair_extra, comma_missing}
use Rattle.lists.specs.Checked.{Checked, refused, ok, ◌>>=◌, ◌>>◌, require, found, Holds}
use Rattle.lists.specs.Sizes.{most_key, most_tag, most_value, most_pairs, most_line}
use Rattle.lists.specs.Quoted.{bytes}
use Rattle.lists.proofs.Tests.{and_both, both_and}
use Rattle.lists.proofs.Lists.{pick_both}
use Rattle.lists.proofs.Bytes.{CleanPart, span-clean, drop-clean, holds-clean}
use Rattle.lists.proofs.Checked.{holds-bind}
use Rattle.template.specs.Template.{well_formed}
use Rattle.rules.specs.Key.{Key, ACTION, DEVPATH, KERNEL, KERNELS, SUBSYSTEM, SUBSYSTEMS, DRIVER, DRIVERS, ATTR, ATTRS, ENV, SYMLINK, TAG, OWNER, GROUP, MODE, RUN, LABEL, GOTO, OPTIONS, PROGRAM, RESULT, same_key}
use Rattle.rules.specs.Key.{Op, equal, unequal, assign, add, remove, final, is_match}
use Rattle.rules.specs.Key.{Takes, takes_none, takes_one, takes_type, Row, rows, row_in, row_of, allows}
use Rattle.rules.specs.Pair.{Pair, Rule}
use Rattle.rules.specs.Setting.{Setting, escape_none, escape_replace, priority, minus, with_sign, digits_from, integer_of, priority_of, priority_name, setting_of, watched, unwatched}
use Rattle.rules.specs.Coded.{Escape, escapes, escape_in, hex_digit, hex_byte, taking, escaped, coded_byte, put, coded_then, coded_step, coded}
use Rattle.rules.specs.Reading as R
use Rattle.text.specs.Engine as T
use Rattle.rules.specs.Reading.{unblank, read_key, absent, is_type, present, argument_by, read_argument, if_equals, op_of, read_op}
use Rattle.rules.specs.Reading.{quoted_step, quoted, starts_mark, unescape_step, unescape, read_plain, read_coded, starts_coded, value_by, read_value}
use Rattle.rules.specs.Reading.{sound_assigned, sound_by, sound, read_pair, again, comma_then, others, read_pairs, rule_read, comment_or, read_unblank, read_sized, read_line}

-- ---- what reading ensures of a pair

abbrev pub SoundFor : Key → Pair → Type 0
SoundFor ACTION p = Unit {0}
SoundFor DEVPATH p = Unit {0}
SoundFor KERNEL p = Unit {0}
SoundFor KERNELS p = Unit {0}
SoundFor SUBSYSTEM p = Unit {0}
SoundFor SUBSYSTEMS p = Unit {0}
SoundFor DRIVER p = Unit {0}
SoundFor DRIVERS p = Unit {0}
SoundFor ATTR p = Unit {0}
SoundFor ATTRS p = Unit {0}
SoundFor ENV p = ok_text most_key p.argument ≡ true
SoundFor SYMLINK p = Unit {0}
SoundFor TAG p = length p.value ≤ most_tag
SoundFor OWNER p = Unit {0}
SoundFor GROUP p = Unit {0}
SoundFor MODE p = Unit {0}
SoundFor RUN p = well_formed p.value ≡ true
SoundFor LABEL p = Unit {0}
SoundFor GOTO p = Unit {0}
SoundFor OPTIONS p = Unit {0}
SoundFor PROGRAM p = Unit {0}
SoundFor RESULT p = Unit {0}

pub record SoundPair (p : Pair) : Type 0 where
  pub value : clean p.value ≡ true
  pub short : length p.value ≤ most_value
  pub content : is_match p.op ≡ false → SoundFor p.key p
  -- document 02, Item 6: with every operator
  pub program : same_key p.key PROGRAM ≡ true → well_formed p.value ≡ true

abbrev pub SoundRule : Rule → Type 0
SoundRule [] = Unit {0}
SoundRule (p ∷ ps) = SoundPair p × SoundRule ps

-- ---- what holds of a value, if there is one

abbrev pub InSome : {A : Type 0} → (A → Type 0) → Option A → Type 0
InSome P None = Unit {0}
InSome P (Some a) = P a

pub pick_some : {A : Type 0} (P : A → Type 0) (t : Bool) (a b : Option A) → InSome P a → InSome P b → InSome P (pick t a b)
pick_some P t a b h k = pick_both (InSome P) t a b h k

pub found_some : {A : Type 0} (P : A → Type 0) (o : Option A) (f : Refusal) → InSome P o → Holds P (found o f)
found_some P None f h = tt
found_some P (Some a) f h = h

pub require-then : {B : Type 0} (Q : B → Type 0) (t : Bool) (f : Refusal) (c : Checked Refusal B) → (t ≡ true → Holds Q c) → Holds Q (require t f >> c)
require-then Q true f c g = g refl
require-then Q false f c g = tt

-- ---- priorities

-- an integer of 32 bits with a sign
abbrev pub In32 : ℤ → Type 0
In32 (pos n) = n < 2147483648
In32 (negsuc n) = n < 2147483648

abbrev pub Range : Option Setting → Type 0
Range None = Unit {0}
Range (Some escape_none) = Unit {0}
Range (Some escape_replace) = Unit {0}
Range (Some watched) = Unit {0}
Range (Some unwatched) = Unit {0}
Range (Some (priority z)) = In32 z

minus_range : (m : ℕ) → m ≤ 2147483648 → In32 (minus m)
minus_range zero h = omega arith
minus_range (suc n) h = omega arith

sign_range : (negative : Bool) (m : ℕ) → InSome In32 (with_sign negative m)
sign_range true m = at (leb m 2147483648) refl
  where
    at : (t : Bool) → leb m 2147483648 ≡ t → InSome In32 (pick t (Some (minus m)) None)
    at true e = minus_range m (leb-true m 2147483648 e)
    at false e = tt
sign_range false m = at (leb m 2147483647) refl
  where
    at : (t : Bool) → leb m 2147483647 ≡ t → InSome In32 (pick t (Some (pos m)) None)
    at true e = let h = leb-true m 2147483647 e in omega arith
    at false e = tt

digits_range : (bs : List ℕ) (n m : ℕ) (negative : Bool) → InSome In32 (digits_from bs n m negative)
unfolding digits_from
digits_range [] n m negative = pick_some In32 (eqb n 0) None (with_sign negative m) tt (sign_range negative m)
digits_range (b ∷ bs) n m negative =
    pick_some In32 (is_digit b && ltb n 10) (digits_from bs (n + 1) (m * 10 + (b - 48)) negative) None
    (digits_range bs (n + 1) (m * 10 + (b - 48)) negative) tt

integer_range : (bs : List ℕ) → InSome In32 (integer_of bs)
unfolding integer_of
integer_range bs =
    pick_some In32 (eqb (get_or bs 0 0) 45) (digits_from (drop 1 bs) 0 0 true) (digits_from bs 0 0 false)
    (digits_range (drop 1 bs) 0 0 true) (digits_range bs 0 0 false)

priority_range : (o : Option ℤ) → InSome In32 o → Range (priority_of o)
priority_range None h = tt
priority_range (Some z) h = h

pick_range : (t : Bool) (a b : Option Setting) → Range a → Range b → Range (pick t a b)
pick_range true a b h k = h
pick_range false a b h k = k

pub setting_range : (v : List ℕ) → Range (setting_of v)
unfolding setting_of
setting_range v =
    pick_range (same_bytes v (bytes "string_escape=none")) (Some escape_none) _ tt
    (pick_range (same_bytes v (bytes "string_escape=replace")) (Some escape_replace) _ tt
    (pick_range (same_bytes v (bytes "watch")) (Some watched) _ tt
    (pick_range (same_bytes v (bytes "nowatch")) (Some unwatched) _ tt
    (pick_range (starts priority_name v) (priority_of (integer_of (drop (length priority_name) v))) None
    (priority_range (integer_of (drop (length priority_name) v)) (integer_range (drop (length priority_name) v))) tt))))

-- ---- parts of a line without NUL

unblank-clean : (bs : List ℕ) → clean bs ≡ true → clean (unblank bs) ≡ true
unblank-clean bs h = (span-clean is_blank bs h).1

-- ---- the key

abbrev RowOk : Key → Takes → Type 0
RowOk ACTION t = Unit {0}
RowOk DEVPATH t = Unit {0}
RowOk KERNEL t = Unit {0}
RowOk KERNELS t = Unit {0}
RowOk SUBSYSTEM t = Unit {0}
RowOk SUBSYSTEMS t = Unit {0}
RowOk DRIVER t = Unit {0}
RowOk DRIVERS t = Unit {0}
RowOk ATTR t = Unit {0}
RowOk ATTRS t = Unit {0}
RowOk ENV t = t ≡ takes_one
RowOk SYMLINK t = Unit {0}
RowOk TAG t = Unit {0}
RowOk OWNER t = Unit {0}
RowOk GROUP t = Unit {0}
RowOk MODE t = Unit {0}
RowOk RUN t = Unit {0}
RowOk LABEL t = Unit {0}
RowOk GOTO t = Unit {0}
RowOk OPTIONS t = Unit {0}
RowOk PROGRAM t = Unit {0}
RowOk RESULT t = Unit {0}

abbrev RowsOk : List Row → Type 0
RowsOk [] = Unit {0}
RowsOk (r ∷ rs) = RowOk r.key r.takes × RowsOk rs

row_in-ok : (rs : List Row) → RowsOk rs → (n : List ℕ) → InSome (λ (r : Row). RowOk r.key r.takes) (row_in rs n)
unfolding row_in
row_in-ok [] h n = tt
row_in-ok (r ∷ rs) (h, k) n = pick_some (λ (r : Row). RowOk r.key r.takes) (same_bytes r.name n) (Some r) (row_in rs n) h (row_in-ok rs k n)

rows_ok : RowsOk rows
unfolding rows
rows_ok = (tt, (tt, (tt, (tt, (tt, (tt, (tt, (tt, (tt, (tt, (refl, (tt, (tt, (tt, (tt, (tt, (tt, (tt, (tt, (tt, (tt, (tt, tt))))))))))))))))))))))

abbrev KeyOk : Part Row → Type 0
KeyOk k = RowOk k.value.key k.value.takes × (clean k.rest ≡ true)

key_ok : (bs : List ℕ) → clean bs ≡ true → Holds KeyOk (read_key bs)
unfolding read_key row_of
key_ok bs h =
    holds-bind (λ (r : Row). RowOk r.key r.takes) KeyOk (found (row_of (span is_upper bs).value) key_bad) _
    (found_some (λ (r : Row). RowOk r.key r.takes) (row_of (span is_upper bs).value) key_bad (row_in-ok rows rows_ok (span is_upper bs).value))
    (λ r o. (o, (span-clean is_upper bs h).1))

-- ---- the argument

abbrev ArgFor : Takes → List ℕ → Type 0
ArgFor takes_none v = Unit {0}
ArgFor takes_one v = ok_text most_key v ≡ true
ArgFor takes_type v = Unit {0}

abbrev ArgOk : Takes → Part (List ℕ) → Type 0
ArgOk t a = ArgFor t a.value × (clean a.rest ≡ true)

abbrev Braced : Part (List ℕ) → Type 0
Braced a = (ok_text most_key a.value ≡ true) × (clean a.rest ≡ true)

close-ok : (inside rest : List ℕ) → clean inside ≡ true → clean rest ≡ true → InSome Braced (close_brace inside rest)
close-ok inside [] h k = tt
close-ok inside (b ∷ rest) h k = at (between 1 most_key (length inside)) refl
  where
    at : (t : Bool) → between 1 most_key (length inside) ≡ t → InSome Braced (pick t (Some (record { value = inside; rest = rest })) None)
    at true e =
        let (p, q) = and_both (leb 1 (length inside)) (leb (length inside) most_key) e in
        (both_and (leb 1 (length inside)) _ p (both_and (leb (length inside) most_key) (clean inside) q h), (and_both (not (eqb b 0)) (clean rest) k).1)
    at false e = tt

braces_ok : (bs : List ℕ) → clean bs ≡ true → InSome Braced (in_braces bs)
unfolding in_braces
braces_ok bs h = let (p, q) = span-clean is_in_braces bs h in close-ok (span is_in_braces bs).value (span is_in_braces bs).rest p q

absent-ok : (t : Takes) (bs : List ℕ) → clean bs ≡ true → Holds (ArgOk t) (absent t bs)
absent-ok takes_none bs h = (tt, h)
absent-ok takes_one bs h = tt
absent-ok takes_type bs h = (tt, h)

present-ok : (t : Takes) (bs : List ℕ) → clean bs ≡ true → Holds (ArgOk t) (present t bs)
present-ok takes_none bs h = tt
present-ok takes_one bs h = found_some Braced (in_braces bs) argument_bad (braces_ok bs h)
present-ok takes_type bs h =
    holds-bind Braced (ArgOk takes_type) (found (in_braces bs) argument_bad) _ (found_some Braced (in_braces bs) argument_bad (braces_ok bs h))
    (λ a k. require-then (ArgOk takes_type) (is_type a.value) argument_bad (ok a) (λ _. (tt, k.1)))

argument_by-ok : (u : Bool) (t : Takes) (b : ℕ) (bs : List ℕ) → clean (b ∷ bs) ≡ true → Holds (ArgOk t) (argument_by u t b bs)
argument_by-ok true t b bs h = present-ok t bs (and_both (not (eqb b 0)) (clean bs) h).1
argument_by-ok false t b bs h = absent-ok t (b ∷ bs) h

argument_ok : (t : Takes) (bs : List ℕ) → clean bs ≡ true → Holds (ArgOk t) (read_argument t bs)
unfolding read_argument
argument_ok t [] h = absent-ok t [] h
argument_ok t (b ∷ bs) h = argument_by-ok (eqb b 123) t b bs h

-- ---- the operator

abbrev CleanRest : Part Op → Type 0
CleanRest o = clean o.rest ≡ true

if_equals-ok : (c : ℕ) (o : Op) (rest : List ℕ) → clean rest ≡ true → InSome CleanRest (if_equals c o rest)
if_equals-ok c o rest h = pick_some CleanRest (eqb c 61) (Some (record { value = o; rest = rest })) None h tt

op_of-ok : (b c : ℕ) (after after2 : List ℕ) → clean after ≡ true → clean after2 ≡ true → InSome CleanRest (op_of b c after after2)
op_of-ok b c after after2 h k =
    pick_some CleanRest (eqb b 61) (pick (eqb c 61) (Some (record { value = equal; rest = after2 })) (Some (record { value = assign; rest = after }))) _
    (pick_some CleanRest (eqb c 61) (Some (record { value = equal; rest = after2 })) (Some (record { value = assign; rest = after })) k h)
    (pick_some CleanRest (eqb b 33) (if_equals c unequal after2) _ (if_equals-ok c unequal after2 k)
    (pick_some CleanRest (eqb b 43) (if_equals c add after2) _ (if_equals-ok c add after2 k)
    (pick_some CleanRest (eqb b 45) (if_equals c remove after2) _ (if_equals-ok c remove after2 k)
    (pick_some CleanRest (eqb b 58) (if_equals c final after2) None (if_equals-ok c final after2 k) tt))))

op_ok : (allowed : List Op) (bs : List ℕ) → clean bs ≡ true → Holds CleanRest (read_op allowed bs)
unfolding read_op
op_ok allowed bs h =
    holds-bind CleanRest CleanRest (found (op_of (get_or bs 0 0) (get_or bs 1 0) (drop 1 bs) (drop 2 bs)) operator_bad) _
    (found_some CleanRest (op_of (get_or bs 0 0) (get_or bs 1 0) (drop 1 bs) (drop 2 bs)) operator_bad
    (op_of-ok (get_or bs 0 0) (get_or bs 1 0) (drop 1 bs) (drop 2 bs) (drop-clean 1 bs h) (drop-clean 2 bs h)))
    (λ o k. require-then CleanRest (allows allowed o.value) operator_bad (ok o) (λ _. k))

-- ---- the value

quoted_step-ok : (t : Bool) (b : ℕ) (bs : List ℕ) (o : Option (Part (List ℕ))) → clean (b ∷ bs) ≡ true → InSome CleanPart o → InSome CleanPart (quoted_step t b bs o)
quoted_step-ok true b bs o h k = (refl, (and_both (not (eqb b 0)) (clean bs) h).1)
quoted_step-ok false b bs None h k = tt
quoted_step-ok false b bs (Some p) h (k, l) = (both_and (not (eqb b 0)) (clean p.value) (and_both (not (eqb b 0)) (clean bs) h).0 k, l)

quoted-ok : (escaped : Bool) (bs : List ℕ) → clean bs ≡ true → InSome CleanPart (quoted escaped bs)
unfolding quoted
quoted-ok escaped [] h = tt
quoted-ok escaped (b ∷ bs) h =
    quoted_step-ok (eqb b 34 && not escaped) b bs (quoted (eqb b 92) bs) h (quoted-ok (eqb b 92) bs (and_both (not (eqb b 0)) (clean bs) h).1)

unescape_step-clean : (t : Bool) (b : ℕ) (bs : List ℕ) → not (eqb b 0) ≡ true → clean bs ≡ true → clean (unescape_step t b bs) ≡ true
unescape_step-clean true b bs h k = k
unescape_step-clean false b bs h k = both_and (not (eqb b 0)) (clean bs) h k

unescape-clean : (bs : List ℕ) → clean bs ≡ true → clean (unescape bs) ≡ true
unfolding unescape
unescape-clean [] h = refl
unescape-clean (b ∷ bs) h =
    let (p, q) = and_both (not (eqb b 0)) (clean bs) h in
    unescape_step-clean (eqb b 92 && starts_mark bs) b (unescape bs) p (unescape-clean bs q)

abbrev ValueOk : Part (List ℕ) → Type 0
ValueOk v = (clean v.value ≡ true) × ((length v.value ≤ most_value) × (clean v.rest ≡ true))

plain_ok : (bs : List ℕ) → clean bs ≡ true → Holds ValueOk (read_plain bs)
unfolding read_plain
plain_ok bs h =
    require-then ValueOk (starts_mark bs) value_bad _
    (λ _. holds-bind CleanPart ValueOk (found (quoted false (drop 1 bs)) value_bad) _
    (found_some CleanPart (quoted false (drop 1 bs)) value_bad (quoted-ok false (drop 1 bs) (drop-clean 1 bs h)))
    (λ w k. require-then ValueOk (leb (length (unescape w.value)) most_value) value_bad _
    (λ e. (unescape-clean w.value k.0, (leb-true (length (unescape w.value)) most_value e, k.1)))))

-- a byte that is not NUL
abbrev NotNul : ℕ → Type 0
NotNul b = not (eqb b 0) ≡ true

escape_in-clean : (es : List Escape) → All (λ (e : Escape). NotNul e.byte) es → (c : ℕ) → InSome NotNul (escape_in es c)
unfolding escape_in
escape_in-clean [] h c = tt
escape_in-clean (e ∷ es) (h, hs) c = pick_some NotNul (eqb e.letter c) (Some e.byte) (escape_in es c) h (escape_in-clean es hs c)

escapes-clean : All (λ (e : Escape). NotNul e.byte) escapes
unfolding escapes
escapes-clean = (refl, (refl, (refl, (refl, (refl, (refl, (refl, (refl, (refl, (refl, tt))))))))))

hex-clean : (h l : Option ℕ) → InSome NotNul (hex_byte h l)
hex-clean None l = tt
hex-clean (Some h) None = tt
hex-clean (Some h) (Some l) = at (eqb (h * 16 + l) 0) refl
  where
    at : (t : Bool) → eqb (h * 16 + l) 0 ≡ t → InSome NotNul (pick t None (Some (h * 16 + l)))
    at true e = tt
    at false e = rw e

taking-clean : (n : ℕ) (o : Option ℕ) → InSome NotNul o → InSome (λ (i : Item ℕ). NotNul i.value) (taking n o)
taking-clean n None h = tt
taking-clean n (Some b) h = h

coded_byte-clean : (b : ℕ) (bs : List ℕ) → NotNul b → InSome (λ (i : Item ℕ). NotNul i.value) (coded_byte b bs)
coded_byte-clean b bs h =
    pick_some (λ (i : Item ℕ). NotNul i.value) (eqb b 92) (escaped bs) (Some (record { value = b; more = 0 }))
    (pick_some (λ (i : Item ℕ). NotNul i.value) (eqb (get_or bs 0 0) 120) _ _
    (taking-clean 3 (hex_byte (hex_digit (get_or bs 1 0)) (hex_digit (get_or bs 2 0))) (hex-clean (hex_digit (get_or bs 1 0)) (hex_digit (get_or bs 2 0))))
    (taking-clean 1 (escape_in escapes (get_or bs 0 0)) (escape_in-clean escapes escapes-clean (get_or bs 0 0)))) h

put-clean : (b : ℕ) (o : Option (Part (List ℕ))) → NotNul b → InSome CleanPart o → InSome CleanPart (put b o)
put-clean b None h k = tt
put-clean b (Some p) h (k, l) = (both_and (not (eqb b 0)) (clean p.value) h k, l)

coded-clean : (k : ℕ) (bs : List ℕ) → clean bs ≡ true → InSome CleanPart (coded k bs)
unfolding coded
coded-clean k [] h = tt
coded-clean (suc k) (b ∷ bs) h = coded-clean k bs (and_both (not (eqb b 0)) (clean bs) h).1
coded-clean zero (b ∷ bs) h = at (eqb b 34) (and_both (not (eqb b 0)) (clean bs) h) (λ m c. coded-clean m bs c)
  where
    on : (o : Option (Item ℕ)) → InSome (λ (i : Item ℕ). NotNul i.value) o → ((m : ℕ) → InSome CleanPart (coded m bs)) → InSome CleanPart (coded_then o (λ more. coded more bs))
    on None g f = tt
    on (Some i) g f = put-clean i.value (coded i.more bs) g (f i.more)

    at : (t : Bool) → (not (eqb b 0) ≡ true) × (clean bs ≡ true) → ((m : ℕ) → clean bs ≡ true → InSome CleanPart (coded m bs)) → InSome CleanPart (coded_step t b bs (λ more. coded more bs))
    at true (p, q) f = (refl, q)
    at false (p, q) f = on (coded_byte b bs) (coded_byte-clean b bs p) (λ m. f m q)

coded-ok : (bs : List ℕ) → clean bs ≡ true → Holds ValueOk (read_coded bs)
unfolding read_coded
coded-ok bs h =
    holds-bind CleanPart ValueOk (found (coded 0 bs) value_bad) _ (found_some CleanPart (coded 0 bs) value_bad (coded-clean 0 bs h))
    (λ v k. require-then ValueOk (leb (length v.value) most_value) value_bad _ (λ e. (k.0, (leb-true (length v.value) most_value e, k.1))))

value_ok : (bs : List ℕ) → clean bs ≡ true → Holds ValueOk (read_value bs)
unfolding read_value
value_ok bs h = at (starts_coded bs)
  where
    at : (t : Bool) → Holds ValueOk (value_by t bs)
    at true = coded-ok (drop 2 bs) (drop-clean 2 bs h)
    at false = plain_ok bs h

-- ---- a pair

content_ok : (k : Key) (o : Op) (v a : List ℕ) (t : Takes) → RowOk k t → ArgFor t a → sound k o v ≡ true → is_match o ≡ false
    → SoundFor k (record { key = k; argument = a; op = o; value = v })
unfolding sound
content_ok k o v a t r g h e = by k r (subst (λ (b : Bool). sound_by b k v ≡ true) (ap (λ (b : Bool). b && not (same_key k PROGRAM)) e) h)
  where
    by : (k' : Key) → RowOk k' t → sound_assigned k' v ≡ true → SoundFor k' (record { key = k; argument = a; op = o; value = v })
    by ACTION r h = tt
    by DEVPATH r h = tt
    by KERNEL r h = tt
    by KERNELS r h = tt
    by SUBSYSTEM r h = tt
    by SUBSYSTEMS r h = tt
    by DRIVER r h = tt
    by DRIVERS r h = tt
    by ATTR r h = tt
    by ATTRS r h = tt
    by ENV r h = subst (λ (u : Takes). ArgFor u a) r g
    by SYMLINK r h = tt
    by TAG r h = leb-true (length v) most_tag h
    by OWNER r h = tt
    by GROUP r h = tt
    by MODE r h = tt
    by RUN r h = h
    by LABEL r h = tt
    by GOTO r h = tt
    by OPTIONS r h = tt
    by PROGRAM r h = tt
    by RESULT r h = tt

program_ok : (k : Key) (o : Op) (v : List ℕ) → sound k o v ≡ true → same_key k PROGRAM ≡ true → well_formed v ≡ true
unfolding sound
program_ok k o v h q = by k q (subst (λ (b : Bool). sound_by b k v ≡ true) (ap (λ (b : Bool). is_match o && not b) q ∙ no_match (is_match o)) h)
  where
    no_match : (b : Bool) → (b && not true) ≡ false
    no_match true = refl
    no_match false = refl

    by : (k : Key) → same_key k PROGRAM ≡ true → sound_assigned k v ≡ true → well_formed v ≡ true
    by ACTION q h = absurd (true≢false (sym q))
    by DEVPATH q h = absurd (true≢false (sym q))
    by KERNEL q h = absurd (true≢false (sym q))
    by KERNELS q h = absurd (true≢false (sym q))
    by SUBSYSTEM q h = absurd (true≢false (sym q))
    by SUBSYSTEMS q h = absurd (true≢false (sym q))
    by DRIVER q h = absurd (true≢false (sym q))
    by DRIVERS q h = absurd (true≢false (sym q))
    by ATTR q h = absurd (true≢false (sym q))
    by ATTRS q h = absurd (true≢false (sym q))
    by ENV q h = absurd (true≢false (sym q))
    by SYMLINK q h = absurd (true≢false (sym q))
    by TAG q h = absurd (true≢false (sym q))
    by OWNER q h = absurd (true≢false (sym q))
    by GROUP q h = absurd (true≢false (sym q))
    by MODE q h = absurd (true≢false (sym q))
    by RUN q h = absurd (true≢false (sym q))
    by LABEL q h = absurd (true≢false (sym q))
    by GOTO q h = absurd (true≢false (sym q))
    by OPTIONS q h = absurd (true≢false (sym q))
    by RESULT q h = absurd (true≢false (sym q))
    by PROGRAM q h = h

abbrev pub PairOk : Part Pair → Type 0
PairOk p = SoundPair p.value × (clean p.rest ≡ true)

pub pair_ok : (bs : List ℕ) → clean bs ≡ true → Holds PairOk (read_pair bs)
unfolding read_pair
pair_ok bs h =
    holds-bind KeyOk PairOk (read_key (unblank bs)) _ (key_ok (unblank bs) (unblank-clean bs h))
    (λ k hk. holds-bind (ArgOk k.value.takes) PairOk (read_argument k.value.takes k.rest) _ (argument_ok k.value.takes k.rest hk.1)
    (λ a ha. holds-bind CleanRest PairOk (read_op k.value.allowed (unblank a.rest)) _ (op_ok k.value.allowed (unblank a.rest) (unblank-clean a.rest ha.1))
    (λ o ho. holds-bind ValueOk PairOk (read_value (unblank o.rest)) _ (value_ok (unblank o.rest) (unblank-clean o.rest ho))
    (λ v hv. require-then PairOk (sound k.value.key o.value v.value) content_bad _
    (λ e. (
      record {
        value = hv.0;
        short = hv.1.0;
        content = λ m. content_ok k.value.key o.value v.value a.value k.value.takes hk.0 ha.0 e m;
        program = λ q. program_ok k.value.key o.value v.value e q;
      },
      unblank-clean v.rest hv.1.1,
    ))))))

-- ---- the pairs of a line

comma_ok : (t : Bool) (bs : List ℕ) (k : List ℕ → Checked Refusal (List Pair)) → Holds SoundRule (k bs) → Holds SoundRule (comma_then t bs k)
comma_ok true bs k h = h
comma_ok false bs k h = tt

others-ok : (bs : List ℕ) (k : List ℕ → Checked Refusal (List Pair)) → clean bs ≡ true → ((rest : List ℕ) → clean rest ≡ true → Holds SoundRule (k rest)) → Holds SoundRule (others bs k)
others-ok [] k h g = tt
others-ok (b ∷ bs) k h g = comma_ok (eqb b 44) bs k (g bs (and_both (not (eqb b 0)) (clean bs) h).1)

pairs-ok : (n : ℕ) (label goto : Bool) (bs : List ℕ) → clean bs ≡ true → Holds SoundRule (read_pairs n label goto bs)
unfolding read_pairs
pairs-ok zero label goto bs h = holds-bind PairOk SoundRule (read_pair bs) _ (pair_ok bs h) (λ p hp. tt)
pairs-ok (suc n) label goto bs h =
    holds-bind PairOk SoundRule (read_pair bs) _ (pair_ok bs h)
    (λ p hp. require-then SoundRule (not (again p.value.key label goto)) pair_extra _
    (λ _. holds-bind SoundRule SoundRule (others p.rest (λ rest. read_pairs n (label || same_key p.value.key LABEL) (goto || same_key p.value.key GOTO) rest)) _
    (others-ok p.rest (λ rest. read_pairs n (label || same_key p.value.key LABEL) (goto || same_key p.value.key GOTO) rest) hp.1
    (λ rest hr. pairs-ok n (label || same_key p.value.key LABEL) (goto || same_key p.value.key GOTO) rest hr))
    (λ ps hps. (hp.0, hps))))

-- ---- a line

abbrev pub Sound : T.LineRead Rule → Type 0
Sound T.skip = Unit {0}
Sound (T.fault f) = Unit {0}
Sound (T.rule r) = SoundRule r

read_sound : (c : Checked Refusal (List Pair)) → Holds SoundRule c → Sound (rule_read c)
read_sound (refused f) h = tt
read_sound (ok ps) h = h

comment-sound : (t : Bool) (bs : List ℕ) → clean bs ≡ true → Sound (comment_or t bs)
comment-sound true bs h = tt
comment-sound false bs h = read_sound (read_pairs most_pairs false false bs) (pairs-ok most_pairs false false bs h)

unblank-sound : (bs : List ℕ) → clean bs ≡ true → Sound (read_unblank bs)
unblank-sound [] h = tt
unblank-sound (b ∷ bs) h = comment-sound (eqb b 35) (b ∷ bs) h

sized-sound : (t : Bool) (l : List ℕ) → (t ≡ true → clean l ≡ true) → Sound (read_sized t l)
sized-sound true l h = unblank-sound (unblank l) (unblank-clean l (h refl))
sized-sound false l h = tt

pub line-sound : (l : List ℕ) → Sound (read_line l)
unfolding read_line
line-sound l =
    sized-sound (leb (length l) most_line && not (holds 0 l)) l
    (λ e. holds-clean l (not-true (holds 0 l) (and_both (leb (length l) most_line) (not (holds 0 l)) e).1))

pub rule-sound : (l : List ℕ) (r : Rule) → read_line l ≡ T.rule r → SoundRule r
rule-sound l r e = subst Sound e (line-sound l)
