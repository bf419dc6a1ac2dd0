-- A value as it is written reads back, and is not longer than it was.
-- Assumes nothing.
use Prim.Native.Nat.{ℕ, zero, suc, ◌+◌, ◌≤◌}
use mathlib.Core.Path.{◌≡◌, refl, sym, ap, ◌∙◌, subst}
use mathlib.Core.Bool.{Bool, true, false, not, ◌&&◌, ◌||◌}
use mathlib.Core.List.{List, [], ◌∷◌, ◌++◌, append_assoc}
use Rattle.std.specs.Prelude.{Option, None, Some}
use Rattle.std.proofs.lemmas.Option.{none-some, same_Some}
use native.Mathlib.Omega.{arith}
use lib.Dec.{eqb, leb}
use lib.ListN.{length, get_or, drop, length-append}
use borrow.Author.Tests.{le-leb, eqb-true, not-true}
use Rattle.lists.specs.Lists.{pick, all, cat}
use Rattle.lists.specs.Bytes.{holds}
use Rattle.lists.specs.Runs.{Part}
use Rattle.lists.specs.Items.{Item}
use Rattle.lists.specs.Checked.{ok, found, Holds}
use Rattle.lists.specs.Refusal.{Refusal, value_bad}
use Rattle.lists.specs.Sizes.{most_value}
use Rattle.lists.proofs.Checked.{holds-bind}
use Rattle.lists.proofs.Lists.{all_split}
use Rattle.lists.proofs.Tests.{and_both, both_and, neither}
use Rattle.rules.specs.Coded.{escapes, escape_in, hex_digit, hex_byte, taking, escaped, coded_byte, put, coded_then, coded_step, coded}
use Rattle.rules.specs.Reading.{quoted_step, quoted, starts_mark, unescape_step, unescape, read_plain, read_coded, starts_coded, value_by, read_value}
use Rattle.rules.proofs.Sound.{InSome, pick_some, found_some, require-then}
use Rattle.rules.proofs.Escapes.{escape_step, escape, escape-back}
use Rattle.writing.specs.Writing.{ends_in_slash, needs_code, plain_byte, code_byte, value_as, value_text}

-- a byte that may stand in a line: no NUL, no newline
abbrev pub fair : ℕ → Bool
fair b = not (eqb b 0) && not (eqb b 10)

abbrev pub Fair : List ℕ → Type 0
Fair bs = all fair bs ≡ true

-- ---- the plain form

abbrev plain : List ℕ → List ℕ
plain v = cat plain_byte v

plain-escape : (v : List ℕ) → plain v ≡ escape v
unfolding escape
plain-escape [] = refl
plain-escape (b ∷ v) = at (eqb b 34) (plain-escape v)
  where
    at : (t : Bool) → plain v ≡ escape v → pick t (92 ∷ b ∷ []) (b ∷ []) ++ plain v ≡ escape_step t b (escape v)
    at true h = ap (λ (l : List ℕ). 92 ∷ b ∷ l) h
    at false h = ap (λ (l : List ℕ). b ∷ l) h

-- it is closed by the mark behind it
plain_closed : (e : Bool) (v rest : List ℕ) → (v ≡ [] → e ≡ false) → ends_in_slash v ≡ false
    → quoted e (plain v ++ (34 ∷ rest)) ≡ Some (record { value = plain v; rest = rest })
unfolding quoted ends_in_slash
plain_closed e [] rest f h = rw (f refl)
plain_closed e (b ∷ v) rest f h = at (eqb b 34) refl (λ x k. plain_closed x v rest k (tail v h))
  where
    tail : (w : List ℕ) → ends_in_slash (b ∷ w) ≡ false → ends_in_slash w ≡ false
    tail [] k = refl
    tail (c ∷ w) k = k

    last : (w : List ℕ) → ends_in_slash (b ∷ w) ≡ false → w ≡ [] → eqb b 92 ≡ false
    last [] k q = k
    last (c ∷ w) k q = absurd (omega (arith, ap length q))

    at : (t : Bool) → eqb b 34 ≡ t → ((x : Bool) → (v ≡ [] → x ≡ false) → quoted x (plain v ++ (34 ∷ rest)) ≡ Some (record { value = plain v; rest = rest }))
        → quoted e ((pick t (92 ∷ b ∷ []) (b ∷ []) ++ plain v) ++ (34 ∷ rest)) ≡ Some (record { value = pick t (92 ∷ b ∷ []) (b ∷ []) ++ plain v; rest = rest })
    at true q ih = let m : b ≡ 34 = eqb-true b 34 q in rw (m, ih false (λ _. refl))
    at false q ih = rw (q, ih (eqb b 92) (λ k. last v h k))

plain-starts : (v : List ℕ) → starts_mark (plain v) ≡ false
plain-starts [] = refl
plain-starts (b ∷ v) = at (eqb b 34) refl
  where
    at : (t : Bool) → eqb b 34 ≡ t → starts_mark (pick t (92 ∷ b ∷ []) (b ∷ []) ++ plain v) ≡ false
    at true q = refl
    at false q = q

plain_back : (v : List ℕ) → unescape (plain v) ≡ v
unfolding unescape
plain_back [] = refl
plain_back (b ∷ v) = at (eqb b 34) refl (plain_back v)
  where
    kept : (t : Bool) → unescape_step (t && false) b (unescape (plain v)) ≡ b ∷ unescape (plain v)
    kept true = refl
    kept false = refl

    at : (t : Bool) → eqb b 34 ≡ t → unescape (plain v) ≡ v → unescape (pick t (92 ∷ b ∷ []) (b ∷ []) ++ plain v) ≡ b ∷ v
    at true q h = let m : b ≡ 34 = eqb-true b 34 q in rw (m, h)
    at false q h = rw (plain-starts v) (kept (eqb b 92) ∙ ap (λ (l : List ℕ). b ∷ l) h)

-- ---- the e form

abbrev code : List ℕ → List ℕ
code v = cat code_byte v

code-back : (v rest : List ℕ) → coded 0 (code v ++ (34 ∷ rest)) ≡ Some (record { value = v; rest = rest })
unfolding coded escapes escape_in
code-back [] rest = refl
code-back (b ∷ v) rest = at (eqb b 10) (eqb b 92) (eqb b 34) refl refl refl (code-back v rest)
  where
    at : (n s m : Bool) → eqb b 10 ≡ n → eqb b 92 ≡ s → eqb b 34 ≡ m → coded 0 (code v ++ (34 ∷ rest)) ≡ Some (record { value = v; rest = rest })
        → coded 0 ((pick n (92 ∷ 110 ∷ []) (pick (s || m) (92 ∷ b ∷ []) (b ∷ [])) ++ code v) ++ (34 ∷ rest)) ≡ Some (record { value = b ∷ v; rest = rest })
    at true s m p q r h = let e : b ≡ 10 = eqb-true b 10 p in rw (h, e)
    at false true m p q r h = let e : b ≡ 92 = eqb-true b 92 q in rw (e, h)
    at false false true p q r h = let e : b ≡ 34 = eqb-true b 34 r in rw (e, h)
    at false false false p q r h = rw (r, q, h)

-- ---- reading back

pub value_again : (v rest : List ℕ) → length v ≤ most_value → read_value (value_text v ++ rest) ≡ ok (record { value = v; rest = rest })
unfolding read_value read_coded read_plain value_text needs_code
value_again v rest h = at (holds 10 v || ends_in_slash v) refl
  where
    coded-again : read_coded (code v ++ (34 ∷ rest)) ≡ ok (record { value = v; rest = rest })
    coded-again = rw (code-back v rest, le-leb (length v) most_value h)

    plain-again : ends_in_slash v ≡ false → read_plain (34 ∷ (plain v ++ (34 ∷ rest))) ≡ ok (record { value = v; rest = rest })
    plain-again e = rw (plain_closed false v rest (λ _. refl) e, plain_back v, le-leb (length v) most_value h)

    at : (t : Bool) → (holds 10 v || ends_in_slash v) ≡ t → value_by (starts_coded (value_as t v ++ rest)) (value_as t v ++ rest) ≡ ok (record { value = v; rest = rest })
    at true e = rw (append_assoc (code v) (34 ∷ []) rest) coded-again
    at false e = rw (append_assoc (plain v) (34 ∷ []) rest) (plain-again (neither (holds 10 v) (ends_in_slash v) e).1)

-- ---- sizes

-- the value, as it is written, and what is left behind it are not longer than n bytes
abbrev pub Fits : ℕ → Part (List ℕ) → Type 0
Fits n v = (length (value_text v.value) + length v.rest ≤ n) × Fair v.rest

-- ---- of a plain value

quoted-parts : (e : Bool) (bs : List ℕ) (p : Part (List ℕ)) → quoted e bs ≡ Some p → p.value ++ (34 ∷ p.rest) ≡ bs
unfolding quoted
quoted-parts e [] p h = absurd (none-some p h)
quoted-parts e (b ∷ bs) p h = at (eqb b 34 && not e) refl (quoted (eqb b 92) bs) h (λ q k. quoted-parts (eqb b 92) bs q k)
  where
    at : (t : Bool) → (eqb b 34 && not e) ≡ t → (o : Option (Part (List ℕ))) → quoted_step t b bs o ≡ Some p
        → ((q : Part (List ℕ)) → o ≡ Some q → q.value ++ (34 ∷ q.rest) ≡ bs) → p.value ++ (34 ∷ p.rest) ≡ b ∷ bs
    at true m o k ih =
        let r = same_Some _ p k in
        let g : b ≡ 34 = eqb-true b 34 (and_both (eqb b 34) (not e) m).0 in
        rw (← r) (ap (λ (c : ℕ). c ∷ bs) (sym g))
    at false m None k ih = absurd (none-some p k)
    at false m (Some q) k ih = let r = same_Some _ p k in rw (← r) (ap (λ (l : List ℕ). b ∷ l) (ih q refl))

unescape-fair : (w : List ℕ) → Fair w → Fair (unescape w)
unfolding unescape
unescape-fair [] h = refl
unescape-fair (b ∷ w) h = let (p, q) = and_both (fair b) (all fair w) h in at (eqb b 92 && starts_mark w) p (unescape-fair w q)
  where
    at : (t : Bool) → fair b ≡ true → Fair (unescape w) → Fair (unescape_step t b (unescape w))
    at true p q = q
    at false p q = both_and (fair b) (all fair (unescape w)) p q

pub fair-holds : (v : List ℕ) → Fair v → holds 10 v ≡ false
fair-holds [] h = refl
fair-holds (b ∷ v) h =
    let (p, q) = and_both (fair b) (all fair v) h in
    rw (not-true (eqb b 10) (and_both (not (eqb b 0)) (not (eqb b 10)) p).1) (fair-holds v q)

-- unescaping leaves something of a text that is not empty
unescape-some : (b : ℕ) (w : List ℕ) → unescape (b ∷ w) ≡ [] → ⊥
unfolding unescape
unescape-some b w h = at (eqb b 92) (starts_mark w) refl h
  where
    marked : (x : List ℕ) → starts_mark x ≡ true → unescape x ≡ [] → ⊥
    marked [] q k = let z : ◌≡◌ {A = ℕ} 0 1 = cc in omega arith
    marked (c ∷ x) q k = let m : c ≡ 34 = eqb-true c 34 q in let z = rw m at k in omega (arith, ap length z)

    at : (s m : Bool) → starts_mark w ≡ m → unescape_step (s && m) b (unescape w) ≡ [] → ⊥
    at true true q k = marked w q k
    at true false q k = omega (arith, ap length k)
    at false m q k = omega (arith, ap length k)

-- a value in marks does not end in a backslash
cons-ends : (b : ℕ) (w : List ℕ) → (w ≡ [] → eqb b 92 ≡ false) → ends_in_slash (unescape w) ≡ false → ends_in_slash (b ∷ unescape w) ≡ false
unfolding ends_in_slash unescape
cons-ends b [] f h = f refl
cons-ends b (c ∷ w) f h = at (unescape (c ∷ w)) refl h
  where
    at : (l : List ℕ) → unescape (c ∷ w) ≡ l → ends_in_slash l ≡ false → ends_in_slash (b ∷ l) ≡ false
    at [] e k = absurd (unescape-some c w e)
    at (x ∷ l) e k = k

quoted-ends : (e : Bool) (bs : List ℕ) (p : Part (List ℕ)) → quoted e bs ≡ Some p → (p.value ≡ [] → e ≡ false) × (ends_in_slash (unescape p.value) ≡ false)
unfolding quoted unescape
quoted-ends e [] p h = absurd (none-some p h)
quoted-ends e (b ∷ bs) p h = at (eqb b 34 && not e) refl (quoted (eqb b 92) bs) h (λ q k. quoted-ends (eqb b 92) bs q k)
  where
    step : (t : Bool) (w : List ℕ) → (w ≡ [] → eqb b 92 ≡ false) → ends_in_slash (unescape w) ≡ false → ends_in_slash (unescape_step t b (unescape w)) ≡ false
    step true w f k = k
    step false w f k = cons-ends b w f k

    none-ends : ends_in_slash [] ≡ false
    none-ends = unfold ends_in_slash in refl

    at : (t : Bool) → (eqb b 34 && not e) ≡ t → (o : Option (Part (List ℕ))) → quoted_step t b bs o ≡ Some p
        → ((q : Part (List ℕ)) → o ≡ Some q → (q.value ≡ [] → eqb b 92 ≡ false) × (ends_in_slash (unescape q.value) ≡ false))
        → (p.value ≡ [] → e ≡ false) × (ends_in_slash (unescape p.value) ≡ false)
    at true m o k ih =
        let r = same_Some _ p k in
        ((λ _. not-true e (and_both (eqb b 34) (not e) m).1), rw (← r) none-ends)
    at false m None k ih = absurd (none-some p k)
    at false m (Some q) k ih =
        let r = same_Some _ p k in
        let (f, g) = ih q refl in
        ((λ z. absurd (omega (arith, ap length (ap (λ (x : Part (List ℕ)). x.value) r ∙ z)))), rw (← r) (step (eqb b 92 && starts_mark q.value) q.value f g))

-- a plain value is written as it was, its marks included
pub plain-same : (bs : List ℕ) (p : Part (List ℕ)) → quoted false bs ≡ Some p → Fair bs → value_text (unescape p.value) ≡ 34 ∷ (p.value ++ (34 ∷ []))
unfolding value_text needs_code
plain-same bs p e h =
    let q = quoted-parts false bs p e in
    let (f, g) = all_split fair p.value (34 ∷ p.rest) (rw q h) in
    let v = unescape p.value in
    rw (fair-holds v (unescape-fair p.value f), (quoted-ends false bs p e).1, plain-escape v, escape-back false bs p e)

plain_fits : (bs : List ℕ) (p : Part (List ℕ)) → quoted false bs ≡ Some p → Fair bs → Fits (suc (length bs)) (record { value = unescape p.value; rest = p.rest })
plain_fits bs p e h =
    let q = quoted-parts false bs p e in
    let g = (all_split fair p.value (34 ∷ p.rest) (rw q h)).1 in (
      rw (plain-same bs p e h) (omega (arith, length-append p.value (34 ∷ []), length-append p.value (34 ∷ p.rest), ap length q)),
      (and_both (fair 34) (all fair p.rest) g).1,
    )

-- ---- of a value behind an e

code_short : (b : ℕ) → length (code_byte b) ≤ 2
code_short b = at (eqb b 10) (eqb b 92 || eqb b 34)
  where
    at : (n m : Bool) → length (pick n (92 ∷ 110 ∷ []) (pick m (92 ∷ b ∷ []) (b ∷ []))) ≤ 2
    at true m = omega arith
    at false true = omega arith
    at false false = omega arith

code-raw : (b : ℕ) → eqb b 10 ≡ false → eqb b 92 ≡ false → eqb b 34 ≡ false → length (code_byte b) ≡ 1
code-raw b n s m = rw (n, s, m)

-- the byte of a place is not longer, as it is written, than the bytes that it stands for
abbrev Small : Item ℕ → Type 0
Small i = length (code_byte i.value) ≤ suc i.more

taking_small : (n : ℕ) (o : Option ℕ) → 1 ≤ n → InSome Small (taking n o)
taking_small n None h = tt
taking_small n (Some b) h = omega (arith, code_short b)

byte_small : (b : ℕ) (bs : List ℕ) → eqb b 10 ≡ false → eqb b 34 ≡ false → InSome Small (coded_byte b bs)
byte_small b bs n m = at (eqb b 92) refl
  where
    at : (t : Bool) → eqb b 92 ≡ t → InSome Small (pick t (escaped bs) (Some (record { value = b; more = 0 })))
    at true s =
        pick_some Small (eqb (get_or bs 0 0) 120) (taking 3 (hex_byte (hex_digit (get_or bs 1 0)) (hex_digit (get_or bs 2 0)))) (taking 1 (escape_in escapes (get_or bs 0 0)))
        (taking_small 3 (hex_byte (hex_digit (get_or bs 1 0)) (hex_digit (get_or bs 2 0))) (omega arith))
        (taking_small 1 (escape_in escapes (get_or bs 0 0)) (omega arith))
    at false s = omega (arith, code-raw b n s m)

abbrev CodeFits : ℕ → ℕ → Part (List ℕ) → Type 0
CodeFits k n p = (length (code p.value) + length p.rest + suc k ≤ n) × Fair p.rest

coded-fits : (k : ℕ) (bs : List ℕ) → Fair bs → InSome (CodeFits k (length bs)) (coded k bs)
unfolding coded
coded-fits k [] h = tt
coded-fits (suc k) (b ∷ bs) h = longer (coded k bs) (coded-fits k bs (and_both (fair b) (all fair bs) h).1)
  where
    longer : (o : Option (Part (List ℕ))) → InSome (CodeFits k (length bs)) o → InSome (CodeFits (suc k) (suc (length bs))) o
    longer None g = tt
    longer (Some p) (g, f) = (omega arith, f)
coded-fits zero (b ∷ bs) h =
    let (p, q) = and_both (fair b) (all fair bs) h in
    at (eqb b 34) refl (not-true (eqb b 10) (and_both (not (eqb b 0)) (not (eqb b 10)) p).1) q (λ m. coded-fits m bs q)
  where
    putting : (i : Item ℕ) (o : Option (Part (List ℕ))) → Small i → InSome (CodeFits i.more (length bs)) o → InSome (CodeFits 0 (suc (length bs))) (put i.value o)
    putting i None s g = tt
    putting i (Some r) s (g, f) = (omega (arith, length-append (code_byte i.value) (code r.value)), f)

    on : (o : Option (Item ℕ)) → InSome Small o → ((m : ℕ) → InSome (CodeFits m (length bs)) (coded m bs)) → InSome (CodeFits 0 (suc (length bs))) (coded_then o (λ more. coded more bs))
    on None s ih = tt
    on (Some i) s ih = putting i (coded i.more bs) s (ih i.more)

    at : (t : Bool) → eqb b 34 ≡ t → eqb b 10 ≡ false → Fair bs → ((m : ℕ) → InSome (CodeFits m (length bs)) (coded m bs))
        → InSome (CodeFits 0 (suc (length bs))) (coded_step t b bs (λ more. coded more bs))
    at true e n q ih = (omega arith, q)
    at false e n q ih = on (coded_byte b bs) (byte_small b bs n e) ih

plain_code : (v : List ℕ) → length (plain v) ≤ length (code v)
plain_code [] = omega arith
plain_code (b ∷ v) =
    let i = plain_code v in
    omega (arith, at (eqb b 10) (eqb b 92) (eqb b 34) refl refl refl, length-append (plain_byte b) (plain v), length-append (code_byte b) (code v))
  where
    at : (n s m : Bool) → eqb b 10 ≡ n → eqb b 92 ≡ s → eqb b 34 ≡ m → length (plain_byte b) ≤ length (code_byte b)
    at true s true p q r = let x = eqb-true b 10 p in let y = eqb-true b 34 r in absurd (omega arith)
    at true s false p q r = rw (p, r) (omega arith)
    at false s true p q r = at_mark s
      where
        at_mark : (s : Bool) → length (plain_byte b) ≤ length (code_byte b)
        at_mark s = let y : b ≡ 34 = eqb-true b 34 r in rw y (omega arith)
    at false true false p q r = rw (p, q, r) (omega arith)
    at false false false p q r = rw (p, q, r) (omega arith)

code_fits : (v : List ℕ) → length (value_text v) ≤ length (code v) + 3
unfolding value_text needs_code
code_fits v = at (holds 10 v || ends_in_slash v)
  where
    at : (t : Bool) → length (value_as t v) ≤ length (code v) + 3
    at true = omega (arith, length-append (code v) (34 ∷ []))
    at false = omega (arith, length-append (plain v) (34 ∷ []), plain_code v)

-- ---- of either

pub value_fits : (bs : List ℕ) → Fair bs → Holds (Fits (length bs)) (read_value bs)
unfolding read_value read_coded read_plain
value_fits bs h = at (starts_coded bs) refl
  where
    in_code : (cs : List ℕ) → Fair cs → suc (suc (length cs)) ≤ length bs → Holds (Fits (length bs)) (read_coded cs)
    in_code cs f l =
        holds-bind (CodeFits 0 (length cs)) (Fits (length bs)) (found (coded 0 cs) value_bad) _ (found_some (CodeFits 0 (length cs)) (coded 0 cs) value_bad (coded-fits 0 cs f))
        (λ v k. require-then (Fits (length bs)) (leb (length v.value) most_value) value_bad (ok v) (λ _. (omega (arith, code_fits v.value, k.0), k.1)))

    coded-here : (cs : List ℕ) → cs ≡ bs → starts_coded cs ≡ true → Fair cs → Holds (Fits (length bs)) (read_coded (drop 2 cs))
    coded-here [] q e f = let z : ◌≡◌ {A = ℕ} 0 1 = cc in absurd (omega arith)
    coded-here (b ∷ []) q e f = absurd (short (eqb b 101) e)
      where
        short : (t : Bool) → (t && false) ≡ true → ⊥
        short true k = let z : ◌≡◌ {A = ℕ} 0 1 = cc in omega arith
        short false k = let z : ◌≡◌ {A = ℕ} 0 1 = cc in omega arith
    coded-here (b ∷ c ∷ cs) q e f =
        in_code cs (and_both (fair c) (all fair cs) (and_both (fair b) (all fair (c ∷ cs)) f).1).1 (omega (arith, ap length q))

    plain_here : (cs : List ℕ) → cs ≡ bs → Fair cs → Holds (Fits (length bs)) (read_plain cs)
    plain_here [] q f = tt
    plain_here (b ∷ cs) q f =
        require-then (Fits (length bs)) (starts_mark (b ∷ cs)) value_bad _
        (λ _. holds-bind (λ (w : Part (List ℕ)). quoted false cs ≡ Some w) (Fits (length bs)) (found (quoted false cs) value_bad) _ (here (quoted false cs))
        (λ w k. require-then (Fits (length bs)) (leb (length (unescape w.value)) most_value) value_bad _
        (λ _. subst (λ (n : ℕ). Fits n (record { value = unescape w.value; rest = w.rest })) (ap length q) (plain_fits cs w k (and_both (fair b) (all fair cs) f).1))))
      where
        here : (o : Option (Part (List ℕ))) → Holds (λ (w : Part (List ℕ)). o ≡ Some w) (found {R = Refusal} o value_bad)
        here None = tt
        here (Some w) = refl

    at : (t : Bool) → starts_coded bs ≡ t → Holds (Fits (length bs)) (value_by t bs)
    at true e = coded-here bs refl e h
    at false e = plain_here bs refl h
