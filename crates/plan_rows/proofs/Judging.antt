-- The walk that judges the devices of a set.
-- Assumes nothing.
use Prim.Native.Nat.{ℕ, zero, suc, ◌+◌, ◌-◌, ◌≤◌, ◌<◌}
use mathlib.Core.Path.{◌≡◌, refl, sym, ap, ◌∙◌, subst}
use mathlib.Core.Bool.{true, false}
use mathlib.Core.List.{List, [], ◌∷◌}
use Rattle.std.specs.Prelude.{Option, None, Some}
use native.Mathlib.Omega.{arith}
use native.Mathlib.Numerals.{add-one}
use lib.ListN.{length, drop, get_or}
use Rattle.lists.specs.Lists.{is_some}
use Rattle.lists.specs.Checked.{Checked, refused, ok, ◌>>=◌, found}
use Rattle.lists.specs.Refusal.{device_bad, set_bad}
use Rattle.lists.proofs.Lists.{is_none, is-some}
use Rattle.lists.proofs.Moves.{ap_at}
use Rattle.entries.specs.Parse.{got, many}
use Rattle.entries.proofs.Rows.{through}
use Rattle.device.specs.Device as D
use Rattle.device.specs.Device.{Device}
use Rattle.sets.specs.Answer.{Fault, of_set, of_record}
use Rattle.set_rows.proofs.Walk.{Turn, set_read_lem, first-got, turn, many-length}
use Rattle.plan.specs.Plan.{Naming}
use Rattle.plan.specs.Operations.{most_wishes, Wish, one_wish, decode_wishes, namings_from, namings}
use Rattle.plan_rows.specs.declared.WishPlace.{WishPlace}
use Rattle.plan_rows.specs.Places.{wish_in, WishFrom, WishIs}
use Rattle.plan_rows.specs.Namings.{wish_of, Stand, or_none, namings_in, Whole}

-- ---- one after the other

-- why devices are refused, if they are
abbrev fault_of : Checked Fault (List Naming) → Option Fault
fault_of (refused f) = Some f
fault_of (ok ns) = None

fault_of_lem : (c : Checked Fault (List Naming)) (f : Fault) → fault_of c ≡ Some f → c ≡ refused f
fault_of_lem (refused g) f e = let q : g ≡ f = cc in ap refused q
fault_of_lem (ok ns) f e = let z : ◌≡◌ {A = ℕ} 0 1 = cc in absurd (omega arith)

no-fault : (c : Checked Fault (List Naming)) → fault_of c ≡ None → (ns : List Naming) × (c ≡ ok ns)
no-fault (refused f) e = let z : ◌≡◌ {A = ℕ} 0 1 = cc in absurd (omega arith)
no-fault (ok ns) e = (ns, refl)

-- a sound device leaves it to the others
sound-first : (n : ℕ) (w : Wish) (ws : List Wish) (d : Device) → D.decode w.device ≡ Some d → fault_of (namings_from n (w ∷ ws)) ≡ fault_of (namings_from (suc n) ws)
unfolding namings_from
sound-first n w ws d e = rw e (more (namings_from (suc n) ws))
  where
    more : (c : Checked Fault (List Naming)) → fault_of (c >>= λ ns. ok (record { bytes_lent = w.device; device = d; link = w.link } ∷ ns)) ≡ fault_of c
    more (refused g) = refl
    more (ok ns) = refl

faulty-first : (n : ℕ) (w : Wish) (ws : List Wish) → D.decode w.device ≡ None → namings_from n (w ∷ ws) ≡ refused (of_record n device_bad)
unfolding namings_from
faulty-first n w ws e = rw e

-- what is left of a set at place p behind i devices, whose fault is the set's
pub record Left (set : List ℕ) (p i count : ℕ) : Type 0 where
  pub within : p ≤ length set
  pub few : count ≤ most_wishes
  pub some : i ≤ count
  pub wishes : List Wish
  pub read : many one_wish (count - i) (drop p set) ≡ got wishes []
  pub fault : fault_of (namings_from (suc i) wishes) ≡ fault_of (namings set)

pub set-none : (set : List ℕ) → is_some (decode_wishes set) ≡ false → namings set ≡ refused (of_set set_bad)
unfolding namings
set-none set h = rw (is_none (decode_wishes set) h)

pub set-counted : (set : List ℕ) → is_some (decode_wishes set) ≡ true → 1 ≤ length set
set-counted set h = let (ws, e) = is-some (decode_wishes set) h in (set_read_lem one_wish 1 most_wishes set ws e).some

pub set-left : (set : List ℕ) (count : ℕ) → count ≡ get_or set 0 0 → is_some (decode_wishes set) ≡ true → Left set 1 0 count
unfolding namings
set-left set count c h =
    let (ws, e) = is-some (decode_wishes set) h in
    let b = set_read_lem one_wish 1 most_wishes set ws e in
    record {
      within = b.some;
      few = omega (arith, b.few);
      some = omega arith;
      wishes = ws;
      read = ap_at (λ n. many one_wish n (drop 1 set)) (count - 0) (get_or set 0 0) (omega arith) ∙ b.read;
      fault = sym (ap (λ (o : Option (List Wish)). fault_of (found o (of_set set_bad) >>= namings_from 1)) e);
    }

module _ (set : List ℕ) (p i count : ℕ) (w : Left set p i count) (h : i < count) where
  pub left-from : WishFrom set p
  left-from =
      let (l, z, e) = first-got one_wish (count - i) (drop p set) w.wishes [] (omega arith) w.read in
      record { within = w.within; wish = l; behind = z; read = e }

  module _ (r : WishPlace) (is : WishIs set p r) where
    here : Turn one_wish (count - i) (drop p set) (wish_in set r) (drop r.link.end set) w.wishes []
    here = turn one_wish (count - i) (drop p set) (drop r.link.end set) (wish_in set r) w.wishes [] (omega arith) is.read w.read

    fault-here : fault_of (namings_from (suc i) (wish_in set r ∷ here.others)) ≡ fault_of (namings set)
    fault-here = ap (λ (ws : List Wish). fault_of (namings_from (suc i) ws)) (sym here.split) ∙ w.fault

    pub left-faulty : (dev : List ℕ) → dev ≡ (wish_in set r).device → is_some (D.decode dev) ≡ false → namings set ≡ refused (of_record (i + 1) device_bad)
    left-faulty dev e f =
        fault_of_lem (namings set) (of_record (i + 1) device_bad)
        (sym fault-here
        ∙ ap fault_of (faulty-first (suc i) (wish_in set r) here.others (ap D.decode (sym e) ∙ is_none (D.decode dev) f))
        ∙ ap (λ (n : ℕ). Some (of_record n device_bad)) (sym (add-one i)))

    pub left-sound : (dev : List ℕ) → dev ≡ (wish_in set r).device → is_some (D.decode dev) ≡ true → Left set r.link.end (i + 1) count
    left-sound dev e f =
        let (d, g) = is-some (D.decode dev) f in
        record {
          within = is.link.within;
          few = w.few;
          some = omega arith;
          wishes = here.others;
          read = ap_at (λ n. many one_wish n (drop r.link.end set)) (count - (i + 1)) (count - i - 1) (omega arith) ∙ here.read;
          fault = ap_at (λ n. fault_of (namings_from n here.others)) (suc (i + 1)) (suc (suc i)) (omega arith)
              ∙ sym (sound-first (suc i) (wish_in set r) here.others d (ap D.decode (sym e) ∙ g)) ∙ fault-here;
        }

-- ---- a set that is not refused

bound : {A B : Type 0} (c : Checked Fault A) (k : A → Checked Fault B) (b : B) → (c >>= k) ≡ ok b → (a : A) × (c ≡ ok a) × (k a ≡ ok b)
bound (refused f) k b e = let z : ◌≡◌ {A = ℕ} 0 1 = cc in absurd (omega arith)
bound (ok a) k b e = (a, refl, e)

found_ok : {A : Type 0} (o : Option A) (f : Fault) (a : A) → found o f ≡ ok a → o ≡ Some a
found_ok None f a e = let z : ◌≡◌ {A = ℕ} 0 1 = cc in absurd (omega arith)
found_ok (Some b) f a e = let q : b ≡ a = cc in ap Some q

-- the naming of a device and those behind it
record Split (k : ℕ) (w : Wish) (ws : List Wish) (ns : List Naming) : Type 0 where
  naming : Naming
  others : List Naming
  split : ns ≡ naming ∷ others
  device : naming.bytes_lent ≡ w.device
  link : naming.link ≡ w.link
  sound : D.decode naming.bytes_lent ≡ Some naming.device
  behind : namings_from (suc k) ws ≡ ok others

split_of : (k : ℕ) (w : Wish) (ws : List Wish) (ns : List Naming) → namings_from k (w ∷ ws) ≡ ok ns → Split k w ws ns
unfolding namings_from
split_of k w ws ns e =
    let (d, f, e₁) = bound (found (D.decode w.device) (of_record k device_bad)) _ ns e in
    let (os, g, e₂) = bound (namings_from (suc k) ws) _ ns e₁ in
    let n : Naming = record { bytes_lent = w.device; device = d; link = w.link } in
    let q : ns ≡ n ∷ os = cc in
    record { naming = n; others = os; split = q; device = refl; link = refl; sound = found_ok (D.decode w.device) (of_record k device_bad) d f; behind = g }

stand_of : (m k : ℕ) (bs : List ℕ) (ws : List Wish) (ns : List Naming) → many one_wish m bs ≡ got ws [] → namings_from k ws ≡ ok ns → Stand bs ns
unfolding namings_from
stand_of zero k bs ws ns r e =
    let q : ws ≡ [] = cc in
    let f : ok [] ≡ ok ns = ap (namings_from k) (sym q) ∙ e in
    let p : ns ≡ [] = cc in
    subst (Stand bs) (sym p) tt
stand_of (suc m) k bs ws ns r e =
    through (one_wish bs) _ ws [] r λ w z e₁ r₁.
    through (many one_wish m z) _ ws [] r₁ λ us q e₂ r₂.
    let a : ws ≡ w ∷ us = cc in
    let b : q ≡ [] = cc in
    let s = split_of k w us ns (ap (namings_from k) (sym a) ∙ e) in
    subst (Stand bs) (sym s.split)
    (z, record { read = e₁ ∙ ap (λ (x : Wish). got x z) (wish_of_lem s); sound = s.sound }, stand_of m (suc k) z us s.others (e₂ ∙ ap (got us) b) s.behind)
  where
    wish_of_lem : {k : ℕ} {w : Wish} {us : List Wish} {ns : List Naming} (s : Split k w us ns) → w ≡ wish_of s.naming
    wish_of_lem s = λ i. record { device = sym s.device i; link = sym s.link i }

namings-length : (k : ℕ) (ws : List Wish) (ns : List Naming) → namings_from k ws ≡ ok ns → length ns ≡ length ws
unfolding namings_from
namings-length k [] ns e = let p : ns ≡ [] = cc in ap length p
namings-length k (w ∷ ws) ns e = let s = split_of k w ws ns e in ap length s.split ∙ ap suc (namings-length (suc k) ws s.others s.behind)

whole_of : (set : List ℕ) (ns : List Naming) → namings set ≡ ok ns → Whole set
unfolding namings namings_in
whole_of set ns e =
    let (ws, f, g) = bound (found (decode_wishes set) (of_set set_bad)) (namings_from 1) ns e in
    let b = set_read_lem one_wish 1 most_wishes set ws (found_ok (decode_wishes set) (of_set set_bad) ws f) in
    let is : or_none (namings set) ≡ ns = ap or_none e in
    let n : get_or set 0 0 ≡ length ns = sym (namings-length 1 ws ns g ∙ many-length one_wish (get_or set 0 0) (drop 1 set) ws [] b.read) in
    record {
      some = b.some;
      few = subst (λ (xs : List Naming). length xs ≤ most_wishes) (sym is) (omega (arith, b.few));
      counted = n ∙ ap length (sym is);
      held = e ∙ ap ok (sym is);
      standing = record { within = b.some; stand = subst (Stand (drop 1 set)) (sym is) (stand_of (get_or set 0 0) 1 (drop 1 set) ws ns b.read g) };
    }

pub left-none : (set : List ℕ) (p i count : ℕ) → Left set p i count → count ≤ i → Whole set
unfolding namings_from
left-none set p i count w h =
    let n : count - i ≡ 0 = omega (arith, w.some) in
    let e : length w.wishes ≡ 0 = many-length one_wish (count - i) (drop p set) w.wishes [] w.read ∙ n in
    let (ns, f) = no-fault (namings set) (sym w.fault ∙ at w.wishes e) in
    whole_of set ns f
  where
    at : (ws : List Wish) → length ws ≡ 0 → fault_of (namings_from (suc i) ws) ≡ None
    at [] z = refl
    at (x ∷ ws) z = absurd (omega arith)
