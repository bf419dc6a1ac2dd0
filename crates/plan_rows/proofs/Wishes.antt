-- A device and its wanted link, by the places that code has.
-- Assumes nothing.
use Prim.Native.Nat.{ℕ, ◌+◌, ◌-◌, ◌≤◌, ◌<◌}
use mathlib.Core.Path.{◌≡◌, sym, ap, ap₂, ◌∙◌, subst}
use mathlib.Core.Bool.{true, ◌&&◌}
use mathlib.Core.List.{List}
use native.Mathlib.Nat.{min-le_left}
use native.Mathlib.Omega.{arith}
use borrow.Author.Tests.{le-leb, lt-leb}
use lib.Dec.{leb}
use lib.Seq.{get_or-drop}
use lib.ListN.{length, take, drop, get_or, length-drop, length-take}
use Rattle.lists.specs.Bytes.{Bytes}
use Rattle.lists.proofs.Tests.{both_and}
use Rattle.entries.specs.Parse.{Parse, got, bad, bind}
use Rattle.entries.specs.Entry.{one_text}
use Rattle.entries.proofs.Rows.{through}
use Rattle.entries.proofs.Entries.{keep_there}
use Rattle.rows.specs.Entry.{name_len, rest_len, size, Placed}
use Rattle.rows.specs.declared.Entry.{Entry}
use Rattle.rows.specs.declared.Kind.TheVariants as kind
use Rattle.rows.proofs.Readers.{text_here, text-reads, one-got}
use Rattle.rows.proofs.Turns.{place_end, place-name, place-next}
use Rattle.sets.specs.Sets.{one_long}
use Rattle.set_rows.specs.Places.{bytes_in, LongFrom, LongIs}
use Rattle.set_rows.specs.declared.Part.{Part}
use Rattle.plan.specs.Operations.{Wish, most_wanted, short_link, one_wish}
use Rattle.plan_rows.specs.declared.WishPlace.{WishPlace}
use Rattle.plan_rows.specs.Places.{WishFrom, WishIs}

-- ---- the link

-- a length of one byte is never too long
short_link_lem : (set : List ℕ) (q : ℕ) → Bytes set → short_link (text_here (drop q set)) ≡ true
unfolding name_len
short_link_lem set q by =
    let n = get_or (drop q set) 0 0 in
    let m = length (drop 1 (drop q set)) in
    let byte : n < 256 = subst (λ (b : ℕ). b < 256) (sym (get_or-drop q set 0 0)) (by (q + 0)) in
    let long : length (text_here (drop q set)) ≤ n = subst (λ (k : ℕ). k ≤ n) (sym (length-take n (drop 1 (drop q set)))) (min-le_left n m) in
    le-leb (length (text_here (drop q set))) most_wanted (omega (arith, long, byte))

link_is : (set : List ℕ) (q : ℕ) (e : Entry) → Bytes set → Placed kind.Text set q e → (r : Part) → r.start ≡ e.name → r.end ≡ e.end
    → one_text short_link (drop q set) ≡ got (bytes_in set r) (drop r.end set)
unfolding rest_len
link_is set q e by w r s f =
    let fits : size kind.Text (drop q set) ≤ length (drop q set) = omega (arith, length-drop q set, place_end kind.Text set q e w, w.within) in
    let same : e.rest ≡ e.end = omega (arith, w.end) in
    let text : text_here (drop q set) ≡ bytes_in set r = sym (place-name kind.Text set q e w) ∙ ap₂ (λ (i j : ℕ). take (i - j) (drop j set)) (same ∙ sym f) (sym s) in
    (text-reads short_link).is (drop q set)
    ∙ keep_there (leb (size kind.Text (drop q set)) (length (drop q set)) && short_link (text_here (drop q set))) _ _ _ _
    (both_and _ _ (le-leb (size kind.Text (drop q set)) (length (drop q set)) fits) (short_link_lem set q by)) text (sym (place-next kind.Text set q e w) ∙ ap (λ (i : ℕ). drop i set) (sym f))

pub no_link : (set : List ℕ) (q : ℕ) → length (drop q set) < size kind.Text (drop q set) → one_text short_link (drop q set) ≡ bad
no_link set q h = (text-reads short_link).is (drop q set) ∙ rw (lt-leb (size kind.Text (drop q set)) (length (drop q set)) h)

-- ---- the device before it

pub device_from : (set : List ℕ) (p : ℕ) → WishFrom set p → LongFrom set p
device_from set p w =
    through (one_long (drop p set)) _ w.wish w.behind w.read λ d q e₁ e₂. record { within = w.within; text = d; behind = q; read = e₁ }

module _ (set : List ℕ) (p : ℕ) (d : Part) (w : LongIs set p d) where
  -- what is read behind it
  abbrev beside : Parse (List ℕ) → Parse Wish
  beside o = bind o (λ x q. got (record { device = bytes_in set d; link = x }) q)

  wish-by : one_wish (drop p set) ≡ beside (one_text short_link (drop d.end set))
  wish-by = rw w.read

  -- where the two stand, the link fits
  pub link_fits : WishFrom set p → size kind.Text (drop d.end set) ≤ length (drop d.end set)
  link_fits f =
      through (one_text short_link (drop d.end set)) _ f.wish f.behind (sym wish-by ∙ f.read) λ x q e₁ e₂.
      (one-got (text-reads short_link) (drop d.end set) x q e₁).0

  pub no-wish : one_text short_link (drop d.end set) ≡ bad → one_wish (drop p set) ≡ bad
  no-wish e = wish-by ∙ rw e

  pub wish-is : Bytes set → (e : Entry) → Placed kind.Text set d.end e → (r : WishPlace) → r.device ≡ d → r.link.start ≡ e.name → r.link.end ≡ e.end → WishIs set p r
  wish-is by e v r f a b = record {
    device = rw f w.inside;
    link = record { rising = omega (arith, a, b, v.start, v.middle, v.end); within = omega (arith, b, v.within) };
    read = wish-by ∙ rw (link_is set d.end e by v r.link a b, f);
  }
