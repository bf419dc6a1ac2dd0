-- A long text, and a record beside its device, by the places that code has.
-- Assumes nothing.
use Prim.Native.Nat.{ℕ, ◌+◌, ◌-◌, ◌≤◌, ◌<◌}
use mathlib.Core.Path.{◌≡◌, sym, ap, ap₂, ◌∙◌}
use mathlib.Core.List.{List}
use native.Mathlib.Omega.{arith}
use borrow.Author.Tests.{le-leb, lt-leb, leb-true}
use lib.Dec.{leb}
use lib.ListN.{length, take, drop, length-drop}
use lib.Seq.{drop-drop}
use Rattle.lists.proofs.Moves.{ap_at}
use Rattle.bits.specs.Bits.{number_at}
use Rattle.entries.specs.Parse.{Parse, got, bad, bind}
use Rattle.entries.specs.Entry.{exactly}
use Rattle.entries.proofs.Rows.{through}
use Rattle.entries.proofs.Entries.{kept, keep_there}
use Rattle.sets.specs.Sets.{one_long}
use Rattle.sets.specs.Lent.{Lent, one_lent}
use Rattle.set_rows.specs.declared.Part.{Part}
use Rattle.set_rows.specs.declared.LentPlace.{LentPlace}
use Rattle.set_rows.specs.Places.{bytes_in, LongFrom, LongIs, LentFrom, LentIs}

-- ---- a long text

-- the length in its head
abbrev pub length_at : List ℕ → ℕ → ℕ
length_at set p = number_at (take 2 (drop p set)) 0 16

-- as code reads it, of a head that begins at p
pub length_read : (set : List ℕ) (p n : ℕ) → n ≡ number_at (take (p + 2 - p) (drop p set)) 0 16 → n ≡ length_at set p
length_read set p n e = e ∙ ap_at (λ i. number_at (take i (drop p set)) 0 16) (p + 2 - p) 2 (omega arith)

module _ (set : List ℕ) (p : ℕ) (h : p ≤ length set) where
  abbrev text : List ℕ
  text = drop 2 (drop p set)

  text-is : text ≡ drop (p + 2) set
  text-is = drop-drop 2 p set

  text_room : length text ≡ length set - p - 2
  text_room = omega (arith, length-drop 2 (drop p set), length-drop p set)

  pub long-is : (r : Part) → r.start ≡ p + 2 → r.end ≡ r.start + length_at set p → r.end ≤ length set → LongIs set p r
  long-is r s e w =
      let n = length_at set p in
      let headed : 2 ≤ length (drop p set) = omega (arith, length-drop p set) in
      let begins : text ≡ drop r.start set = text-is ∙ ap (λ (i : ℕ). drop i set) (sym s) in
      let sized : n ≡ r.end - r.start = omega arith in
      let ends : drop n text ≡ drop r.end set = ap (drop n) begins ∙ drop-drop n r.start set ∙ ap (λ (i : ℕ). drop i set) (sym e) in
      record {
        start = s;
        inside = record { rising = omega arith; within = w };
        read = rw (le-leb 2 (length (drop p set)) headed)
            (keep_there (leb n (length text)) (take n text) (bytes_in set r) (drop n text) (drop r.end set) (le-leb n (length text) (omega (arith, text_room)))
            (ap₂ take sized begins) ends);
      }

  pub no_head : length set - p < 2 → one_long (drop p set) ≡ bad
  no_head l = rw (lt-leb 2 (length (drop p set)) (omega (arith, length-drop p set)))

  pub no_text : 2 ≤ length set - p → length set - p - 2 < length_at set p → one_long (drop p set) ≡ bad
  no_text k l = rw (le-leb 2 (length (drop p set)) (omega (arith, length-drop p set)), lt-leb (length_at set p) (length text) (omega (arith, text_room)))

-- one that was read is inside
pub long-fits : (set : List ℕ) (p : ℕ) → LongFrom set p → p + 2 + length_at set p ≤ length set
long-fits set p w =
    through (exactly 2 (drop p set)) _ w.text w.behind w.read λ head q e₁ e₂.
    let (a, i, j) = kept (leb 2 (length (drop p set))) (take 2 (drop p set)) head (drop 2 (drop p set)) q e₁ in
    let n = number_at head 0 16 in
    let (b, _, _) = kept (leb n (length q)) (take n q) w.text (drop n q) w.behind e₂ in
    let headed : 2 ≤ length (drop p set) = leb-true 2 (length (drop p set)) a in
    let whole : n ≤ length q = leb-true n (length q) b in
    let same : length_at set p ≡ n = ap (λ (x : List ℕ). number_at x 0 16) i in
    omega (arith, ap length j, length-drop 2 (drop p set), length-drop p set, w.within)

-- ---- a record beside its device

-- where a record stands, its device does
pub device_from : (set : List ℕ) (p : ℕ) → LentFrom set p → LongFrom set p
device_from set p w =
    through (one_long (drop p set)) _ w.lent w.behind w.read λ d q e₁ e₂. record { within = w.within; text = d; behind = q; read = e₁ }

module _ (set : List ℕ) (p : ℕ) (d : Part) (w : LongIs set p d) where
  -- what is read behind the device
  abbrev beside : Parse (List ℕ) → Parse Lent
  beside o = bind o (λ x q. got (record { device = bytes_in set d; outcome = x }) q)

  lent_by : one_lent (drop p set) ≡ beside (one_long (drop d.end set))
  lent_by = rw w.read

  pub outcome_from : LentFrom set p → LongFrom set d.end
  outcome_from f =
      through (one_long (drop d.end set)) _ f.lent f.behind (sym lent_by ∙ f.read) λ o q e₁ e₂.
      record { within = w.inside.within; text = o; behind = q; read = e₁ }

  pub no_outcome : one_long (drop d.end set) ≡ bad → one_lent (drop p set) ≡ bad
  no_outcome e = lent_by ∙ rw e

  pub lent_is : (r : LentPlace) → r.device ≡ d → LongIs set d.end r.outcome → LentIs set p r
  lent_is r e v = record {
    device = rw e w.inside;
    outcome = v.inside;
    onward = omega (arith, w.start, w.inside.rising, v.start, v.inside.rising);
    read = lent_by ∙ rw (v.read, e);
  }
