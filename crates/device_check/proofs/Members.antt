-- One device in the places that code has: what it takes for the definitions to read it.
-- Assumes nothing.
use Prim.Native.Nat.{ℕ, ◌+◌, ◌-◌, ◌≤◌, ◌<◌}
use mathlib.Core.Path.{◌≡◌, refl, sym, ap, ap₂, ◌∙◌}
use mathlib.Core.Bool.{Bool, true, false, ◌&&◌}
use mathlib.Core.List.{List, ◌++◌, append_assoc}
use native.Mathlib.Omega.{arith}
use borrow.Author.Tests.{le-leb, leb-true, leb-false, ne_eqb, eq-eqb}
use lib.Dec.{leb}
use lib.ListN.{length, take, drop, length-take, length-drop}
use lib.Seq.{drop-drop, take-add, take_at, length-take-le}
use Rattle.lists.specs.Lists.{all}
use Rattle.lists.specs.Bytes.{clean, distinct}
use Rattle.lists.specs.Sizes.{most_path, most_subsystem, most_attributes}
use Rattle.lists.proofs.Moves.{ap_at}
use Rattle.lists.proofs.Records.{all_join}
use Rattle.entries.specs.Parse.{Parse, got, bad, keep, many}
use Rattle.entries.specs.Entry.{Property, ok_prop, one_prop, keys}
use Rattle.entries.proofs.Rows.{many-kept}
use Rattle.entries.proofs.Entries.{property-kept}
use Rattle.rows.specs.Row.{end_of}
use Rattle.std.specs.Prelude.{None}
use Rattle.rows.proofs.Readers.{head_cut, head_whole}
use Rattle.device.specs.Head.{Lens, lens_of}
use Rattle.device.specs.Device.{ok_path, ok_member, member_of, attrs_on, driver_on, subsystem_on, path_on, one_member}
use Rattle.device_check.specs.Stages.{ok_texts, apart}

-- ---- the numbers

-- the head is cut off
pub member_short : (bs : List ℕ) → length bs < 4 → one_member bs ≡ bad
member_short bs h = rw (head_cut 4 bs h)

module _ (bs : List ℕ) (h : 4 ≤ length bs) where
  abbrev n : Lens
  n = lens_of (take 4 bs)

  pub member_unused : (n.unused ≡ 0 → ⊥) → one_member bs ≡ bad
  member_unused u = rw (head_whole 4 bs h, ne_eqb n.unused 0 u)

  pub member-numbers : n.unused ≡ 0 → one_member bs ≡ path_on n (drop 4 bs)
  member-numbers u = rw (head_whole 4 bs h, eq-eqb n.unused 0 u)

-- ---- the texts

regroup : (a b p o s d x : Bool) → (a && (b && (p && (o && (s && (d && x)))))) ≡ ((a && (b && ((p && (s && d)) && o))) && x)
regroup false b p o s d x = refl
regroup true false p o s d x = refl
regroup true true false o s d x = refl
regroup true true true false false d x = refl
regroup true true true false true false x = refl
regroup true true true false true true x = refl
regroup true true true true false d x = refl
regroup true true true true true false x = refl
regroup true true true true true true x = refl

module _ (n : Lens) (r : List ℕ) where
  abbrev texts : ℕ
  texts = n.path + n.subsystem + n.driver

  driver_short : (p s r : List ℕ) → length r < n.driver → driver_on n p s r ≡ bad
  driver_short p s r h = rw (head_cut n.driver r h)

  subsystem_short : (p r : List ℕ) → length r < n.subsystem + n.driver → subsystem_on n p r ≡ bad
  subsystem_short p r h = go (leb n.subsystem (length r)) refl
    where
      go : (t : Bool) → leb n.subsystem (length r) ≡ t → subsystem_on n p r ≡ bad
      go true e =
          let k = leb-true n.subsystem (length r) e in
          rw (head_whole n.subsystem r k) (driver_short p (take n.subsystem r) (drop n.subsystem r) (simp length-drop (omega arith)))
      go false e = rw (head_cut n.subsystem r (leb-false n.subsystem (length r) e))

  -- the texts are cut off
  pub texts_short : length r < texts → path_on n r ≡ bad
  texts_short h = go (leb n.path (length r)) refl
    where
      go : (t : Bool) → leb n.path (length r) ≡ t → path_on n r ≡ bad
      go true e =
          let k = leb-true n.path (length r) e in
          rw (head_whole n.path r k) (subsystem_short (take n.path r) (drop n.path r) (simp length-drop (omega arith)))
      go false e = rw (head_cut n.path r (leb-false n.path (length r) e))

  module _ (h : texts ≤ length r) where
    abbrev path : List ℕ
    path = take n.path r

    abbrev subsystem : List ℕ
    subsystem = take n.subsystem (drop n.path r)

    abbrev driver : List ℕ
    driver = take n.driver (drop n.subsystem (drop n.path r))

    pub texts_read : path_on n r ≡ attrs_on n path subsystem driver (drop texts r)
    texts_read =
        let a : n.path ≤ length r = omega arith in
        let b : n.subsystem ≤ length (drop n.path r) = simp length-drop (omega arith) in
        let c : n.driver ≤ length (drop n.subsystem (drop n.path r)) = simp length-drop (omega arith) in
        let d : drop n.driver (drop n.subsystem (drop n.path r)) ≡ drop texts r =
        ap (drop n.driver) (drop-drop n.subsystem n.path r) ∙ drop-drop n.driver (n.path + n.subsystem) r
        in
        rw (head_whole n.path r a, head_whole n.subsystem (drop n.path r) b, head_whole n.driver (drop n.subsystem (drop n.path r)) c, d)

    -- one behind the other
    texts-parts : take texts r ≡ path ++ (subsystem ++ driver)
    texts-parts =
        take-add (n.path + n.subsystem) n.driver r
        ∙ ap₂ (λ (x y : List ℕ). x ++ take n.driver y) (take-add n.path n.subsystem r) (sym (drop-drop n.subsystem n.path r))
        ∙ append_assoc path subsystem driver

    texts-clean : clean (take texts r) ≡ (clean path && (clean subsystem && clean driver))
    texts-clean =
        ap clean texts-parts
        ∙ all_join _ path (subsystem ++ driver)
        ∙ ap (λ (t : Bool). clean path && t) (all_join _ subsystem driver)

    -- what is judged of a device, without what its numbers and its attributes' reader have settled
    pub member-judged : (ps : List Property) → n.subsystem ≤ most_subsystem → n.driver ≤ most_subsystem → length ps ≤ most_attributes → all ok_prop ps ≡ true
        → ok_member (member_of path subsystem driver ps) ≡ (ok_texts n.path (take texts r) && distinct (keys ps))
    member-judged ps hs hd hp o =
        let lp : length path ≡ n.path = length-take-le n.path r (omega arith) in
        let ls : length subsystem ≤ most_subsystem = simp length-take (omega arith) in
        let ld : length driver ≤ most_subsystem = simp length-take (omega arith) in
        let tp : take n.path (take texts r) ≡ path = ap (take n.path) texts-parts ∙ take_at path (subsystem ++ driver) n.path lp in
        rw (lp, le-leb (length subsystem) most_subsystem ls, le-leb (length driver) most_subsystem ld, le-leb (length ps) most_attributes hp, o, texts-clean, tp)
        (regroup (leb 1 n.path) (leb n.path most_path) (clean path) (ok_path path) (clean subsystem) (clean driver) (distinct (keys ps)))

    module _ (hs : n.subsystem ≤ most_subsystem) (hd : n.driver ≤ most_subsystem) (ha : n.attributes ≤ most_attributes) where
      abbrev attrs : Parse (List Property)
      attrs = many one_prop n.attributes (drop texts r)

      -- by what the texts are, and the names
      attrs-judged : (t : Bool) → ok_texts n.path (take texts r) ≡ t → (ps : List Property) (q : List ℕ) → attrs ≡ got ps q
          → attrs_on n path subsystem driver (drop texts r) ≡ keep (t && distinct (keys ps)) (member_of path subsystem driver ps) q
      attrs-judged t o ps q e =
          let (k, l) = many-kept ok_prop one_prop property-kept n.attributes (drop texts r) ps q e in
          rw (e, member-judged ps hs hd (omega arith) k, o)

      -- a faulty text
      pub attrs-faulty : ok_texts n.path (take texts r) ≡ false → attrs_on n path subsystem driver (drop texts r) ≡ bad
      attrs-faulty o = go attrs refl
        where
          go : (p : Parse (List Property)) → attrs ≡ p → attrs_on n path subsystem driver (drop texts r) ≡ bad
          go bad e = rw e
          go (got ps q) e = attrs-judged false o ps q e

      -- sound texts: the attributes decide
      pub attrs-sound : (m : ℕ) → ok_texts n.path (take texts r) ≡ true → end_of m (attrs_on n path subsystem driver (drop texts r)) ≡ end_of m (apart attrs)
      attrs-sound m o = go attrs refl
        where
          kept-end : (t : Bool) (ps : List Property) (q : List ℕ) → end_of m (keep t (member_of path subsystem driver ps) q) ≡ end_of m (keep t ps q)
          kept-end true ps q = refl
          kept-end false ps q = refl

          go : (p : Parse (List Property)) → attrs ≡ p → end_of m (attrs_on n path subsystem driver (drop texts r)) ≡ end_of m (apart attrs)
          go bad e = rw e
          go (got ps q) e = ap (end_of m) (attrs-judged true o ps q e) ∙ kept-end (distinct (keys ps)) ps q ∙ sym (ap (λ (p : Parse (List Property)). end_of m (apart p)) e)

-- ---- the device at a place of a record

pub at_cut : (l : List ℕ) (at : ℕ) → length l - at < 4 → end_of (length l) (one_member (drop at l)) ≡ None
at_cut l at h = ap (end_of (length l)) (member_short (drop at l) (simp length-drop (omega arith)))

module _ (l : List ℕ) (at : ℕ) (n : Lens) (e : n ≡ lens_of (take 4 (drop at l))) (h : at + 4 ≤ length l) where
  abbrev size : ℕ
  size = n.path + n.subsystem + n.driver

  room : 4 ≤ length (drop at l)
  room = simp length-drop (omega arith)

  pub at_unused : (n.unused ≡ 0 → ⊥) → end_of (length l) (one_member (drop at l)) ≡ None
  at_unused u = ap (end_of (length l)) (member_unused (drop at l) room (λ z. u (ap (λ (m : Lens). m.unused) e ∙ z)))

  front : n.unused ≡ 0 → one_member (drop at l) ≡ path_on n (drop (at + 4) l)
  front u = member-numbers (drop at l) room (sym (ap (λ (m : Lens). m.unused) e) ∙ u) ∙ ap₂ path_on (sym e) (drop-drop 4 at l)

  pub at_short : n.unused ≡ 0 → length l - at - 4 < size → end_of (length l) (one_member (drop at l)) ≡ None
  at_short u s = ap (end_of (length l)) (front u ∙ texts_short n (drop (at + 4) l) (simp length-drop (omega arith)))

  module _ (u : n.unused ≡ 0) (k : at + 4 + size ≤ length l) (hs : n.subsystem ≤ most_subsystem) (hd : n.driver ≤ most_subsystem) (ha : n.attributes ≤ most_attributes) where
    fits : size ≤ length (drop (at + 4) l)
    fits = simp length-drop (omega arith)

    same-texts : take (at + 4 + size - (at + 4)) (drop (at + 4) l) ≡ take size (drop (at + 4) l)
    same-texts = ap_at (λ i. take i (drop (at + 4) l)) (at + 4 + size - (at + 4)) size (omega arith)

    pub at_faulty : ok_texts n.path (take (at + 4 + size - (at + 4)) (drop (at + 4) l)) ≡ false → end_of (length l) (one_member (drop at l)) ≡ None
    at_faulty o =
        ap (end_of (length l))
        (front u
        ∙ texts_read n (drop (at + 4) l) fits
        ∙ attrs-faulty n (drop (at + 4) l) fits hs hd ha (ap (ok_texts n.path) (sym same-texts) ∙ o))

    pub at_sound : ok_texts n.path (take (at + 4 + size - (at + 4)) (drop (at + 4) l)) ≡ true
        → end_of (length l) (one_member (drop at l)) ≡ end_of (length l) (apart (many one_prop n.attributes (drop (at + 4 + size) l)))
    at_sound o =
        ap (end_of (length l)) (front u ∙ texts_read n (drop (at + 4) l) fits)
        ∙ attrs-sound n (drop (at + 4) l) fits hs hd ha (length l) (ap (ok_texts n.path) (sym same-texts) ∙ o)
        ∙ ap (λ (x : List ℕ). end_of (length l) (apart (many one_prop n.attributes x))) (drop-drop size (at + 4) l)
