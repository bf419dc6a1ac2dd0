-- The header's numbers, the properties and the places of the devices of a sound record.
-- Assumes nothing.
use Prim.Native.Nat.{ℕ, suc, ◌+◌, ◌-◌, ◌≤◌, ◌<◌}
use mathlib.Core.Path.{◌≡◌, refl, sym, ap, ap₂, ◌∙◌, subst}
use mathlib.Core.Bool.{true}
use mathlib.Core.List.{List, [], ◌∷◌, ◌++◌, append-nil}
use Rattle.std.specs.Prelude.{Option, Some}
use native.Mathlib.Omega.{arith}
use lib.ListN.{length, take, drop, set, length-append, length-drop, length-set}
use lib.Seq.{take_at, drop_at, drop-drop, drop-length, take-suc-set, append_snoc}
use Rattle.lists.specs.Lists.{cat, all}
use Rattle.lists.specs.Bytes.{Bytes}
use Rattle.lists.specs.Sizes.{most_device, most_chain}
use Rattle.lists.proofs.Tests.{and_both, both_and}
use Rattle.bits.specs.Bits.{number_at}
use Rattle.entries.specs.Parse.{got, many}
use Rattle.entries.specs.Entry.{enc_prop, one_prop, lookup}
use Rattle.entries.proofs.Rows.{many_there}
use Rattle.entries.proofs.Heads.{number-first}
use Rattle.entries.proofs.Entries.{prop_laws}
use Rattle.rows.specs.Row.{Row, find_in, end_in}
use Rattle.rows.specs.declared.Kind.TheVariants as kind
use Rattle.rows.proofs.Readers.{property-reads, many-row, many-end}
use Rattle.device.specs.Head.{Head, header}
use Rattle.device.specs.Device.{Member, Device, chain, ok_member, enc_member, head_for, encode, decode}
use Rattle.device.specs.Places.{starts_from, starts, Lies}
use Rattle.device.proofs.Head.{header-length}
use Rattle.device.proofs.RoundTrip.{back, decoded, head_decoded}
use Rattle.device.proofs.Sound.{device_sound}
use Rattle.device.proofs.Places.{record_bytes, chain-bytes}
use Rattle.device_lookup.specs.Lookup.{value_of, Says, Chained}
use Rattle.device_lookup.specs.declared.Span.{Span}
use Rattle.device_lookup.proofs.Members.{row-says}

module _ (l : List ℕ) (d : Device) (b : Bytes l) (e : decode l ≡ Some d) where
  pub record_head : 7 ≤ length l
  unfolding encode
  record_head = omega (arith, ap length (back l d b e), length-append (header (head_for d)) (cat enc_prop d.properties ++ cat enc_member (chain d)), header-length (head_for d))

  pub record_short : length l ≤ most_device
  record_short = (decoded l d e).0

  -- ---- the header's numbers

  pub count-is : number_at l 44 6 ≡ length d.properties
  count-is = sym (number-first l 7 44 6 record_head (omega arith)) ∙ ap (λ (h : Head). h.properties) (head_decoded l d e)

  pub above-is : number_at l 4 4 ≡ length d.parents
  above-is = sym (number-first l 7 4 4 record_head (omega arith)) ∙ ap (λ (h : Head). h.above) (head_decoded l d e)

  -- ---- the properties, n of them

  module _ (n : ℕ) (c : n ≡ length d.properties) where
    properties_read : many one_prop n (drop 7 l) ≡ got d.properties (cat enc_member (chain d))
    properties_read =
        ap₂ (λ (i : ℕ) (x : List ℕ). many one_prop i x) c (record_bytes l d b e)
        ∙ many_there prop_laws d.properties (cat enc_member (chain d)) (device_sound l d e).properties

    pub properties_stand : Row kind.Property n (drop 7 l)
    properties_stand = many-row property-reads n (drop 7 l) d.properties (cat enc_member (chain d)) properties_read

    pub property-says : (key : List ℕ) (v : Option Span) → v ≡ value_of (find_in kind.Property key 7 n (drop 7 l)) → Says l v (lookup key d.properties)
    property-says key v f = row-says l key n 7 d.properties (cat enc_member (chain d)) properties_read v f

    pub properties-end : end_in kind.Property 7 n (drop 7 l) ≡ 7 + length (cat enc_prop d.properties)
    properties-end =
        let f = many-end property-reads n 7 (drop 7 l) d.properties (cat enc_member (chain d)) properties_read in
        omega (arith, f, ap length (record_bytes l d b e), length-append (cat enc_prop d.properties) (cat enc_member (chain d)))

  pub properties-part : (p : ℕ) → p ≡ 7 + length (cat enc_prop d.properties) → take (p - 7) (drop 7 l) ≡ cat enc_prop d.properties
  properties-part p k =
      let ps : List ℕ = cat enc_prop d.properties in
      let f : p - 7 ≡ length ps = omega arith in
      ap₂ (λ (i : ℕ) (x : List ℕ). take i x) f (record_bytes l d b e) ∙ take_at ps (cat enc_member (chain d)) (length ps) refl

  pub properties-within : 7 + length (cat enc_prop d.properties) ≤ length l
  properties-within = omega (arith, record_head, length-drop 7 l, ap length (record_bytes l d b e), length-append (cat enc_prop d.properties) (cat enc_member (chain d)))

-- ---- the devices, i of which have their place

pub record Walk (d : Device) (l at : List ℕ) (p i : ℕ) : Type 0 where
  pub room : length at ≡ most_chain
  pub sound : all ok_member (drop i (chain d)) ≡ true
  pub bytes : drop p l ≡ cat enc_member (drop i (chain d))
  pub places : take i at ++ starts_from p (drop i (chain d)) ≡ starts d

pub chain_few : (l : List ℕ) (d : Device) → decode l ≡ Some d → length (chain d) ≤ most_chain
chain_few l d e = omega (arith, (device_sound l d e).few)

pub chain_length : (d : Device) → length d.parents + 1 ≡ length (chain d)
chain_length d = omega arith

pub walk_start : (l : List ℕ) (d : Device) → Bytes l → decode l ≡ Some d → (at : List ℕ) (p : ℕ) → length at ≡ most_chain → p ≡ 7 + length (cat enc_prop d.properties) → Walk d l at p 0
walk_start l d b e at p h k =
    let s = device_sound l d e in
    record {
      room = h;
      sound = both_and _ _ s.event s.parents;
      bytes = ap (λ (i : ℕ). drop i l) k ∙ chain-bytes l d b e;
      places = ap (λ (i : ℕ). starts_from i (chain d)) k;
    }

-- the next device, and those behind it
pub record Here (d : Device) (i : ℕ) : Type 0 where
  pub member : Member
  pub others : List Member
  pub split : drop i (chain d) ≡ member ∷ others

pub here : (d : Device) (i : ℕ) → i < length (chain d) → Here d i
here d i h = go (drop i (chain d)) refl
  where
    go : (ms : List Member) → drop i (chain d) ≡ ms → Here d i
    go [] e = absurd (omega (arith, ap length e, length-drop i (chain d)))
    go (m ∷ ms) e = record { member = m; others = ms; split = e }

module _ (d : Device) (l at : List ℕ) (p i : ℕ) (w : Walk d l at p i) (h : Here d i) where
  sound-here : (ok_member h.member ≡ true) × (all ok_member h.others ≡ true)
  sound-here = and_both (ok_member h.member) (all ok_member h.others) (subst (λ (x : List Member). all ok_member x ≡ true) h.split w.sound)

  pub walk_lies : Lies l p h.member
  walk_lies = record { sound = sound-here.0; rest = cat enc_member h.others; bytes = w.bytes ∙ ap (cat enc_member) h.split }

  rest : drop (i + 1) (chain d) ≡ h.others
  rest = sym (drop-drop 1 i (chain d)) ∙ ap (drop 1) h.split

  pub walk_next : i < most_chain → (q : ℕ) → q ≡ p + length (enc_member h.member) → Walk d l (set at i p) q (i + 1)
  walk_next n q k =
      let m : List ℕ = enc_member h.member in
      let r : List ℕ = cat enc_member h.others in
      let x : List ℕ = starts_from q h.others in
      record {
        room = length-set at i p ∙ w.room;
        sound = subst (λ (x : List Member). all ok_member x ≡ true) (sym rest) sound-here.1;
        bytes =
            ap (λ (j : ℕ). drop j l) k
            ∙ sym (drop-drop (length m) p l)
            ∙ ap (drop (length m)) (w.bytes ∙ ap (cat enc_member) h.split)
            ∙ drop_at m r (length m) refl
            ∙ ap (cat enc_member) (sym rest);
        places =
            ap₂ (λ (j : ℕ) (y : List Member). take j (set at i p) ++ starts_from q y) (let e : i + 1 ≡ suc i = omega arith in e) rest
            ∙ ap (λ (y : List ℕ). y ++ x) (take-suc-set at i p (omega (arith, w.room)))
            ∙ append_snoc (take i at) p x
            ∙ ap (λ (j : ℕ). take i at ++ (p ∷ starts_from j h.others)) k
            ∙ ap (λ (y : List Member). take i at ++ starts_from p y) (sym h.split)
            ∙ w.places;
      }

-- all have their place
pub walk_end : (d : Device) (l at : List ℕ) (p n i : ℕ) → Walk d l at p i → n ≡ length (chain d) → i ≡ n → Chained d (record { len = n; at = at })
walk_end d l at p n i w e k =
    record {
      len = e;
      at =
          sym (append-nil (take n at))
          ∙ ap₂ (λ (j : ℕ) (y : List Member). take j at ++ starts_from p y) (sym k) (sym (ap (λ (j : ℕ). drop j (chain d)) (k ∙ e) ∙ drop-length (chain d)))
          ∙ w.places;
    }
