-- The parts of one device, in the places that code has.
-- Assumes nothing.
use Prim.Native.Nat.{ℕ, ◌+◌, ◌-◌, ◌≤◌}
use mathlib.Core.Path.{◌≡◌, refl, sym, ap, ap₂, ◌∙◌, subst}
use mathlib.Core.List.{List}
use Rattle.std.specs.Prelude.{Option, None, Some, Result, Ok, Err}
use native.Mathlib.Omega.{arith}
use lib.ListN.{length, take, drop, length-append, length-drop}
use lib.Seq.{take_all}
use Rattle.lists.specs.Lists.{cat}
use Rattle.lists.specs.Runs.{split_at, last_of}
use Rattle.entries.specs.Parse.{got, many}
use Rattle.entries.specs.Entry.{Property, enc_prop, one_prop, lookup, or_empty}
use Rattle.entries.proofs.Rows.{many_there}
use Rattle.entries.proofs.Entries.{prop_laws}
use Rattle.rows.specs.Row.{Row, find_in, end_in}
use Rattle.rows.specs.declared.Kind.TheVariants as kind
use Rattle.rows.specs.declared.Found.{Found}
use Rattle.rows.proofs.Readers.{property-reads, many-row, many-end}
use Rattle.rows.proofs.Lookup as rows_lookup
use Rattle.rows.proofs.Lookup.{find_lookup}
use Rattle.device.specs.Head as D
use Rattle.device.specs.Head.{lens_of}
use Rattle.device.specs.Device.{Member, name_of, attr_of, lens_for, enc_member}
use Rattle.device.specs.Places.{Lies}
use Rattle.device.proofs.Members.{member-parts}
use Rattle.device_head.specs.declared.Lens.{Lens}
use Rattle.device_head.specs.Read.{lens_in, path_len}
use Rattle.device_head.proofs.Lying.{member-length, lies_within, lies_lens, lies_length, lies_attributes, lies_subsystem, lies_driver}
use Rattle.device_lookup.specs.Lookup.{Standing, Placed, Ordered, value_of, Says, part_in}
use Rattle.device_lookup.specs.declared.Parts.{Parts}
use Rattle.device_lookup.specs.declared.Span.{Span}

-- ---- where it stands

pub standing_head : (l : List ℕ) (at : ℕ) → Standing l at → at + 4 ≤ length l
standing_head l at s = omega (arith, lies_within l at s.member s.lies, member-length s.member)

pub standing-path : (l : List ℕ) (at : ℕ) → Standing l at → at + 4 + path_len l at ≤ length l
standing-path l at s = omega (arith, lies_within l at s.member s.lies, member-length s.member, lies_length l at s.member s.lies)

-- ---- its parts

pub parts_placed : (l : List ℕ) (at : ℕ) (n : Lens) → lens_in n ≡ lens_of (take 4 (drop at l)) → (m : Member) → Lies l at m
    → Placed at m
    (record {
      path = at + 4;
      subsystem = at + 4 + n.path;
      driver = at + 4 + n.path + n.subsystem;
      attributes = at + 4 + n.path + n.subsystem + n.driver;
      count = n.attributes;
    })
parts_placed l at n e m h =
    let f : lens_in n ≡ lens_for m = e ∙ lies_lens l at m h in
    record {
      path = refl;
      subsystem = ap (λ (x : D.Lens). at + 4 + x.path) f;
      driver = ap (λ (x : D.Lens). at + 4 + n.path + x.subsystem) f;
      attributes = ap (λ (x : D.Lens). at + 4 + n.path + n.subsystem + x.driver) f;
      count = ap (λ (x : D.Lens). x.attributes) f;
    }

module _ (l : List ℕ) (at : ℕ) (m : Member) (h : Lies l at m) (r : Parts) (p : Placed at m r) where
  at_subsystem : r.subsystem ≡ at + 4 + length m.path
  at_subsystem = p.subsystem ∙ ap (λ (i : ℕ). i + length m.path) p.path

  at_driver : r.driver ≡ at + 4 + length m.path + length m.subsystem
  at_driver = p.driver ∙ ap (λ (i : ℕ). i + length m.subsystem) at_subsystem

  at_attributes : r.attributes ≡ at + 4 + length m.path + length m.subsystem + length m.driver
  at_attributes = p.attributes ∙ ap (λ (i : ℕ). i + length m.driver) at_driver

  pub parts-ordered : Ordered r (length l)
  parts-ordered =
      record {
        path = omega (arith, p.subsystem);
        subsystem = omega (arith, p.driver);
        driver = omega (arith, p.attributes);
        within = omega (arith, at_attributes, lies_within l at m h, member-length m);
      }

  pub subsystem-part : take (r.driver - r.subsystem) (drop r.subsystem l) ≡ m.subsystem
  subsystem-part =
      let e : r.driver - r.subsystem ≡ length m.subsystem = omega (arith, p.driver) in
      ap₂ (λ (i j : ℕ). take i (drop j l)) e at_subsystem ∙ lies_subsystem l at m h

  pub driver-part : take (r.attributes - r.driver) (drop r.driver l) ≡ m.driver
  driver-part =
      let e : r.attributes - r.driver ≡ length m.driver = omega (arith, p.attributes) in
      ap₂ (λ (i j : ℕ). take i (drop j l)) e at_driver ∙ lies_driver l at m h

  -- ---- its attributes

  attributes_read : many one_prop r.count (drop r.attributes l) ≡ got m.attributes h.rest
  attributes_read =
      ap₂ (λ (i : ℕ) (x : List ℕ). many one_prop i x) p.count (ap (λ (j : ℕ). drop j l) at_attributes ∙ lies_attributes l at m h)
      ∙ many_there prop_laws m.attributes h.rest (member-parts m h.sound).each

  pub attributes_stand : Row kind.Property r.count (drop r.attributes l)
  attributes_stand = many-row property-reads r.count (drop r.attributes l) m.attributes h.rest attributes_read

  -- the device ends where they end
  pub attributes_end : end_in kind.Property r.attributes r.count (drop r.attributes l) ≡ at + length (enc_member m)
  attributes_end =
      let e = many-end property-reads r.count r.attributes (drop r.attributes l) m.attributes h.rest attributes_read in
      let f : length (drop r.attributes l) ≡ length (cat enc_prop m.attributes) + length h.rest =
      ap length (ap (λ (j : ℕ). drop j l) at_attributes ∙ lies_attributes l at m h) ∙ length-append (cat enc_prop m.attributes) h.rest
      in
      omega (arith, e, f, at_attributes, member-length m)

-- ---- what a search says

pub found-says : (l : List ℕ) (f : Result Found ℕ) (o : Option (List ℕ)) → rows_lookup.Says l f o → Says l (value_of f) o
found-says l (Ok f) o s = s.1
found-says l (Err p) o s = s

pub row-says : (l key : List ℕ) (n at : ℕ) (ps : List Property) (r : List ℕ) → many one_prop n (drop at l) ≡ got ps r
    → (v : Option Span) → v ≡ value_of (find_in kind.Property key at n (drop at l)) → Says l v (lookup key ps)
row-says l key n at ps r e v f =
    subst (λ (x : Option Span). Says l x (lookup key ps)) (sym f) (found-says l (find_in kind.Property key at n (drop at l)) (lookup key ps) (find_lookup l key n at ps r e))

pub attribute-says : (l key : List ℕ) (at : ℕ) (m : Member) (h : Lies l at m) (r : Parts) (p : Placed at m r)
    → (v : Option Span) → v ≡ value_of (find_in kind.Property key r.attributes r.count (drop r.attributes l)) → Says l v (attr_of key m)
attribute-says l key at m h r p v f = row-says l key r.count r.attributes m.attributes h.rest (attributes_read l at m h r p) v f

-- the part of the record reads as what was said
pub said-part : (l : List ℕ) (v : Option Span) (o : Option (List ℕ)) → Says l v o → part_in l v ≡ or_empty o
said-part l (Some v) o s = sym (ap or_empty s)
said-part l None o s = sym (ap or_empty s)

-- ---- its name

pub name-part : (p : List ℕ) (r : ℕ) (m : Member) → p ≡ m.path → drop r p ≡ last_of (split_at 47 p) → take (length p - r) (drop r p) ≡ name_of m
name-part p r m e f = take_all (length p - r) (drop r p) (simp length-drop (omega arith)) ∙ f ∙ ap (λ (x : List ℕ). last_of (split_at 47 x)) e
