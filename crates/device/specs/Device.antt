-- Document 01, Packed records and Sizes: the device record as a value, and the records that are sound.
-- Assumes nothing.
use Rattle.std.specs.Prelude.{ℕ, zero, suc, Bool, true, false, ◌&&◌, ◌||◌, not, List, [], ◌∷◌, ◌++◌, eqb, leb, length}
use Rattle.std.specs.Prelude.{Option, None, Some}
use Rattle.lists.specs.Lists.{cat, all, is_empty, nth}
use Rattle.lists.specs.Bytes.{clean, distinct}
use Rattle.lists.specs.Runs.{split_at, last_of}
use Rattle.entries.specs.Parse.{Parse, got, bad, bind, keep, many}
use Rattle.entries.specs.Entry.{exactly, Property, ok_prop, enc_prop, one_prop, keys, lookup, or_empty}
use Rattle.lists.specs.Quoted.{bytes}
use Rattle.lists.specs.Sizes.{most_device, most_path, most_subsystem, most_attributes, most_properties}
use Rattle.device.specs.Head.{Head, header, head_of, Lens, lens_bytes, lens_of}

-- one device of the chain
pub record Member : Type 0 where
  pub path : List ℕ
  pub subsystem : List ℕ
  pub driver : List ℕ
  pub attributes : List Property

-- a device record: the event device, then its parents from the nearest up
pub record Device : Type 0 where
  pub action : ℕ
  pub node : ℕ
  pub major : ℕ
  pub minor : ℕ
  pub properties : List Property
  pub event : Member
  pub parents : List Member

-- the chain, the event device first (place 1)
abbrev pub chain : Device → List Member
chain d = d.event ∷ d.parents

-- the device's name is its path's last component
abbrev pub name_of : Member → List ℕ
name_of m = last_of (split_at 47 m.path)

-- an attribute of a device; none where it is absent
abbrev pub attr_of : List ℕ → Member → Option (List ℕ)
attr_of k m = lookup k m.attributes

-- the device at a place of the chain, from 1
abbrev pub member_at : ℕ → Device → Option Member
member_at zero d = None
member_at (suc n) d = nth n (chain d)

-- a path starts with `/` and has no empty component
abbrev pub ok_path : List ℕ → Bool
ok_path [] = false
ok_path (b ∷ bs) = eqb b 47 && all (λ x. not (is_empty x)) (split_at 47 bs)

-- the second path goes on behind the first with a `/`
abbrev pub goes_on : List ℕ → List ℕ → Bool
goes_on [] [] = false
goes_on [] (b ∷ bs) = eqb b 47
goes_on (a ∷ xs) [] = false
goes_on (a ∷ xs) (b ∷ bs) = eqb a b && goes_on xs bs

-- a parent's path is some of the child's first components, not all
abbrev pub cut_of : List ℕ → List ℕ → Bool
cut_of parent child = not (is_empty parent) && goes_on parent child

-- each device after the first is a parent of the one before it
abbrev pub rising : Member → List Member → Bool
rising m [] = true
rising m (p ∷ ps) = cut_of p.path m.path && rising p ps

-- what the header of a sound record says
abbrev pub ok_head : Head → Bool
ok_head h =
    eqb h.edition 1
    && ((eqb h.node 1 || (eqb h.major 0 && eqb h.minor 0))
    && (leb h.properties most_properties && eqb h.unused 0))

-- what one device of a sound record is: sizes, no NUL, a sound path, distinct attribute names
abbrev pub ok_member : Member → Bool
ok_member m =
    leb 1 (length m.path)
    && (leb (length m.path) most_path
    && (clean m.path
    && (ok_path m.path
    && (leb (length m.subsystem) most_subsystem
    && (clean m.subsystem
    && (leb (length m.driver) most_subsystem
    && (clean m.driver && (leb (length m.attributes) most_attributes && (all ok_prop m.attributes && distinct (keys m.attributes))))))))))

abbrev pub lens_for : Member → Lens
lens_for m =
    record {
      path = length m.path;
      subsystem = length m.subsystem;
      driver = length m.driver;
      attributes = length m.attributes;
      unused = 0;
    }

abbrev pub enc_member : Member → List ℕ
enc_member m = lens_bytes (lens_for m) ++ (m.path ++ (m.subsystem ++ (m.driver ++ cat enc_prop m.attributes)))

abbrev pub head_for : Device → Head
head_for d =
    record {
      edition = 1;
      above = length d.parents;
      action = d.action;
      node = d.node;
      major = d.major;
      minor = d.minor;
      properties = length d.properties;
      unused = 0;
    }

-- a device as its record
unfoldable pub encode : Device → List ℕ
encode d = header (head_for d) ++ (cat enc_prop d.properties ++ cat enc_member (chain d))

-- one device: its numbers, its three texts, its attributes
abbrev pub member_of : List ℕ → List ℕ → List ℕ → List Property → Member
member_of p s d ps = record { path = p; subsystem = s; driver = d; attributes = ps }

abbrev pub attrs_on : Lens → List ℕ → List ℕ → List ℕ → List ℕ → Parse Member
attrs_on n p s d r = bind (many one_prop n.attributes r) (λ ps q. keep (ok_member (member_of p s d ps)) (member_of p s d ps) q)

abbrev pub driver_on : Lens → List ℕ → List ℕ → List ℕ → Parse Member
driver_on n p s r = bind (exactly n.driver r) (λ d q. attrs_on n p s d q)

abbrev pub subsystem_on : Lens → List ℕ → List ℕ → Parse Member
subsystem_on n p r = bind (exactly n.subsystem r) (λ s q. driver_on n p s q)

abbrev pub path_on : Lens → List ℕ → Parse Member
path_on n r = bind (exactly n.path r) (λ p q. subsystem_on n p q)

abbrev pub read_lens : List ℕ → Parse Lens
read_lens bs = bind (exactly 4 bs) (λ head r. keep (eqb (lens_of head).unused 0) (lens_of head) r)

abbrev pub one_member : List ℕ → Parse Member
one_member bs = bind (read_lens bs) path_on

-- the parts of the record, one after another, from the last
abbrev pub device_of : Head → List Property → Member → List Member → Device
device_of h ps e ms =
    record {
      action = h.action;
      node = h.node;
      major = h.major;
      minor = h.minor;
      properties = ps;
      event = e;
      parents = ms;
    }

abbrev pub parents_on : Head → List Property → Member → List ℕ → Parse Device
parents_on h ps e r = bind (many one_member h.above r) (λ ms q. got (device_of h ps e ms) q)

abbrev pub event_on : Head → List Property → List ℕ → Parse Device
event_on h ps r = bind (one_member r) (λ e q. parents_on h ps e q)

abbrev pub props_on : Head → List ℕ → Parse Device
props_on h r = bind (many one_prop h.properties r) (λ ps q. event_on h ps q)

abbrev pub read_head : List ℕ → Parse Head
read_head bs = bind (exactly 7 bs) (λ head r. keep (ok_head (head_of head)) (head_of head) r)

abbrev pub parts : List ℕ → Parse Device
parts bs = bind (read_head bs) props_on

-- what holds of the whole: no property key twice, each parent above its child
abbrev pub whole : Device → Bool
whole d = distinct (keys d.properties) && rising d.event d.parents

-- nothing after the end
abbrev pub ended : Parse Device → Option Device
ended bad = None
ended (got d (b ∷ bs)) = None
ended (got d []) = elim (whole d) [ true ↦ Some d | false ↦ None ]

-- the sound device records, and no others: to 16,384 bytes (refusal 3)
unfoldable pub decode : List ℕ → Option Device
decode bs = elim (leb (length bs) most_device) [ true ↦ ended (parts bs) | false ↦ None ]

-- the names of the eight actions, by their number
unfoldable pub action_names : List (List ℕ)
unfolding bytes
action_names =
    bytes "add"
    ∷ bytes "remove"
    ∷ bytes "change"
    ∷ bytes "move"
    ∷ bytes "online"
    ∷ bytes "offline"
    ∷ bytes "bind"
    ∷ bytes "unbind"
    ∷ []

unfoldable pub action_of : Device → List ℕ
action_of d = or_empty (nth d.action action_names)
