-- Worked examples of device records, by one computed claim: what is sound, and what is refusal 3. Assumes nothing.
use Prim.Native.Nat.{ℕ, zero, suc, ◌+◌}
use Prim.Native.String.{String}
use mathlib.Core.Path.{◌≡◌, refl}
use mathlib.Core.Bool.{Bool, true, false, not}
use mathlib.Core.List.{List, [], ◌∷◌, ◌++◌}
use Rattle.std.specs.Prelude.{Option, None, Some}
use lib.ListN.{take, drop, set, replicate}
use Rattle.lists.specs.Lists.{is_some}
use Rattle.lists.specs.Bytes.{same_bytes}
use Rattle.lists.specs.Runs.{split_at}
use Rattle.lists.specs.Quoted.{bytes}
use Rattle.bits.specs.Bits.{to_bits, from_bits, bits_of, bytes_of, number_at}
use Rattle.bits.specs.Fields.{packed}
use Rattle.entries.specs.Entry.{Property}
use Rattle.device.specs.Head.{header, lens_bytes}
use Rattle.device.specs.Device.{Member, Device, name_of, attr_of, action_names, action_of, encode, decode}

pub data Case : Type 0 where
  -- a sound record, which its device packs to again
  sound : String → List ℕ → Case
  faulty : String → List ℕ → Case
  -- two texts that are the same
  same : String → List ℕ → List ℕ → Case

abbrev packs : Option Device → List ℕ → Bool
packs None bs = false
packs (Some d) bs = same_bytes (encode d) bs

unfoldable pub right : Case → Bool
unfolding bytes same_bytes split_at to_bits from_bits bits_of bytes_of number_at packed header lens_bytes action_names action_of encode decode
right (sound name bs) = packs (decode bs) bs
right (faulty name bs) = not (is_some (decode bs))
right (same name a b) = same_bytes a b

abbrev label : Case → String
label (sound name bs) = name
label (faulty name bs) = name
label (same name a b) = name

-- the names of the cases that do not come out as written
unfoldable pub wrong : List Case → List String
unfolding right
wrong [] = []
wrong (c ∷ cs) = elim (right c) [ true ↦ wrong cs | false ↦ label c ∷ wrong cs ]

-- ---- records

-- edition 1, action add, no node, no properties, one device `/a` and no more, byte by byte
bare : List ℕ
bare = 16 ∷ 0 ∷ 0 ∷ 0 ∷ 0 ∷ 0 ∷ 0 ∷ 1 ∷ 0 ∷ 0 ∷ 0 ∷ 47 ∷ 97 ∷ []

-- `/a/b` below a device that is packed next
below : List ℕ
below = 17 ∷ 0 ∷ 0 ∷ 0 ∷ 0 ∷ 0 ∷ 0 ∷ 2 ∷ 0 ∷ 0 ∷ 0 ∷ 47 ∷ 97 ∷ 47 ∷ 98 ∷ []

-- n properties of k and v bytes, whose keys begin with different bytes
entries : ℕ → ℕ → ℕ → List Property
entries zero k v = []
entries (suc n) k v = record { key = take k ((1 + n) ∷ replicate 80 120); value = replicate v 121 } ∷ entries n k v

device : List Property → List ℕ → List ℕ → List ℕ → List Property → List Member → Device
device ps path subsystem driver attributes parents =
    record {
      action = 5;
      node = 1;
      major = 4095;
      minor = 1048575;
      properties = ps;
      event = record { path = path; subsystem = subsystem; driver = driver; attributes = attributes };
      parents = parents;
    }

plain : List Property → List Property → List ℕ
unfolding bytes device encode
plain ps attributes = encode (device ps (bytes "/a") [] [] attributes [])

pathed : List ℕ → List ℕ
unfolding bytes device encode
pathed path = encode (device [] path (bytes "s") (bytes "d") [] [])

member : String → Member
unfolding bytes
member path = record { path = bytes path; subsystem = []; driver = []; attributes = [] }

chained : String → List Member → List ℕ
unfolding bytes device encode
chained path parents = encode (device [] (bytes path) [] [] [] parents)

unfoldable pub attrs_one : Member
unfolding bytes
attrs_one = record { path = bytes "/x/sda"; subsystem = []; driver = []; attributes = record { key = bytes "k"; value = [] } ∷ [] }

pub examples : List Case
unfolding bare below entries device plain pathed member chained attrs_one bytes
examples =
    sound "bare" bare
    ∷ sound "a node 0:0" (set bare 1 16)
    ∷ sound "action unbind" (set bare 1 224)
    ∷ sound "largest numbers" (plain [] [])
    ∷ faulty "no bytes" []
    ∷ faulty "6 bytes" (take 6 bare)
    ∷ faulty "edition 0" (set bare 0 0)
    ∷ faulty "edition 2" (set bare 0 32)
    ∷ faulty "unused bit of the header" (set bare 6 1)
    ∷ faulty "major without a node" (set bare 2 1)
    ∷ faulty "minor without a node" (set bare 4 1)
    ∷ faulty "a chain of two" (set bare 0 17)
    ∷ faulty "unused bit of a device" (set bare 10 1)
    ∷ faulty "cut short" (take 12 bare)
    ∷ faulty "a byte more" (bare ++ (0 ∷ []))
    -- paths
    ∷ faulty "no slash" (pathed (bytes "a"))
    ∷ faulty "only a slash" (pathed (bytes "/"))
    ∷ faulty "slash at the end" (pathed (bytes "/a/"))
    ∷ faulty "two slashes" (pathed (bytes "/a//b"))
    ∷ faulty "NUL in a path" (set bare 12 0)
    ∷ faulty "empty path" (pathed [])
    ∷ sound "dots are names" (pathed (bytes "/../."))
    ∷ sound "path of 256" (pathed (47 ∷ replicate 255 97))
    ∷ faulty "path of 257" (pathed (47 ∷ replicate 256 97))
    -- parents
    ∷ sound "parent" (below ++ drop 7 bare)
    ∷ sound "parents, one component skipped" (chained "/a/b/c/d" (member "/a/b" ∷ member "/a" ∷ []))
    ∷ faulty "equal paths" (chained "/a" (member "/a" ∷ []))
    ∷ faulty "no cut" (chained "/a/b" (member "/b" ∷ []))
    ∷ faulty "cut within a component" (chained "/ab/c" (member "/a" ∷ []))
    ∷ faulty "a child behind its parent" (chained "/a" (member "/a/b" ∷ []))
    ∷ faulty "parent of the child only" (chained "/a/b/c" (member "/a" ∷ member "/a/b" ∷ []))
    -- properties and attributes
    ∷ sound "32 properties" (plain (entries 32 1 0) [])
    ∷ faulty "33 properties" (plain (entries 33 1 0) [])
    ∷ sound "31 attributes" (plain [] (entries 31 1 0))
    ∷ sound "key of 64, value of 256" (plain (entries 1 64 256) (entries 1 64 256))
    ∷ faulty "property key of 65" (plain (entries 1 65 0) [])
    ∷ faulty "property key of 0" (plain (entries 1 0 0) [])
    ∷ faulty "property value of 257" (plain (entries 1 1 257) [])
    ∷ faulty "attribute name of 65" (plain [] (entries 1 65 0))
    ∷ faulty "attribute value of 257" (plain [] (entries 1 1 257))
    ∷ faulty "equal property keys" (plain (entries 1 1 1 ++ entries 1 1 2) [])
    ∷ faulty "equal attribute names" (plain [] (entries 1 1 1 ++ entries 1 1 2))
    ∷ sound "a property and an attribute of one name" (plain (entries 1 1 1) (entries 1 1 1))
    ∷ faulty "NUL in a value" (plain (record { key = bytes "k"; value = 0 ∷ [] } ∷ []) [])
    -- 16,384 bytes and one more
    ∷ sound "16,384" (plain (entries 32 64 256) (entries 18 64 256 ++ (record { key = 99 ∷ replicate 63 120; value = replicate 205 1 } ∷ [])))
    ∷ faulty "16,385" (plain (entries 32 64 256) (entries 18 64 256 ++ (record { key = 99 ∷ replicate 63 120; value = replicate 206 1 } ∷ [])))
    -- names and actions
    ∷ same "name" (name_of attrs_one) (bytes "sda")
    ∷ same "action" (action_of (device [] [] [] [] [] [])) (bytes "offline")
    ∷ []

-- absent and empty stay apart
pub present : attr_of (bytes "k") attrs_one ≡ Some []
unfolding bytes same_bytes attrs_one
present = refl

pub absent : attr_of (bytes "j") attrs_one ≡ None
unfolding bytes same_bytes attrs_one
absent = refl

pub shown : wrong examples ≡ []
unfolding wrong examples
shown = refl
