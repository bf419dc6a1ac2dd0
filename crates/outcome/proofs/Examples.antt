-- Worked examples of outcome records, by one computed claim: what is sound, and what is refusal 4; of edition 2, and (document 02, Item 5) of
-- edition 1.
-- Assumes nothing.
use Prim.Native.Nat.{ℕ, zero, suc, ◌+◌}
use Prim.Native.String.{String}
use mathlib.Core.Path.{◌≡◌, refl}
use mathlib.Core.Bool.{Bool, true, false, not, ◌&&◌}
use mathlib.Core.List.{List, [], ◌∷◌, ◌++◌}
use Rattle.std.specs.Prelude.{Option, None, Some}
use lib.Dec.{eqb}
use lib.ListN.{length, take, set, replicate}
use Rattle.lists.specs.Lists.{is_some}
use Rattle.lists.specs.Bytes.{same_bytes, starts}
use Rattle.lists.specs.Runs.{split_at, span}
use Rattle.lists.specs.Items.{items, in_braces}
use Rattle.lists.specs.Quoted.{bytes}
use Rattle.bits.specs.Bits.{to_bits, from_bits, bits_of, bytes_of, number_at}
use Rattle.bits.specs.Fields.{packed}
use Rattle.entries.specs.Entry.{Property}
use Rattle.template.specs.Template as T
use Rattle.template.specs.Template.{well_formed}
use Rattle.outcome.specs.Head.{header}
use Rattle.outcome.specs.State.{Run, State, open_all, encode, decode}
use Rattle.outcome.specs.Old.{renewed, aged, encode_old, decode_old}

pub data Case : Type 0 where
  -- beside a chain of so many devices: a sound record, which its state packs to again
  sound : String → ℕ → List ℕ → Case
  faulty : String → ℕ → List ℕ → Case
  -- the same of edition 1
  sound1 : String → ℕ → List ℕ → Case
  faulty1 : String → ℕ → List ℕ → Case
  -- a record of edition 1, and the one of edition 2 that says the same
  converts : String → List ℕ → List ℕ → Case
  -- a record of so many bytes
  sized : String → ℕ → List ℕ → Case

abbrev packs : Option State → List ℕ → Bool
packs None bs = false
packs (Some s) bs = same_bytes (encode s) bs

abbrev packs1 : Option State → List ℕ → Bool
packs1 None bs = false
packs1 (Some s) bs = same_bytes (encode_old s) bs

unfoldable pub right : Case → Bool
unfolding bytes same_bytes split_at items in_braces span starts T.names T.letters T.name_in T.pieces T.well_formed to_bits from_bits bits_of bytes_of number_at packed header encode decode renewed aged encode_old decode_old
right (sound name n bs) = packs (decode n bs) bs
right (faulty name n bs) = not (is_some (decode n bs))
right (sound1 name n bs) = packs1 (decode_old n bs) bs
right (faulty1 name n bs) = not (is_some (decode_old n bs))
right (converts name old new) = packs (decode_old 1 old) new && packs1 (decode 1 new) old
right (sized name n bs) = eqb (length bs) n

abbrev label : Case → String
label (sound name n bs) = name
label (faulty name n bs) = name
label (sound1 name n bs) = name
label (faulty1 name n bs) = name
label (converts name old new) = name
label (sized name n bs) = name

-- the names of the cases that do not come out as written
unfoldable pub wrong : List Case → List String
unfolding right
wrong [] = []
wrong (c ∷ cs) = elim (right c) [ true ↦ wrong cs | false ↦ label c ∷ wrong cs ]

-- ---- records

-- edition 2 and zeros
empty : List ℕ
empty = 32 ∷ 0 ∷ 0 ∷ 0 ∷ 0 ∷ 0 ∷ 0 ∷ 0 ∷ 0 ∷ 0 ∷ 0 ∷ 0 ∷ 0 ∷ []

-- edition 1 and zeros
empty1 : List ℕ
empty1 = 16 ∷ 0 ∷ 0 ∷ 0 ∷ 0 ∷ 0 ∷ 0 ∷ 0 ∷ 0 ∷ 0 ∷ 0 ∷ []

-- a state as it is, sound or not, and packed
state_of_lem : List ℕ → ℕ → List ℕ → List ℕ → List (List ℕ) → List Property → List (List ℕ) → List Run → State
state_of_lem x w o g ls ps ts rs =
    record { closed = open_all; owner = o; group = g; mode = Some 4093; priority = 4294967295; output = x; watch = w; links = ls; properties = ps; tags = ts; runs = rs }

state : List ℕ → List ℕ → List (List ℕ) → List Property → List (List ℕ) → List Run → List ℕ
unfolding encode state_of_lem
state o g ls ps ts rs = encode (state_of_lem [] 0 o g ls ps ts rs)

-- with an output and a watch setting
saying : List ℕ → ℕ → List ℕ
unfolding encode state_of_lem
saying x w = encode (state_of_lem x w [] [] [] [] [] [])

-- n texts of k bytes that begin with different bytes
texts : ℕ → ℕ → List (List ℕ)
texts zero k = []
texts (suc n) k = take k ((65 + n) ∷ replicate 300 120) ∷ texts n k

entries : ℕ → ℕ → ℕ → List Property
entries zero k v = []
entries (suc n) k v = record { key = take k ((1 + n) ∷ replicate 80 120); value = replicate v 121 } ∷ entries n k v

runs : ℕ → ℕ → ℕ → List Run
runs zero place k = []
runs (suc n) place k = record { builtin = true; place = place; template = replicate k 120 } ∷ runs n place k

linked : List (List ℕ) → List ℕ
unfolding state
linked ls = state [] [] ls [] [] []

run_of : ℕ → List ℕ → List ℕ
unfolding state
run_of place t = state [] [] [] [] [] (record { builtin = false; place = place; template = t } ∷ [])

fullest : List ℕ
unfolding encode state_of_lem texts entries runs
fullest = encode (state_of_lem (replicate 512 121) 2 (replicate 32 120) (replicate 32 46) (texts 16 128) (entries 32 64 256) (texts 16 64) (runs 16 16 256))

fullest1 : List ℕ
unfolding encode encode_old aged state_of_lem texts entries runs
fullest1 = encode_old (state_of_lem [] 0 (replicate 32 120) (replicate 32 46) (texts 16 128) (entries 32 64 256) (texts 16 64) (runs 16 16 256))

pub examples : List Case
unfolding bytes empty empty1 encode encode_old aged state_of_lem state saying texts entries runs linked run_of fullest fullest1
examples =
    sound "empty" 1 empty
    ∷ sound "fullest" 16 fullest
    ∷ sized "18,125" 18125 fullest
    ∷ faulty "no bytes" 1 []
    ∷ faulty "12 bytes" 1 (take 12 empty)
    ∷ faulty "edition 0" 1 (set empty 0 0)
    ∷ faulty "edition 1" 1 (set empty 0 16)
    ∷ faulty "edition 3" 1 (set empty 0 48)
    ∷ faulty "a byte more" 1 (empty ++ (0 ∷ []))
    ∷ sound "all closed" 1 (set (set empty 0 47) 1 192)
    ∷ faulty "mode without its mark" 1 (set empty 3 1)
    ∷ sound "mode 0" 1 (set empty 2 2)
    -- document 02, Item 8: the header's bits 23 to 34 are the mode, so 0002 is bit 33, which is 64 in the fifth byte
    ∷ sound "mode 0775" 1 (set (set (set empty 2 2) 3 63) 4 160)
    ∷ faulty "mode 0002" 1 (set (set empty 2 2) 4 64)
    ∷ faulty "mode 0777" 1 (set (set (set empty 2 2) 3 63) 4 224)
    ∷ faulty "mode 0666, closed" 1 (set (set (set (set empty 1 64) 2 2) 3 54) 4 192)
    ∷ sound "negative priority" 1 (set empty 4 16)
    -- document 02, Item 5: output and watch
    ∷ sound "output by hand" 1 (set empty 12 128 ++ (97 ∷ 10 ∷ []))
    ∷ faulty "output cut short" 1 (set empty 12 128 ++ (97 ∷ []))
    ∷ sound "output and all the rest" 1 (32 ∷ 1 ∷ 4 ∷ 0 ∷ 0 ∷ 0 ∷ 0 ∷ 0 ∷ 1 ∷ 4 ∷ 33 ∷ 0 ∷ 96 ∷ 120 ∷ 111 ∷ 103 ∷ 1 ∷ 108 ∷ 2 ∷ 1 ∷ 107 ∷ 118 ∷ 1 ∷ 116 ∷ 0 ∷ 2 ∷ 97 ∷ [])
    ∷ sound "output of 512" 1 (saying (replicate 512 32) 0)
    ∷ faulty "output of 513" 1 (saying (replicate 513 32) 0)
    ∷ faulty "NUL in an output" 1 (saying (97 ∷ 0 ∷ []) 0)
    ∷ sound "watch" 1 (set empty 12 16)
    ∷ sound "nowatch" 1 (set empty 12 32)
    ∷ faulty "watch 3" 1 (set empty 12 48)
    ∷ faulty "unused bits 8" 1 (set empty 12 8)
    ∷ faulty "unused bits 1" 1 (set empty 12 1)
    -- edition 1
    ∷ sound1 "empty" 1 empty1
    ∷ sound1 "fullest" 16 fullest1
    ∷ sized "17,611" 17611 fullest1
    ∷ faulty1 "no bytes" 1 []
    ∷ faulty1 "10 bytes" 1 (take 10 empty1)
    ∷ faulty1 "edition 0" 1 (set empty1 0 0)
    ∷ faulty1 "edition 2" 1 (set empty1 0 32)
    ∷ faulty1 "a record of edition 2" 1 empty
    ∷ faulty1 "edition 15" 1 (set empty1 0 240)
    ∷ faulty1 "a byte more" 1 (empty1 ++ (0 ∷ []))
    ∷ faulty1 "mode without its mark" 1 (set empty1 3 1)
    ∷ faulty1 "mode 0002" 1 (set (set empty1 2 2) 4 64)
    ∷ sound1 "run by hand" 1 (16 ∷ 0 ∷ 0 ∷ 0 ∷ 0 ∷ 0 ∷ 0 ∷ 0 ∷ 0 ∷ 0 ∷ 1 ∷ 132 ∷ 2 ∷ 97 ∷ [])
    ∷ faulty1 "place behind the chain" 1 (16 ∷ 0 ∷ 0 ∷ 0 ∷ 0 ∷ 0 ∷ 0 ∷ 0 ∷ 0 ∷ 0 ∷ 1 ∷ 136 ∷ 2 ∷ 97 ∷ [])
    ∷ faulty1 "equal links" 1 (16 ∷ 0 ∷ 0 ∷ 0 ∷ 0 ∷ 0 ∷ 0 ∷ 0 ∷ 2 ∷ 0 ∷ 0 ∷ 1 ∷ 97 ∷ 1 ∷ 97 ∷ [])
    ∷ converts "empty" empty1 empty
    ∷ converts "every section"
    (31 ∷ 193 ∷ 10 ∷ 0 ∷ 128 ∷ 0 ∷ 0 ∷ 32 ∷ 66 ∷ 8 ∷ 34 ∷ 111 ∷ 103 ∷ 104 ∷ 3 ∷ 108 ∷ 47 ∷ 109 ∷ 1 ∷ 110 ∷ 2 ∷ 1 ∷ 107 ∷ 118 ∷ 2 ∷ 2 ∷ 119 ∷ 120 ∷ 121 ∷ 1 ∷ 116 ∷ 0 ∷ 2 ∷ 97 ∷ 128 ∷ 2 ∷ 98 ∷ [])
    (47 ∷ 193 ∷ 10 ∷ 0 ∷ 128 ∷ 0 ∷ 0 ∷ 32 ∷ 66 ∷ 8 ∷ 34 ∷ 0 ∷ 0 ∷ 111 ∷ 103 ∷ 104 ∷ 3 ∷ 108 ∷ 47 ∷ 109 ∷ 1 ∷ 110 ∷ 2 ∷ 1 ∷ 107 ∷ 118 ∷ 2 ∷ 2 ∷ 119 ∷ 120 ∷ 121 ∷ 1 ∷ 116 ∷ 0 ∷ 2 ∷ 97 ∷ 128 ∷ 2 ∷ 98 ∷ [])
    -- owner and group
    ∷ sound "owner and group" 1 (state (bytes "a_b-c.D9") (bytes "-") [] [] [] [])
    ∷ faulty "owner of 33" 1 (state (replicate 33 120) [] [] [] [] [])
    ∷ faulty "group of 33" 1 (state [] (replicate 33 120) [] [] [] [])
    ∷ faulty "blank in an owner" 1 (state (bytes "a b") [] [] [] [] [])
    ∷ faulty "plus in a group" 1 (state [] (bytes "a+b") [] [] [] [])
    -- links
    ∷ sound "links" 1 (linked (bytes "a/b" ∷ bytes "... x" ∷ replicate 128 97 ∷ []))
    ∷ faulty "empty link" 1 (linked ([] ∷ []))
    ∷ faulty "link of 129" 1 (linked (replicate 129 97 ∷ []))
    ∷ faulty "slash in front" 1 (linked (bytes "/a" ∷ []))
    ∷ faulty "slash at the end" 1 (linked (bytes "a/" ∷ []))
    ∷ faulty "dot" 1 (linked (bytes "a/./b" ∷ []))
    ∷ faulty "two dots" 1 (linked (bytes "a/.." ∷ []))
    ∷ faulty "NUL in a link" 1 (linked ((97 ∷ 0 ∷ []) ∷ []))
    ∷ faulty "equal links" 1 (linked (bytes "a" ∷ bytes "b" ∷ bytes "a" ∷ []))
    ∷ faulty "17 links" 1 (linked (texts 17 1))
    -- properties
    ∷ sound "empty value" 1 (state [] [] [] (entries 2 1 0) [] [])
    ∷ faulty "33 properties" 1 (state [] [] [] (entries 33 1 0) [] [])
    ∷ faulty "key of 0" 1 (state [] [] [] (entries 1 0 1) [] [])
    ∷ faulty "key of 65" 1 (state [] [] [] (entries 1 65 1) [] [])
    ∷ faulty "value of 257" 1 (state [] [] [] (entries 1 1 257) [] [])
    ∷ faulty "equal keys" 1 (state [] [] [] (entries 1 1 0 ++ entries 1 1 1) [] [])
    ∷ faulty "NUL in a value" 1 (state [] [] [] (record { key = bytes "k"; value = 0 ∷ [] } ∷ []) [] [])
    -- tags
    ∷ sound "tags" 1 (state [] [] [] [] (bytes "a b/.." ∷ replicate 64 97 ∷ []) [])
    ∷ faulty "empty tag" 1 (state [] [] [] [] ([] ∷ []) [])
    ∷ faulty "tag of 65" 1 (state [] [] [] [] (replicate 65 97 ∷ []) [])
    ∷ faulty "17 tags" 1 (state [] [] [] [] (texts 17 1) [])
    ∷ faulty "equal tags" 1 (state [] [] [] [] (bytes "a" ∷ bytes "a" ∷ []) [])
    ∷ faulty "NUL in a tag" 1 (state [] [] [] [] ((0 ∷ []) ∷ []) [])
    -- runs
    ∷ sound "equal runs" 3 (state [] [] [] [] [] (runs 2 3 1))
    ∷ sound "no place" 1 (run_of 0 (bytes "%k$$"))
    ∷ faulty "place behind the chain" 2 (run_of 3 (bytes "x"))
    ∷ faulty "empty template" 1 (run_of 0 [])
    ∷ sound "template of 256" 1 (run_of 0 (replicate 256 97))
    ∷ faulty "template of 257" 1 (run_of 0 (replicate 257 97))
    ∷ faulty "template with a fault" 1 (run_of 0 (bytes "a$"))
    ∷ faulty "NUL in a template" 1 (run_of 0 (97 ∷ 0 ∷ []))
    ∷ faulty "17 runs" 1 (state [] [] [] [] [] (runs 17 0 1))
    ∷ sound "run by hand" 1 ((32 ∷ 0 ∷ 0 ∷ 0 ∷ 0 ∷ 0 ∷ 0 ∷ 0 ∷ 0 ∷ 0 ∷ 1 ∷ 0 ∷ 0 ∷ 132 ∷ 2 ∷ 97 ∷ []))
    ∷ faulty "unused bit of a run" 1 ((32 ∷ 0 ∷ 0 ∷ 0 ∷ 0 ∷ 0 ∷ 0 ∷ 0 ∷ 0 ∷ 0 ∷ 1 ∷ 0 ∷ 0 ∷ 132 ∷ 3 ∷ 97 ∷ []))
    ∷ []

pub shown : wrong examples ≡ []
unfolding wrong examples
shown = refl
