-- Document 02, Item 7: worked examples, in two tables under one computed claim.
-- Assumes nothing.
use Prim.Native.Nat.{ℕ, zero, suc}
use Prim.Native.String.{String}
use mathlib.Core.Path.{◌≡◌, refl}
use mathlib.Core.Bool.{Bool, true, false, ◌&&◌}
use mathlib.Core.List.{List, [], ◌∷◌, ◌++◌, map}
use Rattle.std.specs.Prelude.{None}
use lib.Dec.{eqb}
use lib.ListN.{length, take, replicate}
use lib.IntN.{ℤ, pos, negsuc}
use Rattle.lists.specs.Lists.{cat}
use Rattle.lists.specs.Bytes as bytes_of
use Rattle.lists.specs.Bytes.{same_bytes}
use Rattle.lists.specs.Runs as runs
use Rattle.lists.specs.Items as items
use Rattle.lists.specs.Quoted as quoted
use Rattle.lists.specs.Quoted.{bytes}
use Rattle.template.specs.Template as template
use Rattle.bits.specs.Bits as bits
use Rattle.bits.specs.Fields as fields
use Rattle.bits.specs.Signed.{from_signed}
use Rattle.device.specs.Head as device_head
use Rattle.device.specs.Device as device
use Rattle.outcome.specs.Head as outcome_head
use Rattle.outcome.specs.State as outcome
use Rattle.outcome.specs.State.{State, open_all}
use Rattle.engine.specs.Operations as operations
use Rattle.sets.specs.Sets as sets
use Rattle.sets.specs.Lent.{Lent, encode_lent}
use Rattle.sets.specs.Answer.{Answer}
use Rattle.contest.specs.Contest as contest
use Rattle.contest.specs.Contest.{Listed}
use Rattle.contest.specs.Operation as operation
use Rattle.contest.specs.Operation.{enc_listed, fullest_contest}

-- ---- records

-- a device `/a`, packed by hand, with nothing else
unfoldable pub bare : List ℕ
bare = 16 ∷ 0 ∷ 0 ∷ 0 ∷ 0 ∷ 0 ∷ 0 ∷ 1 ∷ 0 ∷ 0 ∷ 0 ∷ 47 ∷ 97 ∷ []

-- an outcome of edition 2 in which all is empty or zero
unfoldable pub empty : List ℕ
empty = 32 ∷ 0 ∷ 0 ∷ 0 ∷ 0 ∷ 0 ∷ 0 ∷ 0 ∷ 0 ∷ 0 ∷ 0 ∷ 0 ∷ 0 ∷ []

abbrev lent : List ℕ → List ℕ → Lent
lent d o = record { device = d; outcome = o }

-- an outcome with a link priority and links, and nothing else
unfoldable pub claiming : ℤ → List String → State
unfolding bytes
claiming z xs =
    record { closed = open_all; owner = []; group = []; mode = None; priority = from_signed z; output = []; watch = 0; links = map bytes xs; properties = []; tags = []; runs = [] }

unfoldable pub record_of : ℤ × List String → Lent
unfolding bytes claiming bare outcome.encode outcome_head.header bits.to_bits bits.from_bits bits.bytes_of fields.packed
record_of c = lent bare (outcome.encode (claiming c.0 c.1))

unfoldable pub set_of : List Lent → List ℕ
unfolding sets.encode_set fields.packed bits.to_bits bits.from_bits bits.bytes_of
set_of ls = encode_lent ls

-- ---- cases

unfoldable pub entry : String → ℕ → List ℕ → Listed
unfolding bytes
entry x h os = record { name = bytes x; holder = h; others = os }

-- n, n + 1 and so on, k of them
abbrev from : ℕ → ℕ → List ℕ
from n zero = []
from n (suc k) = n ∷ from (suc n) k

pub data Case : Type 0 where
  -- records with these priorities and links give this list
  lists : String → List (ℤ × List String) → List Listed → Case
  -- bytes and a room are refused with a number, at a position
  refuses : String → List ℕ → ℕ → ℕ → ℕ → Case

abbrev filled : Answer → List Listed → Bool
filled a es =
    let made = cat enc_listed es in
    eqb a.number 0 && (eqb a.position 0 && (eqb a.count (length es) && (eqb a.used (length made) && same_bytes (take a.used a.bytes) made)))

unfoldable pub right : Case → Bool
unfolding bytes_of.same_bytes bytes_of.starts runs.span runs.split_at items.items items.in_braces quoted.bytes
    template.names template.letters template.name_in template.pieces template.well_formed bits.to_bits bits.from_bits bits.bits_of bits.bytes_of bits.number_at
    fields.packed device_head.header device_head.lens_bytes device.encode device.decode outcome_head.header outcome.encode outcome.decode operations.decode_for
    sets.encode_set sets.decode_set bare claiming record_of contest.contest
    operation.states_from operation.states_of operation.contest_checked operation.contest_answer
right (lists name cs es) = filled (operation.contest_answer (encode_lent (map record_of cs)) fullest_contest) es
right (refuses name set room n p) =
    let a = operation.contest_answer set room in eqb a.number n && (eqb a.position p && (eqb a.used 0 && eqb a.count 0))

abbrev name_of : Case → String
name_of (lists name cs es) = name
name_of (refuses name set room n p) = name

unfoldable pub wrong : List Case → List String
unfolding right
wrong [] = []
wrong (c ∷ cs) = elim (right c) [ true ↦ wrong cs | false ↦ name_of c ∷ wrong cs ]

-- ---- who holds a name

holders : List Case
unfolding entry
holders =
    lists "no record" [] []
    ∷ lists "no link" ((pos 0, []) ∷ (pos 5, []) ∷ []) []
    ∷ lists "one record" ((pos 0, "a" ∷ "b" ∷ []) ∷ []) (entry "a" 1 [] ∷ entry "b" 1 [] ∷ [])
    ∷ lists "the higher" ((pos 0, "a" ∷ []) ∷ (pos 1, "a" ∷ []) ∷ []) (entry "a" 2 (1 ∷ []) ∷ [])
    ∷ lists "equal priorities" ((pos 7, "a" ∷ []) ∷ (pos 8, "a" ∷ []) ∷ (pos 8, "a" ∷ []) ∷ []) (entry "a" 2 (1 ∷ 3 ∷ []) ∷ [])
    ∷ lists "a record twice" ((pos 7, "a" ∷ "b" ∷ []) ∷ (pos 7, "a" ∷ "b" ∷ []) ∷ []) (entry "a" 1 (2 ∷ []) ∷ entry "b" 1 (2 ∷ []) ∷ [])
    ∷ lists "below zero" ((negsuc 0, "a" ∷ []) ∷ (pos 0, "a" ∷ []) ∷ (negsuc 1, "a" ∷ []) ∷ []) (entry "a" 2 (1 ∷ 3 ∷ []) ∷ [])
    ∷ lists "both ends" ((negsuc 2147483647, "a" ∷ []) ∷ (pos 2147483647, "a" ∷ []) ∷ []) (entry "a" 2 (1 ∷ []) ∷ [])
    ∷ lists "both ends, the other way" ((pos 2147483647, "a" ∷ []) ∷ (negsuc 2147483647, "a" ∷ []) ∷ []) (entry "a" 1 (2 ∷ []) ∷ [])
    ∷ lists "order of first claim" ((pos 0, "b" ∷ "a" ∷ []) ∷ (pos 9, "c" ∷ "a" ∷ "b" ∷ []) ∷ (pos 1, "d" ∷ "c" ∷ []) ∷ [])
    (entry "b" 2 (1 ∷ []) ∷ entry "a" 2 (1 ∷ []) ∷ entry "c" 2 (3 ∷ []) ∷ entry "d" 3 [] ∷ [])
    ∷ lists "names as they stand" ((pos 0, "a/b" ∷ "a b" ∷ []) ∷ []) (entry "a/b" 1 [] ∷ entry "a b" 1 [] ∷ [])
    ∷ lists "64 records" (replicate 64 (pos 0, "a" ∷ [])) (entry "a" 1 (from 2 63) ∷ [])
    ∷ []

-- ---- what is refused

refusals : List Case
unfolding bare empty set_of
refusals =
    refuses "no bytes" [] fullest_contest 7 0
    ∷ refuses "65 records" (set_of (replicate 65 (lent bare empty))) fullest_contest 7 0
    ∷ refuses "a byte behind the last" (0 ∷ 0 ∷ []) fullest_contest 7 0
    ∷ refuses "a length cut off" (1 ∷ 0 ∷ 1 ∷ 16 ∷ 0 ∷ []) fullest_contest 7 0
    ∷ refuses "1 before 7" [] 134143 1 0
    ∷ refuses "device" (1 ∷ 0 ∷ 1 ∷ 16 ∷ 0 ∷ 0 ∷ []) fullest_contest 3 1
    ∷ refuses "outcome" (set_of (lent bare [] ∷ [])) fullest_contest 4 1
    ∷ refuses "edition 1" (set_of (lent bare (16 ∷ 0 ∷ 0 ∷ 0 ∷ 0 ∷ 0 ∷ 0 ∷ 0 ∷ 0 ∷ 0 ∷ 0 ∷ []) ∷ [])) fullest_contest 4 1
    ∷ refuses "3 before 4" (set_of (lent bare empty ∷ lent (0 ∷ []) (0 ∷ []) ∷ [])) fullest_contest 3 2
    ∷ refuses "a faulty device behind a faulty record" (set_of (lent bare empty ∷ lent bare (0 ∷ []) ∷ lent [] empty ∷ [])) fullest_contest 4 2
    ∷ []

shown : wrong (holders ++ refusals) ≡ []
unfolding wrong holders refusals
shown = refl
