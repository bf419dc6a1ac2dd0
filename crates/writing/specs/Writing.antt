-- Document 02, Item 2: the rules of an accepted text written back, one line for each, nothing between their parts.
-- Assumes nothing.
use Rattle.std.specs.Prelude.{ℕ, Bool, true, false, ◌||◌, List, [], ◌∷◌, ◌++◌, eqb, leb, length}
use Rattle.lists.specs.Lists.{pick, cat}
use Rattle.lists.specs.Bytes.{holds}
use Rattle.lists.specs.Checked.{Checked, refused, ok, ◌>>=◌, ◌>>◌, require, Placed, line}
use Rattle.lists.specs.Refusal.{Refusal, target_short, text_long}
use Rattle.lists.specs.Sizes.{most_text}
use Rattle.lists.specs.Quoted.{bytes}
use Rattle.text.specs.Reading.{read_text}
use Rattle.text.specs.Run.{Answer, refusal, acceptance}
use Rattle.rules.specs.Key.{Key, same_key, Op, equal, unequal, assign, add, remove, final, Row, rows}
use Rattle.rules.specs.Pair.{Pair, Rule}
use Rattle.rules.specs.Reading.{reader}

-- ---- the parts of a pair

-- the name of the first row with that key
unfoldable pub name_in : List Row → Key → List ℕ
name_in [] k = []
name_in (r ∷ rs) k = pick (same_key r.key k) r.name (name_in rs k)

abbrev pub name_of : Key → List ℕ
name_of k = name_in rows k

-- an argument in braces, where there is one: RUN without one stays so
abbrev pub argument_text : List ℕ → List ℕ
argument_text [] = []
argument_text (b ∷ bs) = 123 ∷ ((b ∷ bs) ++ (125 ∷ []))

-- an operator as it was read
unfoldable pub op_text : Op → List ℕ
unfolding bytes
op_text equal = bytes "=="
op_text unequal = bytes "!="
op_text assign = bytes "="
op_text add = bytes "+="
op_text remove = bytes "-="
op_text final = bytes ":="

-- ---- a value

unfoldable pub ends_in_slash : List ℕ → Bool
ends_in_slash [] = false
ends_in_slash (b ∷ []) = eqb b 92
ends_in_slash (b ∷ c ∷ bs) = ends_in_slash (c ∷ bs)

-- what the plain form cannot hold: a newline, and a backslash at the end
unfoldable pub needs_code : List ℕ → Bool
needs_code v = holds 10 v || ends_in_slash v

-- a byte of the plain form: a mark gets a backslash
abbrev pub plain_byte : ℕ → List ℕ
plain_byte b = pick (eqb b 34) (92 ∷ b ∷ []) (b ∷ [])

-- a byte of the `e` form: `\n`, `\\` and `\"`, all else as it is
abbrev pub code_byte : ℕ → List ℕ
code_byte b = pick (eqb b 10) (92 ∷ 110 ∷ []) (pick (eqb b 92 || eqb b 34) (92 ∷ b ∷ []) (b ∷ []))

abbrev pub value_as : Bool → List ℕ → List ℕ
value_as true v = 101 ∷ 34 ∷ (cat code_byte v ++ (34 ∷ []))
value_as false v = 34 ∷ (cat plain_byte v ++ (34 ∷ []))

unfoldable pub value_text : List ℕ → List ℕ
value_text v = value_as (needs_code v) v

-- ---- a rule, and rules

unfoldable pub pair_text : Pair → List ℕ
pair_text p = name_of p.key ++ (argument_text p.argument ++ (op_text p.op ++ value_text p.value))

-- one comma between pairs
unfoldable pub line_text : Rule → List ℕ
line_text [] = []
line_text (p ∷ []) = pair_text p
line_text (p ∷ q ∷ ps) = pair_text p ++ (44 ∷ line_text (q ∷ ps))

abbrev pub rule_of : Placed Rule → Rule
rule_of (line n r) = r

-- one newline after each rule
unfoldable pub written : List (Placed Rule) → List ℕ
written rs = cat (λ r. line_text (rule_of r) ++ (10 ∷ [])) rs

-- ---- the writer: 1, the reading faults, and last 2 for what came out too long

unfoldable pub write_checked : List ℕ → ℕ → Checked (Placed Refusal) (List ℕ)
write_checked text room = do
  require (leb most_text room) (line 0 target_short)
  rs ← read_text reader text
  require (leb (length (written rs)) most_text) (line 0 text_long)
  ok (written rs)

abbrev pub answer_of : ℕ → Checked (Placed Refusal) (List ℕ) → Answer
answer_of room (refused f) = refusal room f
answer_of room (ok made) = acceptance room 0 0 made

unfoldable pub write : List ℕ → ℕ → Answer
write text room = answer_of room (write_checked text room)
