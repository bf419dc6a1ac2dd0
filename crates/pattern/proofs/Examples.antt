-- Worked examples of patterns, M1 to M5 first, each judged by document 01; one claim covers all.
-- Assumes nothing.
use Prim.Native.String.{String}
use mathlib.Core.Path.{◌≡◌, refl}
use mathlib.Core.Bool.{Bool, true, false, not, ◌&&◌}
use mathlib.Core.List.{List, [], ◌∷◌}
use Rattle.lists.specs.Runs.{span, split_at}
use Rattle.lists.specs.Items.{items}
use Rattle.lists.specs.Quoted.{bytes}
use Rattle.pattern.specs.Pattern.{members, body_of, elements, eats, any_suffix, fits, alternative_matches, well_formed, matches}

pub data Case : Type 0 where
  -- well formed, and matches the value
  yes : String → String → Case
  -- well formed, and does not match the value
  no : String → String → Case
  -- not well formed
  faulty : String → Case

unfoldable pub right : Case → Bool
right (yes p v) = well_formed (bytes p) && matches (bytes p) (bytes v)
right (no p v) = well_formed (bytes p) && not (matches (bytes p) (bytes v))
right (faulty p) = not (well_formed (bytes p))

-- the cases that do not come out as written
unfoldable pub wrong : List Case → List Case
wrong [] = []
wrong (c ∷ cs) = elim (right c) [ true ↦ wrong cs | false ↦ c ∷ wrong cs ]

pub examples : List Case
examples =
    -- M1 to M5
    yes "*" "" ∷ yes "tty[SR]" "ttyS" ∷ no "tty[SR]" "ttySR" ∷ yes "abc|x*" "x" ∷ no "abc|x*" "ab"
    ∷ yes "[!0-9]" "a" ∷ no "[!0-9]" "7" ∷ no "[!0-9]" "" ∷ faulty "[a|b]"
    -- alternatives
    ∷ yes "" "" ∷ no "" "a" ∷ yes "|" "" ∷ no "|" "|" ∷ yes "a||b" "" ∷ yes "a||b" "b" ∷ yes "a|" "" ∷ faulty "[|]" ∷ faulty "a|[" ∷ yes "a|]" "]" ∷ faulty "a|[|b"
    -- stars and single bytes
    ∷ yes "*" "a/b" ∷ yes "*/*" "a/b" ∷ no "?" "" ∷ yes "?" "*" ∷ yes "?" "/" ∷ no "?" "ab" ∷ yes "a*b*c" "aXbYbZc" ∷ no "a*b*c" "aXbYbZ" ∷ yes "**" "" ∷ yes "a**" "ab" ∷ yes "*?" "a" ∷ no "*?" ""
    ∷ yes "?*?" "ab" ∷ no "?*?" "a" ∷ yes "*ab" "aab" ∷ yes "*a*a*a*" "xaxaxa" ∷ no "*a*a*a*" "xaxax"
    -- anchored, case-sensitive, backslash ordinary
    ∷ no "a" "ab" ∷ no "b" "ab" ∷ no "A" "a" ∷ yes "\\*" "\\x" ∷ no "\\*" "*" ∷ yes "[\\]x" "\\x" ∷ yes "[\\]]" "\\]" ∷ no "[\\]]" "]"
    -- closing: the first byte is a member
    ∷ yes "[]]" "]" ∷ yes "[]a]" "a" ∷ yes "[]a]" "]" ∷ yes "[!]]" "a" ∷ no "[!]]" "]" ∷ faulty "[]" ∷ faulty "[!]" ∷ faulty "[" ∷ faulty "[!" ∷ faulty "[a" ∷ faulty "a[" ∷ faulty "[!a"
    ∷ yes "]" "]" ∷ yes "a]" "a]" ∷ yes "[a]]" "a]" ∷ no "[a]]" "a" ∷ yes "[[]" "[" ∷ yes "[a[]" "[" ∷ yes "[*]" "*" ∷ no "[*]" "a" ∷ yes "[?]" "?" ∷ no "[?]" "x"
    -- opposite
    ∷ yes "[!!]" "a" ∷ no "[!!]" "!" ∷ yes "[a!]" "!" ∷ yes "[a!]" "a" ∷ yes "[^a]" "^" ∷ yes "[^a]" "a" ∷ no "[^a]" "b" ∷ yes "[!a]" "/" ∷ no "[!a]" "" ∷ no "[!a]" "bc"
    -- ranges
    ∷ yes "[a-c]" "b" ∷ yes "[a-c]" "a" ∷ yes "[a-c]" "c" ∷ no "[a-c]" "d" ∷ no "[a-c]" "-" ∷ yes "[a-a]" "a" ∷ faulty "[c-a]" ∷ faulty "x|[c-a]" ∷ faulty "[ab-a]"
    ∷ yes "[-a]" "-" ∷ yes "[-a]" "a" ∷ no "[-a]" "b" ∷ yes "[a-]" "-" ∷ yes "[a-]" "a" ∷ yes "[-]" "-" ∷ yes "[--]" "-" ∷ no "[--]" "." ∷ yes "[!-a]" "b" ∷ no "[!-a]" "-" ∷ no "[!-a]" "a"
    ∷ yes "[a-c-e]" "-" ∷ yes "[a-c-e]" "e" ∷ no "[a-c-e]" "d" ∷ yes "[a-c-e]" "b" ∷ yes "[--a]" "0" ∷ yes "[--a]" "a" ∷ no "[--a]" "b" ∷ faulty "[a--]" ∷ yes "[a-b--z]" "y" ∷ yes "[a-b--z]" "0" ∷ no "[a-b--z]" "+"
    ∷ yes "[]-a]" "^" ∷ yes "[]-a]" "a" ∷ no "[]-a]" "b" ∷ yes "[a-]]" "a]" ∷ yes "[a-]]" "-]" ∷ no "[a-]]" "b]" ∷ yes "[!]-a]" "b" ∷ no "[!]-a]" "`" ∷ yes "[---]" "-" ∷ no "[---]" "a"
    ∷ yes "[0-9a-f]x[!0-9]*" "fxq" ∷ yes "ttyUSB[0-9]*" "ttyUSB0" ∷ no "ttyUSB[0-9]*" "ttyUSB"
    ∷ []

pub shown : wrong examples ≡ []
unfolding wrong right examples bytes span split_at items members body_of elements eats any_suffix fits alternative_matches well_formed matches
shown = refl
