-- Document 01, Examples: those that it marks, M1 to M12, as a table under a single claim.
-- Assumes nothing.
use mathlib.Core.Path.{◌≡◌, refl}
use mathlib.Core.Bool.{true, false}
use mathlib.Core.List.{List, [], ◌∷◌}
use Rattle.lists.specs.Quoted.{bytes}
use Rattle.engine.specs.Operations as operations
use Rattle.engine.proofs.Cases.{Case, matches, valued, refuses, lists, leaves, wrong, properties, member, device_of, alone, tty, blank, bare, empty}

pub examples : List Case
unfolding properties member device_of alone tty blank bare empty
examples =
    matches "M1 *" "*" "" true
    ∷ matches "M2 ttyS" "tty[SR]" "ttyS" true
    ∷ matches "M2 ttySR" "tty[SR]" "ttySR" false
    ∷ matches "M3 x" "abc|x*" "x" true
    ∷ matches "M3 ab" "abc|x*" "ab" false
    ∷ matches "M4 a" "[!0-9]" "a" true
    ∷ matches "M4 7" "[!0-9]" "7" false
    ∷ matches "M4 empty" "[!0-9]" "" false
    ∷ refuses "M5" "KERNEL==\"[a|b]\"" 15 1
    ∷ valued "M6 a mark" "\"a\\\"b\"" 3
    ∷ valued "M6 other backslashes" "\"\\t\\n\"" 4
    ∷ lists "M7 sda3" (alone [] "/b/sda3" []) "SYMLINK+=\"x%n $number\"" "visited 1\ntried 0\npriority 0\nlink x3\nlink 3\n"
    ∷ lists "M7 sda" (alone [] "/b/sda" []) "SYMLINK+=\"x%n $number\"" "visited 1\ntried 0\npriority 0\nlink x\n"
    ∷ refuses "M8" "LABEL=\"a\", GOTO=\"a\"" 19 1
    ∷ lists "M9 without" (alone [] "/a" (("s", "RC-0417 ") ∷ [])) "ATTR{s}==\"RC-0417\", TAG+=\"t\"" "visited 1\ntried 0\npriority 0\ntag t\n"
    ∷ lists "M9 with one" (alone [] "/a" (("s", "RC-0417 ") ∷ [])) "ATTRS{s}==\"RC-0417 \", TAG+=\"t\"" "visited 1\ntried 1\npriority 0\ntag t\n"
    ∷ lists "M9 with two" (alone [] "/a" (("s", "RC-0417 ") ∷ [])) "ATTR{s}==\"RC-0417  \", TAG+=\"t\"" "visited 1\ntried 0\npriority 0\n"
    ∷ lists "M10 inserted" (alone (("P", "a b") ∷ []) "/a" []) "SYMLINK+=\"$env{P}\"" "visited 1\ntried 0\npriority 0\nlink a_b\nenv P=a b\n"
    ∷ lists "M10 written" (alone [] "/a" []) "SYMLINK+=\"a b\"" "visited 1\ntried 0\npriority 0\nlink a\nlink b\n"
    ∷ lists "M10 as it is" (alone (("P", "a b") ∷ []) "/a" []) "OPTIONS=\"string_escape=none\", SYMLINK+=\"$env{P}\"" "visited 1\ntried 0\npriority 0\nlink a\nlink b\nenv P=a b\n"
    ∷ lists "M11" tty "SYMLINK+=\"../x\"" "refused 31 line 1\n"
    ∷ lists "M12 0660" tty "MODE=\"0660\"" "visited 1\ntried 0\npriority 0\nmode 0660\n"
    ∷ leaves "M12 is 432" (operations.run (bytes "MODE=\"0660\"") bare empty blank 18125) (32 ∷ 0 ∷ 2 ∷ 54 ∷ 0 ∷ 0 ∷ 0 ∷ 0 ∷ 0 ∷ 0 ∷ 0 ∷ 0 ∷ 0 ∷ [])
    ∷ lists "M12 888" tty "MODE=\"888\"" "refused 34 line 1\n"
    ∷ lists "M12 00660" tty "MODE=\"00660\"" "refused 34 line 1\n"
    ∷ []

pub shown : wrong examples ≡ []
unfolding wrong examples
shown = refl
