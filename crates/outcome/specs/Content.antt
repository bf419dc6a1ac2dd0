-- Document 01, Sizes and Numbers given back (31, 33, 34): what a link, an owner, a group and a mode may be.
-- Assumes nothing.
use Rattle.std.specs.Prelude.{ℕ, ◌+◌, ◌-◌, ◌*◌, ◌/◌, ◌%◌, Bool, ◌&&◌, ◌||◌, not, List, [], ◌∷◌, length, leb, eqb}
use Rattle.lists.specs.Lists.{is_empty, all}
use Rattle.lists.specs.Bytes.{between, is_digit, same_bytes, clean, is_letter}
use Rattle.lists.specs.Runs.{split_at}
use Rattle.lists.specs.Sizes.{most_link, most_owner, most_mode, most_output}

-- a component of a link's name is not empty, not `.` and not `..`
abbrev pub ok_part : List ℕ → Bool
ok_part x = not (is_empty x) && (not (same_bytes x (46 ∷ [])) && not (same_bytes x (46 ∷ 46 ∷ [])))

-- check 31: to 128 bytes, and every component sound; a slash in front would make the first one empty
abbrev pub ok_name : List ℕ → Bool
ok_name x = leb (length x) most_link && all ok_part (split_at 47 x)

-- a link in a record passes check 31 and has no NUL
abbrev pub ok_link : List ℕ → Bool
ok_link x = ok_name x && clean x

-- letters, digits, `_`, `-`, `.`
abbrev pub owner_byte : ℕ → Bool
owner_byte b = is_letter b || (is_digit b || (eqb b 95 || (eqb b 45 || eqb b 46)))

-- an owner or a group: to 32 such bytes; empty is unset
abbrev pub ok_owner : List ℕ → Bool
ok_owner x = leb (length x) most_owner && all owner_byte x

-- document 02, Item 5: a program's output: to 512 bytes, no NUL; none is as none stored
abbrev pub ok_output : List ℕ → Bool
ok_output x = leb (length x) most_output && clean x

-- octal digits
abbrev pub octal : List ℕ → Bool
octal x = all (between 48 55) x

abbrev pub octal_from : ℕ → List ℕ → ℕ
octal_from n [] = n
octal_from n (b ∷ bs) = octal_from (n * 8 + (b - 48)) bs

-- a mode is 1 to 4 octal digits (34 otherwise)
abbrev pub ok_mode : List ℕ → Bool
ok_mode x = leb 1 (length x) && (leb (length x) most_mode && octal x)

abbrev pub mode_number : List ℕ → ℕ
mode_number x = octal_from 0 x

-- document 02, Item 8: a mode with the bit 0002 lets others write
abbrev pub others_write : ℕ → Bool
others_write m = eqb (m / 2 % 2) 1
