-- Document 01, Reading a line: what the value of OPTIONS may be.
-- Assumes nothing.
use Rattle.std.specs.Prelude.{ℕ, zero, suc, ◌+◌, ◌*◌, ◌-◌, Bool, true, false, ◌&&◌, List, [], ◌∷◌, ltb, leb, eqb, length, get_or, drop, ℤ, pos, negsuc}
use Rattle.std.specs.Prelude.{Option, None, Some}
use Rattle.lists.specs.Lists.{pick}
use Rattle.lists.specs.Bytes.{is_digit, same_bytes, starts}
use Rattle.lists.specs.Quoted.{bytes}

pub data Setting : Type 0 where
  escape_none escape_replace : Setting
  -- document 02, Item 5
  watched unwatched : Setting
  priority : ℤ → Setting

-- a number taken from zero; negsuc n is one below minus n
abbrev pub minus : ℕ → ℤ
minus zero = pos zero
minus (suc n) = negsuc n

abbrev pub with_sign : Bool → ℕ → Option ℤ
with_sign true m = pick (leb m 2147483648) (Some (minus m)) None
with_sign false m = pick (leb m 2147483647) (Some (pos m)) None

-- the digits that are left, after n digits that came to m: at most 10 in all, at least one
unfoldable pub digits_from : List ℕ → ℕ → ℕ → Bool → Option ℤ
digits_from [] n m negative = pick (eqb n 0) None (with_sign negative m)
digits_from (b ∷ bs) n m negative = pick (is_digit b && ltb n 10) (digits_from bs (n + 1) (m * 10 + (b - 48)) negative) None

-- a minus sign or none and 1 to 10 digits, in the range of 32 bits with a sign
unfoldable pub integer_of : List ℕ → Option ℤ
integer_of bs = pick (eqb (get_or bs 0 0) 45) (digits_from (drop 1 bs) 0 0 true) (digits_from bs 0 0 false)

abbrev pub priority_of : Option ℤ → Option Setting
priority_of None = None
priority_of (Some z) = Some (priority z)

-- the name of the priority, with its equals sign
abbrev pub priority_name : List ℕ
unfolding bytes
priority_name = bytes "link_priority="

-- what the value of OPTIONS sets, or none for a fault
unfoldable pub setting_of : List ℕ → Option Setting
unfolding bytes
setting_of v =
    pick (same_bytes v (bytes "string_escape=none")) (Some escape_none)
    (pick (same_bytes v (bytes "string_escape=replace")) (Some escape_replace)
    (pick (same_bytes v (bytes "watch")) (Some watched)
    (pick (same_bytes v (bytes "nowatch")) (Some unwatched)
    (pick (starts priority_name v) (priority_of (integer_of (drop (length priority_name) v))) None))))
