-- Document 01, Patterns and templates: the elements of a pattern, what is well formed, and what matches.
-- Assumes nothing.
use Rattle.std.specs.Prelude.{ℕ, ◌+◌, Bool, true, false, not, ◌&&◌, ◌||◌, List, [], ◌∷◌, eqb, leb, length}
use Rattle.std.specs.Prelude.{Option, None, Some}
use Rattle.lists.specs.Lists.{pick, is_empty, is_some, all, any}
use Rattle.lists.specs.Bytes.{between}
use Rattle.lists.specs.Runs.{span, split_at}
use Rattle.lists.specs.Items.{Item, items}

-- the alternatives of a pattern: it is cut at each `|` before all else, and parts may be empty
abbrev pub alternatives : List ℕ → List (List ℕ)
alternatives pattern = split_at 124 pattern

-- the bytes from low to high
pub record Range : Type 0 where
  pub low : ℕ
  pub high : ℕ

-- what an alternative is made of: `*`; `?`; a byte that stands for itself, backslash too; a set, or (true) the opposite of one
pub data Element : Type 0 where
  star one : Element
  byte : ℕ → Element
  set : Bool → List Range → Element

-- ---- the members of a set

abbrev pub single : ℕ → Option (Item Range)
single x = Some (record { value = record { low = x; high = x }; more = 0 })

-- a range that does not fall
abbrev pub rising : ℕ → ℕ → Option (Item Range)
rising x y = pick (leb x y) (Some (record { value = record { low = x; high = y }; more = 2 })) None

-- the member that begins with x: `x-y` if a dash and one more byte of the set follow, and then y is used up; else x alone
abbrev pub member_at : ℕ → List ℕ → Option (Item Range)
member_at x [] = single x
member_at x (d ∷ []) = single x
member_at x (d ∷ y ∷ bs) = pick (eqb d 45) (rising x y) (single x)

-- the members from left to right, of the bytes between a set's brackets; none for a falling range
unfoldable pub members : List ℕ → Option (List Range)
members body = items member_at 0 body

-- ---- a set

-- any byte but `]`
abbrev pub is_inside : ℕ → Bool
is_inside b = not (eqb b 93)

abbrev pub closed : List ℕ → List ℕ → Option (List ℕ)
closed body [] = None
closed body (b ∷ rest) = Some body

-- what stands between the brackets: a first byte, whatever it is, and the bytes up to the next `]`; none if there is no such one
unfoldable pub body_of : List ℕ → Option (List ℕ)
body_of [] = None
body_of (b ∷ bs) = let inside = span is_inside bs in closed (b ∷ inside.value) inside.rest

abbrev pub set_of : Bool → ℕ → Option (List Range) → Option (Item Element)
set_of opposite more None = None
set_of opposite more (Some rs) = Some (record { value = set opposite rs; more = more })

-- a set behind its opening bracket: n bytes that mark the opposite, its body, its closing bracket
abbrev pub set_with : Bool → ℕ → Option (List ℕ) → Option (Item Element)
set_with opposite n None = None
set_with opposite n (Some body) = set_of opposite (n + length body + 1) (members body)

abbrev pub set_by : Bool → ℕ → List ℕ → Option (Item Element)
set_by true b bs = set_with true 1 (body_of bs)
set_by false b bs = set_with false 0 (body_of (b ∷ bs))

-- a set behind its opening bracket: `!` makes it the opposite
abbrev pub set_at : List ℕ → Option (Item Element)
set_at [] = None
set_at (b ∷ bs) = set_by (eqb b 33) b bs

-- ---- the elements of an alternative

pub data Sign : Type 0 where
  star_sign one_sign set_sign no_sign : Sign

abbrev pub sign_of : ℕ → Sign
sign_of b = pick (eqb b 42) star_sign (pick (eqb b 63) one_sign (pick (eqb b 91) set_sign no_sign))

abbrev pub element_by : Sign → ℕ → List ℕ → Option (Item Element)
element_by star_sign b bs = Some (record { value = star; more = 0 })
element_by one_sign b bs = Some (record { value = one; more = 0 })
element_by set_sign b bs = set_at bs
element_by no_sign b bs = Some (record { value = byte b; more = 0 })

abbrev pub element_at : ℕ → List ℕ → Option (Item Element)
element_at b bs = element_by (sign_of b) b bs

-- the elements of an alternative; none for an unclosed set or a falling range
unfoldable pub elements : List ℕ → Option (List Element)
elements alternative = items element_at 0 alternative

-- ---- matching

-- a byte lies in some range
abbrev pub within : List Range → ℕ → Bool
within rs b = any (λ r. between r.low r.high b) rs

abbrev pub unless : Bool → Bool → Bool
unless true b = not b
unless false b = b

-- an element that is no star takes a byte
abbrev pub takes : Element → ℕ → Bool
takes star b = true
takes one b = true
takes (byte a) b = eqb a b
takes (set opposite rs) b = unless opposite (within rs b)

-- the first byte passes a test, and the bytes behind it another
unfoldable pub eats : (ℕ → Bool) → (List ℕ → Bool) → List ℕ → Bool
eats g f [] = false
eats g f (x ∷ xs) = g x && f xs

-- a test holds of the bytes, or of what is left without some of the first ones
unfoldable pub any_suffix : (List ℕ → Bool) → List ℕ → Bool
any_suffix f [] = f []
any_suffix f (x ∷ xs) = f (x ∷ xs) || any_suffix f xs

-- elements stand for all bytes of a value: a star for any number of them, any other element for one
unfoldable pub fits : List Element → List ℕ → Bool
fits [] value = is_empty value
fits (star ∷ es) value = any_suffix (fits es) value
fits (one ∷ es) value = eats (takes one) (fits es) value
fits (byte a ∷ es) value = eats (takes (byte a)) (fits es) value
fits (set opposite rs ∷ es) value = eats (takes (set opposite rs)) (fits es) value

abbrev pub fits_of : Option (List Element) → List ℕ → Bool
fits_of None value = false
fits_of (Some es) value = fits es value

-- an alternative matches a value; one with a fault matches nothing
unfoldable pub alternative_matches : List ℕ → List ℕ → Bool
alternative_matches alternative value = fits_of (elements alternative) value

-- ---- patterns

-- no alternative has a fault
unfoldable pub well_formed : List ℕ → Bool
well_formed pattern = all (λ a. is_some (elements a)) (alternatives pattern)

-- some alternative matches
unfoldable pub matches : List ℕ → List ℕ → Bool
matches pattern value = any (λ a. alternative_matches a value) (alternatives pattern)

-- ---- plain patterns

-- `*`, `?`, `[` or `|`
abbrev pub is_special : ℕ → Bool
is_special b = eqb b 42 || eqb b 63 || eqb b 91 || eqb b 124

-- every byte stands for itself
abbrev pub is_plain : List ℕ → Bool
is_plain pattern = all (λ b. not (is_special b)) pattern
