-- Bytes and lists of bytes: classes of bytes, equality, membership, distinctness.
-- Assumes nothing.
use Rattle.std.specs.Prelude.{ℕ, ◌-◌, ◌<◌, Bool, true, false, not, ◌&&◌, ◌||◌, List, [], ◌∷◌, eqb, leb, length, take, drop, get_or}
use Rattle.lists.specs.Lists.{pick, all, any}

-- each element of a list is a byte
abbrev pub Bytes : List ℕ → Type 0
Bytes bs = (i : ℕ) → get_or bs i 0 < 256

-- ---- classes of bytes

-- from low to high, both included
abbrev pub between : ℕ → ℕ → ℕ → Bool
between low high b = leb low b && leb b high

abbrev pub is_upper : ℕ → Bool
is_upper b = between 65 90 b

-- a letter of either case
abbrev pub is_letter : ℕ → Bool
is_letter b = between 65 90 b || between 97 122 b

abbrev pub is_digit : ℕ → Bool
is_digit b = between 48 57 b

-- document 01, Reading a line: blank means space or tab
abbrev pub is_blank : ℕ → Bool
is_blank b = eqb b 32 || eqb b 9

-- document 01, Running: whitespace is bytes 9 to 13 and 32
abbrev pub is_space : ℕ → Bool
is_space b = between 9 13 b || eqb b 32

-- whitespace as `_`
abbrev pub no_space : ℕ → ℕ
no_space b = pick (is_space b) 95 b

-- ---- lists of bytes

-- what stands from one place up to another
abbrev pub part : List ℕ → ℕ → ℕ → List ℕ
part bs from to = take (to - from) (drop from bs)

-- the same bytes
unfoldable pub same_bytes : List ℕ → List ℕ → Bool
same_bytes [] [] = true
same_bytes [] (y ∷ ys) = false
same_bytes (x ∷ xs) [] = false
same_bytes (x ∷ xs) (y ∷ ys) = eqb x y && same_bytes xs ys

-- the first list begins the second
unfoldable pub starts : List ℕ → List ℕ → Bool
starts [] ys = true
starts (x ∷ xs) [] = false
starts (x ∷ xs) (y ∷ ys) = eqb x y && starts xs ys

-- a byte stands in a list
abbrev pub holds : ℕ → List ℕ → Bool
holds b bs = any (λ x. eqb x b) bs

-- no byte is NUL
abbrev pub clean : List ℕ → Bool
clean bs = all (λ b. not (eqb b 0)) bs

-- 1 to `most` bytes, no NUL
abbrev pub ok_text : ℕ → List ℕ → Bool
ok_text most x = leb 1 (length x) && (leb (length x) most && clean x)

-- a list of bytes is among others
abbrev pub among : List ℕ → List (List ℕ) → Bool
among x ys = any (λ y. same_bytes y x) ys

-- no list of bytes stands twice
abbrev pub distinct : List (List ℕ) → Bool
distinct [] = true
distinct (x ∷ xs) = not (among x xs) && distinct xs
