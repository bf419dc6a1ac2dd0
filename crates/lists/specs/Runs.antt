-- Runs of bytes: from the front of a list, by their place, between separators, and at the end.
-- Assumes nothing.
use Rattle.std.specs.Prelude.{ℕ, ◌+◌, Bool, true, false, List, [], ◌∷◌, eqb, drop}
use Rattle.lists.specs.Lists.{pick, all}
use Rattle.lists.specs.Bytes.{is_space, is_digit}

-- what was read, and what is left
pub record Part (A : Type 0) : Type 0 where
  pub value : A
  pub rest : List ℕ

-- ---- from the front

abbrev pub span_step : Bool → ℕ → List ℕ → Part (List ℕ) → Part (List ℕ)
span_step true b bs r = record { value = b ∷ r.value; rest = r.rest }
span_step false b bs r = record { value = []; rest = b ∷ bs }

-- the longest run of bytes that pass a test, and what follows it
unfoldable pub span : (ℕ → Bool) → List ℕ → Part (List ℕ)
span p [] = record { value = []; rest = [] }
span p (b ∷ bs) = span_step (p b) b bs (span p bs)

-- ---- by place, as code follows them

-- the place of the first byte that fails a test, in a list that begins at place i; past its end where none does
unfoldable pub span_end : (ℕ → Bool) → List ℕ → ℕ → ℕ
span_end p [] i = i
span_end p (b ∷ bs) i = pick (p b) (span_end p bs (i + 1)) i

-- the same from a place of a list on
unfoldable pub span_at : (ℕ → Bool) → List ℕ → ℕ → ℕ
span_at p s i = span_end p (drop i s) i

-- ---- between separators

-- a byte set before the first part
abbrev pub onto : ℕ → List (List ℕ) → List (List ℕ)
onto b [] = (b ∷ []) ∷ []
onto b (l ∷ ls) = (b ∷ l) ∷ ls

abbrev pub split_step : Bool → ℕ → List (List ℕ) → List (List ℕ)
split_step true b ls = [] ∷ ls
split_step false b ls = onto b ls

-- a list cut at each separator: one part more than separators, and parts may be empty
unfoldable pub split_at : ℕ → List ℕ → List (List ℕ)
split_at c [] = [] ∷ []
split_at c (b ∷ bs) = split_step (eqb b c) b (split_at c bs)

-- the last part
abbrev pub last_of : List (List ℕ) → List ℕ
last_of [] = []
last_of (x ∷ []) = x
last_of (x ∷ y ∷ ys) = last_of (y ∷ ys)

-- ---- at the end

abbrev pub trim_step : Bool → ℕ → List ℕ → List ℕ
trim_step true b [] = []
trim_step true b (c ∷ cs) = b ∷ c ∷ cs
trim_step false b bs = b ∷ bs

-- without the whitespace at its end
unfoldable pub trim : List ℕ → List ℕ
trim [] = []
trim (b ∷ bs) = trim_step (is_space b) b (trim bs)

-- document 02, Item 6: without the newlines at its end
unfoldable pub chomp : List ℕ → List ℕ
chomp [] = []
chomp (b ∷ bs) = trim_step (eqb b 10) b (chomp bs)

unfoldable pub ends_in_space : List ℕ → Bool
ends_in_space [] = false
ends_in_space (b ∷ []) = is_space b
ends_in_space (b ∷ c ∷ bs) = ends_in_space (c ∷ bs)

-- the longest end that is all digits
unfoldable pub end_digits : List ℕ → List ℕ
end_digits [] = []
end_digits (b ∷ bs) = pick (all is_digit (b ∷ bs)) (b ∷ bs) (end_digits bs)
