-- A row of entries as code walks it, on bytes alone.
-- Assumes nothing.
use Rattle.std.specs.Prelude.{ℕ, zero, suc, ◌+◌, ◌-◌, ◌≤◌, Bool, ◌&&◌, List, [], ◌∷◌, leb, length, take, drop}
use Rattle.std.specs.Prelude.{Option, None, Some, Result, Ok, Err}
use Rattle.lists.specs.Lists.{pick}
use Rattle.lists.specs.Bytes.{same_bytes}
use Rattle.entries.specs.Parse.{Parse, got, bad}
use Rattle.rows.specs.Entry.{head_len, name_len, rest_len, size, name, rest}
use Rattle.rows.specs.declared.Kind.{Kind}
use Rattle.rows.specs.declared.Found.{Found}

-- n entries stand at the front
abbrev pub Row : Kind → ℕ → List ℕ → Type 0
Row kind zero bs = Unit {0}
Row kind (suc n) bs = (size kind bs ≤ length bs) × Row kind n (drop (size kind bs) bs)

abbrev pub names : Kind → ℕ → List ℕ → List (List ℕ)
names kind zero bs = []
names kind (suc n) bs = name kind bs ∷ names kind n (drop (size kind bs) bs)

-- the entry named x among n that begin at place `at`
abbrev pub find_in : Kind → List ℕ → ℕ → ℕ → List ℕ → Result Found ℕ
find_in kind x at zero bs = Err at
find_in kind x at (suc n) bs =
    pick (same_bytes (name kind bs) x)
    (Ok (record { at = at; value = at + head_len kind + name_len kind bs; len = rest_len kind bs }))
    (find_in kind x (at + size kind bs) n (drop (size kind bs) bs))

-- the place behind n entries that begin at place `at`
abbrev pub end_in : Kind → ℕ → ℕ → List ℕ → ℕ
end_in kind at zero bs = at
end_in kind at (suc n) bs = end_in kind (at + size kind bs) n (drop (size kind bs) bs)

-- where what was read ends, in a record of n bytes
abbrev pub end_of : {A : Type 0} → ℕ → Parse A → Option ℕ
end_of n (got a r) = Some (n - length r)
end_of n bad = None

-- the same of n entries that begin at place `at`, if each is inside and passes a test, by its head, its name and what follows the name
abbrev pub passed_end : Kind → (List ℕ → List ℕ → List ℕ → Bool) → ℕ → ℕ → List ℕ → Option ℕ
passed_end kind ok at zero bs = Some at
passed_end kind ok at (suc n) bs =
    pick (leb (size kind bs) (length bs) && ok (take (head_len kind) bs) (name kind bs) (rest kind bs))
    (passed_end kind ok (at + size kind bs) n (drop (size kind bs) bs))
    None

-- the value that was found; what is missing reads as empty
abbrev pub part_of : Result Found ℕ → List ℕ → List ℕ
part_of (Ok f) l = take f.len (drop f.value l)
part_of (Err p) l = []

-- its place in a record of n bytes
abbrev pub Within : Result Found ℕ → ℕ → Type 0
Within (Ok f) n = (f.at ≤ f.value) × (f.value + f.len ≤ n)
Within (Err p) n = p ≤ n
