-- The lines of the entries of a row, on bytes alone.
-- Assumes nothing.
use Rattle.std.specs.Prelude.{ℕ, zero, suc, List, [], ◌∷◌, ◌++◌, drop}
use Rattle.engine.specs.Listing.{escaped, line_of}
use Rattle.rows.specs.Entry.{size, name, rest}
use Rattle.rows.specs.declared.Kind.{Kind}
use Rattle.rows.specs.declared.Kind.TheVariants.{Text, Property, Run, Reply}

-- a word, and a text or a key and its value
abbrev pub entry_line : Kind → List ℕ → List ℕ → List ℕ → List ℕ
entry_line Text word x v = line_of word (escaped x)
entry_line Property word x v = line_of word (escaped x ++ (61 ∷ escaped v))
entry_line Run word x v = line_of word (escaped x)
entry_line Reply word x v = line_of word (escaped x)

-- of n entries at the front
abbrev pub entry_lines : Kind → List ℕ → ℕ → List ℕ → List ℕ
entry_lines kind word zero bs = []
entry_lines kind word (suc n) bs = entry_line kind word (name kind bs) (rest kind bs) ++ entry_lines kind word n (drop (size kind bs) bs)
