-- Document 01, Patterns and templates: the pieces of a template, and what is well formed.
-- Assumes nothing.
use Rattle.std.specs.Prelude.{ℕ, ◌+◌, Bool, true, false, List, [], ◌∷◌, eqb, length, drop}
use Rattle.std.specs.Prelude.{Option, None, Some}
use Rattle.lists.specs.Lists.{pick, is_some}
use Rattle.lists.specs.Bytes.{starts}
use Rattle.lists.specs.Runs.{Part}
use Rattle.lists.specs.Items.{in_braces, Item, items}
use Rattle.lists.specs.Quoted.{bytes}

-- a written byte, something to be inserted, or one of the two signs for itself
pub data Piece : Type 0 where
  written : ℕ → Piece
  kernel number devpath id driver major minor : Piece
  -- document 02, Item 6: a program's last output
  result : Piece
  attr env : List ℕ → Piece
  dollar percent : Piece

-- what a name stands for: a piece; one that no brace may follow (document 02, Item 6); or one that takes a text in braces
pub data Form : Type 0 where
  plain : Piece → Form
  whole : Piece → Form
  braced : (List ℕ → Piece) → Form

pub record Named : Type 0 where
  pub name : List ℕ
  pub form : Form

abbrev named : List ℕ → Form → Named
named n f = record { name = n; form = f }

-- behind `$`
unfoldable pub names : List Named
unfolding bytes
names =
    named (bytes "kernel") (plain kernel)
    ∷ named (bytes "number") (plain number)
    ∷ named (bytes "devpath") (plain devpath)
    ∷ named (bytes "id") (plain id)
    ∷ named (bytes "driver") (plain driver)
    ∷ named (bytes "attr") (braced attr)
    ∷ named (bytes "env") (braced env)
    ∷ named (bytes "major") (plain major)
    ∷ named (bytes "minor") (plain minor)
    ∷ named (bytes "result") (whole result)
    ∷ named (bytes "$") (plain dollar)
    ∷ []

-- behind `%`
unfoldable pub letters : List Named
unfolding bytes
letters =
    named (bytes "k") (plain kernel)
    ∷ named (bytes "n") (plain number)
    ∷ named (bytes "p") (plain devpath)
    ∷ named (bytes "b") (plain id)
    ∷ named (bytes "s") (braced attr)
    ∷ named (bytes "E") (braced env)
    ∷ named (bytes "M") (plain major)
    ∷ named (bytes "m") (plain minor)
    ∷ named (bytes "c") (whole result)
    ∷ named (bytes "%") (plain percent)
    ∷ []

-- the first name of a table that begins a text, whatever follows it there
unfoldable pub name_in : List Named → List ℕ → Option Named
name_in [] bs = None
name_in (n ∷ ns) bs = pick (starts n.name bs) (Some n) (name_in ns bs)

-- ---- a text in braces

abbrev pub inside : Option (Part (List ℕ)) → Option (List ℕ)
inside None = None
inside (Some p) = Some p.value

abbrev pub text_by : Bool → List ℕ → Option (List ℕ)
text_by true bs = inside (in_braces bs)
text_by false bs = None

-- 1 to 64 bytes between the brace that begins a list and the next closing one
abbrev pub text_in : List ℕ → Option (List ℕ)
text_in [] = None
text_in (b ∷ bs) = text_by (eqb b 123) bs

-- ---- the pieces

-- a text and its braces, behind n bytes
abbrev pub with_text : (List ℕ → Piece) → ℕ → Option (List ℕ) → Option (Item Piece)
with_text f n None = None
with_text f n (Some text) = Some (record { value = f text; more = n + length text + 2 })

abbrev pub starts_brace : List ℕ → Bool
starts_brace [] = false
starts_brace (b ∷ bs) = eqb b 123

-- a form behind n bytes of its name
abbrev pub formed : Form → ℕ → List ℕ → Option (Item Piece)
formed (plain p) n rest = Some (record { value = p; more = n })
formed (whole p) n rest = pick (starts_brace rest) None (Some (record { value = p; more = n }))
formed (braced f) n rest = with_text f n (text_in rest)

abbrev pub named_piece : Option Named → List ℕ → Option (Item Piece)
named_piece None bs = None
named_piece (Some n) bs = formed n.form (length n.name) (drop (length n.name) bs)

pub data Sign : Type 0 where
  dollar_sign percent_sign no_sign : Sign

abbrev pub sign_of : ℕ → Sign
sign_of b = pick (eqb b 36) dollar_sign (pick (eqb b 37) percent_sign no_sign)

abbrev pub piece_by : Sign → ℕ → List ℕ → Option (Item Piece)
piece_by dollar_sign b bs = named_piece (name_in names bs) bs
piece_by percent_sign b bs = named_piece (name_in letters bs) bs
piece_by no_sign b bs = Some (record { value = written b; more = 0 })

abbrev pub piece_at : ℕ → List ℕ → Option (Item Piece)
piece_at b bs = piece_by (sign_of b) b bs

-- the pieces of a template from left to right; none for a fault
unfoldable pub pieces : List ℕ → Option (List Piece)
pieces template = items piece_at 0 template

unfoldable pub well_formed : List ℕ → Bool
well_formed template = is_some (pieces template)
