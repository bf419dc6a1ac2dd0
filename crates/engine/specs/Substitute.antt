-- Document 01, Patterns and templates: what each piece of a template inserts, and the substituted text.
-- Assumes nothing.
use Rattle.std.specs.Prelude.{ℕ, Bool, true, false, List, [], ◌∷◌, ◌++◌, map, leb, length}
use Rattle.std.specs.Prelude.{Option, None, Some}
use Rattle.lists.specs.Bytes.{no_space}
use Rattle.lists.specs.Runs.{trim, end_digits}
use Rattle.lists.specs.Checked.{Checked, refused, ok}
use Rattle.lists.specs.Refusal.{Refusal, substitution_long}
use Rattle.lists.specs.Sizes.{most_substituted}
use Rattle.entries.specs.Entry.{Property, lookup, or_empty}
use Rattle.template.specs.Decimal.{decimal}
use Rattle.template.specs.Template as T
use Rattle.template.specs.Template.{Piece, pieces}
use Rattle.device.specs.Device.{Member, Device, name_of, attr_of, member_at}

-- of the device at the matched place, if there is one
abbrev pub of_matched : Option Member → (Member → List ℕ) → List ℕ
of_matched None f = []
of_matched (Some m) f = f m

abbrev pub attr_at : List ℕ → Option Member → Option (List ℕ)
attr_at k None = None
attr_at k (Some m) = attr_of k m

-- the event device's attribute if it is present, else the matched device's
abbrev pub first_of : Option (List ℕ) → Option (List ℕ) → Option (List ℕ)
first_of None b = b
first_of (Some v) b = Some v

-- where substitutions come from: the device, the matched place, the properties at that moment, the output stored by then (document 02, Item 6)
pub record Source : Type 0 where
  pub device : Device
  pub place : ℕ
  pub properties : List Property
  pub output : List ℕ

abbrev pub matched_in : Source → Option Member
matched_in c = member_at c.place c.device

unfoldable pub inserted : Source → Piece → List ℕ
inserted c (T.written b) = b ∷ []
inserted c T.kernel = name_of c.device.event
inserted c T.number = end_digits (name_of c.device.event)
inserted c T.devpath = c.device.event.path
inserted c T.id = of_matched (matched_in c) name_of
inserted c T.driver = of_matched (matched_in c) (λ m. m.driver)
inserted c T.major = decimal c.device.major
inserted c T.minor = decimal c.device.minor
inserted c (T.attr k) = trim (or_empty (first_of (attr_of k c.device.event) (attr_at k (matched_in c))))
inserted c (T.env k) = or_empty (lookup k c.properties)
inserted c T.result = c.output
inserted c T.dollar = 36 ∷ []
inserted c T.percent = 37 ∷ []

abbrev pub is_written : Piece → Bool
is_written (T.written b) = true
is_written T.kernel = false
is_written T.number = false
is_written T.devpath = false
is_written T.id = false
is_written T.driver = false
is_written T.major = false
is_written T.minor = false
is_written (T.attr k) = false
is_written (T.env k) = false
is_written T.result = false
is_written T.dollar = false
is_written T.percent = false

-- inserted text, with its whitespace made `_` where that is asked; written bytes stay
unfoldable pub piece_text : Bool → Source → Piece → List ℕ
piece_text spaceless c p = elim (is_written p) [ true ↦ inserted c p | false ↦ elim spaceless [ true ↦ map no_space (inserted c p) | false ↦ inserted c p ] ]

unfoldable pub text_of : Bool → Source → List Piece → List ℕ
text_of spaceless c [] = []
text_of spaceless c (p ∷ ps) = piece_text spaceless c p ++ text_of spaceless c ps

abbrev pub pieces_of : Option (List Piece) → List Piece
pieces_of None = []
pieces_of (Some ps) = ps

unfoldable pub substituted : Bool → Source → List ℕ → List ℕ
substituted spaceless c template = text_of spaceless c (pieces_of (pieces template))

-- to 512 bytes (30 beyond)
abbrev pub within : List ℕ → Checked Refusal (List ℕ)
within t = elim (leb (length t) most_substituted) [ true ↦ ok t | false ↦ refused substitution_long ]

unfoldable pub filled : Bool → Source → List ℕ → Checked Refusal (List ℕ)
filled spaceless c template = within (substituted spaceless c template)
