-- What the code answers of a template at a place, by what the definitions read.
-- Assumes nothing.
use Rattle.std.specs.Prelude.{ℕ, ◌+◌, ◌≤◌, ◌<◌, ◌≡◌, List, [], ◌∷◌, length, take, drop}
use Rattle.std.specs.Prelude.{Option, None, Some, Result, Ok, Err}
use Rattle.lists.specs.Lists.{pick, is_some}
use Rattle.lists.specs.Bytes.{starts}
use Rattle.lists.specs.Items.{Item}
use Rattle.template.specs.Template as T
use Rattle.template.specs.Template.{names, letters, name_in, named_piece, piece_at, pieces}
use Rattle.pieces.specs.declared.Piece.{Piece}
use Rattle.pieces.specs.declared.Piece.TheVariants as P
use Rattle.pieces.specs.declared.PieceRead.{PieceRead}
use Rattle.pieces.specs.declared.Malformed.{Malformed}
use Rattle.pieces.specs.declared.Text.{Text}

-- a piece and the place behind it, or the template's end, or a fault
pub data Read : Type 0 where
  piece : T.Piece → ℕ → Read
  end fault : Read

-- an item that begins before place i
abbrev pub item_read : Option (Item T.Piece) → ℕ → Read
item_read None i = fault
item_read (Some it) i = piece it.value (i + it.more)

abbrev pub read_from : List ℕ → ℕ → Read
read_from [] i = end
read_from (b ∷ bs) i = item_read (piece_at b bs) (i + 1)

-- what stands at a place of a template
unfoldable pub read_at : List ℕ → ℕ → Read
read_at template i = read_from (drop i template) i

-- what stands behind a per cent sign, and behind a dollar sign
abbrev pub after_percent : List ℕ → ℕ → Read
after_percent template i = item_read (named_piece (name_in letters (drop i template)) (drop i template)) i

abbrev pub after_dollar : List ℕ → ℕ → Read
after_dollar template i = item_read (named_piece (name_in names (drop i template)) (drop i template)) i

-- a piece if its name begins at a place
abbrev pub if_named : List ℕ → T.Piece → List ℕ → ℕ → Read
if_named name p template i = pick (starts name (drop i template)) (piece p (i + length name)) fault

-- ---- what the code's answers stand for

abbrev pub meaning : Piece → List ℕ → T.Piece
meaning (P.Written b) template = T.written b
meaning P.Kernel template = T.kernel
meaning P.Number template = T.number
meaning P.Devpath template = T.devpath
meaning P.Id template = T.id
meaning P.Driver template = T.driver
meaning P.Major template = T.major
meaning P.Minor template = T.minor
meaning P.Result template = T.result
meaning (P.Attr start len) template = T.attr (take len (drop start template))
meaning (P.Env start len) template = T.env (take len (drop start template))
meaning P.Dollar template = T.dollar
meaning P.Percent template = T.percent

abbrev pub found_told : Option PieceRead → List ℕ → Read
found_told None template = fault
found_told (Some r) template = piece (meaning r.piece template) r.next

abbrev pub told : Result (Option PieceRead) Malformed → List ℕ → Read
told (Ok (Some r)) template = piece (meaning r.piece template) r.next
told (Ok None) template = end
told (Err m) template = fault

abbrev pub text_told : Option Text → List ℕ → Option (List ℕ)
text_told None template = None
text_told (Some t) template = Some (take t.len (drop t.start template))

-- ---- bounds

-- a text in braces lies inside
abbrev pub PieceWithin : Piece → List ℕ → Type 0
PieceWithin (P.Written b) template = Unit {0}
PieceWithin P.Kernel template = Unit {0}
PieceWithin P.Number template = Unit {0}
PieceWithin P.Devpath template = Unit {0}
PieceWithin P.Id template = Unit {0}
PieceWithin P.Driver template = Unit {0}
PieceWithin P.Major template = Unit {0}
PieceWithin P.Minor template = Unit {0}
PieceWithin P.Result template = Unit {0}
PieceWithin (P.Attr start len) template = start + len ≤ length template
PieceWithin (P.Env start len) template = start + len ≤ length template
PieceWithin P.Dollar template = Unit {0}
PieceWithin P.Percent template = Unit {0}

pub record Ahead (p : Piece) (next : ℕ) (template : List ℕ) (i : ℕ) : Type 0 where
  pub forward : i < next
  pub inside : next ≤ length template
  pub text : PieceWithin p template

abbrev pub FoundWithin : Option PieceRead → List ℕ → ℕ → Type 0
FoundWithin None template i = Unit {0}
FoundWithin (Some r) template i = Ahead r.piece r.next template i

abbrev pub Within : Result (Option PieceRead) Malformed → List ℕ → ℕ → Type 0
Within (Ok (Some r)) template i = Ahead r.piece r.next template i
Within (Ok None) template i = Unit {0}
Within (Err m) template i = Unit {0}

abbrev pub TextWithin : Option Text → List ℕ → ℕ → Type 0
TextWithin None template i = Unit {0}
TextWithin (Some t) template i = (t.start ≡ i + 1) × (t.start + t.len < length template)

-- what follows place r decides whether there is a fault from place i on
pub record PassesWritten (template : List ℕ) (i r : ℕ) : Type 0 where
  pub from : i ≤ r
  pub within : r ≤ length template
  pub same : is_some (pieces (drop r template)) ≡ is_some (pieces (drop i template))
