-- Document 02, Item 11: a set of rules files, those of them that count, and their order.
-- Assumes nothing.
use Rattle.std.specs.Prelude.{ℕ, suc, Bool, true, false, not, ◌&&◌, ◌||◌, List, [], ◌∷◌, ◌++◌, eqb, leb, ltb, length}
use Rattle.std.specs.Prelude.{Option}
use Rattle.lists.specs.Lists.{pick, any, reject}
use Rattle.lists.specs.Bytes.{same_bytes}
use Rattle.lists.specs.Quoted.{bytes}
use Rattle.entries.specs.Parse.{Parse, bad, bind, keep}
use Rattle.entries.specs.Entry.{enc_text, one_text}
use Rattle.sets.specs.Sets.{ok_long, enc_long, one_long, encode_set, decode_set}

-- a rules file: its directory as a rank (0 etc, 1 run, 2 usr/local/lib, 3 lib), and the least number is the highest rank
pub record File : Type 0 where
  pub rank : ℕ
  pub name : List ℕ
  pub text : List ℕ

-- ---- the lent set

abbrev pub most_files : ℕ
most_files = 32

abbrev pub last_rank : ℕ
last_rank = 3

abbrev pub most_name : ℕ
most_name = 64

abbrev pub ok_name : List ℕ → Bool
ok_name x = leb 1 (length x) && leb (length x) most_name

abbrev pub ok_file : File → Bool
ok_file f = leb f.rank last_rank && (ok_name f.name && ok_long f.text)

-- its bytes: the rank in 8 bits, the name behind its length in 8, the text behind its length in 16
abbrev pub enc_file : File → List ℕ
enc_file f = f.rank ∷ (enc_text f.name ++ enc_long f.text)

abbrev pub file_of : ℕ → List ℕ → List ℕ → File
file_of r n t = record { rank = r; name = n; text = t }

abbrev pub one_file : List ℕ → Parse File
one_file [] = bad
one_file (r ∷ bs) = bind (one_text ok_name bs) (λ n q. bind (one_long q) (λ t z. keep (leb r last_rank) (file_of r n t) z))

-- none to 32 of them
abbrev pub encode_files : List File → List ℕ
encode_files fs = encode_set enc_file fs

abbrev pub decode_files : List ℕ → Option (List File)
decode_files bs = decode_set 0 most_files one_file bs

-- ---- which files count

abbrev pub same_name : File → File → Bool
same_name f g = same_bytes f.name g.name

-- one name in one directory, whether or not the name is one of a rules file
abbrev pub same_file : File → File → Bool
same_file f g = same_name f g && eqb f.rank g.rank

-- some file is there twice (refusal 21)
abbrev pub doubled : List File → Bool
doubled [] = false
doubled (f ∷ fs) = any (same_file f) fs || doubled fs

-- the second ends in the first
unfoldable pub ends_in : List ℕ → List ℕ → Bool
ends_in e [] = same_bytes e []
ends_in e (b ∷ bs) = same_bytes e (b ∷ bs) || ends_in e bs

abbrev pub is_rules : File → Bool
is_rules f = ends_in (bytes ".rules") f.name

-- the second has the name of the first and a higher rank
abbrev pub above : File → File → Bool
above f g = same_name g f && ltb g.rank f.rank

-- it does not count among these files: its name ends otherwise than in `.rules`, or one of them is above it
abbrev pub loses : List File → File → Bool
loses fs f = not (is_rules f) || any (above f) fs

-- ---- the order of names

-- by the first byte in which they differ; of two that differ in none the shorter one
unfoldable pub before : List ℕ → List ℕ → Bool
before [] [] = false
before [] (y ∷ ys) = true
before (x ∷ xs) [] = false
before (x ∷ xs) (y ∷ ys) = ltb x y || (eqb x y && before xs ys)

-- a file put before the first one that its name comes before
abbrev pub insert : File → List File → List File
insert f [] = f ∷ []
insert f (g ∷ gs) = pick (before f.name g.name) (f ∷ g ∷ gs) (g ∷ insert f gs)

abbrev pub in_order : List File → List File
in_order [] = []
in_order (f ∷ fs) = insert f (in_order fs)

-- those that count, in the order of their names
unfoldable pub winners : List File → List File
winners fs = in_order (reject (loses fs) fs)

-- where a file of that name and rank stands, the first counted as n; 0 if there is none
unfoldable pub position_from : ℕ → File → List File → ℕ
position_from n f [] = 0
position_from n f (g ∷ gs) = pick (same_file f g) n (position_from (suc n) f gs)
