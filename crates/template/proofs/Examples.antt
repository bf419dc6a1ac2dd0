-- Worked examples of templates, M7 first, each judged by document 01; one claim covers all.
-- Assumes nothing.
use Prim.Native.Nat.{ℕ}
use Prim.Native.String.{String}
use mathlib.Core.Path.{◌≡◌, refl}
use mathlib.Core.Bool.{Bool, true, false, not}
use mathlib.Core.List.{List, [], ◌∷◌, ◌++◌}
use Rattle.std.specs.Prelude.{Option, None, Some}
use lib.ListN.{replicate}
use Rattle.lists.specs.Lists.{cat}
use Rattle.lists.specs.Bytes.{same_bytes, starts}
use Rattle.lists.specs.Runs.{span, end_digits}
use Rattle.lists.specs.Items.{items, in_braces}
use Rattle.lists.specs.Quoted.{bytes}
use Rattle.template.specs.Template.{Piece, written, kernel, number, devpath, id, driver, major, minor, result, attr, env, dollar, percent, names, letters, name_in, pieces, well_formed}
use Rattle.template.specs.Decimal.{decimal_on, decimal}

-- a piece as text, for comparing: a written byte is itself, any other a word in angles
unfoldable pub word : Piece → List ℕ
unfolding bytes
word (written b) = b ∷ []
word kernel = bytes "<kernel>"
word number = bytes "<number>"
word devpath = bytes "<devpath>"
word id = bytes "<id>"
word driver = bytes "<driver>"
word major = bytes "<major>"
word minor = bytes "<minor>"
word result = bytes "<result>"
word (attr f) = bytes "<attr " ++ (f ++ bytes ">")
word (env k) = bytes "<env " ++ (k ++ bytes ">")
word dollar = bytes "<dollar>"
word percent = bytes "<percent>"

abbrev reads_as : Option (List Piece) → List ℕ → Bool
reads_as None t = false
reads_as (Some ps) t = same_bytes (cat word ps) t

pub data Case : Type 0 where
  -- a name and its number
  numbered : String → String → Case
  -- a number in decimal
  written_as : ℕ → String → Case
  -- the template has these pieces
  has : String → String → Case
  -- not well formed
  faulty : String → Case
  -- a name of so many bytes in braces behind this sign, well formed or not
  long : String → ℕ → Bool → Case

abbrev same : Bool → Bool → Bool
same true b = b
same false b = not b

unfoldable pub right : Case → Bool
right (numbered name n) = same_bytes (end_digits (bytes name)) (bytes n)
right (written_as n w) = same_bytes (decimal n) (bytes w)
right (has t w) = reads_as (pieces (bytes t)) (bytes w)
right (faulty t) = not (well_formed (bytes t))
right (long t n b) = same (well_formed (bytes t ++ (replicate n 97 ++ bytes "}"))) b

-- the cases that do not come out as written
unfoldable pub wrong : List Case → List Case
wrong [] = []
wrong (c ∷ cs) = elim (right c) [ true ↦ wrong cs | false ↦ c ∷ wrong cs ]

pub examples : List Case
examples =
    -- M7
    numbered "sda3" "3" ∷ numbered "sda" "" ∷ numbered "0123" "0123" ∷ numbered "a1b23" "23" ∷ numbered "1a" ""
    ∷ written_as 0 "0" ∷ written_as 9 "9" ∷ written_as 10 "10" ∷ written_as 188 "188" ∷ written_as 4095 "4095" ∷ written_as 1048575 "1048575" ∷ written_as 1000000 "1000000" ∷ written_as 4294967295 "4294967295"
    -- each name and letter
    ∷ has "" "" ∷ has "a b" "a b" ∷ has "rope/trip%n" "rope/trip<number>"
    ∷ has "$kernel%k" "<kernel><kernel>" ∷ has "$number%n" "<number><number>" ∷ has "$devpath%p" "<devpath><devpath>" ∷ has "$id%b" "<id><id>" ∷ has "$driver" "<driver>"
    ∷ has "$major%M" "<major><major>" ∷ has "$minor%m" "<minor><minor>" ∷ has "$$%%" "<dollar><percent>" ∷ has "$attr{a}%s{b}" "<attr a><attr b>" ∷ has "$env{A}%E{B}" "<env A><env B>"
    -- names by prefix
    ∷ has "$idx" "<id>x" ∷ has "$id{x}" "<id>{x}" ∷ has "$kernels" "<kernel>s" ∷ has "$driverx" "<driver>x" ∷ has "$$kernel" "<dollar>kernel" ∷ has "%%k" "<percent>k" ∷ has "%k{x}" "<kernel>{x}" ∷ has "$majorminor" "<major>minor"
    -- braces
    ∷ has "$attr{{}" "<attr {>" ∷ has "$attr{a}}" "<attr a>}" ∷ has "$env{$kernel}" "<env $kernel>" ∷ has "%s{ }" "<attr  >" ∷ has "$attr{%}x%k" "<attr %>x<kernel>"
    -- document 02, Item 6: no brace directly behind a program's output
    ∷ has "$result%c" "<result><result>" ∷ has "$resultx" "<result>x" ∷ has "%c%%c{" "<result><percent>c{" ∷ has "$result {" "<result> {" ∷ has "$$result{1}" "<dollar>result{1}" ∷ has "a%c" "a<result>" ∷ has "%c}" "<result>}" ∷ has "$result$result" "<result><result>"
    ∷ faulty "$result{" ∷ faulty "%c{" ∷ faulty "$result{1}" ∷ faulty "a%c{2+}b" ∷ faulty "$resul" ∷ faulty "%C"
    -- anything else behind a sign
    ∷ faulty "$" ∷ faulty "%" ∷ faulty "a$" ∷ faulty "a%" ∷ faulty "%%%" ∷ faulty "$$$" ∷ faulty "%x" ∷ faulty "%d" ∷ faulty "$kerne" ∷ faulty "$Kernel" ∷ faulty "$%" ∷ faulty "%$" ∷ faulty "$ kernel" ∷ faulty "%S{a}" ∷ faulty "%e{a}"
    -- braces missing, empty, open or too long
    ∷ faulty "$attr" ∷ faulty "$attrs{x}" ∷ faulty "$attr {x}" ∷ faulty "$attr{}" ∷ faulty "$attr{x" ∷ faulty "%s" ∷ faulty "%s{" ∷ faulty "%s{}" ∷ faulty "$env" ∷ faulty "$env{" ∷ faulty "$env{}" ∷ faulty "%Ex" ∷ faulty "$attr[x]"
    ∷ long "$attr{" 64 true ∷ long "$attr{" 65 false ∷ long "%s{" 64 true ∷ long "%s{" 65 false ∷ long "$env{" 64 true ∷ long "$env{" 65 false ∷ long "%E{" 1 true ∷ long "%E{" 65 false
    ∷ []

pub shown : wrong examples ≡ []
unfolding wrong right examples word bytes same_bytes starts span end_digits in_braces items names letters name_in pieces well_formed decimal_on
shown = refl
