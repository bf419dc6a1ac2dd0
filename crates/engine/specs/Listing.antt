-- Document 01, Examples: the listing of a run and its close, as bytes.
-- Assumes nothing.
use Rattle.std.specs.Prelude.{ℕ, suc, ◌+◌, ◌/◌, ◌%◌, not, ◌&&◌, List, [], ◌∷◌, ◌++◌, eqb, ltb, ℤ, pos, negsuc}
use Rattle.std.specs.Prelude.{Option, None, Some}
use Rattle.lists.specs.Lists.{pick, is_empty, cat}
use Rattle.lists.specs.Bytes.{between}
use Rattle.lists.specs.Checked.{Checked, refused, ok, ◌>>=◌, found, Placed, line, on_line}
use Rattle.lists.specs.Refusal.{Refusal, number, device_bad}
use Rattle.lists.specs.Sizes.{fullest_outcome}
use Rattle.lists.specs.Quoted.{bytes}
use Rattle.bits.specs.Signed.{to_signed}
use Rattle.entries.specs.Entry.{Property}
use Rattle.device.specs.Device as D
use Rattle.outcome.specs.State as O
use Rattle.outcome.specs.State.{State}
use Rattle.template.specs.Decimal.{decimal}
use Rattle.engine.specs.Operations.{run_checked, Command, commands}

-- a digit in hexadecimal, lower case
abbrev pub hex : ℕ → ℕ
hex n = pick (ltb n 10) (48 + n) (87 + n)

-- bytes 32 to 126 stand for themselves, but for the backslash; others as `\x5c`
abbrev pub shown_byte : ℕ → List ℕ
shown_byte b = pick (between 32 126 b && not (eqb b 92)) (b ∷ []) (92 ∷ 120 ∷ hex (b / 16) ∷ hex (b % 16) ∷ [])

unfoldable pub escaped : List ℕ → List ℕ
escaped [] = []
escaped (b ∷ bs) = shown_byte b ++ escaped bs

-- a number with its sign; `negsuc n` is -(n + 1)
abbrev pub signed : ℤ → List ℕ
signed (pos n) = decimal n
signed (negsuc n) = 45 ∷ decimal (suc n)

abbrev pub four_octal : ℕ → List ℕ
four_octal m = (48 + m / 512) ∷ (48 + m / 64 % 8) ∷ (48 + m / 8 % 8) ∷ (48 + m % 8) ∷ []

-- a line: a word, a blank, a text
unfoldable pub line_of : List ℕ → List ℕ → List ℕ
line_of word text = word ++ (32 ∷ (text ++ (10 ∷ [])))

abbrev pub mode_line : Option ℕ → List ℕ
unfolding bytes
mode_line None = []
mode_line (Some m) = line_of (bytes "mode") (four_octal m)

-- document 02, Item 5
abbrev pub watch_line : ℕ → List ℕ
unfolding bytes
watch_line w = pick (eqb w 1) (bytes "watch\n") (pick (eqb w 2) (bytes "nowatch\n") [])

-- a line for what is set
abbrev pub set_line : List ℕ → List ℕ → List ℕ
set_line word text = pick (is_empty text) [] (line_of word (escaped text))

abbrev pub env_line : Property → List ℕ
unfolding bytes
env_line p = line_of (bytes "env") (escaped p.key ++ (61 ∷ escaped p.value))

abbrev pub command_line : Command → List ℕ
unfolding bytes
command_line c = line_of (pick c.builtin (bytes "builtin") (bytes "program")) (escaped c.text)

-- the listing of what a run left and its close made; document 02, Items 9 and 5: `tried` behind `visited`, watch behind the group
unfoldable pub listing_of : ℕ → ℕ → State → List Command → List ℕ
unfolding bytes
listing_of visited tried s cs =
    line_of (bytes "visited") (decimal visited)
    ++ (line_of (bytes "tried") (decimal tried)
    ++ (line_of (bytes "priority") (signed (to_signed s.priority))
    ++ (mode_line s.mode
    ++ (set_line (bytes "owner") s.owner
    ++ (set_line (bytes "group") s.group
    ++ (watch_line s.watch
    ++ (cat (λ l. line_of (bytes "link") (escaped l)) s.links
    ++ (cat env_line s.properties ++ (cat (λ t. line_of (bytes "tag") (escaped t)) s.tags ++ cat command_line cs)))))))))

-- ---- a run and its close

-- the record that a run starts from where none is given: the device's fresh one
abbrev pub fresh_or : Option D.Device → List ℕ
fresh_or None = []
fresh_or (Some d) = O.encode (O.fresh d)

-- a run from a record, then a close of what it left
unfoldable pub listed : List ℕ → List ℕ → List ℕ → List ℕ → Checked (Placed Refusal) (List ℕ)
listed text dev out sheet = do
  h ← run_checked text dev out sheet fullest_outcome
  d ← found (D.decode dev) (line 0 device_bad)
  cs ← on_line 0 (commands d h.state.properties h.state.output h.state.runs)
  ok (listing_of h.visited h.tried h.state cs)

unfoldable pub printed : Checked (Placed Refusal) (List ℕ) → List ℕ
unfolding bytes
printed (refused (line n f)) = bytes "refused " ++ (decimal (number f) ++ (bytes " line " ++ (decimal n ++ (10 ∷ []))))
printed (ok l) = l

-- from a record, and from the fresh one; with an answer sheet (document 02, Item 6)
unfoldable pub listing_from : List ℕ → List ℕ → List ℕ → List ℕ → List ℕ
listing_from text dev out sheet = printed (listed text dev out sheet)

unfoldable pub listing : List ℕ → List ℕ → List ℕ → List ℕ
listing text dev sheet = listing_from text dev (fresh_or (D.decode dev)) sheet
