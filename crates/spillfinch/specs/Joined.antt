-- Document 01, Joined texts, of the exported functions: what their calls write for texts, for their join and for the pieces of a text,
-- with one answer sheet in all of them (document 02, Item 6).
-- Assumes nothing.
use Rattle.std.specs.Prelude.{ℕ, zero, suc, ◌+◌, ◌≤◌, ◌≡◌, ◌↔◌, List, [], ◌∷◌, length, take, get_or}
use Rattle.std.specs.Prelude.{Some}
use Rattle.lists.specs.Lists.{All}
use Rattle.lists.specs.Bytes.{Bytes}
use Rattle.lists.specs.Checked.{ok, Placed}
use Rattle.lists.specs.Sizes.{most_text, most_rules, fullest_outcome}
use Rattle.text.specs.Lines.{newlines}
use Rattle.text.specs.Reading.{rule_count, reads, read_text}
use Rattle.text.specs.Joined.{join, Joinable, Cuttable, Given, onward, cuts, NoCrossing, jumps}
use Rattle.rules.specs.Pair.{Rule}
use Rattle.rules.specs.Reading.{reader}
use Rattle.device.specs.Device as D
use Rattle.device.specs.Device.{Device}
use Rattle.outcome.specs.State.{State}
use Rattle.sheet.specs.Sheet as Sheets
use Rattle.sheet.specs.Sheet.{Sheet}
use Rattle.engine.specs.Operations.{engine, decode_for}
use Rattle.spillfinch.specs.Exports.{CheckGives, RunGives}

-- ---- calls, by what they are lent and what they write

-- the numbers of an answer, by their places in it
abbrev pub number_in : List ℕ → ℕ
number_in written = get_or written 0 0

abbrev pub line_in : List ℕ → ℕ
line_in written = get_or written 1 0

abbrev pub visited_in : List ℕ → ℕ
visited_in written = get_or written 2 0

abbrev pub used_in : List ℕ → ℕ
used_in written = get_or written 3 0

abbrev pub tried_in : List ℕ → ℕ
tried_in written = get_or written 4 0

-- a call of `spillfinch_check` that accepts the text
abbrev pub Checked : List ℕ → Type 0
Checked text = (written : List ℕ) × CheckGives text written × (number_in written ≡ 0)

-- a call of `spillfinch_run`: its text, what it writes to the answer and to the target
pub record Call : Type 0 where
  pub text : List ℕ
  pub written : List ℕ
  pub target : List ℕ

-- what it gives back: the numbers, and the target cut at the used length
abbrev pub back : Call → Given
back c =
    record {
      number = number_in c.written;
      line = line_in c.written;
      visited = visited_in c.written;
      tried = tried_in c.written;
      used = used_in c.written;
      left = take (used_in c.written) c.target;
    }

-- beside a device record, from an outcome record, with a sheet and full room
pub record Ran (dev sheet out : List ℕ) (c : Call) : Type 0 where
  pub room : fullest_outcome ≤ length c.target
  pub gives : RunGives c.text dev out sheet (length c.target) c.written c.target

-- ---- calls one after another

-- an accepted call is followed by the others; a refused one is the last
abbrev pub followed : ℕ → Type 0 → Type 0 → Type 0
followed zero others last = others
followed (suc k) others last = last

-- a call for each text, each from what the one before left; none behind a refused one
abbrev pub InTurn : List ℕ → List ℕ → List ℕ → List (List ℕ) → List Call → Type 0
InTurn dev sheet out [] [] = Unit {0}
InTurn dev sheet out [] (c ∷ cs) = ⊥
InTurn dev sheet out (t ∷ ts) [] = ⊥
InTurn dev sheet out (t ∷ ts) (c ∷ cs) =
    (c.text ≡ t) × Ran dev sheet out c × followed (number_in c.written) (InTurn dev sheet (back c).left ts cs) (cs ≡ [])

-- what they give together: what the last one gave, with the counts of all, or its refusal with its line counted on;
-- v rules visited, w devices tried (document 02, Item 9) and n newlines before
abbrev pub together : Sheet → ℕ → ℕ → ℕ → List ℕ → List Call → Given
together a v w n out [] = record { number = 0; line = 0; visited = v; tried = w; used = length out; left = out }
together a v w n out (c ∷ cs) =
    onward (engine a) (number_in c.written)
    (together a (v + visited_in c.written) (w + tried_in c.written) (n + newlines c.text) (back c).left cs)
    (record { number = number_in c.written; line = n + line_in c.written; visited = 0; tried = 0; used = 0; left = [] })

-- ---- the demand

-- texts that may be joined: each is accepted by itself, line ends where they meet, and the join is within the sizes of a text
pub record Fit (ts : List (List ℕ)) : Type 0 where
  pub joinable : Joinable ts
  pub accepted : All Checked ts
  pub bytes : length (join ts) ≤ most_text
  pub rules : rule_count (reads reader (join ts)) ≤ most_rules

-- an accepted outcome record beside an accepted device record
pub record Sound (dev out : List ℕ) : Type 0 where
  pub device : Device
  pub state : State
  pub bytes : Bytes out
  pub read : D.decode dev ≡ Some device
  pub held : decode_for device out ≡ Some state

-- of the calls with one sheet
pub record WithSheet (sheet : List ℕ) (a : Sheet) : Type 0 where
  -- the check accepts the join of accepted texts
  pub join_checked : (ts : List (List ℕ)) → Fit ts → Checked (join ts)
  -- one call for the join gives what the calls for its texts one after another give together
  pub join_run : (ts : List (List ℕ)) → Fit ts → (dev out : List ℕ) → Sound dev out → (cs : List Call) → InTurn dev sheet out ts cs
      → (c : Call) → c.text ≡ join ts → Ran dev sheet out c → back c ≡ together a 0 0 0 out cs
  -- the check accepts all pieces of an accepted text, cut only behind newlines that join nothing, if and only if no jump, taken or not,
  -- crosses a cut
  pub cut_checked : (t : List ℕ) (rs : List (Placed Rule)) → read_text reader t ≡ ok rs
      → (ps : List (List ℕ)) → Cuttable ps → join ps ≡ t → All Checked ps ↔ NoCrossing (cuts 0 ps) (jumps (engine a) rs)
  -- and then the calls for its pieces give together what one call for the text gives
  pub cut_run : (t : List ℕ) (rs : List (Placed Rule)) → read_text reader t ≡ ok rs
      → (ps : List (List ℕ)) → Cuttable ps → join ps ≡ t → NoCrossing (cuts 0 ps) (jumps (engine a) rs)
      → (dev out : List ℕ) → Sound dev out → (cs : List Call) → InTurn dev sheet out ps cs
      → (c : Call) → c.text ≡ t → Ran dev sheet out c → back c ≡ together a 0 0 0 out cs

-- for every sound sheet
abbrev pub Demand3 : Type 0
Demand3 = (sheet : List ℕ) (a : Sheet) → Bytes sheet → Sheets.decode sheet ≡ Some a → WithSheet sheet a
