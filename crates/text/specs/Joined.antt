-- Document 01, Joined texts: joins, cuts, jumps that cross a cut, and runs one after another.
-- Assumes nothing.
use Rattle.std.specs.Prelude.{ℕ, zero, suc, ◌+◌, ◌-◌, ◌≤◌, ◌<◌, ◌≡◌, ◌⊎◌, Bool, true, false, List, [], ◌∷◌, ◌++◌, map, eqb, length, take}
use Rattle.std.specs.Prelude.{Option, None, Some}
use Rattle.lists.specs.Lists.{All}
use Rattle.lists.specs.Checked.{ok, Placed, line}
use Rattle.text.specs.Lines.{newlines, blank, stage_of, is_slash}
use Rattle.text.specs.Engine.{Engine}
use Rattle.text.specs.Reading.{goes_to, read_text}
use Rattle.text.specs.Run.{Answer, run}

-- texts follow byte on byte, nothing between
unfoldable pub join : List (List ℕ) → List ℕ
join [] = []
join (t ∷ ts) = t ++ join ts

-- empty or ending in a newline
abbrev pub EndsLine : List ℕ → Type 0
EndsLine t = (t ≡ []) ⊎ ((u : List ℕ) × (t ≡ u ++ (10 ∷ [])))

-- document 02, Item 10: a newline behind these bytes of a text joins the next line
abbrev pub joins_next : List ℕ → Bool
joins_next u = is_slash (stage_of blank u)

-- empty or ending in a newline that joins nothing
abbrev pub EndsWhole : List ℕ → Type 0
EndsWhole t = (t ≡ []) ⊎ ((u : List ℕ) × (t ≡ u ++ (10 ∷ [])) × (joins_next u ≡ false))

-- one or more texts, each but the last with an end of this kind
abbrev pub Each : (List ℕ → Type 0) → List (List ℕ) → Type 0
Each End [] = ⊥
Each End (t ∷ []) = Unit {0}
Each End (t ∷ u ∷ ts) = End t × Each End (u ∷ ts)

-- texts that may follow each other: each but the last empty or ending in a newline. Where they are accepted, that newline joins nothing
abbrev pub Joinable : List (List ℕ) → Type 0
Joinable ts = Each EndsLine ts

-- the pieces of a text that is cut only behind newlines that join nothing
abbrev pub Cuttable : List (List ℕ) → Type 0
Cuttable ps = Each EndsWhole ps

-- a text and the room of the target that its run writes
pub record Job : Type 0 where
  pub text : List ℕ
  pub room : ℕ

abbrev pub texts : List Job → List (List ℕ)
texts js = map (λ (j : Job). j.text) js

-- what is given back: the numbers, and the target cut at the used length
pub record Given : Type 0 where
  pub number : ℕ
  pub line : ℕ
  pub visited : ℕ
  pub tried : ℕ
  pub used : ℕ
  pub left : List ℕ

abbrev pub given : Answer → Given
given a = record { number = a.number; line = a.line; visited = a.visited; tried = a.tried; used = a.used; left = take a.used a.bytes }

-- the line of a GOTO, and the line of the rule that it goes to
pub record Jump : Type 0 where
  pub from : ℕ
  pub to : ℕ

-- a cut after the c-th newline has the lines to c before it: the GOTO stands there, and the rule that it goes to does not
abbrev pub Crosses : ℕ → Jump → Type 0
Crosses c j = (j.from ≤ c) × (c < j.to)

-- the cuts between the pieces, with n newlines before the first piece
abbrev pub cuts : ℕ → List (List ℕ) → List ℕ
cuts n [] = []
cuts n (p ∷ []) = []
cuts n (p ∷ q ∷ ps) = (n + newlines p) ∷ cuts (n + newlines p) (q ∷ ps)

abbrev pub NoCrossing : List ℕ → List Jump → Type 0
NoCrossing cs js = All (λ (j : Jump). All (λ (c : ℕ). ¬ Crosses c j) cs) js

module _ (E : Engine) where
  open E.reader use {Rule, goto}

  -- a text that reading does not refuse
  abbrev pub Accepted : List ℕ → Type 0
  Accepted t = (rs : List (Placed Rule)) × (read_text E.reader t ≡ ok rs)

  abbrev pub jump_from : ℕ → Option ℕ → List Jump → List Jump
  jump_from n None js = js
  jump_from n (Some l) js = record { from = n; to = l } ∷ js

  abbrev pub jumps_of : ℕ → Option (List ℕ) → List (Placed Rule) → List Jump → List Jump
  jumps_of n None ps js = js
  jumps_of n (Some g) ps js = jump_from n (goes_to E.reader g ps) js

  -- the jumps of a text's rules, taken or not
  unfoldable pub jumps : List (Placed Rule) → List Jump
  jumps [] = []
  jumps (line n r ∷ ps) = jumps_of n (goto r) ps (jumps ps)

  -- an accepted run is followed by the others; a refused one is the last
  abbrev pub onward : ℕ → Given → Given → Given
  onward zero others last = others
  onward (suc k) others last = last

  -- run the texts one after another, each from the record that the one before left, to the end or to the first refusal:
  -- v rules visited, w devices tried (document 02, Item 9) and n newlines before
  unfoldable pub run_all : List ℕ → ℕ → ℕ → ℕ → List ℕ → List Job → Given
  run_all dev v w n out [] = record { number = 0; line = 0; visited = v; tried = w; used = length out; left = out }
  run_all dev v w n out (j ∷ js) =
      let a = run E j.text dev out j.room in
      onward a.number
      (run_all dev (v + a.visited) (w + a.tried) (n + newlines j.text) (take a.used a.bytes) js)
      (record { number = a.number; line = n + a.line; visited = 0; tried = 0; used = 0; left = [] })
