-- The demand on joined texts holds of what the exported functions write.
-- Assumes nothing.
use Prim.Native.Nat.{ℕ, zero, suc, ◌+◌, ◌≤◌}
use mathlib.Core.Path.{◌≡◌, refl, sym, ap, ◌∙◌, subst}
use mathlib.Core.List.{List, [], ◌∷◌}
use Rattle.std.specs.Prelude.{Some}
use native.Mathlib.Omega.{arith}
use lib.ListN.{length, take}
use Rattle.lists.specs.Lists.{All}
use Rattle.lists.specs.Checked as checked
use Rattle.lists.specs.Checked.{refused, ok, ◌>>◌, Placed, line}
use Rattle.lists.specs.Refusal.{Refusal}
use Rattle.lists.specs.Bytes.{Bytes}
use Rattle.lists.specs.Sizes.{fullest_outcome}
use Rattle.lists.proofs.Lists.{All-map}
use Rattle.text.specs.Lines.{newlines}
use Rattle.text.specs.Reading.{read_text}
use Rattle.text.specs.Run as generic
use Rattle.text.specs.Run.{Answer}
use Rattle.text.specs.Joined as joined
use Rattle.text.specs.Joined.{join, Cuttable, Accepted, Given, Job, texts, given, onward, run_all, cuts, NoCrossing, jumps}
use Rattle.text.specs.Demand as text
use Rattle.text.proofs.Runs.{refusal-number}
use Rattle.rules.specs.Pair.{Rule}
use Rattle.rules.specs.Reading.{reader}
use Rattle.engine.specs.Operations as operations
use Rattle.engine.specs.Operations.{engine, run}
use Rattle.engine.proofs.Laws.{engine_demand3, run_is}
use Rattle.sheet.specs.Sheet as Sheets
use Rattle.sheet.specs.Sheet.{Sheet}
use Rattle.sheet.proofs.RoundTrip as sheets
use Rattle.spillfinch.specs.Exports.{numbers, Gives}
use Rattle.text_check.specs.Check.{check}
use Rattle.spillfinch.specs.Joined.{Checked, number_in, line_in, visited_in, tried_in, Call, back, Ran, followed, InTurn, together, Fit, Sound, WithSheet, Demand3}

-- ---- checks

-- a check that gives the number 0 read a text
number_accepted : (c : checked.Checked (Placed Refusal) (List (Placed Rule))) → (operations.given 0 (c >> ok [])).number ≡ 0 → (rs : List (Placed Rule)) × (c ≡ ok rs)
number_accepted (refused (line n f)) e = let (k, p) = refusal-number f in absurd (omega (arith, sym p ∙ e))
number_accepted (ok rs) e = (rs, refl)

pub checked_accepted : (a : Sheet) (t : List ℕ) → Checked t → Accepted (engine a) t
checked_accepted a t (w, g, z) = number_accepted (read_text reader t) (sym (ap number_in g) ∙ z)

pub accepted_checked : (a : Sheet) (t : List ℕ) → Accepted (engine a) t → Checked t
accepted_checked a t (rs, e) = (numbers (check t), refl, rw e refl)

-- ---- calls

-- texts with the rooms that their calls had; the room of a text that was not run does not matter
abbrev jobs_of : List (List ℕ) → List Call → List Job
jobs_of [] cs = []
jobs_of (t ∷ ts) [] = record { text = t; room = fullest_outcome } ∷ jobs_of ts []
jobs_of (t ∷ ts) (c ∷ cs) = record { text = t; room = length c.target } ∷ jobs_of ts cs

jobs_texts : (ts : List (List ℕ)) (cs : List Call) → texts (jobs_of ts cs) ≡ ts
jobs_texts [] cs = refl
jobs_texts (t ∷ ts) [] = ap (λ (xs : List (List ℕ)). t ∷ xs) (jobs_texts ts [])
jobs_texts (t ∷ ts) (c ∷ cs) = ap (λ (xs : List (List ℕ)). t ∷ xs) (jobs_texts ts cs)

abbrev Roomy : List Job → Type 0
Roomy js = All (λ (j : Job). fullest_outcome ≤ j.room) js

none_roomy : (ts : List (List ℕ)) → Roomy (jobs_of ts [])
none_roomy [] = tt
none_roomy (t ∷ ts) = (omega arith, none_roomy ts)

-- behind an accepted call, and behind a refused one
by_turn : {A B P : Type 0} (k : ℕ) → followed k A B → (A → P) → (B → P) → P
by_turn zero f a b = a f
by_turn (suc k) f a b = b f

onward-turn : (s : Sheet) (A B : Type 0) (k : ℕ) (x y z : Given) → followed k A B → (A → x ≡ y) → onward (engine s) k x z ≡ onward (engine s) k y z
onward-turn s A B zero x y z f a = a f
onward-turn s A B (suc k) x y z f a = refl

module _ (sheet : List ℕ) (a : Sheet) (by : Bytes sheet) (is : Sheets.decode sheet ≡ Some a) (dev : List ℕ) where
  jobs_roomy : (out : List ℕ) (ts : List (List ℕ)) (cs : List Call) → InTurn dev sheet out ts cs → Roomy (jobs_of ts cs)
  jobs_roomy out [] cs i = tt
  jobs_roomy out (t ∷ ts) [] i = none_roomy (t ∷ ts)
  jobs_roomy out (t ∷ ts) (c ∷ cs) (e, r, f) = (
    r.room,
    by_turn (number_in c.written) f (λ g. jobs_roomy (back c).left ts cs g)
        (λ g. subst (λ (xs : List Call). Roomy (jobs_of ts xs)) (sym g) (none_roomy ts)),
  )

  -- what a run gives back, read from what its call writes
  abbrev next : (ℕ → ℕ → List ℕ → Given) → ℕ → Answer → Given
  next others n x =
      onward (engine a) x.number (others x.visited x.tried (take x.used x.bytes))
      (record { number = x.number; line = n + x.line; visited = 0; tried = 0; used = 0; left = [] })

  written_next : (others : ℕ → ℕ → List ℕ → Given) (n : ℕ) (x : Answer) (c : Call) → Gives c.written c.target x
      → next others n x
      ≡ onward (engine a) (number_in c.written) (others (visited_in c.written) (tried_in c.written) (back c).left)
      (record { number = number_in c.written; line = n + line_in c.written; visited = 0; tried = 0; used = 0; left = [] })
  written_next others n x c (w, b) = rw (w, b) refl

  -- a call with the sheet is one of the engine's runs
  given_by : (out : List ℕ) (c : Call) → Ran dev sheet out c → Gives c.written c.target (generic.run (engine a) c.text dev out (length c.target))
  given_by out c r = subst (Gives c.written c.target) (run_is c.text dev out sheet (length c.target) a is) r.gives

  calls_together : (v w n : ℕ) (out : List ℕ) (ts : List (List ℕ)) (cs : List Call) → InTurn dev sheet out ts cs
      → run_all (engine a) dev v w n out (jobs_of ts cs) ≡ together a v w n out cs
  unfolding run_all
  calls_together v w n out [] [] i = refl
  calls_together v w n out [] (c ∷ cs) i = absurd i
  calls_together v w n out (t ∷ ts) [] i = absurd i
  calls_together v w n out (t ∷ ts) (c ∷ cs) (e, r, f) =
      let others : ℕ → ℕ → List ℕ → Given = λ u m x. run_all (engine a) dev (v + u) (w + m) (n + newlines c.text) x (jobs_of ts cs) in
      rw (← e)
      (written_next others n (generic.run (engine a) c.text dev out (length c.target)) c (given_by out c r)
      ∙ onward-turn a (InTurn dev sheet (back c).left ts cs) (cs ≡ []) (number_in c.written) _ _ _ f
      (λ g. calls_together (v + visited_in c.written) (w + tried_in c.written) (n + newlines c.text) (back c).left ts cs g))

-- ---- the demand

-- what one call gives back
pub given_back : (x : Answer) (c : Call) → Gives c.written c.target x → back c ≡ given x
given_back x c (w, b) = rw (w, b) refl

module _ (sheet : List ℕ) (a : Sheet) (by : Bytes sheet) (is : Sheets.decode sheet ≡ Some a) where
  abbrev demanded : text.Demand3 (engine a)
  demanded = engine_demand3 a (sheets.back sheet a by is).good

  call_back : (dev out : List ℕ) (c : Call) (t : List ℕ) → c.text ≡ t → Ran dev sheet out c → back c ≡ given (generic.run (engine a) t dev out (length c.target))
  call_back dev out c t e r = rw (← e) (given_back (generic.run (engine a) c.text dev out (length c.target)) c (given_by sheet a by is dev out c r))

  fit_text : (ts : List (List ℕ)) → Fit ts → text.Fit (engine a) ts
  fit_text ts f =
      record { joinable = f.joinable; accepted = All-map Checked (Accepted (engine a)) (checked_accepted a) ts f.accepted; bytes = f.bytes; rules = f.rules }

  join_run : (ts : List (List ℕ)) → Fit ts → (dev out : List ℕ) → Sound dev out → (cs : List Call) → InTurn dev sheet out ts cs
      → (c : Call) → c.text ≡ join ts → Ran dev sheet out c → back c ≡ together a 0 0 0 out cs
  join_run ts f dev out s cs i c e r =
      let q : texts (jobs_of ts cs) ≡ ts = jobs_texts ts cs in
      call_back dev out c (join (texts (jobs_of ts cs))) (e ∙ ap join (sym q)) r
      ∙ demanded.join_run (jobs_of ts cs) (subst (text.Fit (engine a)) (sym q) (fit_text ts f)) dev out s.bytes s.read s.held
      (jobs_roomy sheet a by is dev out ts cs i) (length c.target) r.room
      ∙ calls_together sheet a by is dev 0 0 0 out ts cs i

  cut_run : (t : List ℕ) (rs : List (Placed Rule)) → read_text reader t ≡ ok rs → (ps : List (List ℕ)) → Cuttable ps → join ps ≡ t
      → NoCrossing (cuts 0 ps) (jumps (engine a) rs) → (dev out : List ℕ) → Sound dev out → (cs : List Call) → InTurn dev sheet out ps cs
      → (c : Call) → c.text ≡ t → Ran dev sheet out c → back c ≡ together a 0 0 0 out cs
  cut_run t rs g ps j p k dev out s cs i c e r =
      let q : texts (jobs_of ps cs) ≡ ps = jobs_texts ps cs in
      call_back dev out c t e r
      ∙ demanded.cut_run t rs g (jobs_of ps cs) (subst Cuttable (sym q) j) (ap join q ∙ p)
      (subst (λ (xs : List (List ℕ)). NoCrossing (cuts 0 xs) (jumps (engine a) rs)) (sym q) k) dev out s.bytes s.read s.held
      (jobs_roomy sheet a by is dev out ps cs i) (length c.target) r.room
      ∙ calls_together sheet a by is dev 0 0 0 out ps cs i

  with_sheet : WithSheet sheet a
  with_sheet = record {
    join_checked = λ ts f. accepted_checked a (join ts) (demanded.join_accepted ts (fit_text ts f));
    join_run = join_run;
    cut_checked = λ t rs e ps j p. let (to, from) = demanded.cut_accepted t rs e ps j p in
        (λ b. to (All-map Checked (Accepted (engine a)) (checked_accepted a) ps b), λ k. All-map (Accepted (engine a)) Checked (accepted_checked a) ps (from k));
    cut_run = cut_run;
  }

pub calls_demand3 : Demand3
calls_demand3 sheet a by is = with_sheet sheet a by is
