-- Document 02, Item 13: a text without the assignments to a key is accepted, holds the rules without them, and gives what the text gives.
-- Assumes nothing.
use Prim.Native.Nat.{ℕ, zero, suc, ◌+◌, ◌≤◌}
use mathlib.Core.Path.{◌≡◌, refl, sym, ap, ◌∙◌, subst}
use mathlib.Core.Bool.{Bool, true, false}
use mathlib.Core.List.{List, [], ◌∷◌, ◌++◌, map, map-append}
use Rattle.std.specs.Prelude.{Some}
use native.Mathlib.Omega.{arith}
use lib.Dec.{leb}
use lib.ListN.{take, replicate}
use lib.Seq.{take-append_seam}
use Rattle.lists.specs.Lists.{cat}
use Rattle.lists.specs.Bytes.{Bytes}
use Rattle.lists.specs.Checked.{Checked, refused, ok, ◌>>◌, require, Holds, Placed, line, in_place}
use Rattle.lists.specs.Refusal.{Refusal, target_short}
use Rattle.lists.specs.Sizes.{fullest_outcome}
use Rattle.rules.specs.Pair.{Rule}
use Rattle.rules.specs.Reading.{reader}
use Rattle.device.specs.Device as D
use Rattle.device.specs.Device.{Device, chain}
use Rattle.outcome.specs.State as O
use Rattle.outcome.specs.State.{State}
use Rattle.text.specs.Lines.{blank, lines_in, numbered, lines, newlines}
use Rattle.text.specs.Engine.{LineRead, skip, fault, rule}
use Rattle.text.specs.Reading.{rule_count, read_lent, reads}
use Rattle.text.specs.Rules.{rules_in, rules_of}
use Rattle.text.specs.Running.{next, Halt, Ran, run_from}
use Rattle.text.specs.Run.{Answer, refusal, acceptance}
use Rattle.text.proofs.Lines.{physical, numbered-append, flat_newlines}
use Rattle.text.proofs.Collect.{Faultless}
use Rattle.text.proofs.Settle.{Settled}
use Rattle.text.proofs.Texts.{Parts, read_ok}
use Rattle.text.proofs.Accept.{to-parts, from_parts}
use Rattle.text.proofs.Sound.{Sound, run_sound, lines_read}
use Rattle.text.proofs.Runs.{refusal-number}
use Rattle.sheet.specs.Sheet as Sheets
use Rattle.sheet.specs.Sheet.{Sheet}
use Rattle.sheet.proofs.RoundTrip as sheets
use Rattle.engine.specs.Operations as operations
use Rattle.engine.specs.Operations.{decode_for, engine, run_checked, run}
use Rattle.engine.proofs.Laws.{engine-laws}
use Rattle.writing.specs.Writing.{line_text}
use Rattle.closing.specs.Closing.{ClosingKey, is_closed, Same, drop_rule, unless_empty, drop_rules}
use Rattle.closing.specs.Dropping.{drop_text}
use Rattle.closing.specs.Promise.{Given, given, ClosedMeansClosed}
use Rattle.closing.proofs.Lines.{rule_or, empty-lent, written, lines_left, becomes, lines_left_lem, drop-lines, drop_shorter}
use Rattle.closing.proofs.Rules.{run_stays, Reached, unvisited, drop-run, drop_settled}

-- ---- the rules of the text

abbrev Reads : Type 0
Reads = List (Placed (LineRead Rule))

abbrev reads_of : ℕ → List (List ℕ) → Reads
reads_of n ls = map (in_place (read_lent reader)) (numbered n ls)

empties : (j : ℕ) → physical (replicate j []) ≡ j
unfolding physical newlines
empties zero = refl
empties (suc j) = ap suc (omega (arith, empties j))

module _ (k : ClosingKey) where
  -- lines that are read without a fault to what is left of other lines' rules
  record Left (zs ys : Reads) : Type 0 where
    faultless : Faultless zs
    rules : rules_in zs ≡ drop_rules k (rules_in ys)
    few : rule_count zs ≤ rule_count ys

  empties_left : (n j : ℕ) (zs ys : Reads) → Left zs ys → Left (reads_of n (replicate j []) ++ zs) ys
  unfolding numbered rules_in rule_count newlines
  empties_left n zero zs ys h = h
  empties_left n (suc j) zs ys h =
      let i = empties_left (suc (0 + n)) j zs ys h in
      rw empty-lent record { faultless = i.faultless; rules = i.rules; few = i.few }

  -- a rule of which something or nothing is left, on line n
  rule-left : (n : ℕ) (r : Rule) (zs ys : Reads) (r' : Rule) → drop_rule k r ≡ r' → Left zs ys → Left (line n (rule_or r') ∷ zs) (line n (rule r) ∷ ys)
  unfolding rules_in rule_count drop_rules
  rule-left n r zs ys [] e h =
      record {
        faultless = h.faultless;
        rules = h.rules ∙ ap (λ (x : Rule). unless_empty x (drop_rules k (rules_in ys)) (λ r'. line n r')) (sym e);
        few = omega (arith, h.few);
      }
  rule-left n r zs ys (p ∷ ps) e h =
      record {
        faultless = h.faultless;
        rules =
            ap (λ (rs : List (Placed Rule)). line n (p ∷ ps) ∷ rs) h.rules ∙ ap (λ (x : Rule). unless_empty x (drop_rules k (rules_in ys)) (λ r'. line n r')) (sym e);
        few = omega (arith, h.few);
      }

  line-left : (n : ℕ) (l : List ℕ) (x : LineRead Rule) → read_lent reader l ≡ x → (zs ys : Reads) → Faultless (line n x ∷ ys) → (Faultless ys → Left zs ys)
      → Left (reads_of n (lines_left k l x) ++ zs) (line n x ∷ ys)
  unfolding numbered rules_in rule_count
  line-left n l skip e zs ys f h = let i = h f in rw e record { faultless = i.faultless; rules = i.rules; few = i.few }
  line-left n l (fault z) e zs ys f h = absurd f
  line-left n l (rule r) e zs ys f h =
      let w = written k l r e in
      let m = suc (newlines (line_text (drop_rule k r)) + n) in
      subst (λ (x : LineRead Rule). Left (line n x ∷ (reads_of m (replicate (newlines l) []) ++ zs)) (line n (rule r) ∷ ys)) (sym w.reads)
      (rule-left n r (reads_of m (replicate (newlines l) []) ++ zs) ys (drop_rule k r) refl (empties_left m (newlines l) zs ys (h f)))

  -- it becomes as many physical lines as it had
  left-physical : (l : List ℕ) (x : LineRead Rule) → read_lent reader l ≡ x → physical (lines_left k l x) ≡ suc (newlines l)
  unfolding physical
  left-physical l skip e = omega arith
  left-physical l (fault z) e = omega arith
  left-physical l (rule r) e = omega (arith, flat_newlines (line_text (drop_rule k r)) (written k l r e).flat, empties (newlines l))

  reads-left : (n : ℕ) (ls : List (List ℕ)) → Faultless (reads_of n ls) → Left (reads_of n (cat (becomes k) ls)) (reads_of n ls)
  unfolding numbered rules_in rule_count drop_rules
  reads-left n [] f = record { faultless = tt; rules = refl; few = omega arith }
  reads-left n (l ∷ ls) f =
      let q : physical (becomes k l) + n ≡ suc (newlines l + n) = omega (arith, left-physical l (read_lent reader l) refl) in
      let e : reads_of n (becomes k l ++ cat (becomes k) ls) ≡ reads_of n (becomes k l) ++ reads_of (suc (newlines l + n)) (cat (becomes k) ls)
      = ap (map (in_place (read_lent reader))) (numbered-append n (becomes k l) (cat (becomes k) ls))
      ∙ map-append (in_place (read_lent reader)) (numbered n (becomes k l)) (numbered (physical (becomes k l) + n) (cat (becomes k) ls))
      ∙ ap (λ (m : ℕ). reads_of n (becomes k l) ++ reads_of m (cat (becomes k) ls)) q in
      subst (λ (zs : Reads). Left zs (line n (read_lent reader l) ∷ reads_of (suc (newlines l + n)) ls)) (sym e)
      (line-left n l (read_lent reader l) refl (reads_of (suc (newlines l + n)) (cat (becomes k) ls)) (reads_of (suc (newlines l + n)) ls) f (λ g. reads-left (suc (newlines l + n)) ls g))

  drop-reads : (t : List ℕ) → Faultless (reads reader t) → Left (reads reader (drop_text k t)) (reads reader t)
  unfolding lines
  drop-reads t f = rw (lines_left_lem k t f) (reads-left 1 (lines_in blank t) f)

  pub drop-rules : (t : List ℕ) → Faultless (reads reader t) → rules_of reader (drop_text k t) ≡ drop_rules k (rules_of reader t)
  unfolding rules_of
  drop-rules t f = (drop-reads t f).rules

  drop-parts : (a : Sheet) (t : List ℕ) → Parts (engine a) t → Parts (engine a) (drop_text k t)
  drop-parts a t h =
      let s = drop_shorter k t in
      let b = h.short in
      let l = drop-reads t h.faultless in
      let c = h.few in
      record {
        short = omega arith;
        faultless = l.faultless;
        few = omega (arith, l.few);
        settled = subst (Settled (engine a)) (sym (drop-rules t h.faultless)) (drop_settled a k (rules_of reader t) h.settled);
      }

-- ---- the run of an accepted text

-- with room or without
abbrev ran : ℕ → Ran State → Ran State
ran room c = require (leb fullest_outcome room) (line 0 target_short) >> c

module _ (a : Sheet) (dev out sheet : List ℕ) (d : Device) (s : State) (is : D.decode dev ≡ Some d) (at : decode_for d out ≡ Some s) (ss : Sheets.decode sheet ≡ Some a) (room : ℕ) where
  run_accepted : (t : List ℕ) → Parts (engine a) t → run_checked t dev out sheet room ≡ ran room (run_from (engine a) d next s (rules_of reader t))
  unfolding run_checked
  run_accepted t h = rw (read_ok (engine a) t h, is, at, ss)

-- an answer but for its visited count
abbrev given_by : ℕ → Checked (Placed Refusal) Reached → Given
given_by room (refused (line n f)) = given (refusal room (line n f))
given_by room (ok (s, t)) = given (acceptance room 0 t (O.encode s))

given_by_lem : (room : ℕ) (c : Ran State) → given (operations.ran room c) ≡ given_by room (unvisited c)
unfolding operations.ran
given_by_lem room (refused (line n f)) = refl
given_by_lem room (ok h) = refl

ran-same : (t : Bool) (a b : Ran State) → unvisited a ≡ unvisited b
    → unvisited (require t (line 0 target_short) >> a) ≡ unvisited (require t (line 0 target_short) >> b)
ran-same true a b h = h
ran-same false a b h = refl

ran-holds : (P : Halt State → Type 0) (b : Bool) (c : Ran State) → Holds P c → Holds P (require b (line 0 target_short) >> c)
ran-holds P true c h = h
ran-holds P false c h = tt

module _ (k : ClosingKey) (t dev out sheet : List ℕ) (d : Device) (s : State) (a : Sheet) (ag : Sheets.Good a) (room : ℕ) (h : Parts (engine a) t) (by : Bytes out)
    (is : D.decode dev ≡ Some d) (at : decode_for d out ≡ Some s) (ss : Sheets.decode sheet ≡ Some a) (shut : is_closed k s ≡ true) where
  dropped : given (run (drop_text k t) dev out sheet room) ≡ given (run t dev out sheet room)
  unfolding run
  dropped =
      let u : List ℕ = drop_text k t in
      ap (λ (c : Ran State). given (operations.ran room c)) (run_accepted a dev out sheet d s is at ss room u (drop-parts k a t h))
      ∙ given_by_lem room (ran room (run_from (engine a) d next s (rules_of reader u)))
      ∙ ap (given_by room)
      (ran-same (leb fullest_outcome room) (run_from (engine a) d next s (rules_of reader u)) (run_from (engine a) d next s (rules_of reader t))
      (ap (λ (rs : List (Placed Rule)). unvisited (run_from (engine a) d next s rs)) (drop-rules k t h.faultless) ∙ drop-run a k d (rules_of reader t) next s shut))
      ∙ sym (given_by_lem room (ran room (run_from (engine a) d next s (rules_of reader t))))
      ∙ ap (λ (c : Ran State). given (operations.ran room c)) (sym (run_accepted a dev out sheet d s is at ss room t h))

  -- what an answer's record says
  abbrev Kept : Answer → Type 0
  Kept x = x.number ≡ 0 → (s' : State) × (decode_for d (take x.used x.bytes) ≡ Some s') × Same k s s'

  kept_by : (c : Ran State) → Holds (λ (h : Halt State). Same k s h.state) c → Holds (Sound (engine a) (engine-laws a ag) d) c → Kept (operations.ran room c)
  unfolding operations.ran
  kept_by (refused (line n f)) i j e = let (m, w) = refusal-number f in absurd (omega arith)
  kept_by (ok h) i j e =
      (h.state, ap (decode_for d) (take-append_seam (O.encode h.state) _) ∙ (engine-laws a ag).again j.good, i)

  kept : Kept (run t dev out sheet room)
  unfolding run rules_of
  kept =
      let c : Ran State = run_from (engine a) d next s (rules_of reader t) in
      let good = (engine-laws a ag).starts by is at in
      subst (λ (c : Ran State). Kept (operations.ran room c)) (sym (run_accepted a dev out sheet d s is at ss room t h))
      (kept_by (ran room c)
      (ran-holds (λ (h : Halt State). Same k s h.state) (leb fullest_outcome room) c (run_stays a k d (rules_of reader t) next s shut))
      (ran-holds (Sound (engine a) (engine-laws a ag) d) (leb fullest_outcome room) c
      (run_sound (engine a) (engine-laws a ag) d (rules_of reader t) next s tt h.settled (lines_read (engine a) (lines t)) good)))

-- document 02, Item 13
pub closed_means_closed : ClosedMeansClosed
closed_means_closed =
    record {
      shown = λ k text dev out sheet d s a room h by bs is at ss shut.
          let ps = to-parts (engine a) text h in
          let ag = (sheets.back sheet a bs ss).good in
          record {
            kept = kept k text dev out sheet d s a ag room ps by is at ss shut;
            accepted = from_parts (engine a) (drop_text k text) (drop-parts k a text ps);
            lines = drop-lines k text;
            dropped = dropped k text dev out sheet d s a ag room ps by is at ss shut;
          };
    }
