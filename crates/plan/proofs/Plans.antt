-- Document 02, Item 14: what is wanted of checker and planner holds.
-- Assumes nothing.
use Prim.Native.Nat.{ℕ, suc, ◌*◌, ◌≤◌}
use mathlib.Core.Path.{◌≡◌, refl, sym, ap, ap₂, ◌∙◌, subst}
use mathlib.Core.Logic.{◌↔◌, inl, inr}
use mathlib.Core.Bool.{Bool, true, false, ◌&&◌}
use mathlib.Core.List.{List, [], ◌∷◌, ◌++◌, map, append_assoc}
use Rattle.std.specs.Prelude.{Some}
use Rattle.std.proofs.lemmas.Option.{same_Some}
use native.Mathlib.Omega.{arith}
use lib.Dec.{leb}
use lib.ListN.{length, length-append, take}
use lib.Seq.{take-append_seam}
use borrow.Author.Tests.{le-leb}
use Rattle.lists.specs.Lists.{all, All}
use Rattle.lists.specs.Bytes.{distinct}
use Rattle.lists.specs.Runs.{span}
use Rattle.lists.specs.Checked.{Checked, refused, ok, found, Holds, Placed, line, in_place}
use Rattle.lists.specs.Refusal.{Refusal, number, set_bad, device_bad}
use Rattle.lists.specs.Sizes.{most_text, fullest_outcome}
use Rattle.lists.proofs.Tests.{and_both}
use Rattle.lists.proofs.Bytes.{same-eq, same_refl}
use Rattle.lists.proofs.Lists.{All-map, all_each}
use Rattle.lists.proofs.Checked.{holds-map, holds-bind, holds-found, holds_at}
use Rattle.rules.specs.Pair.{Rule, value_of}
use Rattle.rules.specs.Reading.{read_line, reader}
use Rattle.rules.proofs.Sound.{rule-sound}
use Rattle.device.specs.Device as D
use Rattle.device.specs.Device.{Device, chain}
use Rattle.outcome.specs.State as outcome
use Rattle.outcome.specs.State.{State}
use Rattle.outcome.proofs.RoundTrip.{there}
use Rattle.outcome.proofs.Fits.{fits}
use Rattle.outcome.proofs.Fresh.{fresh_good, fresh_read}
use Rattle.device.proofs.Sound.{device_sound}
use Rattle.text.specs.Lines.{blank, stage_of, lines_in, numbered, lines, unjoined}
use Rattle.text.specs.Engine.{LineRead, skip, rule, went}
use Rattle.text.specs.Reading.{rule_count, read_lent, reads, read_text}
use Rattle.text.specs.Rules.{rules_in, rules_of}
use Rattle.text.specs.Running.{next, Halt, Ran, run_from}
use Rattle.text.specs.Run.{Answer}
use Rattle.text.specs.Engine.{Engine}
use Rattle.text.specs.Laws.{Laws}
use Rattle.text.proofs.Lines.{lines_seam, flat_line, flat_newlines}
use Rattle.text.proofs.Unjoined.{unjoined-same}
use Rattle.text.proofs.Collect.{Faultless}
use Rattle.text.proofs.Settle.{Settled}
use Rattle.text.proofs.Texts.{Parts, read, read_ok}
use Rattle.text.proofs.Sound.{Sound, run_sound, lines_read}
use Rattle.text.proofs.Runs.{refusal-number}
use Rattle.sheet.specs.Sheet as sheet
use Rattle.engine.specs.Step.{step}
use Rattle.engine.proofs.Keeps.{step_good}
use Rattle.engine.specs.Operations.{decode_for, engine, run_checked, ran, run, fresh, fresh_checked}
use Rattle.engine.proofs.Laws.{Fine, engine-laws, engine_good}
use Rattle.sets.specs.Answer.{Fault, of_set, of_record}
use Rattle.plan.specs.Plan.{Naming, path_of, link_of, only, ends_with, unanswered, run_fresh, names, accepts, plan_naming, due, plan_rule, plan_text}
use Rattle.plan.specs.Operations.{Wish, decode_wishes, namings_from, namings, counted, check, plan_for, plan_checked, plan_answer, plan}
use Rattle.plan.specs.Operations as operations
use Rattle.plan.specs.Promise.{Named, Planning}
use Rattle.plan.proofs.LaidOut.{wishes_few}
use Rattle.plan.proofs.Reading.{rule_of, rule-line, rule-closed, rule-length, rule_read_lem}
use Rattle.plan.proofs.Running.{Ready, ready, rules_from, Ends, In, own_run}

-- ---- the engine without answers

abbrev quiet : Engine
quiet = engine unanswered

no-answers : sheet.Good unanswered
no-answers = record { few = omega arith; each = refl; apart = refl }

-- the laws of the engine, by what the state of a fresh record is: it need not come from bytes
quiet_keeps : (d : Device) (l : List ℕ) (r : Rule) (s s' : State) (held : Bool) → read_line l ≡ rule r → Fine d s → step unanswered d r s ≡ ok (went s' held) → Fine d s'
quiet_keeps d l r s s' held e (h, g) w = (h, step_good d h unanswered no-answers.each r s s' held (rule-sound l r e) g w)

quiet-again : (d : Device) (s : State) → Fine d s → decode_for d (outcome.encode s) ≡ Some s
unfolding decode_for
quiet-again d s (h, g) = there (length (chain d)) s g

abbrev laws : Laws quiet
laws =
    record {
      empty_line = (engine-laws unanswered no-answers).empty_line;
      Good = Fine;
      starts = λ {d} {dev} {out} {s} by is at. (device_sound dev d is, engine_good unanswered no-answers d s ((engine-laws unanswered no-answers).starts by is at));
      keeps = λ {d} {l} {r} {s} {s'} {held} e g w. quiet_keeps d l r s s' held e g w;
      again = λ {d} {s} g. quiet-again d s g;
      fits = λ {d} {s} g. fits (length (chain d)) s g.1;
    }

no_entries : sheet.decode (sheet.encode unanswered) ≡ Some unanswered
unfolding sheet.decode sheet.encode
no_entries = refl

-- ---- the planned text is accepted, and holds the rules

all_ready : (ns : List Naming) → due ns ≡ true → All Ready ns
all_ready ns h =
    let (_, r) = and_both (distinct (map path_of ns)) (distinct (map link_of ns) && all plan_naming ns) h in
    let (_, a) = and_both (distinct (map link_of ns)) (all plan_naming ns) r in
    All-map (λ (n : Naming). plan_naming n ≡ true) Ready ready ns (all_each plan_naming ns a)

abbrev line_of : Naming → List ℕ
line_of n = plan_rule (path_of n) n.link

plan-lines : (ns : List Naming) → All Ready ns → lines_in blank (plan_text ns) ≡ map line_of ns ++ ([] ∷ [])
unfolding plan_text lines_in
plan-lines [] h = refl
plan-lines (n ∷ ns) (r, rs) =
    ap (lines_in blank) (append_assoc (line_of n) (10 ∷ []) (plan_text ns))
    ∙ lines_seam blank (line_of n) (plan_text ns) (rule-closed (path_of n) n.link r.path r.short r.link r.small)
    ∙ ap₂ (λ (a b : List (List ℕ)). a ++ b)
    (flat_line blank (line_of n) (rule-line (path_of n) n.link r.path r.short r.link r.small))
    (plan-lines ns rs)

empty_skipped : read_lent reader [] ≡ skip
unfolding read_lent stage_of unjoined read_line span
empty_skipped = refl

lent_read : (n : Naming) → Ready n → read_lent reader (line_of n) ≡ rule (rule_of (path_of n) n.link)
unfolding read_lent
lent_read n r =
    rw (rule-closed (path_of n) n.link r.path r.short r.link r.small, unjoined-same (line_of n) (rule-line (path_of n) n.link r.path r.short r.link r.small))
    (rule_read_lem (path_of n) n.link r.path r.short r.link r.small)

-- the lines from k on, as they are read
abbrev reads_from : ℕ → List Naming → List (Placed (LineRead Rule))
reads_from k [] = line k skip ∷ []
reads_from k (n ∷ ns) = line k (rule (rule_of (path_of n) n.link)) ∷ reads_from (suc k) ns

reads_are : (k : ℕ) (ns : List Naming) → All Ready ns → map (in_place (read_lent reader)) (numbered k (map line_of ns ++ ([] ∷ []))) ≡ reads_from k ns
unfolding numbered
reads_are k [] h = ap (λ (x : LineRead Rule). line k x ∷ []) empty_skipped
reads_are k (n ∷ ns) (r, rs) =
    ap₂ (λ (x : LineRead Rule) (xs : List (Placed (LineRead Rule))). line k x ∷ xs) (lent_read n r)
    (ap (λ (j : ℕ). map (in_place (read_lent reader)) (numbered (suc j) (map line_of ns ++ ([] ∷ []))))
    (omega (arith, flat_newlines (line_of n) (rule-line (path_of n) n.link r.path r.short r.link r.small)))
    ∙ reads_are (suc k) ns rs)

plan-reads : (ns : List Naming) → All Ready ns → reads reader (plan_text ns) ≡ reads_from 1 ns
unfolding lines
plan-reads ns h = ap (λ (ls : List (List ℕ)). map (in_place (read_lent reader)) (numbered 1 ls)) (plan-lines ns h) ∙ reads_are 1 ns h

rules_are : (k : ℕ) (ns : List Naming) → rules_in (reads_from k ns) ≡ rules_from k ns
unfolding rules_in
rules_are k [] = refl
rules_are k (n ∷ ns) = ap (λ (rs : List (Placed Rule)). line k (rule_of (path_of n) n.link) ∷ rs) (rules_are (suc k) ns)

plan-rules : (ns : List Naming) → All Ready ns → rules_of reader (plan_text ns) ≡ rules_from 1 ns
unfolding rules_of
plan-rules ns h = ap rules_in (plan-reads ns h) ∙ rules_are 1 ns

faultless_are : (k : ℕ) (ns : List Naming) → Faultless (reads_from k ns)
faultless_are k [] = tt
faultless_are k (n ∷ ns) = faultless_are (suc k) ns

count_are : (k : ℕ) (ns : List Naming) → rule_count (reads_from k ns) ≡ length ns
unfolding rule_count
count_are k [] = refl
count_are k (n ∷ ns) = ap suc (count_are (suc k) ns)

settled_are : (k : ℕ) (ns : List Naming) → Settled quiet (rules_from k ns)
unfolding value_of
settled_are k [] = tt
settled_are k (n ∷ ns) = (tt, settled_are (suc k) ns)

plan-length : (ns : List Naming) → All Ready ns → length (plan_text ns) ≤ 279 * length ns
unfolding plan_text
plan-length [] h = omega arith
plan-length (n ∷ ns) (r, rs) =
    let i = plan-length ns rs in
    let j = rule-length (path_of n) n.link r.path r.short r.link r.small in
    omega (arith, length-append (line_of n ++ (10 ∷ [])) (plan_text ns), length-append (line_of n) (10 ∷ []))

plan-parts : (ns : List Naming) → All Ready ns → length ns ≤ 16 → Parts quiet (plan_text ns)
plan-parts ns h m =
    let l = plan-length ns h in
    record {
      short = omega arith;
      faultless = subst Faultless (sym (plan-reads ns h)) (faultless_are 1 ns);
      few = omega (arith, ap rule_count (plan-reads ns h), count_are 1 ns);
      settled = subst (Settled quiet) (sym (plan-rules ns h)) (settled_are 1 ns);
    }

-- ---- the checker accepts it

-- each device was read from its record
abbrev Sure : Naming → Type 0
Sure n = D.decode n.bytes_lent ≡ Some n.device

run-fresh : (t : List ℕ) (n : Naming) → Parts quiet t → Sure n → run_fresh t n ≡ run_from quiet n.device next (outcome.fresh n.device) (rules_of reader t)
unfolding run_checked decode_for
run-fresh t n h e = rw (read_ok quiet t h, e, fresh_read n.bytes_lent n.device e, no_entries)

ends-only : (x : List ℕ) (c : Ran State) → Ends (λ (s : State). s.links ≡ x ∷ []) c → ends_with x c ≡ true
ends-only x (refused f) h = absurd h
ends-only x (ok r) h = ap (only x) h ∙ same_refl x

one-named : (ns : List Naming) → All Ready ns → length ns ≤ 16 → distinct (map path_of ns) ≡ true → (n : Naming) → Sure n → In n ns → names (plan_text ns) n ≡ true
unfolding outcome.fresh
one-named ns h m d n e i =
    ap (ends_with n.link) (run-fresh (plan_text ns) n (plan-parts ns h m) e ∙ ap (λ (rs : List (Placed Rule)). run_from quiet n.device next (outcome.fresh n.device) rs) (plan-rules ns h))
    ∙ ends-only n.link (run_from quiet n.device next (outcome.fresh n.device) (rules_from 1 ns)) (own_run unanswered 1 n ns h d i (outcome.fresh n.device) refl)

all_named : (ns : List Naming) → All Ready ns → length ns ≤ 16 → distinct (map path_of ns) ≡ true → (ms : List Naming) → All Sure ms → All (λ (n : Naming). In n ns) ms → all (names (plan_text ns)) ms ≡ true
all_named ns h m d [] s i = refl
all_named ns h m d (n ∷ ms) (s, ss) (i, is) = ap₂ ◌&&◌ (one-named ns h m d n s i) (all_named ns h m d ms ss is)

all_in : (ns : List Naming) → All (λ (n : Naming). In n ns) ns
all_in [] = tt
all_in (n ∷ ns) = (inl refl, All-map (λ (m : Naming). In m ns) (λ (m : Naming). In m (n ∷ ns)) (λ m i. inr i) ns (all_in ns))

-- whenever a plan is due
pub plan_accepted : (ns : List Naming) → length ns ≤ 16 → All Sure ns → due ns ≡ true → accepts ns (plan_text ns) ≡ true
plan_accepted ns m s h =
    let (d, _) = and_both (distinct (map path_of ns)) (distinct (map link_of ns) && all plan_naming ns) h in
    all_named ns (all_ready ns h) m d ns s (all_in ns)

-- ---- the checker is exact

only-is : (x : List ℕ) (ls : List (List ℕ)) → only x ls ≡ true → ls ≡ x ∷ []
only-is x [] h = let z : ◌≡◌ {A = ℕ} 0 1 = cc in absurd (omega arith)
only-is x (y ∷ []) h = ap (λ (l : List ℕ). l ∷ []) (same-eq y x h)
only-is x (y ∷ z ∷ ls) h = let z : ◌≡◌ {A = ℕ} 0 1 = cc in absurd (omega arith)

fresh-made : (n : Naming) → Sure n → take (fresh n.bytes_lent fullest_outcome).used (fresh n.bytes_lent fullest_outcome).bytes ≡ outcome.encode (outcome.fresh n.device)
unfolding fresh fresh_checked
fresh-made n e = rw e (take-append_seam (outcome.encode (outcome.fresh n.device)) _)

module _ (t : List ℕ) (n : Naming) (e : Sure n) where
  abbrev start : List ℕ
  start = outcome.encode (outcome.fresh n.device)

  abbrev answered : Ran State → Answer
  answered c = ran fullest_outcome c

  -- a run that is not refused leaves a good state
  run_good : Holds (Sound quiet laws n.device) (run_fresh t n)
  run_good = at (read_text reader t) refl
    where
      at : (c : Checked (Placed Refusal) (List (Placed Rule))) → read_text reader t ≡ c → Holds (Sound quiet laws n.device) (run_fresh t n)
      at (refused f) w = unfold run_checked in rw w tt
      at (ok rs) w =
          let r = read quiet t rs w in
          let good : Fine n.device (outcome.fresh n.device) = (device_sound n.bytes_lent n.device e, fresh_good n.bytes_lent n.device e) in
          subst (Holds (Sound quiet laws n.device)) (sym (run-fresh t n r.parts e))
          (unfold rules_of in run_sound quiet laws n.device (rules_of reader t) next (outcome.fresh n.device) tt r.parts.settled (lines_read quiet (lines t)) good)

  -- what an answer's record says
  read_back : (h : Halt State) → Sound quiet laws n.device h → decode_for n.device (take (answered (ok h)).used (answered (ok h)).bytes) ≡ Some h.state
  unfolding ran
  read_back h s = ap (decode_for n.device) (take-append_seam (outcome.encode h.state) _) ∙ laws.again s.good

  not-refused : (h : Halt State) → (answered (ok h)).number ≡ 0
  unfolding ran
  not-refused h = refl

  named_by : (c : Ran State) → run_fresh t n ≡ c → Holds (Sound quiet laws n.device) c → ends_with n.link c ≡ true → Named t n
  named_by (refused f) w s h = let z : ◌≡◌ {A = ℕ} 0 1 = cc in absurd (omega arith)
  named_by (ok r) w s h =
      let a : run t n.bytes_lent start (sheet.encode unanswered) fullest_outcome ≡ answered (ok r) = unfold run in ap answered w in
      record {
        state = r.state;
        start = start;
        begun = fresh-made n e;
        runs = ap (λ (x : Answer). x.number) a ∙ not-refused r;
        left = ap (λ (x : Answer). decode_for n.device (take x.used x.bytes)) a ∙ read_back r s;
        linked = only-is n.link r.state.links h;
      }

  by-named : (c : Ran State) → run_fresh t n ≡ c → Holds (Sound quiet laws n.device) c → Named t n → ends_with n.link c ≡ true
  by-named c w s m =
      let q : m.start ≡ start = sym m.begun ∙ fresh-made n e in
      let a : run t n.bytes_lent m.start (sheet.encode unanswered) fullest_outcome ≡ answered c = ap (λ (o : List ℕ). run t n.bytes_lent o (sheet.encode unanswered) fullest_outcome) q ∙ (unfold run in ap answered w) in
      at c s (sym (ap (λ (x : Answer). x.number) a) ∙ m.runs) (sym (ap (λ (x : Answer). decode_for n.device (take x.used x.bytes)) a) ∙ m.left)
    where
      at : (c : Ran State) → Holds (Sound quiet laws n.device) c → (answered c).number ≡ 0 → decode_for n.device (take (answered c).used (answered c).bytes) ≡ Some m.state → ends_with n.link c ≡ true
      at (refused (line k f)) s z l = let (j, u) = refusal-number f in let y : number f ≡ 0 = (unfold ran in z) in absurd (omega arith)
      at (ok r) s z l =
          let p : r.state ≡ m.state = same_Some r.state m.state (sym (read_back r s) ∙ l) in
          ap (λ (x : State). only n.link x.links) p ∙ ap (only n.link) m.linked ∙ same_refl n.link

  pub names_exact : (names t n ≡ true) ↔ Named t n
  names_exact = (λ h. named_by (run_fresh t n) refl run_good h, λ m. by-named (run_fresh t n) refl run_good m)

accepts_exact : (t : List ℕ) (ns : List Naming) → All Sure ns → (accepts ns t ≡ true) ↔ All (Named t) ns
accepts_exact t [] s = (λ _. tt, λ _. refl)
accepts_exact t (n ∷ ns) (s, ss) =
    let (f, g) = names_exact t n s in
    let (f', g') = accepts_exact t ns ss in
    (λ h. let (a, b) = and_both (names t n) (accepts ns t) h in (f a, f' b), λ (a, b). ap₂ ◌&&◌ (g a) (g' b))

-- ---- the answers

namings_sure : (k : ℕ) (ws : List Wish) → Holds (λ (ns : List Naming). All Sure ns × (length ns ≡ length ws)) (namings_from k ws)
unfolding namings_from
namings_sure k [] = (tt, refl)
namings_sure k (w ∷ ws) =
    let Q : List Naming → Type 0 = λ ns. All Sure ns × (length ns ≡ suc (length ws)) in
    holds-bind (λ (d : Device). D.decode w.device ≡ Some d) Q (found (D.decode w.device) (of_record k device_bad)) _ (holds-found (D.decode w.device) (of_record k device_bad))
    (λ d e. holds-bind (λ (ns : List Naming). All Sure ns × (length ns ≡ length ws)) Q (namings_from (suc k) ws) _ (namings_sure (suc k) ws)
    (λ ns (s, l). ((e, s), ap suc l)))

set_sure : (set : List ℕ) → Holds (λ (ns : List Naming). All Sure ns × (length ns ≤ 16)) (namings set)
unfolding namings
set_sure set =
    holds-bind (λ (ws : List Wish). decode_wishes set ≡ Some ws) (λ (ns : List Naming). All Sure ns × (length ns ≤ 16)) (found (decode_wishes set) (of_set set_bad)) _
    (holds-found (decode_wishes set) (of_set set_bad))
    (λ ws e. let m = wishes_few set ws e in
    holds-map (λ (ns : List Naming). All Sure ns × (length ns ≡ length ws)) (λ (ns : List Naming). All Sure ns × (length ns ≤ 16)) (namings_from 1 ws) (namings_sure 1 ws)
    (λ ns (s, l). (s, omega arith)))

module _ (set : List ℕ) (ns : List Naming) (w : namings set ≡ ok ns) where
  sure : All Sure ns × (length ns ≤ 16)
  sure = holds_at (λ (ns : List Naming). All Sure ns × (length ns ≤ 16)) w (set_sure set)

  check-is : (t : List ℕ) → (check set t).count ≡ counted (accepts ns t)
  unfolding check
  check-is t = rw w

  plan-is : (room : ℕ) → most_text ≤ room → plan_checked set room ≡ ok (plan_for (due ns) ns)
  unfolding plan_checked
  plan-is room r = rw (le-leb most_text room r, w)

counted-one : (b : Bool) → counted b ≡ 1 → b ≡ true
counted-one true h = refl
counted-one false h = absurd (omega (arith, h))

-- a plan that was made
record Made (set : List ℕ) (room : ℕ) : Type 0 where
  namings : List Naming
  held : operations.namings set ≡ ok namings
  due-is : due namings ≡ true
  made : take (plan set room).used (plan set room).bytes ≡ plan_text namings

made_of : (set : List ℕ) (room : ℕ) → (plan set room).count ≡ 1 → Made set room
unfolding plan plan_checked
made_of set room h = after (leb most_text room) refl (operations.namings set) refl
  where
    after : (b : Bool) → leb most_text room ≡ b → (c : Checked Fault (List Naming)) → operations.namings set ≡ c → Made set room
    after false e c f = let z : ◌≡◌ {A = ℕ} 0 1 = rw e at h in absurd (omega arith)
    after true e (refused g) f = let z : ◌≡◌ {A = ℕ} 0 1 = rw (e, f) at h in absurd (omega arith)
    after true e (ok ns) f = at (due ns) refl
      where
        at : (b : Bool) → due ns ≡ b → Made set room
        at false d = let z : ◌≡◌ {A = ℕ} 0 1 = rw (e, f, d) at h in absurd (omega arith)
        at true d = record { namings = ns; held = f; due-is = d; made = rw (e, f, d) (take-append_seam (plan_text ns) _) }

-- document 02, Item 14
pub planning : Planning
planning =
    record {
      exact = λ set text ns w.
          let (f, g) = accepts_exact text ns (sure set ns w).0 in
          (λ h. f (counted-one (accepts ns text) (sym (check-is set ns w text) ∙ h)), λ a. check-is set ns w text ∙ ap counted (g a));
      planned = λ set room ns r w h. plan-is set ns w room r ∙ ap (λ (b : Bool). ok (plan_for b ns)) h;
      none_else = λ set room ns r w h. plan-is set ns w room r ∙ ap (λ (b : Bool). ok (plan_for b ns)) h;
      accepted = λ set room h.
          let m = made_of set room h in
          let (s, l) = sure set m.namings m.held in
          ap (λ (t : List ℕ). (check set t).count) m.made ∙ check-is set m.namings m.held (plan_text m.namings) ∙ ap counted (plan_accepted m.namings l s m.due-is);
    }

-- what the planner makes fits its target
pub plan-fits : (set : List ℕ) (ns : List Naming) → namings set ≡ ok ns → due ns ≡ true → length (plan_text ns) ≤ most_text
plan-fits set ns w h =
    let l = plan-length ns (all_ready ns h) in
    let m = (sure set ns w).1 in
    omega arith
