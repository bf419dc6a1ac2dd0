-- Running the join of accepted texts gives what the runs of the texts give, one after another.
-- Assumes nothing.
use Prim.Native.Nat.{ℕ, suc, ◌+◌, ◌-◌, ◌≤◌}
use mathlib.Core.Path.{◌≡◌, refl, sym, ◌∙◌, ap}
use mathlib.Core.List.{List, [], ◌∷◌, ◌++◌, append-nil}
use Rattle.std.specs.Prelude.{Some}
use lib.ListN.{length, replicate}
use lib.Seq.{take-append_seam}
use Rattle.lists.specs.Bytes.{Bytes}
use borrow.Author.Tests.{le-leb}
use Rattle.text.specs.Lines.{lines, newlines}
use Rattle.lists.specs.Lists.{All}
use Rattle.lists.specs.Checked.{refused, ok, ◌>>=◌, Holds, line}
use Rattle.lists.specs.Refusal.{Refusal, number}
use Rattle.lists.specs.Sizes.{most_text, most_rules, fullest_outcome}
use Rattle.text.specs.Engine.{Engine}
use Rattle.text.specs.Reading.{rule_count, reads}
use Rattle.text.specs.Running.{next, Halt, Ran, more, run_from}
use Rattle.text.specs.Run.{answer, run_checked, run}
use Rattle.text.specs.Joined.{join, EndsWhole, Joinable, Cuttable, Accepted, Job, texts, Given, given, run_all}
use Rattle.text.specs.Rules.{rules_of}
use Rattle.text.specs.Laws.{Laws}
use Rattle.lists.proofs.Lists.{All-map}
use Rattle.text.proofs.Lines.{shift}
use Rattle.text.proofs.Texts.{Parts, read_ok, rules-join}
use Rattle.text.proofs.Accept.{to-parts, to_cuttable, join_accepted}
use Rattle.text.proofs.Running.{lower, more-zero, lower-zero, more-lower, run-append, run-shift}
use Rattle.text.proofs.Sound.{Sound, run_sound, lines_read}

pub refusal-number : (f : Refusal) → (k : ℕ) × (number f ≡ suc k)
refusal-number Refusal.target_short = (0, refl)
refusal-number Refusal.text_long = (1, refl)
refusal-number Refusal.line_bad = (9, refl)
refusal-number Refusal.key_bad = (10, refl)
refusal-number Refusal.argument_bad = (11, refl)
refusal-number Refusal.operator_bad = (12, refl)
refusal-number Refusal.value_bad = (13, refl)
refusal-number Refusal.content_bad = (14, refl)
refusal-number Refusal.pair_extra = (15, refl)
refusal-number Refusal.comma_missing = (16, refl)
refusal-number Refusal.rule_extra = (17, refl)
refusal-number Refusal.label_missing = (18, refl)
refusal-number Refusal.line_open = (19, refl)
refusal-number Refusal.file_twice = (20, refl)
refusal-number Refusal.device_bad = (2, refl)
refusal-number Refusal.outcome_bad = (3, refl)
refusal-number Refusal.too_new = (4, refl)
refusal-number Refusal.sheet_bad = (5, refl)
refusal-number Refusal.set_bad = (6, refl)
refusal-number Refusal.substitution_long = (29, refl)
refusal-number Refusal.link_bad = (30, refl)
refusal-number Refusal.list_full = (31, refl)
refusal-number Refusal.owner_bad = (32, refl)
refusal-number Refusal.mode_bad = (33, refl)
refusal-number Refusal.command_missing = (34, refl)
refusal-number Refusal.mode_shared = (35, refl)

module _ (E : Engine) where
  open E.reader use {Rule}
  open E use {Device, State, device, decode, encode}

  -- what a run gives, whatever the room of its target
  abbrev summary : Ran State → Given
  summary (refused (line n f)) = record { number = number f; line = n; visited = 0; tried = 0; used = 0; left = [] }
  summary (ok h) = record { number = 0; line = 0; visited = h.visited; tried = h.tried; used = length (encode h.state); left = encode h.state }

  given-answer : (room : ℕ) (c : Ran State) → given (answer E room c) ≡ summary c
  unfolding answer
  given-answer room (refused (line n f)) = refl
  given-answer room (ok h) = rw (take-append_seam (encode h.state) (replicate (room - length (encode h.state)) 0))

  -- of an accepted text, device and record, and with full room, a run gives what running its rules gives
  run_accepted : (t dev out : List ℕ) (room : ℕ) {d : Device} {s : State} → Parts E t → device dev ≡ Some d → decode d out ≡ Some s → fullest_outcome ≤ room
      → run_checked E t dev out room ≡ run_from E d next s (rules_of E.reader t)
  unfolding run_checked
  run_accepted t dev out room {d} {s} h e f r = rw (le-leb fullest_outcome room r, read_ok E t h, e, f)

  module _ (L : Laws E) (dev : List ℕ) (d : Device) (is : device dev ≡ Some d) where
    text-sound : (t : List ℕ) (s : State) → Parts E t → L.Good d s → Holds (Sound E L d) (run_from E d next s (rules_of E.reader t))
    unfolding rules_of
    text-sound t s h g = run_sound E L d (rules_of E.reader t) next s tt h.settled (lines_read E (lines t)) g

    -- the join of a text with another, by what running the text gave
    run_join : (t v : List ℕ) (s : State) → EndsWhole t → (c : Ran State) → run_from E d next s (rules_of E.reader t) ≡ c → Holds (Sound E L d) c
        → run_from E d next s (rules_of E.reader (t ++ v)) ≡ (c >>= λ h. more h.visited h.tried (lower (newlines t) (run_from E d next h.state (rules_of E.reader v))))
    run_join t v s e (refused (line n f)) q h =
        rw (rules-join E L t e v, run-append E d (shift (newlines t) (rules_of E.reader v)) (rules_of E.reader t) next s, q)
    run_join t v s e (ok h) q k =
        rw (rules-join E L t e v, run-append E d (shift (newlines t) (rules_of E.reader v)) (rules_of E.reader t) next s, q, k.ended, run-shift E d (newlines t) (rules_of E.reader v) next h.state)

    module _ (v w n : ℕ) (out : List ℕ) (j : Job) (js : List Job) where
      -- a refused run is the last
      runs-refused : (f : Refusal) (k : ℕ) → run E j.text dev out j.room ≡ answer E j.room (refused (line k f))
          → run_all E dev v w n out (j ∷ js) ≡ summary (lower n (refused (line k f)))
      unfolding run_all answer
      runs-refused f k e = rw (e, (refusal-number f).1)

      -- the record that an accepted run left is the next one's
      runs-ok : (h : Halt State) → run E j.text dev out j.room ≡ answer E j.room (ok h)
          → run_all E dev v w n out (j ∷ js) ≡ run_all E dev (v + h.visited) (w + h.tried) (n + newlines j.text) (encode h.state) js
      unfolding run_all answer
      runs-ok h e = rw (e, take-append_seam (encode h.state) (replicate (j.room - length (encode h.state)) 0))

    run_is : (t out : List ℕ) (room : ℕ) (s : State) → Parts E t → decode d out ≡ Some s → fullest_outcome ≤ room → (c : Ran State)
        → run_from E d next s (rules_of E.reader t) ≡ c → run E t dev out room ≡ answer E room c
    unfolding run
    run_is t out room s h f r c q = ap (answer E room) (run_accepted t dev out room h is f r ∙ q)

    pub runs : (j : Job) (js : List Job) → Cuttable (texts (j ∷ js)) → All (Parts E) (texts (j ∷ js)) → All (λ (k : Job). fullest_outcome ≤ k.room) (j ∷ js)
        → (v w n : ℕ) (out : List ℕ) (s : State) → decode d out ≡ Some s → L.Good d s
        → run_all E dev v w n out (j ∷ js) ≡ summary (more v w (lower n (run_from E d next s (rules_of E.reader (join (texts (j ∷ js)))))))
    unfolding join run_all
    runs j [] e (h, _) (r, _) v w n out s f good =
        rw (append-nil j.text) (go (run_from E d next s (rules_of E.reader j.text)) refl)
      where
        go : (c : Ran State) → run_from E d next s (rules_of E.reader j.text) ≡ c → run_all E dev v w n out (j ∷ []) ≡ summary (more v w (lower n c))
        go (refused (line k g)) q = runs-refused v w n out j [] g k (run_is j.text out j.room s h f r (refused (line k g)) q)
        go (ok k) q = runs-ok v w n out j [] k (run_is j.text out j.room s h f r (ok k) q)
    runs j (i ∷ js) (e, es) (h, hs) (r, rs) v w n out s f good =
        go (run_from E d next s (rules_of E.reader j.text)) refl (text-sound j.text s h good) (λ v' w' n' out' s' f' good'. runs i js es hs rs v' w' n' out' s' f' good')
      where
        rest : List ℕ
        rest = join (texts (i ∷ js))

        go : (c : Ran State) → run_from E d next s (rules_of E.reader j.text) ≡ c → Holds (Sound E L d) c
            → ((v w n : ℕ) (out : List ℕ) (s : State) → decode d out ≡ Some s → L.Good d s → run_all E dev v w n out (i ∷ js) ≡ summary (more v w (lower n (run_from E d next s (rules_of E.reader rest)))))
            → run_all E dev v w n out (j ∷ i ∷ js) ≡ summary (more v w (lower n (run_from E d next s (rules_of E.reader (j.text ++ rest)))))
        go (refused (line k g)) q t ih =
            rw (run_join j.text rest s e (refused (line k g)) q t) (runs-refused v w n out j (i ∷ js) g k (run_is j.text out j.room s h f r (refused (line k g)) q))
        go (ok k) q t ih =
            rw (run_join j.text rest s e (ok k) q t, more-lower v w k.visited k.tried n (newlines j.text) (run_from E d next k.state (rules_of E.reader rest)))
            (runs-ok v w n out j (i ∷ js) k (run_is j.text out j.room s h f r (ok k) q)
            ∙ ih (v + k.visited) (w + k.tried) (n + newlines j.text) (encode k.state) k.state (L.again t.good) t.good)

  -- Running the join of accepted texts once gives what the runs of the texts give, one after another.
  pub joined-run : (L : Laws E) (js : List Job) → Joinable (texts js) → All (Accepted E) (texts js)
      → length (join (texts js)) ≤ most_text → rule_count (reads E.reader (join (texts js))) ≤ most_rules
      → (dev out : List ℕ) {d : Device} {s : State} → Bytes out → device dev ≡ Some d → decode d out ≡ Some s
      → All (λ (j : Job). fullest_outcome ≤ j.room) js → (room : ℕ) → fullest_outcome ≤ room
      → given (run E (join (texts js)) dev out room) ≡ run_all E dev 0 0 0 out js
  joined-run L [] e h short few dev out by is f rs room r = absurd e
  joined-run L (j ∷ js) e h short few dev out {d} {s} by is f rs room r =
      unfold run in
      ap given (run_is L dev d is (join (texts (j ∷ js))) out room s (to-parts E (join (texts (j ∷ js))) (join_accepted E L (texts (j ∷ js)) e h short few)) f r (run_from E d next s (rules_of E.reader (join (texts (j ∷ js))))) refl)
      ∙ (given-answer room (run_from E d next s (rules_of E.reader (join (texts (j ∷ js)))))
      ∙ (ap summary (sym (ap (more 0 0) (lower-zero (run_from E d next s (rules_of E.reader (join (texts (j ∷ js)))))) ∙ more-zero (run_from E d next s (rules_of E.reader (join (texts (j ∷ js)))))))
      ∙ sym (runs L dev d is j js (to_cuttable E (texts (j ∷ js)) e (All-map (Accepted E) (Parts E) (to-parts E) (texts (j ∷ js)) h)) (All-map (Accepted E) (Parts E) (to-parts E) (texts (j ∷ js)) h) rs 0 0 0 out s f (L.starts by is f))))
