-- Document 02, Item 11: the files of a set run as their texts do one after another, and in any order that they are lent in.
-- Assumes nothing.
use Prim.Native.Nat.{ℕ, ◌+◌, ◌-◌, ◌≤◌}
use mathlib.Core.Path.{◌≡◌, refl, sym, ap, ◌∙◌}
use mathlib.Core.Bool.{Bool, true, false}
use mathlib.Core.List.{List, [], ◌∷◌, map}
use Rattle.std.specs.Prelude.{None, Some}
use lib.ListN.{length, replicate}
use lib.Seq.{take-append_seam}
use borrow.Author.Tests.{le-leb}
use Rattle.lists.specs.Lists.{All}
use Rattle.lists.specs.Bytes.{Bytes}
use Rattle.lists.specs.Checked.{Checked, refused, ok, ◌>>=◌, found, Holds, line}
use Rattle.lists.specs.Refusal.{Refusal, number, device_bad, outcome_bad, sheet_bad}
use Rattle.lists.specs.Sizes.{fullest_outcome}
use Rattle.device.specs.Device as D
use Rattle.device.specs.Device.{Device, chain}
use Rattle.outcome.specs.State as O
use Rattle.outcome.specs.State.{State}
use Rattle.outcome.proofs.RoundTrip.{back}
use Rattle.text.specs.Lines.{lines}
use Rattle.text.specs.Laws.{Laws}
use Rattle.text.specs.Rules.{rules_of}
use Rattle.text.specs.Running.{next, Halt, Ran, run_from}
use Rattle.text.specs.Run as generic
use Rattle.text.proofs.Texts.{Parts, read_ok}
use Rattle.text.proofs.Accept.{to-parts}
use Rattle.text.proofs.Sound.{Sound, run_sound, lines_read}
use Rattle.text.proofs.Runs.{refusal-number}
use Rattle.rules.specs.Reading.{reader}
use Rattle.sheet.specs.Sheet as Sheets
use Rattle.sheet.specs.Sheet.{Sheet}
use Rattle.sheet.proofs.RoundTrip as sheets
use Rattle.engine.specs.Operations.{decode_for, engine, run}
use Rattle.engine.proofs.Laws.{engine-laws, run_is}
use Rattle.files.specs.Files.{File, doubled, winners}
use Rattle.files.specs.Operation.{FileFault, of_none, in_file, Loaded, load_all, Left, run_loaded, run_files}
use Rattle.files.specs.Promise.{Reordered, Given, name_of, in_turn, Accepted}
use Rattle.files.proofs.Winners.{winners_reordered, doubled_reordered}

-- ---- what the files of a set give, by name

abbrev pub given : Checked FileFault Left → Given
given (refused f) = record { number = number f.why; line = f.line; file = name_of f.file; visited = 0; tried = 0; left = [] }
given (ok l) = record { number = 0; line = 0; file = None; visited = l.visited; tried = l.tried; left = O.encode l.state }

-- ---- any order

-- from the files that count
abbrev from_winners : List ℕ → List ℕ → List ℕ → List File → Checked FileFault Left
from_winners dev out sheet ws =
    load_all ws
    >>= λ ls. found (D.decode dev) (of_none device_bad)
    >>= λ d. found (decode_for d out) (of_none outcome_bad) >>= λ s. found (Sheets.decode sheet) (of_none sheet_bad) >>= λ a. run_loaded a d s 0 0 ls

same-run : (fs gs : List File) (dev out sheet : List ℕ) (b : Bool) → doubled fs ≡ b → doubled gs ≡ b → (b ≡ false → winners fs ≡ winners gs)
    → run_files fs dev out sheet ≡ run_files gs dev out sheet
unfolding run_files
same-run fs gs dev out sheet true p q w = rw (p, q)
same-run fs gs dev out sheet false p q w = rw (p, q) (ap (from_winners dev out sheet) (w refl))

pub reordered_run : (fs gs : List File) → Reordered fs gs → (dev out sheet : List ℕ) → run_files fs dev out sheet ≡ run_files gs dev out sheet
reordered_run fs gs r dev out sheet =
    same-run fs gs dev out sheet (doubled gs) (doubled_reordered r) refl (λ e. winners_reordered r (doubled_reordered r ∙ e))

-- ---- one after another

abbrev load : File → Loaded
load f = record { file = f; rules = rules_of reader f.text }

module _ (a : Sheet) where
  loads : (fs : List File) → All (λ (f : File). Parts (engine a) f.text) fs → load_all fs ≡ ok (map load fs)
  unfolding load_all
  loads [] h = refl
  loads (f ∷ fs) (h, hs) = rw (read_ok (engine a) f.text h, loads fs hs)

  module _ (ag : Sheets.Good a) (sheet : List ℕ) (ss : Sheets.decode sheet ≡ Some a) (dev : List ℕ) (d : Device) (is : D.decode dev ≡ Some d) (room : ℕ) (full : fullest_outcome ≤ room) where
    L : Laws (engine a)
    L = engine-laws a ag

    -- of an accepted text and record
    run_of : (t out : List ℕ) (s : State) → Parts (engine a) t → decode_for d out ≡ Some s → run t dev out sheet room ≡ generic.answer (engine a) room (run_from (engine a) d next s (rules_of reader t))
    unfolding generic.run generic.run_checked
    run_of t out s h at = run_is t dev out sheet room a ss ∙ rw (le-leb fullest_outcome room full, read_ok (engine a) t h, is, at)

    module _ (f : File) (fs : List File) (v w : ℕ) (out : List ℕ) where
      turn-refused : (n : ℕ) (x : Refusal) → run f.text dev out sheet room ≡ generic.answer (engine a) room (refused (line n x))
          → in_turn dev sheet room v w out (f ∷ fs) ≡ record { number = number x; line = n; file = Some f.name; visited = 0; tried = 0; left = [] }
      unfolding in_turn generic.answer
      turn-refused n x e = rw (e, (refusal-number x).1)

      turn-ok : (h : Halt State) → run f.text dev out sheet room ≡ generic.answer (engine a) room (ok h)
          → in_turn dev sheet room v w out (f ∷ fs) ≡ in_turn dev sheet room (v + h.visited) (w + h.tried) (O.encode h.state) fs
      unfolding in_turn generic.answer
      turn-ok h e = rw (e, take-append_seam (O.encode h.state) (replicate (room - length (O.encode h.state)) 0))

    turns : (fs : List File) → All (λ (f : File). Parts (engine a) f.text) fs → (v w : ℕ) (out : List ℕ) (s : State) → decode_for d out ≡ Some s → L.Good d s → O.encode s ≡ out
        → given (run_loaded a d s v w (map load fs)) ≡ in_turn dev sheet room v w out fs
    unfolding run_loaded
    turns [] h v w out s at g e = unfold in_turn in ap (λ (o : List ℕ). record { number = 0; line = 0; file = None; visited = v; tried = w; left = o }) e
    turns (f ∷ fs) (h, hs) v w out s at g e =
        go (run_from (engine a) d next s (rules_of reader f.text)) refl
        (unfold rules_of in run_sound (engine a) L d (rules_of reader f.text) next s tt h.settled (lines_read (engine a) (lines f.text)) g)
        (λ v' w' out' s' at' g' e'. turns fs hs v' w' out' s' at' g' e')
      where
        go : (c : Ran State) → run_from (engine a) d next s (rules_of reader f.text) ≡ c → Holds (Sound (engine a) L d) c
            → ((v w : ℕ) (out : List ℕ) (s : State) → decode_for d out ≡ Some s → L.Good d s → O.encode s ≡ out → given (run_loaded a d s v w (map load fs)) ≡ in_turn dev sheet room v w out fs)
            → given (in_file f (run_from (engine a) d next s (rules_of reader f.text)) >>= λ h. run_loaded a d h.state (v + h.visited) (w + h.tried) (map load fs)) ≡ in_turn dev sheet room v w out (f ∷ fs)
        go (refused (line n x)) q k ih = rw q (sym (turn-refused f fs v w out n x (run_of f.text out s h at ∙ ap (generic.answer (engine a) room) q)))
        go (ok r) q k ih =
            rw q
            (ih (v + r.visited) (w + r.tried) (O.encode r.state) r.state (L.again k.good) k.good refl
            ∙ sym (turn-ok f fs v w out r (run_of f.text out s h at ∙ ap (generic.answer (engine a) room) q)))

    one-after_another : (fs : List File) (out : List ℕ) (s : State) → doubled fs ≡ false → All (λ (f : File). Parts (engine a) f.text) (winners fs)
        → decode_for d out ≡ Some s → L.Good d s → O.encode s ≡ out → given (run_files fs dev out sheet) ≡ in_turn dev sheet room 0 0 out (winners fs)
    unfolding run_files
    one-after_another fs out s n h at g e = rw (n, loads (winners fs) h, is, at, ss) (turns (winners fs) h 0 0 out s at g e)

  All-parts : (fs : List File) → All Accepted fs → All (λ (f : File). Parts (engine a) f.text) fs
  All-parts [] h = tt
  All-parts (f ∷ fs) (h, hs) = (to-parts (engine a) f.text h, All-parts fs hs)

pub in_turn_lem : (fs : List File) (dev out sheet : List ℕ) {d : Device} {s : State} {a : Sheet} (room : ℕ) → doubled fs ≡ false → All Accepted (winners fs)
    → Bytes out → Bytes sheet → D.decode dev ≡ Some d → decode_for d out ≡ Some s → Sheets.decode sheet ≡ Some a → fullest_outcome ≤ room
    → given (run_files fs dev out sheet) ≡ in_turn dev sheet room 0 0 out (winners fs)
unfolding decode_for L
in_turn_lem fs dev out sheet {d} {s} {a} room n h by bs is at ss full =
    let ag = (sheets.back sheet a bs ss).good in
    one-after_another a ag sheet ss dev d is room full fs out s n (All-parts a (winners fs) h) at ((engine-laws a ag).starts by is at) (back (length (chain d)) out s by at).0
