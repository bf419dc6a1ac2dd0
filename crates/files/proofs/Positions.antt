-- Document 02, Item 11: a text or running refusal is about a file of the set, so its position in the lent order leads to that name.
-- Assumes nothing.
use Prim.Native.Nat.{ℕ, ◌+◌}
use mathlib.Core.Path.{◌≡◌, refl, ap, ◌∙◌, subst}
use mathlib.Core.Bool.{Bool, true, false, not, ◌||◌}
use mathlib.Core.List.{List, [], ◌∷◌}
use Rattle.std.specs.Prelude.{Option, None, Some}
use lib.Dec.{eqb}
use borrow.Author.Tests.{eq-eqb}
use Rattle.lists.specs.Lists.{any, reject, All}
use Rattle.lists.specs.Checked.{Checked, refused, ok, ◌>>=◌, ◌>>◌, require, found, Placed, line}
use Rattle.lists.specs.Refusal.{Refusal, file_twice, device_bad, outcome_bad, sheet_bad}
use Rattle.lists.proofs.Lists.{pick_both, All-map}
use Rattle.lists.proofs.Tests.{both_and, or-true}
use Rattle.lists.proofs.Bytes.{same_refl}
use Rattle.device.specs.Device as D
use Rattle.device.specs.Device.{Device}
use Rattle.outcome.specs.State.{State}
use Rattle.rules.specs.Reading.{reader}
use Rattle.sheet.specs.Sheet as Sheets
use Rattle.sheet.specs.Sheet.{Sheet}
use Rattle.engine.specs.Operations.{decode_for, engine}
use Rattle.text.specs.Reading.{read_text}
use Rattle.text.specs.Running.{next, run_from}
use Rattle.files.specs.Files.{File, same_name, same_file, doubled, loses, before, insert, in_order, winners}
use Rattle.files.specs.Operation.{FileFault, of_none, in_file, Loaded, load_all, Left, run_loaded, run_files}

-- a file of the set
abbrev pub Of : List File → File → Type 0
Of fs f = any (same_file f) fs ≡ true

all_of : (fs : List File) → All (Of fs) fs
all_of [] = tt
all_of (f ∷ fs) = (
  ap (λ (t : Bool). t || any (same_file f) fs) (both_and (same_name f f) (eqb f.rank f.rank) (same_refl f.name) (eq-eqb f.rank f.rank refl)),
  All-map (Of fs) (Of (f ∷ fs)) (λ g h. ap (λ (t : Bool). same_file g f || t) h ∙ or-true (same_file g f)) fs (all_of fs),
)

module _ (P : File → Type 0) where
  reject-All : (out : File → Bool) (fs : List File) → All P fs → All P (reject out fs)
  reject-All out [] h = tt
  reject-All out (f ∷ fs) (h, hs) = let i = reject-All out fs hs in pick_both (All P) (out f) (reject out fs) (f ∷ reject out fs) i (h, i)

  insert-All : (f : File) (fs : List File) → P f → All P fs → All P (insert f fs)
  insert-All f [] h hs = (h, tt)
  insert-All f (g ∷ fs) h (k, ks) = pick_both (All P) (before f.name g.name) (f ∷ g ∷ fs) (g ∷ insert f fs) (h, (k, ks)) (k, insert-All f fs h ks)

  order_All : (fs : List File) → All P fs → All P (in_order fs)
  order_All [] h = tt
  order_All (f ∷ fs) (h, hs) = insert-All f (in_order fs) h (order_All fs hs)

winners_of : (fs : List File) → All (Of fs) (winners fs)
unfolding winners
winners_of fs = order_All (Of fs) (reject (loses fs) fs) (reject-All (Of fs) (loses fs) fs (all_of fs))

-- ---- refusals

abbrev pub About : (File → Type 0) → Option File → Type 0
About P None = Unit {0}
About P (Some f) = P f

-- a refusal, if there is one, is about such a file or none; and what is given otherwise
abbrev Fine : {A : Type 0} → (File → Type 0) → (A → Type 0) → Checked FileFault A → Type 0
Fine P Q (refused f) = About P f.file
Fine P Q (ok a) = Q a

fine_bind : {A B : Type 0} (P : File → Type 0) (Q : A → Type 0) (R : B → Type 0) (c : Checked FileFault A) (k : A → Checked FileFault B)
    → Fine P Q c → ((a : A) → Q a → Fine P R (k a)) → Fine P R (c >>= k)
fine_bind P Q R (refused f) k h g = h
fine_bind P Q R (ok a) k h g = g a h

module _ (P : File → Type 0) where
  fine_file : {A : Type 0} (f : File) (c : Checked (Placed Refusal) A) → P f → Fine P (λ (_ : A). Unit {0}) (in_file f c)
  fine_file f (refused (line n w)) h = h
  fine_file f (ok a) h = tt

  fine_found : {A : Type 0} (o : Option A) (w : Refusal) → Fine P (λ (_ : A). Unit {0}) (found o (of_none w))
  fine_found None w = tt
  fine_found (Some a) w = tt

  fine_load : (fs : List File) → All P fs → Fine P (All (λ (l : Loaded). P l.file)) (load_all fs)
  unfolding load_all
  fine_load [] h = tt
  fine_load (f ∷ fs) (h, hs) =
      let Q : List Loaded → Type 0 = All (λ (l : Loaded). P l.file) in
      fine_bind P (λ _. Unit {0}) Q (in_file f (read_text reader f.text)) _ (fine_file f (read_text reader f.text) h)
      (λ rs _. fine_bind P Q Q (load_all fs) _ (fine_load fs hs) (λ ls k. (h, k)))

  fine_run : (a : Sheet) (d : Device) (s : State) (v w : ℕ) (ls : List Loaded) → All (λ (l : Loaded). P l.file) ls → Fine P (λ (_ : Left). Unit {0}) (run_loaded a d s v w ls)
  unfolding run_loaded
  fine_run a d s v w [] h = tt
  fine_run a d s v w (l ∷ ls) (h, hs) =
      fine_bind P (λ _. Unit {0}) (λ (_ : Left). Unit {0}) (in_file l.file (run_from (engine a) d next s l.rules)) _ (fine_file l.file (run_from (engine a) d next s l.rules) h)
      (λ r _. fine_run a d r.state (v + r.visited) (w + r.tried) ls hs)

  fine_from : (dev out sheet : List ℕ) (ws : List File) → All P ws
      → Fine P (λ (_ : Left). Unit {0}) (load_all ws >>= λ ls. found (D.decode dev) (of_none device_bad) >>= λ d. found (decode_for d out) (of_none outcome_bad) >>= λ s. found (Sheets.decode sheet) (of_none sheet_bad) >>= λ a. run_loaded a d s 0 0 ls)
  fine_from dev out sheet ws h =
      let R : Left → Type 0 = λ _. Unit {0} in
      fine_bind P (All (λ (l : Loaded). P l.file)) R (load_all ws) _ (fine_load ws h)
      (λ ls k. fine_bind P (λ _. Unit {0}) R (found (D.decode dev) (of_none device_bad)) _ (fine_found (D.decode dev) device_bad)
      (λ d _. fine_bind P (λ _. Unit {0}) R (found (decode_for d out) (of_none outcome_bad)) _ (fine_found (decode_for d out) outcome_bad)
      (λ s _. fine_bind P (λ _. Unit {0}) R (found (Sheets.decode sheet) (of_none sheet_bad)) _ (fine_found (Sheets.decode sheet) sheet_bad) (λ a _. fine_run a d s 0 0 ls k))))

-- so `position_there` gives the position of the file that a refusal names
pub fault_of_lem : (fs : List File) (dev out sheet : List ℕ) (f : FileFault) → run_files fs dev out sheet ≡ refused f → About (Of fs) f.file
unfolding run_files
fault_of_lem fs dev out sheet f e = subst (Fine (Of fs) (λ (_ : Left). Unit {0})) e (at (not (doubled fs)))
  where
    at : (b : Bool) → Fine (Of fs) (λ (_ : Left). Unit {0}) (require b (of_none file_twice) >>
        (load_all (winners fs) >>= λ ls. found (D.decode dev) (of_none device_bad) >>= λ d. found (decode_for d out) (of_none outcome_bad) >>= λ s. found (Sheets.decode sheet) (of_none sheet_bad) >>= λ a. run_loaded a d s 0 0 ls))
    at false = tt
    at true = fine_from (Of fs) dev out sheet (winners fs) (winners_of fs)
