-- Document 02, Item 11: what is wanted of a set of files holds of the answers that are given back.
-- Assumes nothing.
use Prim.Native.Nat.{ℕ, suc, ◌-◌}
use mathlib.Core.Path.{◌≡◌, refl, sym, ap, ◌∙◌}
use mathlib.Core.Bool.{Bool, true, false}
use mathlib.Core.List.{List, []}
use Rattle.std.specs.Prelude.{Option, None, Some}
use native.Mathlib.Omega.{arith}
use borrow.Author.Tests.{le-leb}
use lib.Dec.{leb}
use lib.ListN.{length, replicate}
use lib.Seq.{take-append_seam}
use Rattle.lists.specs.Checked.{Checked, refused, ok}
use Rattle.lists.specs.Refusal.{number, target_short}
use Rattle.lists.specs.Sizes.{fullest_outcome}
use Rattle.lists.proofs.Tests.{and_both}
use Rattle.lists.proofs.Bytes.{same-eq}
use Rattle.outcome.specs.State as O
use Rattle.sets.specs.Answer.{of_set, refusal}
use Rattle.files.specs.Files.{File, decode_files, same_name, position_from}
use Rattle.files.specs.Operation.{FileFault, Left, run_files, position_of, files_answer, files}
use Rattle.files.specs.Promise.{Reordered, name_of, name_at, told, FilesInTurn}
use Rattle.files.proofs.LaidOut.{position_there}
use Rattle.files.proofs.Positions.{Of, About, fault_of_lem}
use Rattle.files.proofs.Files.{given, reordered_run, in_turn_lem}

-- the position of a file of the set leads to its name
named : (fs : List File) (o : Option File) → About (Of fs) o → name_at (position_of fs o) fs ≡ name_of o
named fs None h = refl
named fs (Some f) h =
    let (k, g, p, q, r) = position_there 1 f fs h in
    let name : f.name ≡ g.name = same-eq f.name g.name (and_both (same_name f g) _ r).0 in
    let at : position_from 1 f fs ≡ suc k = p ∙ omega arith in
    ap (λ (n : ℕ). name_at n fs) at ∙ ap name_of q ∙ ap Some (sym name)

answer-told : (room : ℕ) (fs : List File) (dev out sheet : List ℕ) (c : Checked FileFault Left) → run_files fs dev out sheet ≡ c → told fs (files_answer room fs c) ≡ given c
answer-told room fs dev out sheet (refused f) e =
    ap (λ (o : Option (List ℕ)). record { number = number f.why; line = f.line; file = o; visited = 0; tried = 0; left = [] }) (named fs f.file (fault_of_lem fs dev out sheet f e))
answer-told room fs dev out sheet (ok l) e =
    ap (λ (x : List ℕ). record { number = 0; line = 0; file = None; visited = l.visited; tried = l.tried; left = x }) (take-append_seam (O.encode l.state) (replicate (room - length (O.encode l.state)) 0))

module _ (set : List ℕ) (fs : List File) (e : decode_files set ≡ Some fs) (dev out sheet : List ℕ) (room : ℕ) where
  -- a target that is too short
  short_told : leb fullest_outcome room ≡ false → files set dev out sheet room ≡ refusal room (of_set target_short)
  unfolding files
  short_told f = rw (f, files)

  full_told : leb fullest_outcome room ≡ true → told fs (files set dev out sheet room) ≡ given (run_files fs dev out sheet)
  unfolding files
  full_told f = rw (f, files) (rw e (answer-told room fs dev out sheet (run_files fs dev out sheet) refl))

-- document 02, Item 11
pub files_in_turn : FilesInTurn
files_in_turn =
    record {
      one_by_one = λ set fs e n h dev out sheet by bs is at ss room full.
          full_told set fs e dev out sheet room (le-leb fullest_outcome room full) ∙ in_turn_lem fs dev out sheet room n h by bs is at ss full;
      any_order = λ set set' fs gs e e' r dev out sheet room. same set set' fs gs e e' r dev out sheet room (leb fullest_outcome room) refl;
    }
  where
    same : (set set' : List ℕ) (fs gs : List File) → decode_files set ≡ Some fs → decode_files set' ≡ Some gs → Reordered fs gs
        → (dev out sheet : List ℕ) (room : ℕ) (t : Bool) → leb fullest_outcome room ≡ t → told fs (files set dev out sheet room) ≡ told gs (files set' dev out sheet room)
    same set set' fs gs e e' r dev out sheet room true f =
        full_told set fs e dev out sheet room f ∙ ap given (reordered_run fs gs r dev out sheet) ∙ sym (full_told set' gs e' dev out sheet room f)
    same set set' fs gs e e' r dev out sheet room false f =
        ap (told fs) (short_told set fs e dev out sheet room f) ∙ sym (ap (told gs) (short_told set' gs e' dev out sheet room f))
