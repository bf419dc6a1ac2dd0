-- What is wanted of a set of files holds of what the exported functions write.
-- Assumes nothing.
use Prim.Native.Nat.{ℕ, zero, suc, ◌+◌, ◌-◌, ◌≤◌}
use mathlib.Core.Path.{◌≡◌, refl, sym, ap, ◌∙◌}
use mathlib.Core.List.{List, [], ◌∷◌}
use Rattle.std.specs.Prelude.{Some}
use borrow.Author.Tests.{le-leb}
use lib.ListN.{length, replicate}
use lib.Seq.{take-append_seam}
use Rattle.lists.specs.Lists.{All}
use Rattle.lists.specs.Checked.{refused, ok, Placed, line}
use Rattle.lists.specs.Sizes.{fullest_outcome}
use Rattle.text.specs.Joined as joined
use Rattle.text.specs.Joined.{given}
use Rattle.text.specs.Running.{Ran}
use Rattle.outcome.specs.State as O
use Rattle.outcome.specs.State.{State}
use Rattle.sheet.specs.Sheet.{Sheet}
use Rattle.engine.specs.Operations.{run_checked, ran, run}
use Rattle.sets.specs.Answer.{Answer}
use Rattle.files.specs.Files.{File, winners}
use Rattle.files.specs.Operation.{files}
use Rattle.files.specs.Promise as promise
use Rattle.files.specs.Promise.{Given, onward, in_turn, Accepted}
use Rattle.files.proofs.Wanted.{files_in_turn}
use Rattle.spillfinch.specs.Exports.{SetGives}
use Rattle.spillfinch.specs.Joined.{Checked, number_in, Call, back, followed, InTurn}
use Rattle.spillfinch.specs.Files.{told, together, texts_of, FilesRun}
use Rattle.spillfinch.proofs.Joined.{checked_accepted, given_back}

-- ---- one run

-- what a run gives back is the same in every full room
same-given : (room room' : ℕ) (c : Ran State) → given (ran room c) ≡ given (ran room' c)
unfolding ran
same-given room room' (refused (line n f)) = refl
same-given room room' (ok h) =
    let made : List ℕ = O.encode h.state in
    rw (take-append_seam made (replicate (room - length made) 0), take-append_seam made (replicate (room' - length made) 0)) refl

same_room : (text dev out sheet : List ℕ) (room room' : ℕ) → fullest_outcome ≤ room → fullest_outcome ≤ room' → given (run text dev out sheet room) ≡ given (run text dev out sheet room')
unfolding run run_checked
same_room text dev out sheet room room' r r' =
    same-given room room' (run_checked text dev out sheet room)
    ∙ ap (λ (c : Ran State). given (ran room' c)) (rw (le-leb fullest_outcome room r, le-leb fullest_outcome room' r') refl)

-- ---- runs one after another

-- what a file's run gives, and the others behind it
abbrev turn : (ℕ → ℕ → List ℕ → Given) → File → joined.Given → Given
turn others f b =
    onward b.number (others b.visited b.tried b.left) (record { number = b.number; line = b.line; file = Some f.name; visited = 0; tried = 0; left = [] })

behind : (A B : Type 0) (k : ℕ) (x y z : Given) → followed k A B → (A → x ≡ y) → onward k x z ≡ onward k y z
behind A B zero x y z f a = a f
behind A B (suc k) x y z f a = refl

module _ (dev sheet : List ℕ) (room : ℕ) (full : fullest_outcome ≤ room) where
  calls_together : (v w : ℕ) (out : List ℕ) (fs : List File) (cs : List Call) → InTurn dev sheet out (texts_of fs) cs
      → in_turn dev sheet room v w out fs ≡ together v w out fs cs
  unfolding in_turn
  calls_together v w out [] [] i = refl
  calls_together v w out [] (c ∷ cs) i = absurd i
  calls_together v w out (f ∷ fs) [] i = absurd i
  calls_together v w out (f ∷ fs) (c ∷ cs) (e, r, i) =
      let others : ℕ → ℕ → List ℕ → Given = λ x y o. in_turn dev sheet room (v + x) (w + y) o fs in
      let same : given (run f.text dev out sheet room) ≡ back c =
      same_room f.text dev out sheet room (length c.target) full r.room
      ∙ ap (λ (t : List ℕ). given (run t dev out sheet (length c.target))) (sym e) ∙ sym (given_back _ c r.gives) in
      ap (turn others f) same
      ∙ behind (InTurn dev sheet (back c).left (texts_of fs) cs) (cs ≡ []) (number_in c.written) _ _ _ i
      (λ j. calls_together (v + (back c).visited) (w + (back c).tried) (back c).left fs cs j)

-- ---- the set

told-by : (fs : List File) (a : Answer) (written target : List ℕ) → SetGives written target a → told fs written target ≡ promise.told fs a
told-by fs a written target (w, b) = rw (w, b) refl

all_accepted : (a : Sheet) (fs : List File) → All Checked (texts_of fs) → All Accepted fs
all_accepted a [] h = tt
all_accepted a (f ∷ fs) (h, hs) = (checked_accepted a f.text h, all_accepted a fs hs)

pub files-run : FilesRun
files-run =
    record {
      one_by_one = λ set fs e n h dev out sheet a x by is written target full g cs i.
          told-by fs (files set dev out sheet (length target)) written target g
          ∙ files_in_turn.one_by_one set fs e n (all_accepted a (winners fs) h) dev out sheet x.bytes by x.read x.held is (length target) full
          ∙ calls_together dev sheet (length target) full 0 0 out (winners fs) cs i;
      any_order = λ set set' fs gs e e' r dev out sheet room written target written' target' g g'.
          told-by fs (files set dev out sheet room) written target g
          ∙ files_in_turn.any_order set set' fs gs e e' r dev out sheet room
          ∙ sym (told-by gs (files set' dev out sheet room) written' target' g');
    }
