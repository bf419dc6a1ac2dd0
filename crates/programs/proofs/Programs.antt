-- One program: its command, what the sheet says to it, what is stored.
-- Assumes nothing.
use Prim.Native.Nat.{ℕ, ◌+◌, ◌≤◌}
use mathlib.Core.Path.{◌≡◌, refl, sym, ◌∙◌, ap, subst}
use mathlib.Core.Bool.{Bool, true, false, not, ◌&&◌}
use mathlib.Core.List.{List}
use Rattle.std.specs.Prelude.{Option, None, Some, Result, Ok, Err}
use native.Mathlib.Omega.{arith}
use lib.Dec.{leb}
use lib.ListN.{length, take, drop}
use borrow.Author.Tests.{le-leb, leb-true, not-true, not-false}
use Rattle.lists.specs.Bytes.{clean}
use Rattle.lists.specs.Runs.{chomp}
use Rattle.lists.specs.Checked.{Checked, refused, ok, ◌>>=◌, found}
use Rattle.lists.specs.Refusal as refusal
use Rattle.lists.specs.Sizes.{most_output}
use Rattle.lists.proofs.Tests.{and_both, both_and}
use Rattle.lists.proofs.Bytes.{chomp-clean, chomp-size}
use Rattle.rules.specs.Key.{PROGRAM, same_key, Op}
use Rattle.rules.specs.Pair.{Pair}
use Rattle.refusals.specs.declared.Refusal.{Refusal}
use Rattle.refusals.specs.declared.Refusal.TheVariants.{CommandMissing}
use Rattle.device.specs.Device.{Device}
use Rattle.outcome.specs.Content.{ok_output}
use Rattle.outcome.specs.State.{State}
use Rattle.outcome.specs.Change.{with_output}
use Rattle.outcome_target.specs.Held as target
use Rattle.outcome_target.specs.declared.Layout.{Layout}
use Rattle.sheet.specs.Sheet.{Reply, Sheet, ok_reply, decode, reply_to}
use Rattle.sheet.proofs.RoundTrip.{reply_sizes, reply_output}
use Rattle.sheet_check.specs.Replies.{Told, AnswersTo}
use Rattle.sheet_check.specs.declared.Reply as answers
use Rattle.text.specs.Engine.{Stepped, went}
use Rattle.engine.specs.Substitute.{filled}
use Rattle.engine.specs.Assign.{source_of}
use Rattle.engine.specs.Programs.{program_holds, stored, asked, ask_pair}
use Rattle.programs.specs.Programs.{Says, stored_by, replied, Replies, asked_by}
use Rattle.programs.specs.declared.Asked.{Asked}
use Rattle.programs.specs.declared.Asked.TheVariants as answer

-- ---- what is stored

stored-by : (r : Reply) (s : State) → stored r s ≡ stored_by r.success r.output s
unfolding stored
stored-by r s = at r.success refl
  where
    at : (b : Bool) → r.success ≡ b → stored r s ≡ stored_by b r.output s
    at true e = rw (e, stored)
    at false e = rw (e, stored)

-- the output of a sound reply may stand in a record, and so may what is left of it
pub output_sound : (r : Reply) → ok_reply r ≡ true → ok_output r.output ≡ true
output_sound r h = both_and (leb (length r.output) most_output) (clean r.output) (le-leb (length r.output) most_output (reply_sizes r h).1) (reply_output r h)

pub chomp-sound : (x : List ℕ) → ok_output x ≡ true → ok_output (chomp x) ≡ true
chomp-sound x h =
    let (few, whole) = and_both (leb (length x) most_output) (clean x) h in
    both_and (leb (length (chomp x)) most_output) (clean (chomp x)) (le-leb (length (chomp x)) most_output (omega (arith, leb-true (length x) most_output few, chomp-size x))) (chomp-clean x whole)

-- a failure, and a success whose output was set
module _ (good : Bool) (o t : List ℕ) (lay : Layout) where
  pub store_none : not good ≡ true → target.Changed (stored_by good o) t lay t lay
  store_none e = subst (λ (b : Bool). target.Changed (stored_by b o) t lay t lay) (sym (not-true good e)) (λ n s k. k)

  pub store_some : not good ≡ false → (t' : List ℕ) (lay' : Layout) (x : List ℕ) → x ≡ chomp o → target.Changed (λ s. with_output s x) t lay t' lay' → target.Changed (stored_by good o) t lay t' lay'
  store_some e t' lay' x q w =
      subst (λ (b : Bool). target.Changed (stored_by b o) t lay t' lay') (sym (not-false good e))
      (subst (λ (y : List ℕ). target.Changed (λ s. with_output s y) t lay t' lay') q w)

-- ---- what the sheet says

module _ (a : Sheet) (o : Op) (command : List ℕ) (s : State) where
  replied_at : (l : List ℕ) (good : Bool) (start len : ℕ) → Told l (reply_to command a) good start len
      → replied a o command s ≡ ok (went (stored_by good (take len (drop start l)) s) (program_holds o good))
  replied_at l good start len w =
      let r = w.reply in
      rw (w.is, stored-by r s, w.success, w.output)

  replied_missing : reply_to command a ≡ None → replied a o command s ≡ refused refusal.command_missing
  replied_missing e = rw e

module _ (o : Op) (command sheet : List ℕ) where
  -- a reply is on it
  module _ (x : answers.Reply) (c : AnswersTo command sheet (Some x)) where
    pub told_output : (a : Sheet) → decode sheet ≡ Some a → ok_output (take x.len (drop x.start sheet)) ≡ true
    told_output a e = let w = c a e in subst (λ (y : List ℕ). ok_output y ≡ true) w.output (output_sound w.reply w.sound)

    pub told-within : (a : Sheet) → decode sheet ≡ Some a → x.start + x.len ≤ length sheet
    told-within a e = (c a e).within

    module _ (t : List ℕ) (lay : Layout) (t' : List ℕ) (lay' : Layout) (w : target.Changed (stored_by x.success (take x.len (drop x.start sheet))) t lay t' lay') where
      pub reply_holds : program_holds o x.success ≡ true → Replies o command sheet t lay t' (Ok (answer.Held lay'))
      reply_holds h a e n s k =
          (stored_by x.success (take x.len (drop x.start sheet)) s, replied_at a o command s sheet x.success x.start x.len (c a e) ∙ ap (λ b. ok (went (stored_by x.success (take x.len (drop x.start sheet)) s) b)) h, w n s k)

      pub reply_fails : program_holds o x.success ≡ false → Replies o command sheet t lay t' (Ok (answer.Failed lay'))
      reply_fails h a e n s k =
          (stored_by x.success (take x.len (drop x.start sheet)) s, replied_at a o command s sheet x.success x.start x.len (c a e) ∙ ap (λ b. ok (went (stored_by x.success (take x.len (drop x.start sheet)) s) b)) h, w n s k)

  -- none is (35)
  pub reply_missing : AnswersTo command sheet None → (t : List ℕ) (lay : Layout) → Replies o command sheet t lay t (Err CommandMissing)
  reply_missing c t lay a e n s k = replied_missing a o command s (c a e)

-- ---- a PROGRAM

module _ (a : Sheet) (d : Device) (place : ℕ) (o : Op) (v : List ℕ) (s : State) where
  pub command_says : (x : List ℕ) → filled false (source_of d place s) v ≡ ok x → (n : ℕ) (t' : List ℕ) (y : Result Asked Refusal) → Says n t' y (replied a o x s) → Says n t' y (asked_by a d place o v s)
  command_says x q n t' y h = let e : replied a o x s ≡ asked_by a d place o v s = rw q in subst (Says n t' y) e h

  pub command_long : filled false (source_of d place s) v ≡ refused refusal.substitution_long → asked_by a d place o v s ≡ refused refusal.substitution_long
  command_long q = rw q

-- ---- a pair

module _ (a : Sheet) (d : Device) (place : ℕ) (p : Pair) (s : State) where
  pub pair_passed : same_key p.key PROGRAM ≡ false → ask_pair a d place p s ≡ ok (went s true)
  unfolding ask_pair
  pair_passed e = rw (e, ask_pair)

  pair_asked : same_key p.key PROGRAM ≡ true → asked_by a d place p.op p.value s ≡ ask_pair a d place p s
  unfolding ask_pair asked
  pair_asked e = rw (e, ask_pair)

  pub pair_says : same_key p.key PROGRAM ≡ true → (n : ℕ) (t' : List ℕ) (y : Result Asked Refusal) → Says n t' y (asked_by a d place p.op p.value s) → Says n t' y (ask_pair a d place p s)
  pair_says e n t' y h = subst (Says n t' y) (pair_asked e) h
