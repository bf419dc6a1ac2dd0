-- A substituted text judged and set, and the whole assignment.
-- Assumes nothing.
use Prim.Native.Nat.{ℕ, ◌≤◌, ◌<◌}
use mathlib.Core.Path.{◌≡◌, refl, sym, ◌∙◌, ap, subst}
use mathlib.Core.Bool.{Bool, true, false, not}
use mathlib.Core.List.{List}
use Rattle.std.specs.Prelude.{Option, None, Some, Result, Ok, Err}
use native.Mathlib.Omega.{arith}
use lib.Dec.{leb}
use lib.ListN.{length}
use borrow.Author.Tests.{le-leb, lt-leb}
use Rattle.lists.specs.Lists.{pick}
use Rattle.lists.specs.Checked.{Checked, refused, ok, ◌>>=◌, ◌>>◌, require}
use Rattle.lists.specs.Refusal as refusal
use Rattle.lists.proofs.Tests.{and-false}
use Rattle.rules.specs.Key.{Op}
use Rattle.rules.specs.Pair.{Pair}
use Rattle.refusals.specs.Refusals.{refusal_of}
use Rattle.refusals.specs.declared.Refusal.{Refusal}
use Rattle.refusals.specs.declared.Refusal.TheVariants.{OwnerBad}
use Rattle.device.specs.Device.{Device}
use Rattle.outcome.specs.Content.{ok_owner, ok_mode, mode_number, others_write}
use Rattle.outcome.specs.State.{State}
use Rattle.outcome.specs.Change.{with_mode}
use Rattle.outcome_target.specs.Held.{Changed}
use Rattle.outcome_target.specs.declared.Layout.{Layout}
use Rattle.outcome_fields.specs.Fields.{shut, Rewritten}
use Rattle.outcome_fields.specs.declared.Closable.{Closable}
use Rattle.outcome_fields.specs.declared.Closable.TheVariants as closable
use Rattle.content.specs.Mode.{mode_of}
use Rattle.engine.specs.Substitute.{filled}
use Rattle.engine.specs.Assign.{closing, owner_in, mode_in, source_of, owned, grouped, moded}
use Rattle.records.specs.Records.{Says, Changes}
use Rattle.assign_owner.specs.Owners.{owner_set, single}
use Rattle.assign_owner.specs.declared.Single.{Single}
use Rattle.assign_owner.specs.declared.Single.TheVariants.{Owner, Group, Mode}

-- ---- owner and group

module _ (x : List ℕ) where
  pub in_short : length x < 1 → owner_in x ≡ refused refusal.owner_bad
  in_short h = rw (lt-leb 1 (length x) h, owner_in)

  pub in_faulty : ok_owner x ≡ false → owner_in x ≡ refused refusal.owner_bad
  in_faulty h = rw (h, and-false (leb 1 (length x)), owner_in)

  pub in_sound : 1 ≤ length x → ok_owner x ≡ true → owner_in x ≡ ok x
  in_sound m h = rw (le-leb 1 (length x) m, h, owner_in)

module _ (set : State → List ℕ → State) (o : Op) (key : Closable) (x l : List ℕ) (lay : Layout) where
  abbrev set-by : State → Checked refusal.Refusal (List ℕ) → Checked refusal.Refusal State
  set-by s c = c >>= λ y. ok (closing o (shut key) (set s y))

  pub owner_bad : owner_in x ≡ refused refusal.owner_bad → Changes (λ s. set-by s (owner_in x)) l lay l (Err OwnerBad)
  owner_bad h = λ n s k. ap (set-by s) h

  pub owner-done : owner_in x ≡ ok x → (l₁ : List ℕ) (lay₁ : Layout) → Changed (λ s. set s x) l lay l₁ lay₁
      → (l₂ : List ℕ) → Rewritten (closing o (shut key)) l₁ l₂ → Changes (λ s. set-by s (owner_in x)) l lay l₂ (Ok lay₁)
  owner-done h l₁ lay₁ c l₂ w = λ n s k. (closing o (shut key) (set s x), ap (set-by s) h, w n lay₁ (set s x) (c n s k))

-- ---- mode

-- what is asked of a mode once it is read
abbrev pub kept : ℕ → Checked refusal.Refusal ℕ
kept m = require (not (others_write m)) refusal.mode_shared >> ok m

mode_at : (x : List ℕ) (b : Bool) → ok_mode x ≡ b → (mode_of x ≡ pick b (Some (mode_number x)) None) × (mode_in x ≡ pick b (kept (mode_number x)) (refused refusal.mode_bad))
unfolding mode_of
mode_at x true e = (rw e, rw (e, mode_in))
mode_at x false e = (rw e, rw (e, mode_in))

mode-number : (m n : ℕ) → Some m ≡ Some n → m ≡ n
mode-number m n e = cc

module _ (x : List ℕ) (r : Option ℕ) (e : r ≡ mode_of x) where
  mode_read : (m : ℕ) → r ≡ Some m → mode_in x ≡ kept m
  mode_read m q = go (ok_mode x) refl
    where
      go : (b : Bool) → ok_mode x ≡ b → mode_in x ≡ kept m
      go true h =
          let (p, w) = mode_at x true h in
          let z : Some (mode_number x) ≡ Some m = sym p ∙ sym e ∙ q in
          w ∙ ap kept (mode-number (mode_number x) m z)
      go false h =
          let (p, w) = mode_at x false h in
          let z : None ≡ Some m = sym p ∙ sym e ∙ q in
          let u : ◌≡◌ {A = ℕ} 0 1 = cc in absurd (omega arith)

  pub mode-sound : (m : ℕ) → r ≡ Some m → others_write m ≡ false → mode_in x ≡ ok m
  mode-sound m q h = mode_read m q ∙ rw (h, kept)

  pub mode_shared : (m : ℕ) → r ≡ Some m → others_write m ≡ true → mode_in x ≡ refused refusal.mode_shared
  mode_shared m q h = mode_read m q ∙ rw (h, kept)

  pub mode-faulty : r ≡ None → mode_in x ≡ refused refusal.mode_bad
  mode-faulty q = go (ok_mode x) refl
    where
      go : (b : Bool) → ok_mode x ≡ b → mode_in x ≡ refused refusal.mode_bad
      go true h =
          let (p, w) = mode_at x true h in
          let z : Some (mode_number x) ≡ None = sym p ∙ sym e ∙ q in
          let u : ◌≡◌ {A = ℕ} 0 1 = cc in absurd (omega arith)
      go false h = (mode_at x false h).1

module _ (o : Op) (x l : List ℕ) (lay : Layout) where
  pub mode-done : (m : ℕ) → mode_in x ≡ ok m → (l₁ : List ℕ) → Rewritten (λ s. with_mode s m) l l₁ → (l₂ : List ℕ) → Rewritten (closing o (shut closable.Mode)) l₁ l₂
      → Changes (owner_set Mode o x) l lay l₂ (Ok lay)
  mode-done m e l₁ c l₂ w = λ n s k. (closing o (shut closable.Mode) (with_mode s m), rw e, w n lay (with_mode s m) (c n lay s k))

  pub mode-refused : (f : Refusal) → mode_in x ≡ refused (refusal_of f) → Changes (owner_set Mode o x) l lay l (Err f)
  mode-refused f e = λ n s k. rw e

-- ---- the whole

module _ (d : Device) (place : ℕ) (s : State) (p : Pair) (o : Op) (v : List ℕ) (e : p.op ≡ o) (f : p.value ≡ v) where
  single-filled : (key : Single) (x : List ℕ) → filled false (source_of d place s) v ≡ ok x → single key d place p s ≡ owner_set key o x s
  unfolding owned grouped moded
  single-filled Owner x q = rw (e, f, q)
  single-filled Group x q = rw (e, f, q)
  single-filled Mode x q = rw (e, f, q)

  pub single-says : (key : Single) (x : List ℕ) → filled false (source_of d place s) v ≡ ok x → (n : ℕ) (t' : List ℕ) (r : Result Layout Refusal)
      → Says n t' r (owner_set key o x s) → Says n t' r (single key d place p s)
  single-says key x q n t' r h = subst (Says n t' r) (sym (single-filled key x q)) h

  pub single-long : (key : Single) → filled false (source_of d place s) v ≡ refused refusal.substitution_long → single key d place p s ≡ refused refusal.substitution_long
  unfolding owned grouped moded
  single-long Owner q = rw (f, q)
  single-long Group q = rw (f, q)
  single-long Mode q = rw (f, q)
