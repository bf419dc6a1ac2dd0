-- What reading ensures of the pairs of a rule.
-- Assumes nothing.
use Prim.Native.Nat.{ℕ}
use mathlib.Core.Path.{◌≡◌, ap, subst}
use mathlib.Core.Bool.{Bool, true, not, ◌&&◌}
use mathlib.Core.List.{List, [], ◌∷◌}
use Rattle.lists.specs.Runs.{Part}
use Rattle.lists.specs.Checked.{Checked, refused, ok, Holds}
use Rattle.lists.specs.Refusal.{Refusal, content_bad}
use Rattle.lists.proofs.Checked.{holds-bind, holds_at}
use Rattle.rules.specs.Key.{Key, ACTION, DEVPATH, KERNEL, KERNELS, SUBSYSTEM, SUBSYSTEMS, DRIVER, DRIVERS, ATTR, ATTRS, ENV, SYMLINK, TAG, OWNER, GROUP, MODE, RUN, LABEL, GOTO, OPTIONS, PROGRAM, RESULT, same_key}
use Rattle.rules.specs.Pair.{Pair}
use Rattle.rules.specs.Pairs.{Pairs}
use Rattle.rules.specs.Reading.{sound_assigned, sound_by, sound, read_pair}
use Rattle.rules.proofs.Sound.{SoundFor, SoundPair, SoundRule, require-then}
use Rattle.pairs.specs.Stages.{pair_written}
use Rattle.pairs.proofs.Whole.{judged, read_written}
use Rattle.assign_key.specs.Keys.{FitsKey}
use Rattle.assignment.specs.Assignment.{Assignable, Assignables}

-- the content of a pair that was read
abbrev Content : Part Pair → Type 0
Content q = sound q.value.key q.value.op q.value.value ≡ true

pub any-holds : {R A : Type 0} (c : Checked R A) → Holds (λ (_ : A). Unit {0}) c
any-holds (refused f) = tt
any-holds (ok a) = tt

content : (bs : List ℕ) (q : Part Pair) → read_pair bs ≡ ok q → Content q
content bs q e = holds_at Content e (rw (read_written bs) (holds-bind (λ (_ : Part Pair). Unit {0}) Content (pair_written bs) judged (any-holds (pair_written bs))
    (λ p _. require-then Content (sound p.value.key p.value.op p.value.value) content_bad (ok p) (λ h. h))))

fits_key : (k : Key) (p : Pair) → SoundFor k p → sound_assigned k p.value ≡ true → FitsKey k p.argument p.value
fits_key SYMLINK p s h = h
fits_key TAG p s h = s
fits_key RUN p s h = h
fits_key OWNER p s h = h
fits_key GROUP p s h = h
fits_key MODE p s h = h
fits_key ENV p s h = s
fits_key OPTIONS p s h = tt
fits_key ACTION p s h = tt
fits_key DEVPATH p s h = tt
fits_key KERNEL p s h = tt
fits_key KERNELS p s h = tt
fits_key SUBSYSTEM p s h = tt
fits_key SUBSYSTEMS p s h = tt
fits_key DRIVER p s h = tt
fits_key DRIVERS p s h = tt
fits_key ATTR p s h = tt
fits_key ATTRS p s h = tt
fits_key LABEL p s h = tt
fits_key GOTO p s h = tt
fits_key PROGRAM p s h = tt
fits_key RESULT p s h = tt

assignable : (p : Pair) → SoundPair p → sound p.key p.op p.value ≡ true → Assignable p
unfolding sound
assignable p s h = record {
  unbroken = s.value;
  short = s.short;
  fits = λ m. fits_key p.key p (s.content m) (subst (λ (b : Bool). sound_by b p.key p.value ≡ true) (ap (λ (b : Bool). b && not (same_key p.key PROGRAM)) m) h);
  program = s.program;
}

pub assignables : (bs : List ℕ) (ps : List Pair) → Pairs bs ps → SoundRule ps → Assignables ps
assignables bs [] h s = tt
assignables bs (p ∷ []) h (s, _) = (assignable p s (content bs (record { value = p; rest = [] }) h), tt)
assignables bs (p ∷ q ∷ ps) (rest, e, h) (s, ss) = (assignable p s (content bs (record { value = p; rest = 44 ∷ rest }) e), assignables rest (q ∷ ps) h ss)
