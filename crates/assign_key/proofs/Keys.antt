-- One assignment by its key.
-- Assumes nothing.
use Prim.Native.Nat.{ℕ, ◌-◌}
use mathlib.Core.Path.{◌≡◌, refl, sym, ◌∙◌, ap, subst}
use mathlib.Core.Bool.{Bool, true, false}
use mathlib.Core.List.{List}
use Rattle.std.specs.Prelude.{Option, None, Some, Result, Ok, Err}
use native.Mathlib.Omega.{arith}
use lib.IntN.{ℤ, pos, negsuc}
use mir.Syntax.{w32}
use mir.Val.{to_z, of_z, SFits}
use mir.Facts.{to_z-of_z}
use Rattle.lists.specs.Checked.{Checked, ok}
use Rattle.lists.specs.Refusal as refusal
use Rattle.lists.specs.Quoted.{bytes}
use Rattle.bits.specs.Signed.{from_signed}
use Rattle.rules.specs.Key.{Key, ACTION, DEVPATH, KERNEL, KERNELS, SUBSYSTEM, SUBSYSTEMS, DRIVER, DRIVERS, ATTR, ATTRS, ENV, SYMLINK, TAG, OWNER, GROUP, MODE, RUN, LABEL, GOTO, OPTIONS, PROGRAM, RESULT}
use Rattle.rules.specs.Pair.{Pair, is_builtin}
use Rattle.rules.specs.Setting.{Setting, setting_of}
use Rattle.rules.proofs.Sound.{In32, Range, setting_range}
use Rattle.signed.specs.Signed as signed
use Rattle.signed.specs.declared.Setting as read
use Rattle.signed.specs.declared.Setting.TheVariants as setting
use Rattle.refusals.specs.declared.Refusal.{Refusal}
use Rattle.device.specs.Device.{Device}
use Rattle.outcome.specs.State.{State}
use Rattle.outcome_target.specs.declared.Layout.{Layout}
use Rattle.outcome.specs.Change.{with_priority, with_watch}
use Rattle.outcome_fields.specs.Fields.{flag}
use Rattle.outcome_fields.specs.declared.Closable.{Closable}
use Rattle.outcome_fields.specs.declared.Closable.TheVariants as closable
use Rattle.engine.specs.Assign as assign
use Rattle.engine.specs.Assign.{valued, set_by, leaves, assigned}
use Rattle.records.specs.Records.{Says}
use Rattle.assign_env.specs.declared.Escape.{Escape}
use Rattle.assign_env.specs.declared.Escape.TheVariants as escape
use Rattle.assign_key.specs.Keys.{assignee_of, builtin_in, work_of, open_change, closable_change, WorkSays}
use Rattle.assign_key.specs.declared.Assignee.{Assignee}
use Rattle.assign_key.specs.declared.Assignee.TheVariants as assignee

-- ---- keys that can be closed

pub builtin_is : (p : Pair) (a : List ℕ) → p.argument ≡ a → is_builtin p ≡ builtin_in a
unfolding is_builtin builtin_in bytes
builtin_is p a e = rw e

module _ (c : Closable) (d : Device) (place : ℕ) (p : Pair) (w : assign.Work) (b : Bool) (e : b ≡ flag c w.state.closed) where
  pub skipped : b ≡ true → closable_change (flag c w.state.closed) c d place p w ≡ ok w.state
  skipped t = rw (← e, t)

  pub not_skipped : b ≡ false → open_change c d place p w ≡ closable_change (flag c w.state.closed) c d place p w
  not_skipped t = rw (← e, t)

pub says_same : (n : ℕ) (t : List ℕ) (r : Result Layout Refusal) (x y : Checked refusal.Refusal State) → x ≡ y → Says n t r x → Says n t r y
says_same n t r x y e h = subst (Says n t r) e h

-- ---- OPTIONS

signed-fits : (z : ℤ) → In32 z → SFits w32 z
signed-fits (pos n) h = record { sfits = h }
signed-fits (negsuc n) h = record { sfits = h }

module _ (v : List ℕ) (s : State) (e : Escape) (r : Option read.Setting) (h : signed.set_by r ≡ setting_of v) where
  by : (q : Option read.Setting) → r ≡ q → set_by (setting_of v) (work_of s e) ≡ set_by (signed.set_by q) (work_of s e)
  by q i = ap (λ (o : Option Setting). set_by o (work_of s e)) (sym h ∙ ap signed.set_by i)

  pub option_none : r ≡ Some setting.EscapeNone → set_by (setting_of v) (work_of s e) ≡ work_of s escape.AsIs
  option_none q = by (Some setting.EscapeNone) q

  pub option_replace : r ≡ Some setting.EscapeReplace → set_by (setting_of v) (work_of s e) ≡ work_of s escape.Replaced
  option_replace q = by (Some setting.EscapeReplace) q

  pub option_watch : r ≡ Some setting.Watch → set_by (setting_of v) (work_of s e) ≡ work_of (with_watch s 1) e
  option_watch q = by (Some setting.Watch) q

  pub option_nowatch : r ≡ Some setting.NoWatch → set_by (setting_of v) (work_of s e) ≡ work_of (with_watch s 2) e
  option_nowatch q = by (Some setting.NoWatch) q

  -- a priority has 32 bits
  priority-fits : (z : ℤ) → r ≡ Some (setting.Priority z) → SFits w32 z
  priority-fits z q = signed-fits z (subst Range (sym h ∙ ap signed.set_by q) (setting_range v))

  pub option_priority : (z : ℤ) → r ≡ Some (setting.Priority z) → (m : ℕ) → m ≡ from_signed (to_z w32 (of_z w32 z)) → set_by (setting_of v) (work_of s e) ≡ work_of (with_priority s m) e
  option_priority z q m i =
      by (Some (setting.Priority z)) q
      ∙ ap (λ (k : ℕ). work_of (with_priority s k) e) (sym (i ∙ ap from_signed (to_z-of_z {w = w32} {z = z} (priority-fits z q))))

  pub option_faulty : r ≡ None → set_by (setting_of v) (work_of s e) ≡ work_of s e
  option_faulty q = by None q

-- ---- any key

-- by what a key assigns to
abbrev pub assigned_to : Option Assignee → Device → ℕ → Pair → assign.Work → Checked refusal.Refusal assign.Work
assigned_to (Some (assignee.Closable c)) d place p w = leaves w (closable_change (flag c w.state.closed) c d place p w)
assigned_to (Some assignee.Property) d place p w = leaves w (valued w.escape p w.state)
assigned_to (Some assignee.Option) d place p w = ok (set_by (setting_of p.value) w)
assigned_to None d place p w = ok w

module _ (d : Device) (place : ℕ) (p : Pair) (w : assign.Work) where
  if_closed : (b : Bool) (c : Closable) → elim b [ true ↦ ok w | false ↦ leaves w (open_change c d place p w) ] ≡ leaves w (closable_change b c d place p w)
  if_closed true c = refl
  if_closed false c = refl

  assigned-by : (k : Key) → assigned k d place p w ≡ assigned_to (assignee_of k) d place p w
  unfolding assigned
  assigned-by SYMLINK = if_closed w.state.closed.links closable.Links
  assigned-by TAG = if_closed w.state.closed.tags closable.Tags
  assigned-by RUN = if_closed w.state.closed.runs closable.Runs
  assigned-by OWNER = if_closed w.state.closed.owner closable.Owner
  assigned-by GROUP = if_closed w.state.closed.group closable.Group
  assigned-by MODE = if_closed w.state.closed.mode closable.Mode
  assigned-by ENV = refl
  assigned-by OPTIONS = refl
  assigned-by PROGRAM = refl
  assigned-by RESULT = refl
  assigned-by ACTION = refl
  assigned-by DEVPATH = refl
  assigned-by KERNEL = refl
  assigned-by KERNELS = refl
  assigned-by SUBSYSTEM = refl
  assigned-by SUBSYSTEMS = refl
  assigned-by DRIVER = refl
  assigned-by DRIVERS = refl
  assigned-by ATTR = refl
  assigned-by ATTRS = refl
  assigned-by LABEL = refl
  assigned-by GOTO = refl

  pub assigned-to : (k : Key) (a r : Option Assignee) → r ≡ assignee_of k → r ≡ a → assigned k d place p w ≡ assigned_to a d place p w
  assigned-to k a r e f = assigned-by k ∙ ap (λ (x : Option Assignee). assigned_to x d place p w) (sym e ∙ f)

-- what a change of the state leaves
module _ (n : ℕ) (t : List ℕ) (s : State) (e : Escape) (c : Checked refusal.Refusal State) (b : Checked refusal.Refusal assign.Work) (i : b ≡ leaves (work_of s e) c) where
  pub change_left : (lay : Layout) → Says n t (Ok lay) c → WorkSays n t (Ok (record { layout = lay; escape = e })) b
  change_left lay (s', f, z) = (s', i ∙ ap (leaves (work_of s e)) f, z)

  pub change_refused : (y : Refusal) → Says n t (Err y) c → WorkSays n t (Err y) b
  change_refused y f = i ∙ ap (leaves (work_of s e)) f
