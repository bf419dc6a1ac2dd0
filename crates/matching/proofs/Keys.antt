-- What a pair is judged on is what the definitions judge it on.
-- Assumes nothing.
use Prim.Native.Nat.{ℕ}
use mathlib.Core.Path.{◌≡◌, refl, sym, ap, ◌∙◌}
use mathlib.Core.Bool.{Bool, true, false, true≢false}
use mathlib.Core.List.{List, [], ◌∷◌}
use Rattle.std.specs.Prelude.{Option, None, Some}
use Rattle.rules.specs.Key.{Key, ACTION, DEVPATH, KERNEL, KERNELS, SUBSYSTEM, SUBSYSTEMS, DRIVER, DRIVERS, ATTR, ATTRS, ENV, SYMLINK, TAG, OWNER, GROUP, MODE, RUN, LABEL, GOTO, OPTIONS, PROGRAM, RESULT, Op, equal, unequal, assign, add, remove, final, is_match}
use Rattle.rules.specs.Pair.{Pair}
use Rattle.keys.specs.Table.{key_of, operator_of}
use Rattle.table.specs.Table.{entry_of}
use Rattle.table.specs.declared.Entry.{Entry}
use Rattle.device.specs.Device.{Member, Device, attr_of}
use Rattle.outcome.specs.State.{State}
use Rattle.engine.specs.Match.{value_holds, list_holds, attr_judged, attr_holds, driver_holds, key_holds, pair_holds, is_parent, parent_holds}
use Rattle.match_device.specs.Parts as parts
use Rattle.matching.specs.Subjects.{subject_of, is_parent_subject, is_asked_here, at_event, at_parent, pair_on}
use Rattle.matching.specs.declared.Subject.{Subject}
use Rattle.matching.specs.declared.Subject.TheVariants as subject

-- document 02, Item 4: what is absent
driver-part : (p : Pair) (x : List ℕ) → driver_holds p x ≡ parts.driver_holds p.op p.value x
unfolding driver_holds value_holds
driver-part p [] = refl
driver-part p (b ∷ bs) = refl

attribute-part : (p : Pair) (o : Option (List ℕ)) → attr_judged p o ≡ parts.attribute_holds p.op p.value o
unfolding value_holds
attribute-part p None = refl
attribute-part p (Some a) = refl

key_subject : (k : Key) (d : Device) (s : State) (p : Pair) → key_holds k d s p ≡ pair_on (subject_of k) p d d.event s
unfolding key_holds value_holds list_holds attr_holds
key_subject ACTION d s p = refl
key_subject DEVPATH d s p = refl
key_subject KERNEL d s p = refl
key_subject KERNELS d s p = refl
key_subject SUBSYSTEM d s p = refl
key_subject SUBSYSTEMS d s p = refl
key_subject DRIVER d s p = driver-part p d.event.driver
key_subject DRIVERS d s p = refl
key_subject ATTR d s p = attribute-part p (attr_of p.argument d.event)
key_subject ATTRS d s p = refl
key_subject ENV d s p = refl
key_subject SYMLINK d s p = refl
key_subject TAG d s p = refl
key_subject OWNER d s p = refl
key_subject GROUP d s p = refl
key_subject MODE d s p = refl
key_subject RUN d s p = refl
key_subject LABEL d s p = refl
key_subject GOTO d s p = refl
key_subject OPTIONS d s p = refl
key_subject PROGRAM d s p = refl
key_subject RESULT d s p = refl

by_operator : (o : Op) (k : Key) (d : Device) (s : State) (p : Pair)
    → elim (is_match o) [ true ↦ key_holds k d s p | false ↦ true ] ≡ pair_on (at_event (subject_of k) o) p d d.event s
by_operator equal k d s p = key_subject k d s p
by_operator unequal k d s p = key_subject k d s p
by_operator assign k d s p = refl
by_operator add k d s p = refl
by_operator remove k d s p = refl
by_operator final k d s p = refl

-- at the event device and the outcome
pub pair_subject : (d : Device) (s : State) (p : Pair) → pair_holds d s p ≡ pair_on (at_event (subject_of p.key) p.op) p d d.event s
unfolding pair_holds
pair_subject d s p = by_operator p.op p.key d s p

-- at a device of the chain
pub parent_subject : (k : Key) (d : Device) (m : Member) (s : State) (p : Pair) → parent_holds k m p ≡ pair_on (at_parent (subject_of k)) p d m s
unfolding parent_holds value_holds attr_holds
parent_subject ACTION d m s p = refl
parent_subject DEVPATH d m s p = refl
parent_subject KERNEL d m s p = refl
parent_subject KERNELS d m s p = refl
parent_subject SUBSYSTEM d m s p = refl
parent_subject SUBSYSTEMS d m s p = refl
parent_subject DRIVER d m s p = refl
parent_subject DRIVERS d m s p = driver-part p m.driver
parent_subject ATTR d m s p = refl
parent_subject ATTRS d m s p = attribute-part p (attr_of p.argument m)
parent_subject ENV d m s p = refl
parent_subject SYMLINK d m s p = refl
parent_subject TAG d m s p = refl
parent_subject OWNER d m s p = refl
parent_subject GROUP d m s p = refl
parent_subject MODE d m s p = refl
parent_subject RUN d m s p = refl
parent_subject LABEL d m s p = refl
parent_subject GOTO d m s p = refl
parent_subject OPTIONS d m s p = refl
parent_subject PROGRAM d m s p = refl
parent_subject RESULT d m s p = refl

pub parent_key : (k : Key) → is_parent k ≡ is_parent_subject (subject_of k)
parent_key ACTION = refl
parent_key DEVPATH = refl
parent_key KERNEL = refl
parent_key KERNELS = refl
parent_key SUBSYSTEM = refl
parent_key SUBSYSTEMS = refl
parent_key DRIVER = refl
parent_key DRIVERS = refl
parent_key ATTR = refl
parent_key ATTRS = refl
parent_key ENV = refl
parent_key SYMLINK = refl
parent_key TAG = refl
parent_key OWNER = refl
parent_key GROUP = refl
parent_key MODE = refl
parent_key RUN = refl
parent_key LABEL = refl
parent_key GOTO = refl
parent_key OPTIONS = refl
parent_key PROGRAM = refl
parent_key RESULT = refl

-- what asks nothing at the event device holds there
pub not-asked : (u : Option Subject) → is_asked_here u ≡ false → (p : Pair) (d : Device) (m : Member) (s : State) → pair_on u p d m s ≡ true
not-asked (Some subject.Action) e p d m s = absurd (true≢false e)
not-asked (Some (subject.Device x)) e p d m s = absurd (true≢false e)
not-asked (Some (subject.Parent x)) e p d m s = refl
not-asked (Some subject.Property) e p d m s = absurd (true≢false e)
not-asked (Some (subject.List l)) e p d m s = absurd (true≢false e)
not-asked None e p d m s = refl

-- another key asks nothing of the chain
pub other_key : (k : Key) (m : Member) (p : Pair) → is_parent k ≡ false → parent_holds k m p ≡ true
unfolding parent_holds
other_key ACTION m p e = refl
other_key DEVPATH m p e = refl
other_key KERNEL m p e = refl
other_key KERNELS m p e = absurd (true≢false e)
other_key SUBSYSTEM m p e = refl
other_key SUBSYSTEMS m p e = absurd (true≢false e)
other_key DRIVER m p e = refl
other_key DRIVERS m p e = absurd (true≢false e)
other_key ATTR m p e = refl
other_key ATTRS m p e = absurd (true≢false e)
other_key ENV m p e = refl
other_key SYMLINK m p e = refl
other_key TAG m p e = refl
other_key OWNER m p e = refl
other_key GROUP m p e = refl
other_key MODE m p e = refl
other_key RUN m p e = refl
other_key LABEL m p e = refl
other_key GOTO m p e = refl
other_key OPTIONS m p e = refl
other_key PROGRAM m p e = refl
other_key RESULT m p e = refl

-- ---- as code asks

module _ (line : List ℕ) (r : Entry) (u : Option Subject) (e : u ≡ subject_of (key_of r.key)) where
  pub event_judged : (v : Option Subject) → v ≡ at_event u (operator_of r.operator) → (d : Device) (m : Member) (s : State) → m ≡ d.event
      → (b : Bool) → b ≡ pair_on v (entry_of line r) d m s → pair_holds d s (entry_of line r) ≡ b
  event_judged v f d m s g b h =
      let p : Pair = entry_of line r in
      pair_subject d s p
      ∙ sym
      (h
      ∙ ap (λ (w : Option Subject). pair_on w p d m s) (f ∙ ap (λ (w : Option Subject). at_event w (operator_of r.operator)) e)
      ∙ ap (λ (w : Member). pair_on (at_event (subject_of p.key) p.op) p d w s) g)

  pub parent_judged : (v : Option Subject) → v ≡ at_parent u → (d : Device) (m : Member) (s : State)
      → (b : Bool) → b ≡ pair_on v (entry_of line r) d m s → parent_holds (key_of r.key) m (entry_of line r) ≡ b
  parent_judged v f d m s b h =
      parent_subject (key_of r.key) d m s (entry_of line r)
      ∙ sym (h ∙ ap (λ (w : Option Subject). pair_on w (entry_of line r) d m s) (f ∙ ap at_parent e))

  pub parent_here : (b : Bool) → b ≡ is_parent_subject u → is_parent (key_of r.key) ≡ b
  parent_here b f = parent_key (key_of r.key) ∙ sym (f ∙ ap is_parent_subject e)
