-- What a pair is judged on, by its key and operator, and when it holds there.
-- Assumes nothing.
use Rattle.std.specs.Prelude.{ℕ, Bool, true, false, List}
use Rattle.std.specs.Prelude.{Option, None, Some}
use Rattle.entries.specs.Entry.{lookup, or_empty}
use Rattle.pattern.specs.Pattern.{matches}
use Rattle.rules.specs.Key.{Key, ACTION, DEVPATH, KERNEL, KERNELS, SUBSYSTEM, SUBSYSTEMS, DRIVER, DRIVERS, ATTR, ATTRS, ENV, SYMLINK, TAG, OWNER, GROUP, MODE, RUN, LABEL, GOTO, OPTIONS, PROGRAM, RESULT, Op, equal, unequal, assign, add, remove, final}
use Rattle.rules.specs.Pair.{Pair}
use Rattle.device.specs.Device.{Member, Device, action_of}
use Rattle.outcome.specs.State.{State}
use Rattle.engine.specs.Match.{judged, some_matches}
use Rattle.outcome_target.specs.Texts.{texts_in}
use Rattle.outcome_target.specs.declared.Texts.TheVariants.{Links, Tags}
use Rattle.match_device.specs.Parts.{part_holds}
use Rattle.match_device.specs.declared.Part.TheVariants as part
use Rattle.matching.specs.declared.Subject.{Subject}
use Rattle.matching.specs.declared.Subject.TheVariants as subject

abbrev pub subject_of : Key → Option Subject
subject_of ACTION = Some subject.Action
subject_of DEVPATH = Some (subject.Device part.Path)
subject_of KERNEL = Some (subject.Device part.Name)
subject_of KERNELS = Some (subject.Parent part.Name)
subject_of SUBSYSTEM = Some (subject.Device part.Subsystem)
subject_of SUBSYSTEMS = Some (subject.Parent part.Subsystem)
subject_of DRIVER = Some (subject.Device part.Driver)
subject_of DRIVERS = Some (subject.Parent part.Driver)
subject_of ATTR = Some (subject.Device part.Attribute)
subject_of ATTRS = Some (subject.Parent part.Attribute)
subject_of ENV = Some subject.Property
subject_of SYMLINK = Some (subject.List Links)
subject_of TAG = Some (subject.List Tags)
subject_of OWNER = None
subject_of GROUP = None
subject_of MODE = None
subject_of RUN = None
subject_of LABEL = None
subject_of GOTO = None
subject_of OPTIONS = None
subject_of PROGRAM = None
subject_of RESULT = None

abbrev pub is_parent_subject : Option Subject → Bool
is_parent_subject (Some subject.Action) = false
is_parent_subject (Some (subject.Device p)) = false
is_parent_subject (Some (subject.Parent p)) = true
is_parent_subject (Some subject.Property) = false
is_parent_subject (Some (subject.List l)) = false
is_parent_subject None = false

-- something is asked of the event device or of the outcome
abbrev pub is_asked_here : Option Subject → Bool
is_asked_here (Some subject.Action) = true
is_asked_here (Some (subject.Device p)) = true
is_asked_here (Some (subject.Parent p)) = false
is_asked_here (Some subject.Property) = true
is_asked_here (Some (subject.List l)) = true
is_asked_here None = false

-- at the event device an operator that assigns asks nothing
abbrev pub at_event : Option Subject → Op → Option Subject
at_event u equal = u
at_event u unequal = u
at_event u assign = None
at_event u add = None
at_event u remove = None
at_event u final = None

-- at a device of the chain only parent keys ask something
abbrev pub at_parent : Option Subject → Option Subject
at_parent (Some subject.Action) = None
at_parent (Some (subject.Device p)) = None
at_parent (Some (subject.Parent p)) = Some (subject.Device p)
at_parent (Some subject.Property) = None
at_parent (Some (subject.List l)) = None
at_parent None = None

-- the operator, the argument and the match value of a pair; the record's device, the device at hand, the state
abbrev pub subject_holds : Option Subject → Op → List ℕ → List ℕ → Device → Member → State → Bool
subject_holds (Some subject.Action) op argument value d m s = judged op (matches value (action_of d))
subject_holds (Some (subject.Device p)) op argument value d m s = part_holds p op argument value m
subject_holds (Some (subject.Parent p)) op argument value d m s = true
subject_holds (Some subject.Property) op argument value d m s = judged op (matches value (or_empty (lookup argument s.properties)))
subject_holds (Some (subject.List l)) op argument value d m s = judged op (some_matches value (texts_in l s))
subject_holds None op argument value d m s = true

abbrev pub pair_on : Option Subject → Pair → Device → Member → State → Bool
pair_on u p d m s = subject_holds u p.op p.argument p.value d m s
