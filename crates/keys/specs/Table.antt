-- What the code's keys, operators and rows stand for in the definitions.
-- Assumes nothing.
use Rattle.std.specs.Prelude.{ℕ, ◌/◌, ◌%◌, List, [], ◌∷◌, eqb, take}
use Rattle.std.specs.Prelude.{Option, None, Some}
use Rattle.lists.specs.Lists.{pick}
use Rattle.rules.specs.Key as rules
use Rattle.keys.specs.declared.Key.{Key}
use Rattle.keys.specs.declared.Key.TheVariants.{Action, Devpath, Kernel, Kernels, Subsystem, Subsystems, Driver, Drivers, Attr, Attrs, Env, Symlink, Tag, Owner, Group, Mode, Run, Label, Goto, Options, Program, Result}
use Rattle.keys.specs.declared.Operator.{Operator}
use Rattle.keys.specs.declared.Operator.TheVariants.{Equal, Unequal, Assign, Add, Remove, Final}
use Rattle.keys.specs.declared.Takes.{Takes}
use Rattle.keys.specs.declared.Takes.TheVariants.{Nothing, One, RunType}
use Rattle.keys.specs.declared.Operators.{Operators}
use Rattle.keys.specs.declared.Row.{Row}

abbrev pub key_of : Key → rules.Key
key_of Action = rules.ACTION
key_of Devpath = rules.DEVPATH
key_of Kernel = rules.KERNEL
key_of Kernels = rules.KERNELS
key_of Subsystem = rules.SUBSYSTEM
key_of Subsystems = rules.SUBSYSTEMS
key_of Driver = rules.DRIVER
key_of Drivers = rules.DRIVERS
key_of Attr = rules.ATTR
key_of Attrs = rules.ATTRS
key_of Env = rules.ENV
key_of Symlink = rules.SYMLINK
key_of Tag = rules.TAG
key_of Owner = rules.OWNER
key_of Group = rules.GROUP
key_of Mode = rules.MODE
key_of Run = rules.RUN
key_of Label = rules.LABEL
key_of Goto = rules.GOTO
key_of Options = rules.OPTIONS
key_of Program = rules.PROGRAM
key_of Result = rules.RESULT

abbrev pub operator_of : Operator → rules.Op
operator_of Equal = rules.equal
operator_of Unequal = rules.unequal
operator_of Assign = rules.assign
operator_of Add = rules.add
operator_of Remove = rules.remove
operator_of Final = rules.final

abbrev pub takes_of : Takes → rules.Takes
takes_of Nothing = rules.takes_none
takes_of One = rules.takes_one
takes_of RunType = rules.takes_type

-- an operator before others, if its bit is set
abbrev pub if_set : ℕ → rules.Op → List rules.Op → List rules.Op
if_set bit o os = pick (eqb bit 1) (o ∷ os) os

-- the operators whose bits are set
unfoldable pub allowed_of : Operators → List rules.Op
allowed_of os =
    let n = os.bits in
    if_set (n % 2) rules.equal
    (if_set (n / 2 % 2) rules.unequal
    (if_set (n / 4 % 2) rules.assign
    (if_set (n / 8 % 2) rules.add
    (if_set (n / 16 % 2) rules.remove
    (if_set (n / 32 % 2) rules.final [])))))

unfoldable pub row_of : Row → rules.Row
row_of r = record { name = take r.len r.name; key = key_of r.key; takes = takes_of r.takes; allowed = allowed_of r.operators }

-- what was found for a name
abbrev pub found_of : Option Row → Option rules.Row
found_of None = None
found_of (Some r) = Some (row_of r)
