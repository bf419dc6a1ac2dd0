-- `pair_content::assigned_sound` meets its contract.
use Rattle.pair_content.proofs.Pair.{length-empty}
use mathlib.Core.Bool.{not}
use mathlib.Core.Path.{ap}
use Rattle.pair_content.proofs.assigned_sound.Goals as goal

pub returns-in-Action : goal.returns-in-Action
returns-in-Action c = rw c.in-Action.is

pub returns-in-Devpath : goal.returns-in-Devpath
returns-in-Devpath c = rw c.in-Devpath.is

pub returns-in-Kernel : goal.returns-in-Kernel
returns-in-Kernel c = rw c.in-Kernel.is

pub returns-in-Kernels : goal.returns-in-Kernels
returns-in-Kernels c = rw c.in-Kernels.is

pub returns-in-Subsystem : goal.returns-in-Subsystem
returns-in-Subsystem c = rw c.in-Subsystem.is

pub returns-in-Subsystems : goal.returns-in-Subsystems
returns-in-Subsystems c = rw c.in-Subsystems.is

pub returns-in-Driver : goal.returns-in-Driver
returns-in-Driver c = rw c.in-Driver.is

pub returns-in-Drivers : goal.returns-in-Drivers
returns-in-Drivers c = rw c.in-Drivers.is

pub returns-in-Attr : goal.returns-in-Attr
returns-in-Attr c = rw c.in-Attr.is

pub returns-in-Attrs : goal.returns-in-Attrs
returns-in-Attrs c = rw c.in-Attrs.is

pub returns-in-Env : goal.returns-in-Env
returns-in-Env c = rw c.in-Env.is

pub returns-in-Tag : goal.returns-in-Tag
returns-in-Tag c = rw c.in-Tag.is

pub returns-in-Label : goal.returns-in-Label
returns-in-Label c = rw c.in-Label.is (ap not (length-empty c.args.value.now))

pub returns-in-Goto : goal.returns-in-Goto
returns-in-Goto c = rw c.in-Goto.is (ap not (length-empty c.args.value.now))

pub returns-in-Options : goal.returns-in-Options
returns-in-Options c = rw c.in-Options.is c.is_setting.ensures

pub returns-in-Result : goal.returns-in-Result
returns-in-Result c = rw c.in-Result.is
