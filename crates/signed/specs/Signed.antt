-- What the code's settings stand for in the definitions.
-- Assumes nothing.
use Rattle.std.specs.Prelude.{Option, None, Some}
use Rattle.rules.specs.Setting as rules
use Rattle.signed.specs.declared.Setting.{Setting}
use Rattle.signed.specs.declared.Setting.TheVariants.{EscapeNone, EscapeReplace, Watch, NoWatch, Priority}

abbrev pub setting_by : Setting → rules.Setting
setting_by EscapeNone = rules.escape_none
setting_by EscapeReplace = rules.escape_replace
setting_by Watch = rules.watched
setting_by NoWatch = rules.unwatched
setting_by (Priority z) = rules.priority z

abbrev pub set_by : Option Setting → Option rules.Setting
set_by None = None
set_by (Some s) = Some (setting_by s)
