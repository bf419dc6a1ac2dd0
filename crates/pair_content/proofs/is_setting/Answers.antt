-- `pair_content::is_setting` meets its contract.
use mathlib.Core.Path.{◌≡◌, refl, ap, ◌∙◌}
use Rattle.std.specs.Prelude.{Option, None, Some}
use Rattle.std.specs.Option.{is_some}
use Rattle.lists.specs.Lists as lists
use Rattle.signed.specs.declared.Setting.{Setting}
use Rattle.signed.specs.Signed.{set_by}
use Rattle.pair_content.proofs.is_setting.Goals as goal

said : (o : Option Setting) → is_some o ≡ lists.is_some (set_by o)
said None = refl
said (Some s) = refl

pub returns : goal.returns
returns c = c.is_some.ensures ∙ said c.setting_of.result ∙ ap lists.is_some c.setting_of.ensures
