-- `glob::byte_or_bar` meets its contract.
use mathlib.Core.Path.{sym}
use lib.ListN.{get_or-eq_default}
use Rattle.lists.proofs.Rest.{get_d_any}
use Rattle.glob.proofs.byte_or_bar.Goals as goal

pub returns-then-i-pattern : goal.returns-then-i-pattern
returns-then-i-pattern c =
    let args = c.args in
    get_d_any args.pattern.now args.i 0 124 c.if-i-pattern.true

pub returns-else-i-pattern : goal.returns-else-i-pattern
returns-else-i-pattern c = sym (get_or-eq_default c.args.pattern.now 124 c.if-i-pattern.false)
