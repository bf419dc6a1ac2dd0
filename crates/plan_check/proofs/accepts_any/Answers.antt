-- `plan_check::accepts_any` meets its contract.
use borrow.Author.Rules.{rules}
use Rattle.plan_check.proofs.accepts_any.Goals as goal

pub accepts_lent-requires : goal.accepts_lent-requires
accepts_lent-requires c =
    let pre = c.requires in
    (pre.0, pre.1, search rules, search rules, search rules, search rules)
