-- `signed::setting_of` meets its contract.
use mathlib.Core.Path.{sym, ◌∙◌}
use Rattle.rules.specs.Setting.{priority_name, setting_of}
use Rattle.lists.proofs.Places.{starts-length}
use Rattle.lists.specs.Quoted.{bytes}
use Rattle.signed.proofs.setting_of.Goals as goal

pub returns-then-same : goal.returns-then-same
unfolding bytes setting_of
returns-then-same c = rw (← c.same.ensures, c.if-same.true)

pub returns-then-same-2 : goal.returns-then-same-2
unfolding bytes setting_of
returns-then-same-2 c = rw (← c.same.ensures, c.if-same.false, ← c.same-2.ensures, c.if-same-2.true)

pub returns-then-same-3 : goal.returns-then-same-3
unfolding bytes setting_of
returns-then-same-3 c = rw (← c.same.ensures, c.if-same.false, ← c.same-2.ensures, c.if-same-2.false, ← c.same-3.ensures, c.if-same-3.true)

pub returns-then-same-4 : goal.returns-then-same-4
unfolding bytes setting_of
returns-then-same-4 c = rw (← c.same.ensures, c.if-same.false, ← c.same-2.ensures, c.if-same-2.false, ← c.same-3.ensures, c.if-same-3.false, ← c.same-4.ensures, c.if-same-4.true)

pub priority_of-requires : goal.priority_of-requires
unfolding bytes
priority_of-requires c = starts-length priority_name c.args.value.now (sym c.starts_with.ensures ∙ c.if-starts_with.true)

pub returns-then-starts_with : goal.returns-then-starts_with
unfolding bytes setting_of
returns-then-starts_with c = rw (← c.same.ensures, c.if-same.false, ← c.same-2.ensures, c.if-same-2.false, ← c.same-3.ensures, c.if-same-3.false, ← c.same-4.ensures, c.if-same-4.false, ← c.starts_with.ensures, c.if-starts_with.true) c.priority_of.ensures

pub returns : goal.returns
unfolding bytes setting_of
returns c = rw (← c.same.ensures, c.if-same.false, ← c.same-2.ensures, c.if-same-2.false, ← c.same-3.ensures, c.if-same-3.false, ← c.same-4.ensures, c.if-same-4.false, ← c.starts_with.ensures, c.if-starts_with.false)
