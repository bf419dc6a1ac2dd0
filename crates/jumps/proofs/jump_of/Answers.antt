-- `jumps::jump_of` meets its contract.
use Prim.Native.Nat.{◌+◌}
use mathlib.Core.Path.{sym, ap, ◌∙◌}
use native.Mathlib.Omega.{arith}
use borrow.Author.Rules.{rules}
use Rattle.jumps.proofs.Nineteen.{goto_places, goto_some, none_is, some_is}
use Rattle.jumps.proofs.jump_of.Goals as goal

pub returns-in_default : goal.returns-in_default
returns-in_default c =
    let a = c.args in
    λ m used x. (none_is a.values.now a.rows.now a.rules.now a.labels.now m used a.count a.i x c.requires.0 (sym c.in_default.ensures.0), omega arith)

pub value_of-name-requires : goal.value_of-name-requires
value_of-name-requires c =
    let a = c.args in
    let (m, (used, x)) = c.requires.3 in
    goto_places a.values.now a.rows.now a.rules.now a.labels.now m used a.count a.i x c.requires.0 c.in-Some.row c.in-Some.ensures.0

pub find_label-requires : goal.find_label-requires
find_label-requires c =
    let a = c.args in
    let (m, (used, x)) = c.requires.3 in
    (c.hash_of-hash.ensures.0, (a.rules.now, (m, (used, (a.i + 1, (a.count, c.requires.1, x, c.requires.4))))))

pub returns-in-Some-find_label : goal.returns-in-Some-find_label
returns-in-Some-find_label c =
    let a = c.args in
    λ m used x. some_is a.values.now a.rows.now a.rules.now a.labels.now m used a.count a.i x c.requires.0 c.in-Some.row c.in-Some.ensures.0 c.in-Some-find_label.rule
    (rw c.value_of-name.ensures at (c.in-Some-find_label.ensures a.rules.now m used (a.i + 1) a.count x c.requires.4))

pub returns-in-None : goal.returns-in-None
returns-in-None c =
    let a = c.args in
    λ m used x. (
      c.number_at.ensures.0,
      c.number_at.ensures.1,
      (_, goto_some a.values.now a.rows.now a.rules.now a.labels.now m used a.count a.i x c.requires.0 c.in-Some.row c.in-Some.ensures.0, rw c.value_of-name.ensures at (c.in-None.ensures a.rules.now m used (a.i + 1) a.count x c.requires.4)),
    )
