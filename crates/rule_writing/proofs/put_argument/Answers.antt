-- `rule_writing::put_argument` meets its contract.
use mathlib.Core.List.{[], ◌∷◌, ◌++◌}
use mathlib.Core.Path.{ap}
use native.Mathlib.Omega.{arith}
use lib.ListN.{length}
use Rattle.rule_writing.proofs.Parts.{argument_none, argument_some}
use Rattle.rule_writing.proofs.Writes.{writes-from, writes_more, writes_last, part_room, rest_room, placed_as}
use Rattle.insertion.proofs.Laws.{appended_none}
use Rattle.rule_writing.proofs.put_argument.Goals as goal

pub returns-then-argument-eq0 : goal.returns-then-argument-eq0
returns-then-argument-eq0 c =
    let a = c.args in
    placed_as (argument_none a.argument.now c.if-argument-eq0.true) (appended_none a.out.now a.used (omega (arith, c.requires)))

pub put_one-opened-requires : goal.put_one-opened-requires
put_one-opened-requires c =
    let a = c.args in
    omega (arith, c.requires, ap length (argument_some a.argument.now c.if-argument-eq0.false))

pub put_text-filled-requires : goal.put_text-filled-requires
put_text-filled-requires c =
    let a = c.args in
    let is = argument_some a.argument.now c.if-argument-eq0.false in
    let opened = writes_more (123 ∷ []) (a.argument.now ++ (125 ∷ [])) (writes-from is (omega (arith, c.requires))) c.put_one-opened.ensures in
    part_room a.argument.now (125 ∷ []) opened c.requires

pub put_one-requires : goal.put_one-requires
put_one-requires c =
    let a = c.args in
    let is = argument_some a.argument.now c.if-argument-eq0.false in
    let opened = writes_more (123 ∷ []) (a.argument.now ++ (125 ∷ [])) (writes-from is (omega (arith, c.requires))) c.put_one-opened.ensures in
    let filled = writes_more a.argument.now (125 ∷ []) opened c.put_text-filled.ensures in
    rest_room filled c.requires

pub returns : goal.returns
returns c =
    let a = c.args in
    let is = argument_some a.argument.now c.if-argument-eq0.false in
    let opened = writes_more (123 ∷ []) (a.argument.now ++ (125 ∷ [])) (writes-from is (omega (arith, c.requires))) c.put_one-opened.ensures in
    let filled = writes_more a.argument.now (125 ∷ []) opened c.put_text-filled.ensures in
    writes_last filled c.put_one.ensures
