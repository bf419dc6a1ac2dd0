-- `rule_writing::put_value` meets its contract.
use mathlib.Core.List.{[], ◌∷◌, ◌++◌}
use mathlib.Core.Path.{sym, ap, ◌∙◌}
use native.Mathlib.Omega.{arith}
use lib.ListN.{length}
use Rattle.lists.specs.Lists.{cat}
use Rattle.writing.specs.Writing.{value_text, plain_byte, code_byte}
use Rattle.rule_writing.proofs.Writes.{Writes, writes-from, writes_more, writes_last, part_room, rest_room}
use Rattle.rule_writing.proofs.Parts.{value_coded, value_plain}
use Rattle.rule_writing.proofs.put_value.Goals.{After-put_code-filled, After-put_one-opened, After-put_plain-filled, After-put_two-opened}
use Rattle.rule_writing.proofs.put_value.Goals as goal

code-opened : (c : After-put_two-opened) → let a = c.args in
    Writes (value_text a.value.now) a.out.now a.used (cat code_byte a.value.now ++ (34 ∷ [])) c.put_two-opened.new.out c.put_two-opened.result
code-opened c = writes_more _ _ (writes-from (value_coded _ (sym c.if-needs_code.true ∙ c.needs_code.ensures)) (omega (arith, c.requires))) c.put_two-opened.ensures

code-filled : (c : After-put_code-filled) → let a = c.args in
    Writes (value_text a.value.now) a.out.now a.used (34 ∷ []) c.put_code-filled.new.out c.put_code-filled.result
code-filled c =
    let code-opened : let a = c.args in Writes (value_text a.value.now) a.out.now a.used (cat code_byte a.value.now ++ (34 ∷ [])) c.put_two-opened.new.out c.put_two-opened.result = writes_more _ _ (writes-from (value_coded _ (sym c.if-needs_code.true ∙ c.needs_code.ensures)) (omega (arith, c.requires))) c.put_two-opened.ensures in
    writes_more _ _ (code-opened) c.put_code-filled.ensures

plain-opened : (c : After-put_one-opened) → let a = c.args in
    Writes (value_text a.value.now) a.out.now a.used (cat plain_byte a.value.now ++ (34 ∷ [])) c.put_one-opened.new.out c.put_one-opened.result
plain-opened c = writes_more _ _ (writes-from (value_plain _ (sym c.if-needs_code.false ∙ c.needs_code.ensures)) (omega (arith, c.requires))) c.put_one-opened.ensures

plain-filled : (c : After-put_plain-filled) → let a = c.args in
    Writes (value_text a.value.now) a.out.now a.used (34 ∷ []) c.put_plain-filled.new.out c.put_plain-filled.result
plain-filled c =
    let plain-opened : let a = c.args in Writes (value_text a.value.now) a.out.now a.used (cat plain_byte a.value.now ++ (34 ∷ [])) c.put_one-opened.new.out c.put_one-opened.result = writes_more _ _ (writes-from (value_plain _ (sym c.if-needs_code.false ∙ c.needs_code.ensures)) (omega (arith, c.requires))) c.put_one-opened.ensures in
    writes_more _ _ (plain-opened) c.put_plain-filled.ensures

pub put_two-opened-requires : goal.put_two-opened-requires
put_two-opened-requires c =
    let a = c.args in
    let is = value_coded a.value.now (sym c.if-needs_code.true ∙ c.needs_code.ensures) in
    omega (arith, c.requires, ap length is)

pub put_code-filled-requires : goal.put_code-filled-requires
put_code-filled-requires c = part_room (cat code_byte c.args.value.now) (34 ∷ []) (code-opened (goal.at.put_code-filled-requires c).After-put_two-opened) c.requires

pub put_one-requires : goal.put_one-requires
put_one-requires c = rest_room (code-filled (goal.at.put_one-requires c).After-put_code-filled) c.requires

pub returns-then-needs_code : goal.returns-then-needs_code
returns-then-needs_code c = writes_last (code-filled (goal.at.returns-then-needs_code c).After-put_code-filled) c.put_one.ensures

pub put_one-opened-requires : goal.put_one-opened-requires
put_one-opened-requires c =
    let a = c.args in
    let is = value_plain a.value.now (sym c.if-needs_code.false ∙ c.needs_code.ensures) in
    omega (arith, c.requires, ap length is)

pub put_plain-filled-requires : goal.put_plain-filled-requires
put_plain-filled-requires c = part_room (cat plain_byte c.args.value.now) (34 ∷ []) (plain-opened (goal.at.put_plain-filled-requires c).After-put_one-opened) c.requires

pub put_one-requires-2 : goal.put_one-requires-2
put_one-requires-2 c = rest_room (plain-filled (goal.at.put_one-requires-2 c).After-put_plain-filled) c.requires

pub returns : goal.returns
returns c = writes_last (plain-filled (goal.at.returns c).After-put_plain-filled) c.put_one-2.ensures
