-- `assign_links::change_link` meets its contract.
use Rattle.assign_links.proofs.Links.{link_ok, link_faulty, link_says}
use Rattle.keys.specs.Table.{operator_of}
use Rattle.assign_links.proofs.change_link.Goals as goal

pub returns-then-not-ok_name : goal.returns-then-not-ok_name
returns-then-not-ok_name c =
    let entry = c.args in
    λ n s h.
    link_faulty entry.name.now c.ok_name.result c.ok_name.ensures (operator_of entry.operator) s
    c.if-not-ok_name.true-raw

pub change_entry-requires : goal.change_entry-requires
change_entry-requires c =
    let pre = c.requires in
    let entry = c.args in
    let ok-name = c.ok_name in
    (pre.0, link_ok entry.name.now ok-name.result ok-name.ensures c.if-not-ok_name.false-raw pre.1)

pub returns : goal.returns
returns c =
    let a = c.args in
    λ n s h.
    rw c.ok_or.ensures.value
    (link_says a.name.now c.ok_name.result c.ok_name.ensures (operator_of a.operator) s c.if-not-ok_name.false-raw n _ c.change_entry.result (c.change_entry.ensures n s h))
