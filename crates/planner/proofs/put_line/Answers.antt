-- `planner::put_line` meets its contract.
use mathlib.Core.List.{◌++◌}
use Rattle.rule_writing.proofs.Writes.{writes-from, writes_more, writes_last, part_room, rest_room}
use Rattle.planner.proofs.Lines.{opening, middle, closing, line-parts}
use native.Mathlib.Omega.{arith}
use Rattle.planner.proofs.put_line.Goals as goal

pub put_text-matched-requires : goal.put_text-matched-requires
put_text-matched-requires c =
    let entry = c.args in
    let pre = c.requires in
    let begun = writes-from {l₀ = entry.out.now} {u₀ = entry.used} (line-parts entry.path.now entry.link.now) (omega (arith, pre)) in
    part_room opening (entry.path.now ++ (middle ++ (entry.link.now ++ closing))) begun pre

pub put_text-told-requires : goal.put_text-told-requires
put_text-told-requires c =
    let entry = c.args in
    let pre = c.requires in
    let begun = writes-from {l₀ = entry.out.now} {u₀ = entry.used} (line-parts entry.path.now entry.link.now) (omega (arith, pre)) in
    let matched = writes_more opening (entry.path.now ++ (middle ++ (entry.link.now ++ closing))) begun c.put_text-matched.ensures in
    part_room entry.path.now (middle ++ (entry.link.now ++ closing)) matched pre

pub put_text-assigned-requires : goal.put_text-assigned-requires
put_text-assigned-requires c =
    let entry = c.args in
    let pre = c.requires in
    let begun = writes-from {l₀ = entry.out.now} {u₀ = entry.used} (line-parts entry.path.now entry.link.now) (omega (arith, pre)) in
    let matched = writes_more opening (entry.path.now ++ (middle ++ (entry.link.now ++ closing))) begun c.put_text-matched.ensures in
    let told = writes_more entry.path.now (middle ++ (entry.link.now ++ closing)) matched c.put_text-told.ensures in
    part_room middle (entry.link.now ++ closing) told pre

pub put_text-named-requires : goal.put_text-named-requires
put_text-named-requires c =
    let entry = c.args in
    let pre = c.requires in
    let begun = writes-from {l₀ = entry.out.now} {u₀ = entry.used} (line-parts entry.path.now entry.link.now) (omega (arith, pre)) in
    let matched = writes_more opening (entry.path.now ++ (middle ++ (entry.link.now ++ closing))) begun c.put_text-matched.ensures in
    let told = writes_more entry.path.now (middle ++ (entry.link.now ++ closing)) matched c.put_text-told.ensures in
    let assigned = writes_more middle (entry.link.now ++ closing) told c.put_text-assigned.ensures in
    part_room entry.link.now closing assigned pre

pub put_text-requires : goal.put_text-requires
put_text-requires c =
    let entry = c.args in
    let pre = c.requires in
    let begun = writes-from {l₀ = entry.out.now} {u₀ = entry.used} (line-parts entry.path.now entry.link.now) (omega (arith, pre)) in
    let matched = writes_more opening (entry.path.now ++ (middle ++ (entry.link.now ++ closing))) begun c.put_text-matched.ensures in
    let told = writes_more entry.path.now (middle ++ (entry.link.now ++ closing)) matched c.put_text-told.ensures in
    let assigned = writes_more middle (entry.link.now ++ closing) told c.put_text-assigned.ensures in
    let named = writes_more entry.link.now closing assigned c.put_text-named.ensures in
    rest_room named pre

pub returns : goal.returns
returns c =
    let entry = c.args in
    let pre = c.requires in
    let begun = writes-from {l₀ = entry.out.now} {u₀ = entry.used} (line-parts entry.path.now entry.link.now) (omega (arith, pre)) in
    let matched = writes_more opening (entry.path.now ++ (middle ++ (entry.link.now ++ closing))) begun c.put_text-matched.ensures in
    let told = writes_more entry.path.now (middle ++ (entry.link.now ++ closing)) matched c.put_text-told.ensures in
    let assigned = writes_more middle (entry.link.now ++ closing) told c.put_text-assigned.ensures in
    let named = writes_more entry.link.now closing assigned c.put_text-named.ensures in
    writes_last named c.put_text.ensures
