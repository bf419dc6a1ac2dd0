-- `glob::member_at` meets its contract.
use mathlib.Core.Path.{sym, ◌∙◌}
use native.Mathlib.Omega.{arith}
use borrow.Author.Tests.{not-true, not-false}
use Rattle.glob.proofs.Members.{range_in, member-alone, member_falling, member-rising}
use Rattle.glob.proofs.Place.{not_bar_in}
use Rattle.glob.proofs.member_at.Goals as goal

pub bounds-pattern-i : goal.bounds-pattern-i
bounds-pattern-i c =
    let args = c.args in
    not_bar_in args.pattern.now args.i c.requires

pub is_range-requires : goal.is_range-requires
is_range-requires c =
    let args = c.args in
    not_bar_in args.pattern.now args.i c.requires

pub overflow_add-result : goal.overflow_add-result
overflow_add-result c =
    let entry = c.args in
    let pre = c.requires in
    let args = entry in
    omega (arith, not_bar_in args.pattern.now args.i pre)

pub returns-then-not-is_range : goal.returns-then-not-is_range
returns-then-not-is_range c =
    let entry = c.args in
    let pre = c.requires in
    let args = entry in
    member-alone args.pattern.now args.i pre (sym c.is_range.ensures ∙ not-true _ c.if-not-is_range.true-raw)

pub overflow_add-high : goal.overflow_add-high
overflow_add-high c =
    let entry = c.args in
    let pre = c.requires in
    let args = entry in
    omega (arith, not_bar_in args.pattern.now args.i pre)

pub bounds-pattern-i-2 : goal.bounds-pattern-i-2
bounds-pattern-i-2 c =
    let entry = c.args in
    let args = entry in
    range_in args.pattern.now args.i (sym c.is_range.ensures ∙ not-false _ c.if-not-is_range.false-raw)

pub returns-then-high-low : goal.returns-then-high-low
returns-then-high-low c =
    let entry = c.args in
    let pre = c.requires in
    let is-range = c.is_range in
    let if1 = c.if-not-is_range in
    let args = entry in
    member_falling args.pattern.now args.i pre (sym is-range.ensures ∙ not-false _ if1.false-raw) c.if-high-low.true

pub overflow_add-result-2 : goal.overflow_add-result-2
overflow_add-result-2 c =
    let entry = c.args in
    let is-range = c.is_range in
    let if1 = c.if-not-is_range in
    let args = entry in
    omega (arith, range_in args.pattern.now args.i (sym is-range.ensures ∙ not-false _ if1.false-raw))

pub returns : goal.returns
returns c =
    let entry = c.args in
    let pre = c.requires in
    let is-range = c.is_range in
    let if1 = c.if-not-is_range in
    let args = entry in
    member-rising args.pattern.now args.i pre (sym is-range.ensures ∙ not-false _ if1.false-raw) c.if-high-low.false
