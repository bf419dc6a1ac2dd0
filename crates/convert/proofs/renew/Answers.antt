-- `convert::renew` meets its contract.
use Rattle.std.proofs.Common.{ℕ, ◌+◌, ◌≤◌, ◌≡◌, sym, ap, ◌∙◌, arith, rules, List, length, true, false}
use borrow.Author.Tests.{not-true, not-false}
use lib.ListN.{replicate}
use lib.Seq.{length-take-le}
use Rattle.lists.specs.Bytes.{Bytes}
use Rattle.answers.specs.Answers.{answered}
use Rattle.outcome.specs.Old.{renewed, decode_old}
use Rattle.convert.proofs.Laws.{OldLike, Renewed, old_like_lem, not_old, no_record, renewed-held, faulty_new, sound_new}
use Rattle.convert.proofs.renew.Goals as goal

pub returns-then-not-is_old : goal.returns-then-not-is_old
returns-then-not-is_old c =
    let a = c.args in
    let m = length a.t.now in
    let old = not_old a.chain a.old.now (λ i. (c.type_inv.old i).fits) (sym c.is_old.ensures ∙ not-true _ c.if-not-is_old.true-raw) in
    ap (answered c.refused.result) c.requires.1 ∙ c.refused.ensures m ∙ no_record m (decode_old a.chain a.old.now) old

pub write_newer-requires : goal.write_newer-requires
write_newer-requires c = (sym c.is_old.ensures ∙ not-false _ c.if-not-is_old.false-raw, c.requires.0, c.requires.1)

pub slice_bounds-check-end : goal.slice_bounds-check-end
slice_bounds-check-end c =
    let like = old_like_lem c.args.old.now (sym c.is_old.ensures ∙ not-false _ c.if-not-is_old.false-raw) in
    omega (arith, like.short, c.requires.0, c.write_newer.auto.t)

pub accepted-requires : goal.accepted-requires
accepted-requires c =
    let like = old_like_lem c.args.old.now (sym c.is_old.ensures ∙ not-false _ c.if-not-is_old.false-raw) in
    (omega arith, omega arith, omega (arith, like.short))

pub returns : goal.returns
returns c =
    let a = c.args in
    let m = length a.t.now in
    let t = c.write_newer.new.t in
    let like = old_like_lem a.old.now (sym c.is_old.ensures ∙ not-false _ c.if-not-is_old.false-raw) in
    let read = renewed-held a.chain a.old.now m t like c.write_newer.ensures in
    let bytes : Bytes t = λ i. search rules in
    ap (answered c.accepted.result) read.bytes
    ∙ c.accepted.ensures m (renewed a.old.now) read.size
    ∙ sound_new a.chain a.old.now m t read bytes c.in-Some.field-0 (sym c.in-Some.is ∙ c.check.ensures)

pub shape_of-t-in_default : goal.shape_of-t-in_default
shape_of-t-in_default c = c.clear.auto.t ∙ c.write_newer.auto.t

pub returns-in_default : goal.returns-in_default
returns-in_default c =
    let a = c.args in
    let m = length a.t.now in
    let t = c.write_newer.new.t in
    let like = old_like_lem a.old.now (sym c.is_old.ensures ∙ not-false _ c.if-not-is_old.false-raw) in
    let read = renewed-held a.chain a.old.now m t like c.write_newer.ensures in
    ap (answered c.refused-in_default.result) (c.clear.ensures ∙ ap (λ (n : ℕ). replicate n 0) c.write_newer.auto.t)
    ∙ c.refused-in_default.ensures m
    ∙ no_record m (decode_old a.chain a.old.now) (faulty_new a.chain a.old.now m t read (sym c.in_default.is ∙ c.check.ensures))
