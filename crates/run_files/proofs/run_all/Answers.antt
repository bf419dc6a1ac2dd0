use Prim.Native.Nat.{ℕ, ◌+◌, ◌-◌}
use mathlib.Core.Path.{◌≡◌, sym, ap, ◌∙◌, subst}
use lib.ListN.{get_or}
use Rattle.lists.proofs.Lists.{is-some}
use Rattle.sheet.specs.Sheet.{decode}
use Rattle.std.specs.Prelude.{Ok, Err}
use Rattle.refusals.specs.declared.SetRefusal.{SetRefusal}
use Rattle.file_order.specs.Order.{file_on}
use Rattle.file_order.proofs.Numbers.{kept_at}
use Rattle.run_files.specs.Running.{TextRuns, FilesRun}
use Rattle.run_files.proofs.Turns.{going_first, going_ready, going_next, going_fault, going_end}
use native.Mathlib.Omega.{arith}
use Rattle.run_files.proofs.run_all.Goals as goal

pub loop-k-init : goal.loop-k-init
loop-k-init c =
    let entry = c.args in
    going_first entry.set.now entry.starts.now entry.order.now entry.count entry.dev.now entry.chain entry.sheet.now entry.t.now entry.layout

pub bounds-order-k : goal.bounds-order-k
bounds-order-k c =
    let pre = c.requires in
    let loop-test = c.loop-k-test in
    omega (arith, pre.0.kept.room, loop-test.true)

pub offset_bounds-starts-i : goal.offset_bounds-starts-i
offset_bounds-starts-i c =
    let pre = c.requires in
    let entry = c.args in
    let loop = c.loop-k in
    let loop-test = c.loop-k-test in
    let wide = c.from-i in
    let number = kept_at pre.0.files entry.order.now entry.count loop.k pre.0.kept (omega (arith, loop-test.true)) in
    omega (arith, number, wide.ensures, pre.0.lies.room)

pub bounds-starts-i : goal.bounds-starts-i
bounds-starts-i c =
    let pre = c.requires in
    let entry = c.args in
    let loop = c.loop-k in
    let loop-test = c.loop-k-test in
    let wide = c.from-i in
    let number = kept_at pre.0.files entry.order.now entry.count loop.k pre.0.kept (omega (arith, loop-test.true)) in
    omega (arith, number, wide.ensures, pre.0.lies.room)

pub text_of-text-requires : goal.text_of-text-requires
text_of-text-requires c =
    let pre = c.requires in
    let entry = c.args in
    let loop = c.loop-k in
    let loop-test = c.loop-k-test in
    let wide = c.from-i in
    let number = kept_at pre.0.files entry.order.now entry.count loop.k pre.0.kept (omega (arith, loop-test.true)) in
    pre.0.lies.stand wide.result (omega (arith, number, wide.ensures))

pub run_text-requires : goal.run_text-requires
run_text-requires c =
    let entry = c.args in
    let pre = c.requires in
    let loop = c.loop-k in
    let (a, q) = is-some (decode entry.sheet.now) pre.3 in
    (going_ready entry.set.now entry.starts.now entry.order.now entry.count entry.dev.now entry.chain entry.sheet.now entry.t.now entry.layout pre.0 loop.t loop.layout loop.k loop.visited loop.tried loop.invariant pre.1 pre.2 a q, pre.3)

pub overflow_add-visited : goal.overflow_add-visited
overflow_add-visited c =
    let text_of = c.text_of-text in
    let entry = c.args in
    let loop = c.loop-k in
    let run-text = c.run_text in
    let left = c.in-Ok in
    let loop-test = c.loop-k-test in
    let pre = c.requires in
    let is : TextRuns text_of.result.now entry.dev.now entry.chain entry.sheet.now loop.t loop.layout run-text.new.t (Ok left.ended) = left.ensures in
    omega (arith, is.small.0, loop.invariant.visited, loop-test.true, pre.0.short)

pub overflow_add-tried : goal.overflow_add-tried
overflow_add-tried c =
    let text_of = c.text_of-text in
    let entry = c.args in
    let loop = c.loop-k in
    let run-text = c.run_text in
    let left = c.in-Ok in
    let loop-test = c.loop-k-test in
    let pre = c.requires in
    let is : TextRuns text_of.result.now entry.dev.now entry.chain entry.sheet.now loop.t loop.layout run-text.new.t (Ok left.ended) = left.ensures in
    omega (arith, is.small.1, loop.invariant.tried, loop-test.true, pre.0.short)

pub loop-k-preserved : goal.loop-k-preserved
loop-k-preserved c =
    let text_of = c.text_of-text in
    let entry = c.args in
    let loop = c.loop-k in
    let wide = c.from-i in
    let run-text = c.run_text in
    let left = c.in-Ok in
    let pre = c.requires in
    let loop-test = c.loop-k-test in
    let here : text_of.result.now ≡ (file_on entry.set.now entry.starts.now (get_or entry.order.now loop.k 0)).text = text_of.ensures ∙ ap (λ (i : ℕ). (file_on entry.set.now entry.starts.now i).text) wide.ensures in
    let is : TextRuns text_of.result.now entry.dev.now entry.chain entry.sheet.now loop.t loop.layout run-text.new.t (Ok left.ended) = left.ensures in
    going_next entry.set.now entry.starts.now entry.order.now entry.count entry.dev.now entry.chain entry.sheet.now entry.t.now entry.layout pre.0 loop.t loop.layout loop.k loop.visited loop.tried loop.invariant (omega (arith, loop-test.true)) text_of.result.now here _ _ is

pub of_file-requires : goal.of_file-requires
of_file-requires c =
    let number = kept_at c.requires.0.files c.args.order.now c.args.count c.loop-k.k c.requires.0.kept (omega (arith, c.loop-k-test.true)) in
    omega (arith, number, c.from-i.ensures, c.requires.0.few)

pub shape_of-t-in-Err : goal.shape_of-t-in-Err
shape_of-t-in-Err c = c.run_text.ensures.length ∙ c.loop-k.invariant.length

pub returns-in-Err : goal.returns-in-Err
returns-in-Err c =
    let a = c.args in
    let loop = c.loop-k in
    let text = c.text_of-text in
    let number = kept_at c.requires.0.files a.order.now a.count loop.k c.requires.0.kept (omega (arith, c.loop-k-test.true)) in
    let here : text.result.now ≡ (file_on a.set.now a.starts.now (get_or a.order.now loop.k 0)).text = text.ensures ∙ ap (λ (i : ℕ). (file_on a.set.now a.starts.now i).text) c.from-i.ensures in
    let is : TextRuns text.result.now a.dev.now a.chain a.sheet.now loop.t loop.layout c.run_text.new.t (Err c.in-Err.fault) = c.in-Err.ensures in
    subst (λ (f : SetRefusal). FilesRun a.set.now a.starts.now a.order.now a.count a.dev.now a.chain a.sheet.now a.t.now a.layout c.run_text.new.t (Err f)) (sym c.of_file.ensures)
    record {
      says = λ ls r b q d s z. going_fault a.set.now a.starts.now a.order.now a.count a.dev.now a.chain a.sheet.now a.t.now a.layout c.requires.0 loop.t loop.layout
          loop.k loop.visited loop.tried loop.invariant (omega (arith, c.loop-k-test.true)) text.result.now here _ _ _ (ap (λ (i : ℕ). i + 1) c.from-i.ensures) is ls r b q d s z;
      counted = (omega (arith, number, c.from-i.ensures, c.requires.0.few), is.small);
      length = is.length ∙ loop.invariant.length;
    }

pub shape_of-t : goal.shape_of-t
shape_of-t c =
    let loop = c.loop-k in
    loop.invariant.length

pub returns : goal.returns
returns c =
    let entry = c.args in
    let pre = c.requires in
    let loop = c.loop-k in
    let loop-test = c.loop-k-test in
    record {
      says = going_end entry.set.now entry.starts.now entry.order.now entry.count entry.dev.now entry.chain entry.sheet.now entry.t.now entry.layout pre.0 loop.t loop.layout loop.k loop.visited loop.tried loop.invariant (omega (arith, loop-test.false));
      counted = (omega (arith, loop.invariant.few, loop.invariant.visited, pre.0.short), omega (arith, loop.invariant.few, loop.invariant.tried, pre.0.short));
      length = loop.invariant.length;
    }
