use Prim.Native.Nat.{ℕ, ◌+◌, ◌-◌}
use mathlib.Core.Path.{◌≡◌, sym, ap, ◌∙◌, subst}
use lib.ListN.{get_or}
use Rattle.text.specs.Reading.{read_text}
use Rattle.rules.specs.Reading.{reader}
use Rattle.file_order.specs.Order.{file_on}
use Rattle.file_order.proofs.Numbers.{kept_at}
use Rattle.std.specs.Prelude.{Ok, Err}
use Rattle.refusals.specs.declared.SetRefusal.{SetRefusal}
use Rattle.run_files.specs.Running.{TextIsJudged, FilesAreRead}
use Rattle.run_files.proofs.Loading.{reading_first, reading_next, reading_fault, reading_all}
use native.Mathlib.Omega.{arith}
use Rattle.run_files.proofs.read_files.Goals as goal

pub loop-k-init : goal.loop-k-init
loop-k-init c =
    let entry = c.args in
    reading_first entry.set.now entry.starts.now entry.order.now entry.count

pub bounds-order-k : goal.bounds-order-k
bounds-order-k c =
    let pre = c.requires in
    let loop-test = c.loop-k-test in
    omega (arith, pre.kept.room, loop-test.true)

pub offset_bounds-starts-i : goal.offset_bounds-starts-i
offset_bounds-starts-i c =
    let pre = c.requires in
    let entry = c.args in
    let loop = c.loop-k in
    let loop-test = c.loop-k-test in
    let wide = c.from-i in
    let number = kept_at pre.files entry.order.now entry.count loop.k pre.kept (omega (arith, loop-test.true)) in
    omega (arith, number, wide.ensures, pre.lies.room)

pub bounds-starts-i : goal.bounds-starts-i
bounds-starts-i c =
    let pre = c.requires in
    let entry = c.args in
    let loop = c.loop-k in
    let loop-test = c.loop-k-test in
    let wide = c.from-i in
    let number = kept_at pre.files entry.order.now entry.count loop.k pre.kept (omega (arith, loop-test.true)) in
    omega (arith, number, wide.ensures, pre.lies.room)

pub text_of-requires : goal.text_of-requires
text_of-requires c =
    let pre = c.requires in
    let entry = c.args in
    let loop = c.loop-k in
    let loop-test = c.loop-k-test in
    let wide = c.from-i in
    let number = kept_at pre.files entry.order.now entry.count loop.k pre.kept (omega (arith, loop-test.true)) in
    pre.lies.stand wide.result (omega (arith, number, wide.ensures))

pub of_file-requires : goal.of_file-requires
of_file-requires c =
    let number = kept_at c.requires.files c.args.order.now c.args.count c.loop-k.k c.requires.kept (omega (arith, c.loop-k-test.true)) in
    omega (arith, number, c.from-i.ensures, c.requires.few)

pub returns-in-Err : goal.returns-in-Err
returns-in-Err c =
    let a = c.args in
    let fault = c.in-Err.fault in
    let here : c.text_of.result.now ≡ (file_on a.set.now a.starts.now (get_or a.order.now c.loop-k.k 0)).text = c.text_of.ensures ∙ ap (λ (i : ℕ). (file_on a.set.now a.starts.now i).text) c.from-i.ensures in
    let is : TextIsJudged c.text_of.result.now (Err c.in-Err.fault) = c.in-Err.ensures in
    subst (λ (f : SetRefusal). FilesAreRead a.set.now a.starts.now a.order.now a.count (Err f)) (sym c.of_file.ensures)
    (reading_fault a.set.now a.starts.now a.order.now a.count c.requires c.loop-k.k c.loop-k.invariant (omega (arith, c.loop-k-test.true)) _ _ _ (ap (λ (i : ℕ). i + 1) c.from-i.ensures) is.0 (ap (read_text reader) (sym here) ∙ is.1))

pub loop-k-preserved : goal.loop-k-preserved
loop-k-preserved c =
    let text_of = c.text_of in
    let entry = c.args in
    let loop = c.loop-k in
    let wide = c.from-i in
    let enum_told = c.in_default in
    let pre = c.requires in
    let loop-test = c.loop-k-test in
    let here : text_of.result.now ≡ (file_on entry.set.now entry.starts.now (get_or entry.order.now loop.k 0)).text = text_of.ensures ∙ ap (λ (i : ℕ). (file_on entry.set.now entry.starts.now i).text) wide.ensures in
    let is : TextIsJudged text_of.result.now (Ok tt) = enum_told.ensures in
    reading_next entry.set.now entry.starts.now entry.order.now entry.count pre loop.k loop.invariant (omega (arith, loop-test.true)) is.0 (ap (read_text reader) (sym here) ∙ is.1)

pub returns : goal.returns
returns c =
    let entry = c.args in
    let pre = c.requires in
    let loop = c.loop-k in
    let loop-test = c.loop-k-test in
    reading_all entry.set.now entry.starts.now entry.order.now entry.count pre loop.k loop.invariant (omega (arith, loop-test.false))
