-- `glob::next_start` meets its contract.
use mathlib.Core.Bool.{false}
use mathlib.Core.Path.{◌≡◌, sym, ◌∙◌}
use borrow.Author.Tests.{not-true}
use Rattle.pattern.specs.Pattern.{is_special}
use Rattle.glob.proofs.Search.{start_at_lem, start-here}
use Rattle.glob.proofs.next_start.Goals as goal

pub returns-then-is_plain : goal.returns-then-is_plain
returns-then-is_plain c =
    let entry = c.args in
    let pre = c.requires in
    let byte-or-bar-call = c.byte_or_bar-b in
    let is-plain = c.is_plain in
    let args = entry in
    let byte-or-bar = byte-or-bar-call in
    let k : is_special byte-or-bar.result ≡ false =
    not-true (is_special byte-or-bar.result) (sym is-plain.ensures ∙ c.if-is_plain.true) in
    start_at_lem args.pattern.now args.star args.value.now args.from c.run_end.result pre
    (rw byte-or-bar.ensures at c.run_end.ensures) (rw byte-or-bar.ensures at k)

pub returns-else-is_plain : goal.returns-else-is_plain
returns-else-is_plain c =
    let entry = c.args in
    let pre = c.requires in
    let args = entry in
    start-here args.pattern.now args.star args.value.now args.from pre
