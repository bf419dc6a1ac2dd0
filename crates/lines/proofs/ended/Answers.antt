-- `lines::ended` meets its contract.
use mathlib.Core.Path.{◌≡◌, sym, ◌∙◌}
use mathlib.Core.Bool.{false}
use Rattle.lists.specs.Bytes.{part}
use Rattle.lines.specs.Ends.{ends_slash}
use Rattle.lines.proofs.Walk.{run-within, walk_plain, walk_ends}
use Rattle.lines.proofs.ended.Goals as goal

pub ends_in_slash-requires : goal.ends_in_slash-requires
ends_in_slash-requires c =
    let run = c.requires.1.run in
    (run.from, run-within c.args.text.now c.args.at c.args.end c.requires.0 run)

pub returns-else-ends_in_slash : goal.returns-else-ends_in_slash
returns-else-ends_in_slash c =
    let text = c.args.text.now in
    let (h, clean) = c.requires in
    let plain : ends_slash (part text c.args.at c.args.end) ≡ false = sym c.ends_in_slash.ensures ∙ c.if-ends_in_slash.false in
    let w = walk_plain text c.args.at c.args.end h clean.run plain in
    (clean, (walk_ends text c.args.at c.args.end 0 w, w.count, w.slash-is))
