-- `row_edits::append_run` meets its contract.
use Rattle.std.proofs.Common.{rules}
use Rattle.std.proofs.Common.{arith}
use Prim.Native.Nat.{ℕ, ◌+◌}
use mathlib.Core.Path.{ap, ◌∙◌, subst}
use mathlib.Core.List.{List}
use Rattle.lists.specs.Bytes.{Bytes}
use Rattle.bits.specs.Bits.{put_at}
use Rattle.outcome_target.specs.Layout.{count_place, count_width, moved_by}
use Rattle.row_edits.proofs.Rows.{run-size}
use Rattle.outcome_target.specs.declared.Section.TheVariants.{Runs}
use Rattle.row_edits.proofs.append_run.Goals as goal

pub returns : goal.returns
returns c =
    let x = c.args in
    let a = x in
    let e = c.insert_run.ensures in record {
      between = subst Bytes e
          (λ i. search rules);
      bytes = c.set_count.ensures ∙ ap (λ (y : List ℕ). put_at y (count_place Runs) (count_width Runs) (a.n + 1)) e;
      layout = c.moved.ensures ∙ ap (moved_by a.layout Runs 0) (run-size a.builtin a.place a.template.now);
    }
