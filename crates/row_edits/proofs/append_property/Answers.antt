-- `row_edits::append_property` meets its contract.
use Rattle.std.proofs.Common.{arith, rules}
use Prim.Native.Nat.{ℕ, ◌+◌}
use mathlib.Core.Path.{ap, ◌∙◌, subst}
use mathlib.Core.List.{List}
use Rattle.lists.specs.Bytes.{Bytes}
use Rattle.bits.specs.Bits.{put_at}
use Rattle.outcome_target.specs.Layout.{count_place, count_width, moved_by}
use Rattle.row_edits.proofs.Rows.{property-size}
use Rattle.outcome_target.specs.declared.Section.TheVariants.{Properties}
use Rattle.row_edits.proofs.append_property.Goals as goal

pub returns : goal.returns
returns c =
    let x = c.args in
    let a = x in
    let e = c.insert_property.ensures in record {
      between = subst Bytes e
          (λ i. search rules);
      bytes = c.set_count.ensures ∙ ap (λ (y : List ℕ). put_at y (count_place Properties) (count_width Properties) (a.n + 1)) e;
      layout = c.moved.ensures ∙ ap (moved_by a.layout Properties 0) (property-size a.key.now a.value.now);
    }
