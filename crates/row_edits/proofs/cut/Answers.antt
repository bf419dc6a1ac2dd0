-- `row_edits::cut` meets its contract.
use Rattle.std.proofs.Common.{rules}
use Prim.Native.Nat.{ℕ}
use mathlib.Core.Path.{ap, ◌∙◌, subst}
use mathlib.Core.List.{List}
use Rattle.lists.specs.Bytes.{Bytes}
use Rattle.bits.specs.Bits.{put_at}
use Rattle.outcome_target.specs.Layout.{count_place, count_width}
use Rattle.outcome_target.proofs.Rows.{start-end}
use native.Mathlib.Omega.{arith}
use Rattle.row_edits.proofs.cut.Goals as goal

pub remove-requires : goal.remove-requires
remove-requires c = let h = (start-end c.args.layout c.args.section c.requires.0).1 in (omega arith, c.requires.2)

pub returns : goal.returns
returns c =
    let entry = c.args in
    let remove = c.remove in
    let slice-known2 = c.type_inv.t in
    let set-count = c.set_count in
    record {
      between = subst Bytes remove.ensures (λ i. search rules);
      bytes = set-count.ensures ∙ ap (λ (y : List ℕ). put_at y (count_place entry.section) (count_width entry.section) entry.n) remove.ensures;
      layout = c.moved.ensures;
    }
