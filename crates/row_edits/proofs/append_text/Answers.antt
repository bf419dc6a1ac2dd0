-- `row_edits::append_text` meets its contract.
use Rattle.std.proofs.Common.{rules}
use Prim.Native.Nat.{ℕ, ◌+◌, ◌≤◌}
use mathlib.Core.Path.{sym, ap, ◌∙◌, subst}
use mathlib.Core.List.{List}
use lib.ListN.{length}
use Rattle.lists.specs.Bytes.{Bytes}
use Rattle.bits.specs.Bits.{put_at}
use Rattle.splice.specs.Moves.{inserted}
use Rattle.outcome_target.specs.Layout.{count_place, count_width, moved_by}
use Rattle.lists.proofs.Moves.{ap_at}
use Rattle.entries.specs.Entry.{enc_text}
use Rattle.outcome_target.proofs.Rows.{start-end}
use native.Mathlib.Omega.{arith}
use Rattle.row_edits.proofs.append_text.Goals as goal

pub insert_text-requires : goal.insert_text-requires
insert_text-requires c =
    let a = c.args in
    let pre = c.requires in
    let h = c.end_of-at.ensures in (subst (λ (i : ℕ). i ≤ a.layout.end) (sym h) (start-end a.layout a.section pre.0).1, pre.1, pre.2)

pub returns : goal.returns
returns c =
    let a = c.args in
    let e = c.insert_text.ensures ∙ ap (λ (i : ℕ). inserted a.t.now i a.layout.end
    (enc_text a.x.now)) c.end_of-at.ensures in record {
      between = subst Bytes e
          (λ i. search rules);
      bytes = c.set_count.ensures ∙ ap (λ (y : List ℕ). put_at y
          (count_place a.section) (count_width a.section) (a.n + 1)) e;
      layout = c.moved.ensures ∙ ap_at (moved_by a.layout a.section 0) (1 + length a.x.now)
          (length (enc_text a.x.now)) (omega arith);
    }
