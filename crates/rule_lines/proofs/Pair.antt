-- A pair of a line that is read and put into the table.
-- Assumes nothing.
use Prim.Native.Nat.{ℕ, zero, suc, ◌+◌, ◌-◌, ◌*◌, ◌≤◌, ◌<◌}
use mathlib.Core.Path.{◌≡◌, refl, sym, ap, ap₂, ◌∙◌}
use mathlib.Core.Bool.{Bool, true, false, not}
use mathlib.Core.List.{List, [], ◌∷◌, ◌++◌}
use Rattle.std.specs.Prelude.{None, Some}
use native.Mathlib.Omega.{arith}
use lib.Dec.{eqb}
use lib.ListN.{length, get_or, drop, length-drop}
use Rattle.lists.specs.Lists.{pick}
use Rattle.lists.specs.Checked.{refused, ok}
use Rattle.lists.specs.Refusal.{pair_extra, comma_missing}
use Rattle.lists.proofs.Moves.{length_part}
use Rattle.lists.specs.Bytes.{part}
use Rattle.rules.specs.Pair as rules
use Rattle.rules.specs.Reading.{again, read_pair, unescape}
use Rattle.keys.specs.Table.{key_of}
use Rattle.refusals.specs.Refusals.{refusal_of}
use Rattle.refusals.specs.declared.Refusal.{Refusal}
use Rattle.pairs.specs.declared.Pair.{Pair}
use Rattle.pairs.specs.Answers.{pair_of, part_of}
use Rattle.pairs.specs.Bounds.{PairIn}
use Rattle.table.specs.Puts.{PairPut}
use Rattle.rule_lines.specs.declared.Fill.{Fill}
use Rattle.rule_lines.specs.Filling.{pairs_on, behind_on, held, Held, Room, noted_once}
use Rattle.rule_lines.specs.Answers.{Grown}
use Rattle.rule_lines.proofs.Cost.{pair_cost}
use Rattle.rule_lines.proofs.Steps.{on_extra, on-refused, on_step, behind_last, behind_other, behind_comma}
use Rattle.rule_lines.proofs.Filling.{NotedIs, noted-again, again-is, held-is, held_more, kept-is, grown_is}

-- ---- refused

module _ (line : List ℕ) (at left : ℕ) (before : List rules.Pair) where
  pub step-refused : (f : Refusal) → refused (refusal_of f) ≡ read_pair (drop at line) → pairs_on left before (drop at line) ≡ refused (refusal_of f)
  step-refused f e = on-refused left before (drop at line) (refusal_of f) (sym e)

  pub step_extra : (p : Pair) → ok (part_of line p) ≡ read_pair (drop at line) → left ≡ 0 → pairs_on left before (drop at line) ≡ refused pair_extra
  step_extra p e z = rw z (on_extra before (drop at line) (part_of line p) (sym e))

-- ---- read

module _ (line : List ℕ) (at : ℕ) (p : Pair) (e : read_pair (drop at line) ≡ ok (part_of line p)) (w : PairIn line p) where
  pub costs : length line - p.next + (p.arg_end - p.arg_start) + p.len + 6 ≤ length line - at
  costs =
      omega (
        arith,
        pair_cost (drop at line) (part_of line p) e,
        length-drop at line,
        length-drop p.next line,
        length_part line p.arg_start p.arg_end w.argument_in,
        w.value.size,
      )

  pub again-here : (left : ℕ) (v r : List ℕ) (from : ℕ) (s : Fill) → 0 < left → Held v r from s → None ≡ noted_once (key_of p.key) s → pairs_on left (held v r from s) (drop at line) ≡ refused pair_extra
  again-here left v r from s h d n = on_step left (held v r from s) (drop at line) (part_of line p) h e ∙ rw (again-is v r from s (key_of p.key) d, noted-again (key_of p.key) s n)

  module _ (s n : Fill) (noted : NotedIs (key_of p.key) s n) where
    pub room_here : (v r : List ℕ) → Room (length line - at + 1) v r s → (n.used + (p.arg_end - p.arg_start) + p.len ≤ length v) × (n.rows * 4 + 4 ≤ length r)
    room_here v r room =
        let c = costs in
        (omega (arith, room.values, noted.used), omega (arith, room.rows, noted.rows))

    module _ (left : ℕ) (v r v' r' : List ℕ) (used' from beyond : ℕ) (some_left : 0 < left) (h : Held v r from s) (room : Room (beyond + (length line - at) + 1) v r s)
        (put : PairPut (pair_of line p) n.rows n.used used' v r v' r') where
      abbrev after : Fill
      after = record { label = n.label; goto = n.goto; rows = n.rows + 1; used = used' }

      rows_room : s.rows * 4 + 4 ≤ length r
      rows_room = let c = costs in omega (arith, room.rows)

      used_is : used' ≡ s.used + (p.arg_end - p.arg_start) + p.len
      used_is = omega (arith, put.grown, noted.used, length_part line p.arg_start p.arg_end w.argument_in, w.value.size)

      more : used' ≤ length v
      more = let c = costs in omega (arith, used_is, room.values)

      took : pairs_on left (held v r from s) (drop at line) ≡ behind_on (left - 1) (held v' r' from after) (drop p.next line)
      took =
          on_step left (held v r from s) (drop at line) (part_of line p) some_left e
          ∙ rw (again-is v r from s (key_of p.key) h, noted.again, held-is v r v' r' from s n (pair_of line p) used' h noted rows_room more put)

      grown : (m : ℕ) → m + 7 ≤ beyond + (length line - at) + 1 → m + (p.arg_end - p.arg_start) + p.len ≤ beyond + (length line - at) + 1
          → Grown from s v r (beyond + (length line - at) + 1) after v' r' m
      grown m a b =
          let k = kept-is v r v' r' from s n (pair_of line p) used' h noted rows_room more put in
          record {
            held = held_more v r v' r' from s n (pair_of line p) used' h noted rows_room more put;
            kept = k;
            used = omega (arith, used_is);
            rows = omega (arith, noted.rows);
            room = record {
              values = omega (arith, used_is, room.values, k.values_size);
              small = omega (arith, room.small, k.values_size);
              few = omega (arith, room.few, k.rows_size);
              rows = omega (arith, room.rows, noted.rows, k.rows_size);
            };
          }

      pub step_last : length line ≤ p.next → (pairs_on left (held v r from s) (drop at line) ≡ ok (held v' r' from after)) × Grown from s v r (beyond + (length line - at) + 1) after v' r' beyond
      step_last l = let c = costs in (took ∙ behind_last line p.next (left - 1) (held v' r' from after) l, grown beyond (omega arith) (omega arith))

      pub step_comma : p.next < length line → (get_or line p.next 0 ≡ 44 → ⊥) → pairs_on left (held v r from s) (drop at line) ≡ refused comma_missing
      step_comma l d = took ∙ behind_other line p.next (left - 1) (held v' r' from after) l d

      pub step-next : p.next < length line → get_or line p.next 0 ≡ 44
          → (pairs_on left (held v r from s) (drop at line) ≡ pairs_on (left - 1) (held v' r' from after) (drop (p.next + 1) line))
          × Grown from s v r (beyond + (length line - at) + 1) after v' r' (beyond + (length line - (p.next + 1)) + 1) × (0 < left) × (at < p.next + 1) × (p.next + 1 ≤ length line)
      step-next l d = let c = costs in (took ∙ behind_comma line p.next (left - 1) (held v' r' from after) l d, grown (beyond + (length line - (p.next + 1)) + 1) (omega arith) (omega arith), some_left, omega arith, omega arith)
