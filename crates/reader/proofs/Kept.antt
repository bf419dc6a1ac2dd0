-- A table stays as it is where a line with a fault was read behind its rows.
-- Assumes nothing.
use Prim.Native.Nat.{ℕ, ◌+◌, ◌-◌, ◌*◌, ◌/◌, ◌%◌, ◌≤◌, ◌<◌}
use mathlib.Core.Path.{◌≡◌, refl, sym, ap, ◌∙◌}
use mathlib.Core.List.{List}
use native.Mathlib.Omega.{arith}
use lib.ListN.{length}
use Rattle.pattern.specs.Pattern.{is_plain}
use Rattle.rules.specs.Pair.{Pair}
use Rattle.kinds.specs.Numbers.{plain_with}
use Rattle.table.specs.Table.{rules_from, Rows}
use Rattle.table.specs.Puts.{Kept}
use Rattle.table.proofs.Pairs.{row_kept}
use Rattle.reader.specs.declared.Counts.{Counts}
use Rattle.reader.specs.Read.{Filled, Fits, NotedTo}
use Rattle.reader.proofs.Rules.{rules-kept, rule_in_kept}
use Rattle.reader.specs.declared.Place.{Place}

module _ (v r v' r' : List ℕ) (n used : ℕ) (rs : Rows v r n used) (kept : Kept used n v r v' r') where
  pub rows-kept : Rows v' r' n used
  rows-kept = record {
    filled = omega (arith, rs.filled, kept.values_size);
    room = omega (arith, rs.room, kept.rows_size);
    within = λ i h.
        let w = rs.within i h in
        let k = kept.numbers in
        record {
          argument = omega (arith, w.argument, k (i * 4 + 1) (omega arith), k (i * 4 + 2) (omega arith));
          value = omega (arith, w.value, k (i * 4 + 2) (omega arith), k (i * 4 + 3) (omega arith));
          within = omega (arith, w.within, k (i * 4 + 3) (omega arith));
          plain = λ t.
              ap (λ (x : Pair). is_plain x.value) (row_kept v r v' r' n used rs kept i h)
              ∙ w.plain (sym (ap (λ (m : ℕ). plain_with (m / 8 % 2)) (k (i * 4) (omega arith))) ∙ t);
        };
  }

module _ (v r v' r' t l : List ℕ) (c : Counts) (f : Filled v r t l c) (kept : Kept c.used c.rows v r v' r') where
  filled-kept : Filled v' r' t l c
  filled-kept = record {
    few = f.few;
    rules_room = f.rules_room;
    labels_room = f.labels_room;
    rows = rows-kept v r v' r' c.rows c.used f.rows kept;
    rules = rule_in_kept v r v' r' c.rows c.used f.rows kept t l t l c.rules (λ k h. refl) (λ k h. refl) f.rules c.rows (omega arith);
  }

  rules-same : rules_from v' r' t 0 c.rules ≡ rules_from v r t 0 c.rules
  rules-same = rules-kept v r v' r' c.rows c.used f.rows kept t l t l c.rules (λ k h. refl) (λ k h. refl) f.rules

-- what is noted of the lines before
pub noted-kept : (x v r v' r' t l s : List ℕ) (d : Place) → NotedTo x v r t l s d → Kept d.counts.used d.counts.rows v r v' r' → NotedTo x v' r' t l s d
noted-kept x v r v' r' t l s d u kept = record {
  filled = filled-kept v r v' r' t l d.counts u.filled kept;
  room = u.room;
  done = u.done;
  whole = u.whole;
  rules = u.rules ∙ sym (rules-same v r v' r' t l d.counts u.filled kept);
  list = u.list;
  small = u.small;
  half = u.half;
  twice = u.twice;
}

-- and what fits
pub room_kept : (m : ℕ) (v r v' r' : List ℕ) (c : Counts) → Fits m v r c → Kept c.used c.rows v r v' r' → Fits m v' r' c
room_kept m v r v' r' c fits kept = record {
  values = omega (arith, fits.values, kept.values_size);
  small = omega (arith, fits.small, kept.values_size);
  few = omega (arith, fits.few, kept.rows_size);
  rows = omega (arith, fits.rows, kept.rows_size);
}
