-- The pairs of a table: step by step, one more, and those that stay.
-- Assumes nothing.
use Prim.Native.Nat.{ℕ, zero, suc, ◌+◌, ◌-◌, ◌*◌, ◌/◌, ◌%◌, ◌≤◌, ◌<◌}
use mathlib.Core.Path.{◌≡◌, refl, sym, ap, ap₂, ◌∙◌}
use mathlib.Core.Bool.{Bool, true, false}
use mathlib.Core.List.{List, [], ◌∷◌, ◌++◌, append_assoc, append-nil}
use native.Mathlib.Omega.{arith}
use borrow.Author.Tests.{ltb-true, ltb-false}
use lib.Dec.{ltb}
use lib.ListN.{length, get_or, take, drop, length-append, length-drop, take-append-drop, drop_of_length-le}
use lib.Seq.{take_at, take-take, length-take-le}
use Rattle.lists.proofs.Moves.{ap_at, part-front, part_at}
use Rattle.rules.specs.Key.{Key, Op, key_number, op_number}
use Rattle.rules.specs.Pair.{Pair}
use borrow.Rule.Slice.PartMut.{put_mid}
use Rattle.lists.specs.Bytes.{part}
use Rattle.pairs.specs.Bounds.{Put}
use Rattle.splice.specs.Moves.{stored}
use Rattle.splice.proofs.Laws.{length-stored}
use Rattle.table.specs.Table.{pair_with, pair_at, entry_of, plain_at, pairs_from, RowIn, Rows, Got, Segment, EntryIn}
use Rattle.table.specs.declared.Entry.{Entry}
use Rattle.table.specs.Puts.{Four, Added, Kept, PairPut}
use Rattle.kinds.specs.Numbers.{key_with, op_with, plain_with, kind_with}
use Rattle.kinds.proofs.Numbers.{kind_key, kind_op, kind_plain}
use Rattle.pattern.specs.Pattern.{is_plain}
use Rattle.glob.specs.Plain.{PlainIf}

-- ---- bytes

-- what stands before a place does not depend on what follows
pub part_same : (v v' : List ℕ) (a b used : ℕ) → a ≤ b → b ≤ used → used ≤ length v → used ≤ length v' → take used v' ≡ take used v → part v' a b ≡ part v a b
part_same v v' a b used h k l l' e =
    let w : a + (b - a) ≤ length (take used v) = omega (arith, length-take-le used v l) in
    let w' : a + (b - a) ≤ length (take used v') = omega (arith, length-take-le used v' l') in
    ap (λ (x : List ℕ). part x a b) (sym (take-append-drop used v'))
    ∙ part-front (take used v') (drop used v') a (b - a) w'
    ∙ ap (λ (x : List ℕ). part x a b) e
    ∙ sym (part-front (take used v) (drop used v) a (b - a) w)
    ∙ ap (λ (x : List ℕ). part x a b) (take-append-drop used v)

-- as bytes are stored
pub added_take : (text : List ℕ) (used : ℕ) (v : List ℕ) → used + length text ≤ length v → take (used + length text) (stored v used text) ≡ take used v ++ text
added_take text used v h =
    let n : length (take used v ++ text) ≡ used + length text = omega (arith, length-append (take used v) text, length-take-le used v (omega arith)) in
    ap (take (used + length text)) (sym (append_assoc (take used v) text (drop (used + length text) v))) ∙ take_at (take used v ++ text) (drop (used + length text) v) (used + length text) n

pub added_stored : (text : List ℕ) (used : ℕ) (v v' : List ℕ) → used + length text ≤ length v → v' ≡ stored v used text → Added text used v v'
added_stored text used v v' h e = record { is = ap (take (used + length text)) e ∙ added_take text used v h; size = ap length e ∙ length-stored v used text h }

-- as a part of a slice gets them
behind-take : (text : List ℕ) (used : ℕ) (v out : List ℕ) → used ≤ length v → take (length text) out ≡ text → length text ≤ length out
    → take (used + length text) (take used v ++ out) ≡ take used v ++ text
behind-take text used v out h e l =
    let n : length (take used v) ≡ used = length-take-le used v h in
    let q : out ≡ text ++ drop (length text) out = sym (take-append-drop (length text) out) ∙ ap (λ (x : List ℕ). x ++ drop (length text) out) e in
    let m : length (take used v ++ text) ≡ used + length text = omega (arith, length-append (take used v) text) in
    ap (λ (x : List ℕ). take (used + length text) (take used v ++ x)) q
    ∙ ap (take (used + length text)) (sym (append_assoc (take used v) text (drop (length text) out)))
    ∙ take_at (take used v ++ text) (drop (length text) out) (used + length text) m

pub added_behind : (text : List ℕ) (used k : ℕ) (v out : List ℕ) → used + length text ≤ length v → Put text out k → length out ≡ length v - used → Added text used v (put_mid used (length v - used) v out)
added_behind text used k v out h p l =
    let e : put_mid used (length v - used) v out ≡ take used v ++ out =
    ap (λ (x : List ℕ). take used v ++ (out ++ x)) (drop_of_length-le (drop used v) {i = length v - used} (omega (arith, length-drop used v))) ∙ ap (λ (x : List ℕ). take used v ++ x) (append-nil out) in
    record {
      is = ap (take (used + length text)) e ∙ behind-take text used v out (omega arith) (ap (λ (n : ℕ). take n out) (sym p.size) ∙ p.is) (omega arith);
      size = ap length e ∙ length-append (take used v) out ∙ omega (arith, length-take-le used v (omega arith));
    }

module _ (text : List ℕ) (used : ℕ) (v v' : List ℕ) (room : used + length text ≤ length v) (ad : Added text used v v') where
  added_whole : v' ≡ take used v ++ (text ++ drop (used + length text) v')
  added_whole =
      sym (take-append-drop (used + length text) v') ∙ ap (λ (x : List ℕ). x ++ drop (used + length text) v') ad.is
      ∙ append_assoc (take used v) text (drop (used + length text) v')

  pub added_kept : take used v' ≡ take used v
  added_kept = ap (take used) added_whole ∙ take_at (take used v) (text ++ drop (used + length text) v') used (length-take-le used v (omega arith))

  pub added_part : part v' used (used + length text) ≡ text
  added_part =
      ap (λ (x : List ℕ). part x used (used + length text)) added_whole
      ∙ part_at (take used v) text (drop (used + length text) v') used (used + length text) (length-take-le used v (omega arith)) refl

-- ---- step by step

module _ (v r : List ℕ) where
  pub pairs-step : (i n : ℕ) → i < n → pairs_from v r i (n - i) ≡ pair_at v r i ∷ pairs_from v r (i + 1) (n - (i + 1))
  unfolding pairs_from
  pairs-step i n h =
      let e : n - i ≡ suc (n - suc i) = omega arith in
      ap (pairs_from v r i) e ∙ ap_at (λ k. pair_at v r i ∷ pairs_from v r k (n - k)) (suc i) (i + 1) (omega arith)

  pub pairs_end : (i n : ℕ) → n ≤ i → pairs_from v r i (n - i) ≡ []
  unfolding pairs_from
  pairs_end i n h = let e : n - i ≡ 0 = omega arith in rw e

  snoc : (i k : ℕ) → pairs_from v r i (suc k) ≡ pairs_from v r i k ++ (pair_at v r (i + k) ∷ [])
  unfolding pairs_from
  snoc i zero = ap_at (λ n. pair_at v r n ∷ []) i (i + 0) (omega arith)
  snoc i (suc k) =
      ap (λ (x : List Pair). pair_at v r i ∷ x)
      (snoc (suc i) k ∙ ap_at (λ n. pairs_from v r (suc i) k ++ (pair_at v r n ∷ [])) (suc i + k) (i + suc k) (omega arith))

  pub pairs_snoc : (i n : ℕ) → i ≤ n → pairs_from v r i (n + 1 - i) ≡ pairs_from v r i (n - i) ++ (pair_at v r n ∷ [])
  pairs_snoc i n h =
      ap_at (λ k. pairs_from v r i k) (n + 1 - i) (suc (n - i)) (omega arith) ∙ snoc i (n - i)
      ∙ ap_at (λ k. pairs_from v r i (n - i) ++ (pair_at v r k ∷ [])) (i + (n - i)) n (omega arith)

-- ---- what stays

module _ (v r v' r' : List ℕ) (n used : ℕ) (rs : Rows v r n used) (kept : Kept used n v r v' r') where
  pub row_kept : (i : ℕ) → i < n → pair_at v' r' i ≡ pair_at v r i
  row_kept i h =
      let w = rs.within i h in
      let l' : used ≤ length v' = omega (arith, kept.values_size, rs.filled) in
      rw (
        kept.numbers (i * 4) (omega arith),
        kept.numbers (i * 4 + 1) (omega arith),
        kept.numbers (i * 4 + 2) (omega arith),
        kept.numbers (i * 4 + 3) (omega arith),
        part_same v v' (get_or r (i * 4 + 1) 0) (get_or r (i * 4 + 2) 0) used w.argument (omega (arith, w.value, w.within)) rs.filled l' kept.bytes,
        part_same v v' (get_or r (i * 4 + 2) 0) (get_or r (i * 4 + 3) 0) used w.value w.within rs.filled l' kept.bytes,
      )

  kept_from : (i k : ℕ) → i + k ≤ n → pairs_from v' r' i k ≡ pairs_from v r i k
  unfolding pairs_from
  kept_from i zero h = refl
  kept_from i (suc k) h = ap₂ (λ (x : Pair) (y : List Pair). x ∷ y) (row_kept i (omega arith)) (kept_from (suc i) k (omega arith))

  pub pairs-kept : (i to : ℕ) → to ≤ n → pairs_from v' r' i (to - i) ≡ pairs_from v r i (to - i)
  pairs-kept i to h = go (ltb i to) refl
    where
      go : (b : Bool) → ltb i to ≡ b → pairs_from v' r' i (to - i) ≡ pairs_from v r i (to - i)
      go true e = kept_from i (to - i) (omega (arith, ltb-true i to e))
      go false e = pairs_end v' r' i to (omega (arith, ltb-false i to e)) ∙ sym (pairs_end v r i to (omega (arith, ltb-false i to e)))

-- ---- one more

module _ (p : Pair) (v r v' r' : List ℕ) (n used used' : ℕ) (rs : Rows v r n used) (room : n * 4 + 4 ≤ length r) (more : used' ≤ length v) (put : PairPut p n used used' v r v' r') where
  pub rows_more : Rows v' r' (n + 1) used'
  rows_more = record {
    filled = omega (arith, put.kept.values_size);
    room = omega (arith, put.kept.rows_size);
    within = λ i h. go i h (ltb i n) refl;
  }
    where
      go : (i : ℕ) → i < n + 1 → (b : Bool) → ltb i n ≡ b → RowIn v' r' i used'
      go i h true e =
          let l = ltb-true i n e in
          let w = rs.within i l in
          let k = put.kept.numbers in
          record {
            argument = omega (arith, w.argument, k (i * 4 + 1) (omega arith), k (i * 4 + 2) (omega arith));
            value = omega (arith, w.value, k (i * 4 + 2) (omega arith), k (i * 4 + 3) (omega arith));
            within = omega (arith, w.within, k (i * 4 + 3) (omega arith), put.grown);
            plain = λ t.
                ap (λ (x : Pair). is_plain x.value) (row_kept v r v' r' n used rs put.kept i l)
                ∙ w.plain (sym (ap (λ (m : ℕ). plain_with (m / 8 % 2)) (k (i * 4) (omega arith))) ∙ t);
          }
      go i h false e = let q : i ≡ n = omega (arith, ltb-false i n e) in rw q put.row

  pub pairs-more : (i : ℕ) → i ≤ n → pairs_from v' r' i (n + 1 - i) ≡ pairs_from v r i (n - i) ++ (p ∷ [])
  pairs-more i h =
      pairs_snoc v' r' i n h ∙ ap₂ (λ (x : List Pair) (y : Pair). x ++ (y ∷ [])) (pairs-kept v r v' r' n used rs put.kept i n (omega arith)) put.is

-- ---- as code gets and puts a row

module _ (argument value : List ℕ) (k : Key) (o : Op) (plain : Bool) (marked : PlainIf plain value) (v v₁ v₂ r r₁ : List ℕ) (n used middle end : ℕ) (m : middle ≡ used + length argument) (e : end ≡ middle + length value)
    (room : end ≤ length v) (first : Added argument used v v₁) (second : Added value middle v₁ v₂)
    (four : Four (n * 4) (kind_with k o plain) used middle end r r₁) where
  size₁ : length v₁ ≡ length v
  size₁ = first.size

  kept₂ : take middle v₂ ≡ take middle v₁
  kept₂ = added_kept value middle v₁ v₂ (omega (arith, size₁)) second

  value_is : part v₂ middle end ≡ value
  value_is = ap (part v₂ middle) e ∙ added_part value middle v₁ v₂ (omega (arith, size₁)) second

  pub pair_put : PairPut (record { key = k; argument = argument; op = o; value = value }) n used end v r v₂ r₁
  pair_put = record {
    kept = record {
      bytes =
          sym (take-take used middle v₂ (omega arith)) ∙ ap (take used) kept₂ ∙ take-take used middle v₁ (omega arith)
          ∙ added_kept argument used v v₁ (omega arith) first;
      numbers = four.before;
      values_size = second.size ∙ first.size;
      rows_size = four.size;
    };
    is =
        let a : part v₂ used middle ≡ argument =
        part_same v₁ v₂ used middle middle (omega arith) (omega arith) (omega (arith, size₁)) (omega (arith, size₁, second.size)) kept₂
        ∙ ap (part v₁ used) m ∙ added_part argument used v v₁ (omega arith) first in
        rw (four.first, four.second, four.third, four.fourth, kind_key k o plain, kind_op k o plain, a, value_is);
    row = record {
      argument = omega (arith, four.second, four.third);
      value = omega (arith, four.third, four.fourth);
      within = omega (arith, four.fourth);
      plain = rw (four.first, four.third, four.fourth, kind_plain k o plain, value_is) marked;
    };
    grown = omega arith;
  }

-- ---- a row that was got, and those behind it

module _ (v r : List ℕ) (i n : ℕ) (e : Entry) (got : Got r i e) (h : i < n) where
  pub rows-here : pairs_from v r i (n - i) ≡ entry_of v e ∷ pairs_from v r (i + 1) (n - (i + 1))
  rows-here = pairs-step v r i n h ∙ ap (λ (p : Pair). p ∷ pairs_from v r (i + 1) (n - (i + 1))) (sym (got.is v))

  pub entry_in : Segment v r n → EntryIn v e
  entry_in s =
      let w = s.within i h in
      record {
        argument = omega (arith, w.argument, got.start, got.middle);
        value = omega (arith, w.value, got.middle, got.end);
        within = omega (arith, w.within, got.end);
        plain = λ t. ap (λ (x : Pair). is_plain x.value) (got.is v) ∙ w.plain (sym got.plain ∙ t);
      }
