-- A table with the pairs of a line: one pair more.
-- Assumes nothing.
use Prim.Native.Nat.{ℕ, zero, suc, ◌+◌, ◌-◌, ◌*◌, ◌≤◌, ◌<◌}
use mathlib.Core.Path.{◌≡◌, refl, sym, ap, ap₂, ◌∙◌}
use mathlib.Core.Bool.{Bool, true, false, ◌&&◌, ◌||◌}
use mathlib.Core.List.{List, [], ◌∷◌, ◌++◌}
use Rattle.std.specs.Prelude.{Option, None, Some}
use native.Mathlib.Omega.{arith}
use borrow.Author.Tests.{eqb-true, eqb-false, eq-eqb, ne_eqb}
use lib.Dec.{eqb}
use lib.ListN.{length, get_or, take, drop, length-drop}
use lib.Seq.{take-take}
use Rattle.lists.specs.Lists.{pick, is_some}
use Rattle.lists.specs.Checked.{Checked, refused, ok}
use Rattle.lists.specs.Refusal.{Refusal, pair_extra}
use Rattle.lists.proofs.Moves.{ap_at}
use Rattle.rules.specs.Key.{Key, LABEL, GOTO, key_number, same_key}
use Rattle.rules.specs.Pair.{Pair, value_of, label_of, goto_of}
use Rattle.rules.specs.Reading.{again, read_pair}
use Rattle.table.specs.Table.{pair_at, pairs_from, RowIn, Rows}
use Rattle.table.specs.Rules.{value_in, mark_of}
use Rattle.table.specs.Puts.{Kept, PairPut}
use Rattle.table.proofs.Pairs.{row_kept, rows_more, pairs-more, pairs_end}
use Rattle.rule_lines.specs.declared.Fill.{Fill}
use Rattle.rule_lines.specs.Filling.{start, held, Held, Room, noted_fill, noted_once}
use Rattle.rule_lines.specs.Answers.{Grown}
use Rattle.rule_lines.proofs.Steps.{or_else, else_none, value_snoc}

-- ---- nothing yet

pub held_start : (v r : List ℕ) (n used : ℕ) → Rows v r n used → Held v r n (start n used)
unfolding value_of
held_start v r n used rs =
    let e : pairs_from v r n (n - n) ≡ [] = pairs_end v r n n (omega arith) in
    record {
      rows = rs;
      begun = omega arith;
      label_in = omega arith;
      label = sym (ap label_of e);
      goto_in = omega arith;
      goto = sym (ap goto_of e);
    }

-- ---- what stays

pub kept_refl : (used n : ℕ) (v r : List ℕ) → Kept used n v r v r
kept_refl used n v r = record { bytes = refl; numbers = λ k h. refl; values_size = refl; rows_size = refl }

pub kept_on : (used n used₁ n₁ : ℕ) (v r v₁ r₁ v₂ r₂ : List ℕ) → used ≤ used₁ → n ≤ n₁ → Kept used n v r v₁ r₁ → Kept used₁ n₁ v₁ r₁ v₂ r₂ → Kept used n v r v₂ r₂
kept_on used n used₁ n₁ v r v₁ r₁ v₂ r₂ a b k l = record {
  bytes = sym (take-take used used₁ v₂ a) ∙ ap (take used) l.bytes ∙ take-take used used₁ v₁ a ∙ k.bytes;
  numbers = λ i h. l.numbers i (omega arith) ∙ k.numbers i h;
  values_size = l.values_size ∙ k.values_size;
  rows_size = l.rows_size ∙ k.rows_size;
}

-- ---- a label or a jump that was noted

pub record NotedIs (k : Key) (s n : Fill) : Type 0 where
  pub again : again k (is_some s.label) (is_some s.goto) ≡ false
  pub label : n.label ≡ pick (same_key k LABEL) (Some s.rows) s.label
  pub goto : n.goto ≡ pick (same_key k GOTO) (Some s.rows) s.goto
  pub rows : n.rows ≡ s.rows
  pub used : n.used ≡ s.used

pub noted-is : (k : Key) (s n : Fill) → Some n ≡ noted_once k s → NotedIs k s n
noted-is k s n e = go (again k (is_some s.label) (is_some s.goto)) refl e
  where
    go : (t : Bool) → again k (is_some s.label) (is_some s.goto) ≡ t → Some n ≡ pick t None (Some (noted_fill k s)) → NotedIs k s n
    go true q f = let z : ◌≡◌ {A = ℕ} 0 1 = cc in absurd (omega arith)
    go false q f =
        let y : n ≡ noted_fill k s = cc in
        record { again = q; label = ap (λ (w : Fill). w.label) y; goto = ap (λ (w : Fill). w.goto) y; rows = ap (λ (w : Fill). w.rows) y; used = ap (λ (w : Fill). w.used) y }

pub noted-again : (k : Key) (s : Fill) → None ≡ noted_once k s → again k (is_some s.label) (is_some s.goto) ≡ true
noted-again k s e = go (again k (is_some s.label) (is_some s.goto)) refl e
  where
    go : (t : Bool) → again k (is_some s.label) (is_some s.goto) ≡ t → None ≡ pick t None (Some (noted_fill k s)) → again k (is_some s.label) (is_some s.goto) ≡ true
    go true q f = q
    go false q f = let z : ◌≡◌ {A = ℕ} 0 1 = cc in absurd (omega arith)

some_in : (v r : List ℕ) (m : Option ℕ) → is_some (value_in v r (mark_of m)) ≡ is_some m
some_in v r None = refl
some_in v r (Some k) = let d : k + 1 ≡ 0 → ⊥ = λ e. omega arith in rw (ne_eqb (k + 1) 0 d)

-- as the definition asks it
pub again-is : (v r : List ℕ) (from : ℕ) (s : Fill) (k : Key) → Held v r from s
    → again k (is_some (label_of (held v r from s))) (is_some (goto_of (held v r from s))) ≡ again k (is_some s.label) (is_some s.goto)
again-is v r from s k h = ap₂ (λ (a b : Bool). again k a b) (ap is_some (sym h.label) ∙ some_in v r s.label) (ap is_some (sym h.goto) ∙ some_in v r s.goto)

label_free : (k : Key) (l g : Bool) → again k l g ≡ false → same_key k LABEL ≡ true → l ≡ false
label_free k false g h e = refl
label_free k true g h e = let q : (true || (same_key k GOTO && g)) ≡ false = rw e at h in let z : ◌≡◌ {A = ℕ} 0 1 = cc in absurd (omega arith)

goto_free : (k : Key) (l g : Bool) → again k l g ≡ false → same_key k GOTO ≡ true → g ≡ false
goto_free k l false h e = refl
goto_free k l true h e = absurd (go (same_key k LABEL && l) (rw e at h))
  where
    go : (t : Bool) → (t || true) ≡ false → ⊥
    go true q = let z : ◌≡◌ {A = ℕ} 0 1 = cc in omega arith
    go false q = let z : ◌≡◌ {A = ℕ} 0 1 = cc in omega arith

-- ---- one pair more

module _ (v r v' r' : List ℕ) (p : Pair) (n used used' : ℕ) (rs : Rows v r n used) (put : PairPut p n used used' v r v' r') where
  -- a mark that stays
  mark_kept : (m : ℕ) → m ≤ n → value_in v' r' m ≡ value_in v r m
  mark_kept m h = go (eqb m 0) refl
    where
      go : (t : Bool) → eqb m 0 ≡ t → pick t None (Some (pair_at v' r' (m - 1)).value) ≡ pick t None (Some (pair_at v r (m - 1)).value)
      go true e = refl
      go false e =
          let d = eqb-false m 0 e in
          ap (λ (q : Pair). Some q.value) (row_kept v r v' r' n used rs put.kept (m - 1) (omega arith))

  -- the new one
  mark_new : value_in v' r' (n + 1) ≡ Some p.value
  mark_new =
      let d : n + 1 ≡ 0 → ⊥ = λ e. omega arith in
      rw (ne_eqb (n + 1) 0 d) (ap_at (λ i. Some (pair_at v' r' i).value) (n + 1 - 1) n (omega arith) ∙ ap (λ (q : Pair). Some q.value) put.is)

  mark_more : (k : Key) (m : Option ℕ) (ps : List Pair) → mark_of m ≤ n → value_in v r (mark_of m) ≡ value_of k ps → (same_key p.key k ≡ true → is_some m ≡ false)
      → value_in v' r' (mark_of (pick (same_key p.key k) (Some n) m)) ≡ value_of k (ps ++ (p ∷ []))
  mark_more k m ps h e free = go (same_key p.key k) refl ∙ sym (value_snoc k ps p)
    where
      none : (o : Option ℕ) → is_some o ≡ false → value_in v r (mark_of o) ≡ None
      none None f = refl
      none (Some i) f = let z : ◌≡◌ {A = ℕ} 0 1 = cc in absurd (omega arith)

      go : (t : Bool) → same_key p.key k ≡ t → value_in v' r' (mark_of (pick t (Some n) m)) ≡ or_else (value_of k ps) (pick (same_key p.key k) (Some p.value) None)
      go true q = let z : value_of k ps ≡ None = sym e ∙ none m (free q) in rw (z, q) mark_new
      go false q = rw q (mark_kept (mark_of m) h ∙ e ∙ sym (else_none (value_of k ps)))

module _ (v r v' r' : List ℕ) (from : ℕ) (s n : Fill) (p : Pair) (used' : ℕ) (h : Held v r from s) (noted : NotedIs p.key s n) (room : s.rows * 4 + 4 ≤ length r) (more : used' ≤ length v)
    (put : PairPut p n.rows n.used used' v r v' r') where
  abbrev after : Fill
  after = record { label = n.label; goto = n.goto; rows = n.rows + 1; used = used' }

  put_is : PairPut p s.rows s.used used' v r v' r'
  put_is = rw (noted.rows, noted.used) at put

  pub held-is : held v' r' from after ≡ held v r from s ++ (p ∷ [])
  held-is = rw noted.rows (pairs-more p v r v' r' s.rows s.used used' h.rows room more put_is from h.begun)

  pub held_more : Held v' r' from after
  held_more = record {
    rows = rw noted.rows (rows_more p v r v' r' s.rows s.used used' h.rows room more put_is);
    begun = omega (arith, noted.rows, h.begun);
    label_in = small (same_key p.key LABEL) s.label n.label h.label_in noted.label;
    label =
        rw (noted.label, held-is)
        (mark_more v r v' r' p s.rows s.used used' h.rows put_is LABEL s.label (held v r from s) h.label_in h.label
        (label_free p.key (is_some s.label) (is_some s.goto) noted.again));
    goto_in = small (same_key p.key GOTO) s.goto n.goto h.goto_in noted.goto;
    goto =
        rw (noted.goto, held-is)
        (mark_more v r v' r' p s.rows s.used used' h.rows put_is GOTO s.goto (held v r from s) h.goto_in h.goto
        (goto_free p.key (is_some s.label) (is_some s.goto) noted.again));
  }
    where
      small : (t : Bool) (m m' : Option ℕ) → mark_of m ≤ s.rows → m' ≡ pick t (Some s.rows) m → mark_of m' ≤ n.rows + 1
      small true m m' a b = let z : mark_of m' ≡ s.rows + 1 = ap mark_of b in omega (arith, noted.rows)
      small false m m' a b = let z : mark_of m' ≡ mark_of m = ap mark_of b in omega (arith, noted.rows)

  pub kept-is : Kept s.used s.rows v r v' r'
  kept-is = put_is.kept

  pub grown_is : used' ≡ s.used + length p.argument + length p.value
  grown_is = put_is.grown

-- ---- step by step

pub grown_start : (v r : List ℕ) (n used : ℕ) → Rows v r n used → (m : ℕ) → Room m v r (start n used)
    → Grown n (start n used) v r m (start n used) v r m
grown_start v r n used rs m room = record { held = held_start v r n used rs; kept = kept_refl used n v r; used = omega arith; rows = omega arith; room = room }

pub grown_on : (from : ℕ) (s s₁ s₂ : Fill) (v r v₁ r₁ v₂ r₂ : List ℕ) (m m₁ m₂ : ℕ) → Grown from s v r m s₁ v₁ r₁ m₁ → Grown from s₁ v₁ r₁ m₁ s₂ v₂ r₂ m₂ → Grown from s v r m s₂ v₂ r₂ m₂
grown_on from s s₁ s₂ v r v₁ r₁ v₂ r₂ m m₁ m₂ a b = record {
  held = b.held;
  kept = kept_on s.used s.rows s₁.used s₁.rows v r v₁ r₁ v₂ r₂ a.used a.rows a.kept b.kept;
  used = omega (arith, a.used, b.used);
  rows = omega (arith, a.rows, b.rows);
  room = b.room;
}

pub held_none : (v r : List ℕ) (n used : ℕ) → held v r n (start n used) ≡ []
held_none v r n used = pairs_end v r n n (omega arith)

-- nothing beyond the line
pub room_zero : (m : ℕ) (v r : List ℕ) (s : Fill) → Room (m + 1) v r s → Room (0 + m + 1) v r s
room_zero m v r s x = record { values = omega (arith, x.values); small = x.small; few = x.few; rows = omega (arith, x.rows) }

pub zero_room : (m : ℕ) (v r : List ℕ) (s : Fill) → Room (0 + m + 1) v r s → Room (m + 1) v r s
zero_room m v r s x = record { values = omega (arith, x.values); small = x.small; few = x.few; rows = omega (arith, x.rows) }
