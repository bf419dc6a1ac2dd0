-- 19 rule by rule, and the jumps that are put.
-- Assumes nothing.
use Prim.Native.Nat.{ℕ, ◌+◌, ◌-◌, ◌*◌, ◌≤◌, ◌<◌}
use mathlib.Core.Path.{◌≡◌, refl, sym, ap, ◌∙◌}
use mathlib.Core.Bool.{Bool, true, false}
use mathlib.Core.List.{List}
use Rattle.std.specs.Prelude.{Option, None, Some, Ok}
use native.Mathlib.Omega.{arith}
use borrow.Author.Tests.{eq-eqb, ltb-true, ltb-false}
use lib.Dec.{ltb}
use lib.ListN.{length, get_or, set}
use lib.Seq.{get_or-set_same, get_or-set_other}
use Rattle.lists.specs.Checked.{Checked, refused, ok, ◌>>◌, Placed, line}
use Rattle.lists.specs.Refusal.{Refusal, label_missing}
use Rattle.lists.proofs.Moves.{ap_at}
use Rattle.text.specs.Reading.{resolved, settle}
use Rattle.rules.specs.Pair.{goto_of}
use Rattle.rules.specs.Reading.{reader}
use Rattle.table.specs.Table.{pair_at, rules_from}
use Rattle.table.proofs.Rules.{rules-step, rules-end, row-places, value-row}
use Rattle.table.specs.Rules.{value_in, pairs_of, Rules}
use Rattle.jumps.specs.Jumps.{NoneTo, Goes, JumpIs, Resolved, Jumps}
use Rattle.jumps.specs.Labels.{Before}
use Rattle.jumps.proofs.Goes.{goes_to_lem, goes_nowhere}

-- ---- 19

module _ (v r t : List ℕ) (i n : ℕ) (h : i < n) where
  settle_step : settle reader (rules_from v r t i (n - i)) ≡ (resolved reader (get_or t (i * 4) 0) (goto_of (pairs_of v r t i)) (rules_from v r t (i + 1) (n - (i + 1))) >> settle reader (rules_from v r t (i + 1) (n - (i + 1))))
  unfolding settle
  settle_step = ap (settle reader) (rules-step v r t i n h)

  settle-by : (o : Option (List ℕ)) (k : ℕ) → Resolved v r t i n o k → (c : Checked (Placed Refusal) ℕ) → resolved reader (get_or t (i * 4) 0) o (rules_from v r t (i + 1) (n - (i + 1))) >> c ≡ c
  settle-by None k e c = refl
  settle-by (Some g) k (z, w) c = rw (goes_to_lem v r t g n (i + 1) (k - 1) w)

  pub settle-on : (k : ℕ) → Resolved v r t i n (goto_of (pairs_of v r t i)) k → settle reader (rules_from v r t i (n - i)) ≡ settle reader (rules_from v r t (i + 1) (n - (i + 1)))
  settle-on k e = settle_step ∙ settle-by (goto_of (pairs_of v r t i)) k e (settle reader (rules_from v r t (i + 1) (n - (i + 1))))

  pub settle_nowhere : (g : List ℕ) → goto_of (pairs_of v r t i) ≡ Some g → NoneTo v r t g (i + 1) n → settle reader (rules_from v r t i (n - i)) ≡ refused (line (get_or t (i * 4) 0) label_missing)
  settle_nowhere g e w = settle_step ∙ rw (e, goes_nowhere v r t g n (i + 1) (omega arith) w)

pub settle-end : (v r t : List ℕ) (i n : ℕ) → n ≤ i → settle reader (rules_from v r t i (n - i)) ≡ ok 0
unfolding settle
settle-end v r t i n h = ap (settle reader) (rules-end v r t i n h)

pub settle-all : (v r t : List ℕ) (n : ℕ) → settle reader (rules_from v r t 0 n) ≡ settle reader (rules_from v r t 0 (n - 0))
settle-all v r t n = ap_at (λ k. settle reader (rules_from v r t 0 k)) n (n - 0) (omega arith)

-- ---- the numbers

module _ (v r t : List ℕ) (n : ℕ) (js : List ℕ) (i k : ℕ) (room : i < length js) (before : Jumps v r t n js i) where
  pub put : Resolved v r t i n (goto_of (pairs_of v r t i)) k → Jumps v r t n (set js i k) (i + 1)
  put e m h = go (ltb m i) refl
    where
      go : (c : Bool) → ltb m i ≡ c → Resolved v r t m n (goto_of (pairs_of v r t m)) (get_or (set js i k) m 0)
      go true q = let l = ltb-true m i q in rw (get_or-set_other js i m k 0 (λ o. omega arith)) (before m l)
      go false q = let z : m ≡ i = omega (arith, ltb-false m i q) in rw (z, get_or-set_same js i k 0 room) e

pub jumps_kept : (v r t : List ℕ) (n : ℕ) (js js' : List ℕ) (i : ℕ) → Before i js js' → Jumps v r t n js i → Jumps v r t n js' i
jumps_kept v r t n js js' i same w k h = rw (same k h) (w k h)

-- ---- a jump by its row

module _ (v r t l : List ℕ) (m used count i : ℕ) (w : Rules v r t l m used count) (h : i < count) where
  pub goto_none : get_or t (i * 4 + 3) 0 ≡ 0 → goto_of (pairs_of v r t i) ≡ None
  goto_none z = let q : value_in v r (get_or t (i * 4 + 3) 0) ≡ None = rw (eq-eqb (get_or t (i * 4 + 3) 0) 0 z) in sym (w.rules i h).goto ∙ q

  pub none_is : (z : get_or t (i * 4 + 3) 0 ≡ 0) → Resolved v r t i count (goto_of (pairs_of v r t i)) 0
  none_is z = rw (goto_none z) refl

  module _ (row : ℕ) (e : row + 1 ≡ get_or t (i * 4 + 3) 0) where
    pub goto_places : (row * 4 + 4 ≤ length r) × (get_or r (row * 4 + 2) 0 ≤ get_or r (row * 4 + 3) 0) × (get_or r (row * 4 + 3) 0 ≤ length v)
    goto_places = row-places v r m used w.rows row (omega (arith, e, (w.rules i h).goto_in))

    pub goto_some : goto_of (pairs_of v r t i) ≡ Some (pair_at v r row).value
    goto_some = sym (w.rules i h).goto ∙ ap (value_in v r) (sym e) ∙ value-row v r row

    pub some_is : (k : ℕ) → Goes v r t (pair_at v r row).value (i + 1) count k → JumpIs v r t i count (Ok (Some k))
    some_is k x =
        let q : k + 1 - 1 ≡ k = omega arith in
        let y : Goes v r t (pair_at v r row).value (i + 1) count (k + 1 - 1) = rw q x in
        (rw goto_some (omega arith, y), omega (arith, x.within))
