-- The lines of a text one by one: what each adds to the rules of the table.
-- Assumes nothing.
use Prim.Native.Nat.{ℕ, suc, ◌+◌, ◌-◌, ◌*◌, ◌≤◌, ◌<◌}
use mathlib.Core.Path.{◌≡◌, refl, sym, ap, ◌∙◌}
use mathlib.Core.Bool.{Bool, true, false}
use mathlib.Core.List.{List, [], ◌∷◌, ◌++◌, map, append_assoc, append-nil}
use native.Mathlib.Omega.{arith}
use borrow.Author.Tests.{ltb-true, ltb-false}
use lib.Dec.{ltb}
use lib.ListN.{length, get_or}
use Rattle.lists.specs.Checked.{Checked, refused, ok, ◌>>=◌, Placed, line, in_place}
use Rattle.lists.specs.Refusal.{Refusal, rule_extra}
use Rattle.lists.specs.Sizes.{most_rules}
use Rattle.lists.specs.Bytes.{part}
use Rattle.text.specs.Lines.{newlines}
use Rattle.text.specs.Engine as text
use Rattle.text.specs.Reading.{read_lent, collect}
use Rattle.text.proofs.Places.{lines_at, lines_start, lines_step, lines_end}
use Rattle.rules.specs.Pair.{Rule}
use Rattle.rules.specs.Reading.{reader}
use Rattle.lines.specs.Ends.{end_from}
use Rattle.table.specs.Table.{rule_at, rules_from, Rows}
use Rattle.table.specs.Rules.{RuleIn}
use Rattle.rule_lines.specs.declared.Fill.{Fill}
use Rattle.rule_lines.specs.Filling.{start, held}
use Rattle.rule_lines.specs.Answers.{Grown}
use Rattle.reader.specs.declared.Counts.{Counts}
use Rattle.reader.specs.Read.{collected, reads_at, Filled, UpTo, RulePut}
use Rattle.reader.proofs.Rules.{rules-kept, rule_in_kept, rule_new, rule_in_new}
use Rattle.table.proofs.Rules.{rules_snoc}

abbrev Rules : Type 0
Rules = List (Placed Rule)

behind-none : (c : Checked (Placed Refusal) (List (Placed Rule))) → c ≡ (c >>= λ (qs : List (Placed Rule)). ok ([] ++ qs))
behind-none (refused f) = refl
behind-none (ok qs) = refl

pub filled_none : (v r t l : List ℕ) → length t ≡ most_rules * 4 → length l ≡ most_rules → Filled v r t l (record { rules = 0; rows = 0; used = 0 })
filled_none v r t l a b = record {
  few = omega arith;
  rules_room = a;
  labels_room = b;
  rows = record { filled = omega arith; room = omega arith; within = λ i h. absurd (omega arith) };
  rules = λ i h. absurd (omega arith);
}

pub upto_start : (x v r t l : List ℕ) → length t ≡ most_rules * 4 → length l ≡ most_rules → UpTo x v r t l 0 1 (record { rules = 0; rows = 0; used = 0 })
unfolding rules_from
upto_start x v r t l a b = record {
  filled = filled_none v r t l a b;
  whole = rw (lines_start x) (behind-none (collected x));
}

pub upto_end : (x v r t l : List ℕ) (at n : ℕ) (c : Counts) → UpTo x v r t l at n c → length x < at → collected x ≡ ok (rules_from v r t 0 c.rules)
unfolding collect
upto_end x v r t l at n c u h = u.whole ∙ rw (lines_end x at n h, append-nil (rules_from v r t 0 c.rules))

behind-rule : (rs : List (Placed Rule)) (p : Placed Rule) (c : Checked (Placed Refusal) (List (Placed Rule)))
    → ((c >>= λ (qs : List (Placed Rule)). ok (p ∷ qs)) >>= λ (qs : List (Placed Rule)). ok (rs ++ qs))
    ≡ (c >>= λ (qs : List (Placed Rule)). ok ((rs ++ (p ∷ [])) ++ qs))
behind-rule rs p (refused f) = refl
behind-rule rs p (ok qs) = ap ok (sym (append_assoc rs (p ∷ []) qs))

-- the line at a place, as it is read, and those behind it
pub reads-step : (x : List ℕ) (at end n : ℕ) → at ≤ length x → end ≡ end_from x at
    → reads_at x at n ≡ line n (read_lent reader (part x at end)) ∷ reads_at x (end + 1) (n + newlines (part x at end) + 1)
reads-step x at end n h e =
    let q : n + newlines (part x at end) + 1 ≡ suc (newlines (part x at end) + n) = omega arith in
    rw q (ap (λ (ls : List (Placed (List ℕ))). map (in_place (read_lent reader)) ls) (lines_step x at end n h e))

-- ---- one rule more in the table

module _ (v r t l v' r' t' l' : List ℕ) (n : ℕ) (c : Counts) (u : Filled v r t l c) (s : Fill) (m m' : ℕ) (g : Grown c.rows (start c.rows c.used) v r m s v' r' m')
    (put : RulePut c.rules n c.rows s t l t' l') (few : c.rules < most_rules) where
  pub rules-more : rules_from v' r' t' 0 (c.rules + 1) ≡ rules_from v r t 0 c.rules ++ (line n (held v' r' c.rows s) ∷ [])
  rules-more =
      rules_snoc v' r' t' c.rules
      ∙ (λ i. rules-kept v r v' r' c.rows c.used u.rows g.kept t l t' l' c.rules put.four.before put.before u.rules i
      ++ (rule_new v' r' t l t' l' c.rules n c.rows s put g.held i ∷ []))

  pub filled_more : Filled v' r' t' l' (record { rules = c.rules + 1; rows = s.rows; used = s.used })
  filled_more = record {
    few = omega arith;
    rules_room = put.four.size ∙ u.rules_room;
    labels_room = put.size ∙ u.labels_room;
    rows = g.held.rows;
    rules = λ i k. go i k (ltb i c.rules) refl;
  }
    where
      go : (i : ℕ) → i < c.rules + 1 → (b : Bool) → ltb i c.rules ≡ b → RuleIn v' r' t' l' s.rows i
      go i k true q = rule_in_kept v r v' r' c.rows c.used u.rows g.kept t l t' l' c.rules put.four.before put.before u.rules s.rows g.rows i (ltb-true i c.rules q)
      go i k false q = let w : i ≡ c.rules = omega (arith, ltb-false i c.rules q) in rw w (rule_in_new v' r' t l t' l' c.rules n c.rows s put g.held g.rows)

-- ---- one line more

module _ (x v r t l : List ℕ) (at end n : ℕ) (c : Counts) (u : UpTo x v r t l at n c) (h : at ≤ length x) (e : end ≡ end_from x at) where
  abbrev here : text.LineRead Rule
  here = read_lent reader (part x at end)

  abbrev following : ℕ
  following = n + newlines (part x at end) + 1

  abbrev after : List (Placed (text.LineRead Rule))
  after = reads_at x (end + 1) following

  whole : collected x ≡ (collect (most_rules - c.rules) (line n here ∷ after) >>= λ (qs : List (Placed Rule)). ok (rules_from v r t 0 c.rules ++ qs))
  whole = rw (reads-step x at end n h e) at u.whole

  pub upto_skip : here ≡ text.skip → UpTo x v r t l (end + 1) following c
  unfolding collect
  upto_skip y = record { filled = u.filled; whole = whole ∙ rw y }

  pub upto_fault : (f : Refusal) → here ≡ text.fault f → collected x ≡ refused (line n f)
  unfolding collect
  upto_fault f y = whole ∙ rw y

  pub upto_extra : (p : Rule) → here ≡ text.rule p → most_rules ≤ c.rules → collected x ≡ refused (line n rule_extra)
  unfolding collect
  upto_extra p y m = let z : most_rules - c.rules ≡ 0 = omega arith in whole ∙ rw (y, z)

  module _ (v' r' t' l' : List ℕ) (s : Fill) (m m' : ℕ) (g : Grown c.rows (start c.rows c.used) v r m s v' r' m') (y : here ≡ text.rule (held v' r' c.rows s))
      (put : RulePut c.rules n c.rows s t l t' l') (few : c.rules < most_rules) where
    pub upto_rule : UpTo x v' r' t' l' (end + 1) following (record { rules = c.rules + 1; rows = s.rows; used = s.used })
    unfolding collect
    upto_rule =
        let z : most_rules - c.rules ≡ suc (most_rules - (c.rules + 1)) = omega arith in
        record {
          filled = filled_more v r t l v' r' t' l' n c u.filled s m m' g put few;
          whole = whole
              ∙ rw (y, z, rules-more v r t l v' r' t' l' n c u.filled s m m' g put few)
              (behind-rule (rules_from v r t 0 c.rules) (line n (held v' r' c.rows s)) (collect (most_rules - (c.rules + 1)) after));
        }
