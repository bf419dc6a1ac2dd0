-- What is noted of a line, read again: its fault, or 19 where its rule was taken out of the table.
-- Assumes nothing.
use Prim.Native.Nat.{ℕ, zero, suc, ◌+◌, ◌-◌, ◌*◌, ◌≤◌, ◌<◌}
use mathlib.Core.Path.{◌≡◌, refl, sym, ap, ap₂, ◌∙◌, subst}
use mathlib.Core.Bool.{Bool, true, false}
use mathlib.Core.List.{List, [], ◌∷◌, ◌++◌}
use Rattle.std.specs.Prelude.{Option, None, Some}
use native.Mathlib.Omega.{arith}
use borrow.Author.Tests.{ltb-true, ltb-false}
use lib.Dec.{ltb}
use lib.ListN.{length, take, drop, get_or, length-drop}
use lib.Seq.{drop-cons}
use Rattle.lists.specs.Lists.{pick, is_some}
use Rattle.lists.specs.Checked.{Placed, line}
use Rattle.lists.specs.Refusal.{Refusal, number, label_missing}
use Rattle.lists.proofs.Moves.{length_part, part_none, ap_at}
use Rattle.lists.proofs.Rest.{rest_at}
use Rattle.lists.specs.Bytes.{part}
use Rattle.text.specs.Engine.{LineRead, skip, fault, rule}
use Rattle.text.specs.Reading.{has_label, goes_to}
use Rattle.text.specs.Rules.{rules_in}
use Rattle.rules.specs.Pair.{Rule, label_of, goto_of, value_of}
use Rattle.rules.specs.Reading.{reader}
use Rattle.striking.specs.Striking.{kept_by, answered_by, unanswered}
use Rattle.striking.proofs.Rules.{is_kept, kept_rules, rules-kept}
use Rattle.table.specs.Table.{rule_at, rules_from}
use Rattle.table.proofs.Rules.{rules-step, rules-end}
use Rattle.reader.specs.Read.{noted}
use Rattle.reader.proofs.Numbers.{number_small}
use Rattle.lost_jumps.specs.Lost.{judged_rule, emptied}
use Rattle.left_lines.specs.declared.Fate.{Fate}
use Rattle.left_lines.specs.Left.{After, Unread, final, fault_of, FateIs}

abbrev Lines : Type 0
Lines = List (Placed (LineRead Rule))

-- ---- rules that were taken out answer nothing, as rules that are not there

-- the line of the first rule
abbrev first_line : List (Placed Rule) → ℕ
first_line [] = 0
first_line (line n r ∷ ps) = n

first_by : (n : ℕ) (r : Rule) (ps : List (Placed Rule)) (b : Bool) → first_line (pick b (line n r) (line 0 []) ∷ ps) ≡ pick b n 0
first_by n r ps true = refl
first_by n r ps false = refl

kept_by_lem : (ps : List (Placed Rule)) → ((g : List ℕ) → is_some (goes_to reader g (emptied ps)) ≡ is_some (goes_to reader g (kept_rules reader ps)))
    → (o : Option (List ℕ)) → is_kept reader o (emptied ps) ≡ is_kept reader o (kept_rules reader ps)
kept_by_lem ps f None = refl
kept_by_lem ps f (Some g) = f g

goes_same : (ps : List (Placed Rule)) (g : List ℕ) → is_some (goes_to reader g (emptied ps)) ≡ is_some (goes_to reader g (kept_rules reader ps))
unfolding emptied kept_rules goes_to value_of
goes_same [] g = refl
goes_same (line n r ∷ ps) g = rw (kept_by_lem ps (goes_same ps) (goto_of r)) (at (is_kept reader (goto_of r) (kept_rules reader ps)) (goes_same ps g))
  where
    label : (b : Bool) → is_some (goes_to reader g (emptied ps)) ≡ is_some (goes_to reader g (kept_rules reader ps))
        → is_some (pick b (Some n) (goes_to reader g (emptied ps))) ≡ is_some (pick b (Some n) (goes_to reader g (kept_rules reader ps)))
    label true f = refl
    label false f = f

    at : (b : Bool) → is_some (goes_to reader g (emptied ps)) ≡ is_some (goes_to reader g (kept_rules reader ps))
        → is_some (goes_to reader g (pick b (line n r) (line 0 []) ∷ emptied ps)) ≡ is_some (goes_to reader g (pick b (line n r ∷ kept_rules reader ps) (kept_rules reader ps)))
    at true f = label (has_label g (label_of r)) f
    at false f = f

-- the number that strikes a rule, by the table
final-by : (o : Option (List ℕ)) (r : Rule) (ys : List (Placed (LineRead Rule))) → fault_of (answered_by reader o r (rules_in (unanswered reader ys))) ≡ pick (is_kept reader o (emptied (rules_in ys))) 0 19
final-by None r ys = refl
final-by (Some g) r ys = rw (rules-kept reader ys, goes_same (rules_in ys) g) (at (is_some (goes_to reader g (kept_rules reader (rules_in ys)))))
  where
    at : (b : Bool) → fault_of (kept_by reader b r) ≡ pick b 0 19
    at true = refl
    at false = refl

pub final-step : (n : ℕ) (y : LineRead Rule) (ys : List (Placed (LineRead Rule))) → unanswered reader (line n y ∷ ys) ≡ line n (final y ys) ∷ unanswered reader ys
unfolding unanswered
final-step n skip ys = refl
final-step n (fault f) ys = refl
final-step n (rule r) ys = refl

-- ---- two numbers of the list

part-cons : (s : List ℕ) (read end : ℕ) → read < end → end ≤ length s → part s read end ≡ get_or s read 0 ∷ part s (suc read) end
part-cons s read end h k = let q : end - read ≡ suc (end - suc read) = omega arith in rw (q, drop-cons s read 0 (omega arith))

pub two_at : (s : List ℕ) (read end a b : ℕ) (rest : List ℕ) → read ≤ end → end ≤ length s → part s read end ≡ a ∷ b ∷ rest
    → (read + 2 ≤ end) × (get_or s read 0 ≡ a) × (get_or s (read + 1) 0 ≡ b) × (part s (read + 2) end ≡ rest)
two_at s read end a b rest h k e =
    let size : end - read ≡ suc (suc (length rest)) = sym (length_part s read end k) ∙ ap length e in
    let one : part s read end ≡ get_or s read 0 ∷ part s (suc read) end = part-cons s read end (omega arith) k in
    let two : part s (suc read) end ≡ get_or s (suc read) 0 ∷ part s (suc (suc read)) end = part-cons s (suc read) end (omega arith) k in
    let both : get_or s read 0 ∷ get_or s (suc read) 0 ∷ part s (suc (suc read)) end ≡ a ∷ b ∷ rest = ap (λ (l : List ℕ). get_or s read 0 ∷ l) (sym two) ∙ sym one ∙ e in
    let first : get_or s read 0 ≡ a = cc in
    let second : get_or s (suc read) 0 ≡ b = cc in
    let third : part s (suc (suc read)) end ≡ rest = cc in (
      omega arith,
      first,
      ap_at (λ i. get_or s i 0) (read + 1) (suc read) (omega arith) ∙ second,
      ap_at (λ i. part s i end) (read + 2) (suc (suc read)) (omega arith) ∙ third,
    )

-- notes of later lines have later numbers
after-noted : (n : ℕ) (ys : List (Placed (LineRead Rule))) → After n ys → (a : ℕ) (rest : List ℕ) → noted ys ≡ a ∷ rest → n < a
unfolding noted
after-noted n [] h a rest e = let z : ◌≡◌ {A = ℕ} 0 1 = cc in absurd (omega arith)
after-noted n (line m skip ∷ ys) (h, hs) a rest e = after-noted n ys hs a rest e
after-noted n (line m (fault f) ∷ ys) (h, hs) a rest e = let q : m ≡ a = cc in omega arith
after-noted n (line m (rule r) ∷ ys) (h, hs) a rest e = let q : m ≡ a = cc in omega arith

pub noted_even : (ys : List (Placed (LineRead Rule))) → (k : ℕ) × (length (noted ys) ≡ k * 2)
unfolding noted
noted_even [] = (0, refl)
noted_even (line n skip ∷ ys) = noted_even ys
noted_even (line n (fault f) ∷ ys) = let (k, e) = noted_even ys in (suc k, omega arith)
noted_even (line n (rule r) ∷ ys) = let (k, e) = noted_even ys in (suc k, omega arith)

-- ---- a line's note

module _ (t s : List ℕ) (read end rule-at n : ℕ) (ys : List (Placed (LineRead Rule))) (after : After n ys) where
  -- there are two numbers, or none
  pub two_there : (y : LineRead Rule) → Unread t s read end rule-at (line n y ∷ ys) → read < end → read + 2 ≤ end
  two_there y u h =
      let (k, e) = noted_even (line n y ∷ ys) in
      omega (arith, length_part s read end u.within, ap length u.notes)

  -- a line without a note
  pub fate_none : (y : LineRead Rule) → Unread t s read end rule-at (line n y ∷ ys) → (read < end → get_or s read 0 ≡ n → ⊥)
      → FateIs t s read end y ys (record { fault = 0; read = read; rule = rule-at })
  unfolding noted rules_in
  fate_none skip u other = record {
    fault = refl;
    unread = record { reached = u.reached; within = u.within; notes = u.notes; values = u.values; rows = u.rows; count = u.count; room = u.room; rules = u.rules };
    stays = omega arith;
    noted = λ z. absurd (z refl);
  }
  fate_none (fault f) u other = let w = two_at s read end n (number f) (noted ys) u.reached u.within u.notes in absurd (other (omega (arith, w.0)) w.1)
  fate_none (rule r) u other = let w = two_at s read end n 0 (noted ys) u.reached u.within u.notes in absurd (other (omega (arith, w.0)) w.1)

  module _ (h : read < end) (here : get_or s read 0 ≡ n) where
    not_skipped : Unread t s read end rule-at (line n skip ∷ ys) → ⊥
    unfolding noted
    not_skipped u =
        let e : noted ys ≡ get_or s read 0 ∷ part s (suc read) end = sym u.notes ∙ part-cons s read end h u.within in
        omega (arith, after-noted n ys after (get_or s read 0) (part s (suc read) end) e)

    -- one with a fault
    pub fate_fault : (y : LineRead Rule) → Unread t s read end rule-at (line n y ∷ ys) → (get_or s (read + 1) 0 ≡ 0 → ⊥)
        → FateIs t s read end y ys (record { fault = get_or s (read + 1) 0; read = read + 2; rule = rule-at })
    unfolding noted rules_in
    fate_fault skip u z = absurd (not_skipped u)
    fate_fault (fault f) u z =
        let w = two_at s read end n (number f) (noted ys) u.reached u.within u.notes in
        record {
          fault = w.2;
          unread = record { reached = w.0; within = u.within; notes = w.3; values = u.values; rows = u.rows; count = u.count; room = u.room; rules = u.rules };
          stays = omega arith;
          noted = λ q. omega arith;
        }
    fate_fault (rule r) u z = absurd (z (two_at s read end n 0 (noted ys) u.reached u.within u.notes).2)

    module _ (zero-noted : get_or s (read + 1) 0 ≡ 0) where
      not-faulty : (f : Refusal) → Unread t s read end rule-at (line n (fault f) ∷ ys) → ⊥
      unfolding noted
      not-faulty f u = omega (arith, (two_at s read end n (number f) (noted ys) u.reached u.within u.notes).2, (number_small f).0)

      -- a rule is in the table
      pub rule_in : (y : LineRead Rule) (u : Unread t s read end rule-at (line n y ∷ ys)) → rule-at < u.count
      unfolding rules_in emptied
      rule_in skip u = absurd (not_skipped u)
      rule_in (fault f) u = absurd (not-faulty f u)
      rule_in (rule r) u = go (ltb rule-at u.count) refl
        where
          go : (b : Bool) → ltb rule-at u.count ≡ b → rule-at < u.count
          go true q = ltb-true rule-at u.count q
          go false q =
              let e = sym (rules-end u.values u.rows t rule-at u.count (ltb-false rule-at u.count q)) ∙ u.rules in
              absurd (omega (arith, ap length e))

      rule-behind : (r : Rule) (u : Unread t s read end rule-at (line n (rule r) ∷ ys)) (f : ℕ) → f ≡ fault_of (final (rule r) ys) → FateIs t s read end (rule r) ys (record { fault = f; read = read + 2; rule = rule-at + 1 })
      unfolding noted rules_in emptied
      rule-behind r u f e =
          let w = two_at s read end n 0 (noted ys) u.reached u.within u.notes in
          let step = sym (rules-step u.values u.rows t rule-at u.count (rule_in (rule r) u)) ∙ u.rules in
          record {
            fault = e;
            unread = record { reached = w.0; within = u.within; notes = w.3; values = u.values; rows = u.rows; count = u.count; room = u.room; rules = cc };
            stays = omega arith;
            noted = λ q. omega arith;
          }

      -- its line stands in the table, or 0
      line-is : (r : Rule) (u : Unread t s read end rule-at (line n (rule r) ∷ ys)) (b : Bool) → is_kept reader (goto_of r) (emptied (rules_in ys)) ≡ b → get_or t (rule-at * 4) 0 ≡ pick b n 0
      unfolding rules_in emptied
      line-is r u b q =
          let later = emptied (rules_in ys) in
          let step : rule_at u.values u.rows t rule-at ∷ rules_from u.values u.rows t (rule-at + 1) (u.count - (rule-at + 1)) ≡ judged_rule (line n r) later
          = sym (rules-step u.values u.rows t rule-at u.count (rule_in (rule r) u)) ∙ u.rules in
          ap first_line step ∙ ap (λ (k : Bool). first_line (pick k (line n r) (line 0 []) ∷ later)) q ∙ first_by n r later b

      module _ (Some-number : 0 < n) where
        -- one that was taken out
        pub fate_lost : (y : LineRead Rule) → Unread t s read end rule-at (line n y ∷ ys) → get_or t (rule-at * 4) 0 ≡ 0
            → FateIs t s read end y ys (record { fault = 19; read = read + 2; rule = rule-at + 1 })
        fate_lost skip u z = absurd (not_skipped u)
        fate_lost (fault f) u z = absurd (not-faulty f u)
        fate_lost (rule r) u z = go (is_kept reader (goto_of r) (emptied (rules_in ys))) refl
          where
            go : (b : Bool) → is_kept reader (goto_of r) (emptied (rules_in ys)) ≡ b → FateIs t s read end (rule r) ys (record { fault = 19; read = read + 2; rule = rule-at + 1 })
            go true q = absurd (omega (arith, line-is r u true q))
            go false q = rule-behind r u 19 (sym (final-by (goto_of r) r ys ∙ rw q))

        -- one that is kept
        pub fate_kept : (y : LineRead Rule) → Unread t s read end rule-at (line n y ∷ ys) → (get_or t (rule-at * 4) 0 ≡ 0 → ⊥)
            → FateIs t s read end y ys (record { fault = 0; read = read + 2; rule = rule-at + 1 })
        fate_kept skip u z = absurd (not_skipped u)
        fate_kept (fault f) u z = absurd (not-faulty f u)
        fate_kept (rule r) u z = go (is_kept reader (goto_of r) (emptied (rules_in ys))) refl
          where
            go : (b : Bool) → is_kept reader (goto_of r) (emptied (rules_in ys)) ≡ b → FateIs t s read end (rule r) ys (record { fault = 0; read = read + 2; rule = rule-at + 1 })
            go true q = rule-behind r u 0 (sym (final-by (goto_of r) r ys ∙ rw q))
            go false q = absurd (z (line-is r u false q))
