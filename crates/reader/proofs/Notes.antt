-- The lines of a text one by one: what each adds to the table and to the list.
-- Assumes nothing.
use Prim.Native.Nat.{ℕ, zero, suc, ◌+◌, ◌-◌, ◌*◌, ◌≤◌, ◌<◌}
use mathlib.Core.Path.{◌≡◌, refl, sym, ap, ap₂, ◌∙◌, subst}
use mathlib.Core.Bool.{Bool, true, false}
use mathlib.Core.List.{List, [], ◌∷◌, ◌++◌, append_assoc, append-nil}
use native.Mathlib.Omega.{arith}
use borrow.Author.Tests.{ltb-true, ltb-false}
use lib.Dec.{ltb}
use lib.ListN.{length, take}
use Rattle.lists.specs.Runs.{span}
use Rattle.lists.specs.Checked.{Placed, line}
use Rattle.lists.specs.Refusal.{Refusal, number, rule_extra}
use Rattle.lists.specs.Sizes.{most_rules, most_text}
use Rattle.lists.proofs.Moves.{part_none}
use Rattle.lists.specs.Bytes.{part}
use Rattle.text.specs.Engine.{LineRead, skip, fault, rule}
use Rattle.text.specs.Lines.{newlines, stage_of, unjoined}
use Rattle.text.specs.Reading.{read_lent, reads}
use Rattle.text.specs.Rules.{rules_in}
use Rattle.text.proofs.Places.{lines_start, lines_end}
use Rattle.text.proofs.Collect.{rules-append}
use Rattle.rules.specs.Pair.{Rule}
use Rattle.rules.specs.Reading.{read_line, reader}
use Rattle.striking.specs.Striking.{most_strikes, past_most}
use Rattle.lines.specs.Ends.{end_from}
use Rattle.lines.proofs.Held.{end-within}
use Rattle.table.specs.Table.{rules_from}
use Rattle.table.specs.Puts.{Added}
use Rattle.rule_lines.specs.declared.Fill.{Fill}
use Rattle.rule_lines.specs.Filling.{start, held}
use Rattle.rule_lines.specs.Answers.{Grown}
use Rattle.reader.specs.Read.{reads_at, RulePut}
use Rattle.reader.specs.declared.Counts.{Counts}
use Rattle.reader.proofs.Lines.{filled_none, filled_more, rules-more, reads-step}
use Rattle.reader.specs.declared.Place.{Place}
use Rattle.reader.specs.Read.{noted, counted, counted_at, NotedTo, AllNoted}

abbrev Lines : Type 0
Lines = List (Placed (LineRead Rule))

pub noted-append : (xs ys : List (Placed (LineRead Rule))) → noted (xs ++ ys) ≡ noted xs ++ noted ys
unfolding noted
noted-append [] ys = refl
noted-append (line n skip ∷ xs) ys = noted-append xs ys
noted-append (line n (fault f) ∷ xs) ys = ap (λ (l : List ℕ). n ∷ number f ∷ l) (noted-append xs ys)
noted-append (line n (rule r) ∷ xs) ys = ap (λ (l : List ℕ). n ∷ 0 ∷ l) (noted-append xs ys)

-- an empty line is skipped
empty-lent : read_lent reader [] ≡ skip
unfolding read_lent read_line span stage_of unjoined
empty-lent = refl

pub fault-kept : {y : LineRead Rule} {f : Refusal} → y ≡ fault f → y ≡ skip → ⊥
fault-kept a b = let z : ◌≡◌ {A = ℕ} 0 1 = cc in omega arith

pub rule-kept : {y : LineRead Rule} {p : Rule} → y ≡ rule p → y ≡ skip → ⊥
rule-kept a b = let z : ◌≡◌ {A = ℕ} 0 1 = cc in omega arith

-- ---- the start and the end

pub noted-start : (x v r t l s : List ℕ) → length t ≡ most_rules * 4 → length l ≡ most_rules → most_strikes * 2 ≤ length s
    → NotedTo x v r t l s (record { at = 0; number = 1; used = 0; counts = record { rules = 0; rows = 0; used = 0 } })
unfolding noted rules_in rules_from
noted-start x v r t l s a b c = record {
  filled = filled_none v r t l a b;
  room = c;
  done = [];
  whole = rw (lines_start x);
  rules = refl;
  list = refl;
  small = omega arith;
  half = 0;
  twice = refl;
}

pub noted-end : (x v r t l s : List ℕ) (d : Place) → length x ≤ most_text → NotedTo x v r t l s d → length x < d.at → d.at ≤ length x + 1 → AllNoted x v r t l s d
unfolding past_most
noted-end x v r t l s d short n h k =
    let is : counted x ≡ n.done = n.whole ∙ rw (lines_end x d.at d.number h, append-nil n.done) in
    record {
      few = n.filled.few;
      table = record { rows = n.filled.rows; rules = n.filled.rules };
      rules = ap rules_in is ∙ n.rules;
      list = ap noted is ∙ n.list;
      within = omega (arith, n.small, n.twice, n.room);
    }

-- ---- one line more

module _ (x v r t l s : List ℕ) (d : Place) (w : NotedTo x v r t l s d) (h : d.at ≤ length x) (end : ℕ) (e : end ≡ end_from x d.at) where
  abbrev here : LineRead Rule
  here = read_lent reader (part x d.at end)

  abbrev following : ℕ
  following = d.number + newlines (part x d.at end) + 1

  abbrev after : List (Placed (LineRead Rule))
  after = reads_at x (end + 1) following

  whole : counted x ≡ w.done ++ past_most (most_rules - d.counts.rules) (line d.number here ∷ after)
  whole = rw (reads-step x d.at end d.number h e) at w.whole

  behind : (p : Placed (LineRead Rule)) (qs : List (Placed (LineRead Rule))) → counted x ≡ w.done ++ (p ∷ qs) → counted x ≡ (w.done ++ (p ∷ [])) ++ qs
  behind p qs q = q ∙ sym (append_assoc w.done (p ∷ []) qs)

  -- a line that is noted has a byte
  some_byte : (here ≡ skip → ⊥) → d.at < end
  some_byte y = go (ltb d.at end) refl
    where
      go : (b : Bool) → ltb d.at end ≡ b → d.at < end
      go true q = ltb-true d.at end q
      go false q = absurd (y (ap (read_lent reader) (part_none x d.at end (ltb-false d.at end q)) ∙ empty-lent))

  -- and there is room for it in the list
  pub note_room : length x ≤ most_text → (here ≡ skip → ⊥) → d.used + 2 ≤ length s
  note_room short y = omega (arith, w.small, w.twice, w.room, some_byte y, (end-within x d.at end h e).1)

  pub noted-skip : here ≡ skip → NotedTo x v r t l s (record { at = end + 1; number = following; used = d.used; counts = d.counts })
  unfolding past_most noted rules_in
  noted-skip y = record {
    filled = w.filled;
    room = w.room;
    done = w.done ++ (line d.number skip ∷ []);
    whole = behind (line d.number skip) (counted_at x (end + 1) following d.counts.rules) (whole ∙ rw y);
    rules = rules-append w.done (line d.number skip ∷ []) ∙ append-nil (rules_in w.done) ∙ w.rules;
    list = noted-append w.done (line d.number skip ∷ []) ∙ append-nil (noted w.done) ∙ w.list;
    small = omega (arith, w.small, (end-within x d.at end h e).0);
    half = w.half;
    twice = w.twice;
  }

  module _ (s' : List ℕ) (fault-number : ℕ) (put : Added (d.number ∷ fault-number ∷ []) d.used s s') where
    -- a fault, of reading or 18
    struck-more : (f : Refusal) → fault-number ≡ number f → d.at < end
        → past_most (most_rules - d.counts.rules) (line d.number here ∷ after) ≡ line d.number (fault f) ∷ counted_at x (end + 1) following d.counts.rules
        → NotedTo x v r t l s' (record { at = end + 1; number = following; used = d.used + 2; counts = d.counts })
    unfolding noted rules_in
    struck-more f q byte step = record {
      filled = w.filled;
      room = omega (arith, w.room, put.size);
      done = w.done ++ (line d.number (fault f) ∷ []);
      whole = behind (line d.number (fault f)) (counted_at x (end + 1) following d.counts.rules) (whole ∙ ap (λ (ls : List (Placed (LineRead Rule))). w.done ++ ls) step);
      rules = rules-append w.done (line d.number (fault f) ∷ []) ∙ append-nil (rules_in w.done) ∙ w.rules;
      list =
          noted-append w.done (line d.number (fault f) ∷ [])
          ∙ ap₂ (λ (a : List ℕ) (k : ℕ). a ++ (d.number ∷ k ∷ [])) w.list (sym q)
          ∙ sym put.is;
      small = omega (arith, w.small);
      half = w.half + 1;
      twice = omega (arith, w.twice);
    }

    pub noted-fault : (f : Refusal) → here ≡ fault f → fault-number ≡ number f → NotedTo x v r t l s' (record { at = end + 1; number = following; used = d.used + 2; counts = d.counts })
    unfolding past_most
    noted-fault f y q = struck-more f q (some_byte (fault-kept y)) (rw y)

    pub noted_extra : (p : Rule) → here ≡ rule p → most_rules ≤ d.counts.rules → fault-number ≡ 18
        → NotedTo x v r t l s' (record { at = end + 1; number = following; used = d.used + 2; counts = d.counts })
    unfolding past_most
    noted_extra p y m q = let z : most_rules - d.counts.rules ≡ 0 = omega arith in struck-more rule_extra q (some_byte (rule-kept y)) (rw (y, z))

    module _ (v' r' t' l' : List ℕ) (fill : Fill) (m m' : ℕ) (g : Grown d.counts.rows (start d.counts.rows d.counts.used) v r m fill v' r' m')
        (y : here ≡ rule (held v' r' d.counts.rows fill)) (rule-put : RulePut d.counts.rules d.number d.counts.rows fill t l t' l') (few : d.counts.rules < most_rules) where
      pub noted-rule : fault-number ≡ 0 → NotedTo x v' r' t' l' s' (record { at = end + 1; number = following; used = d.used + 2; counts = record { rules = d.counts.rules + 1; rows = fill.rows; used = fill.used } })
      unfolding past_most noted rules_in
      noted-rule q =
          let z : most_rules - d.counts.rules ≡ suc (most_rules - (d.counts.rules + 1)) = omega arith in
          let new = line d.number (rule (held v' r' d.counts.rows fill)) in
          record {
            filled = filled_more v r t l v' r' t' l' d.number d.counts w.filled fill m m' g rule-put few;
            room = omega (arith, w.room, put.size);
            done = w.done ++ (new ∷ []);
            whole = behind new (counted_at x (end + 1) following (d.counts.rules + 1)) (whole ∙ rw (y, z));
            rules =
                rules-append w.done (new ∷ [])
                ∙ ap (λ (ps : List (Placed Rule)). ps ++ (line d.number (held v' r' d.counts.rows fill) ∷ [])) w.rules
                ∙ sym (rules-more v r t l v' r' t' l' d.number d.counts w.filled fill m m' g rule-put few);
            list =
                noted-append w.done (new ∷ [])
                ∙ ap₂ (λ (a : List ℕ) (k : ℕ). a ++ (d.number ∷ k ∷ [])) w.list (sym q)
                ∙ sym put.is;
            small = omega (arith, w.small, some_byte (rule-kept y));
            half = w.half + 1;
            twice = omega (arith, w.twice);
          }
