-- What is wanted of the striker holds of every reader that skips an empty line, and so of this language.
-- Assumes nothing.
use Prim.Native.Nat.{ℕ, ◌≤◌}
use mathlib.Core.Path.{◌≡◌, refl, ap, ◌∙◌}
use mathlib.Core.List.{List, [], map}
use native.Mathlib.Omega.{arith}
use lib.ListN.{length}
use Rattle.lists.specs.Runs.{span}
use Rattle.lists.specs.Checked.{ok, Placed, in_place}
use Rattle.lists.specs.Sizes.{most_text, most_rules}
use Rattle.text.specs.Engine.{Reader, skip}
use Rattle.text.specs.Lines.{blank, lines_in, numbered, lines}
use Rattle.text.specs.Reading.{read_lent, reads, read_text}
use Rattle.text.specs.Rules.{rules_in, rules_of}
use Rattle.text.proofs.Lines.{lines-total}
use Rattle.text.proofs.Texts.{reading_of, Parts, read_ok, read}
use Rattle.rules.specs.Reading.{read_line, reader}
use Rattle.striking.specs.Striking.{most_strikes, past_most, unanswered, judged, strikes, struck}
use Rattle.striking.specs.Wanted.{Grounds, become_all, Wanted}
use Rattle.striking.proofs.Lines.{together-lines, proper, lines_left_lem, all-le}
use Rattle.striking.proofs.Judged.{grounds_all, kept_few, kept_settled, marked, become_lines, all_left_lem, strikes_few, past_none, answered-all, no-strikes, left-all}

module _ (R : Reader) where
  open R use {Rule}

  grounds : (t : List ℕ) → Grounds R most_rules (reads R t) (judged R t)
  unfolding judged
  grounds t = grounds_all R most_rules (reads R t)

  here : (t : List ℕ) → Grounds R most_rules (map (in_place (read_lent R)) (numbered 1 (lines_in blank t))) (judged R t)
  unfolding lines
  here t = grounds t

  kept : (t : List ℕ) → lines (struck R t) ≡ become_all R (lines t) (judged R t)
  unfolding lines struck
  kept t =
      ap (numbered 1) (lines_left_lem (lines_in blank t) (judged R t) (proper blank t) (marked R most_rules 1 (lines_in blank t) (judged R t) (here t)))
      ∙ become_lines R 1 (lines_in blank t) (judged R t)

  no_longer : (t : List ℕ) → length (struck R t) ≤ length t
  unfolding struck
  no_longer t =
      omega (arith, all-le (lines_in blank t) (judged R t) (marked R most_rules 1 (lines_in blank t) (judged R t) (here t)), ap length (together-lines blank t))

  unchanged : (t : List ℕ) (rs : List (Placed Rule)) → read_text R t ≡ ok rs → (struck R t ≡ t) × (strikes R t ≡ [])
  unfolding struck strikes judged lines rules_of
  unchanged t rs e =
      let p = (read (reading_of R) t rs e).parts in
      let q : unanswered R (past_most most_rules (reads R t)) ≡ reads R t = ap (unanswered R) (past_none R most_rules (reads R t) p.few) ∙ answered-all R (reads R t) p.settled in
      (rw (q, left-all R 1 (lines_in blank t) p.faultless) (together-lines blank t), rw q (no-strikes R (reads R t) p.faultless))

  module _ (empty : R.read_line [] ≡ skip) where
    accepted : (t : List ℕ) → length t ≤ most_text → read_text R (struck R t) ≡ ok (rules_in (judged R t))
    unfolding rules_of lines
    accepted t h =
        let l = all_left_lem R empty most_rules 1 (lines_in blank t) (judged R t) (here t) in
        let e : reads R (struck R t) ≡ map (in_place (read_lent R)) (become_all R (numbered 1 (lines_in blank t)) (judged R t)) = ap (map (in_place (read_lent R))) (kept t) in
        let p : Parts (reading_of R) (struck R t) = record {
          short = omega (arith, no_longer t);
          faultless = rw e l.faultless;
          few = rw (e, l.count) (kept_few R most_rules (reads R t) (judged R t) (grounds t));
          settled = rw (e, l.rules) (kept_settled R most_rules (reads R t) (judged R t) (grounds t));
        } in
        read_ok (reading_of R) (struck R t) p ∙ ap ok (ap rules_in e ∙ l.rules)

    few : (t : List ℕ) → length t ≤ most_text → length (strikes R t) ≤ most_strikes
    unfolding strikes
    few t h = omega (arith, strikes_few R empty most_rules 1 (lines_in blank t) (judged R t) (here t), lines-total blank t)

    twice : (t : List ℕ) → length t ≤ most_text → (struck R (struck R t) ≡ struck R t) × (strikes R (struck R t) ≡ [])
    twice t h = unchanged (struck R t) (rules_in (judged R t)) (accepted t h)

    pub wanted_of : Wanted R
    wanted_of = record { accepted = accepted; kept = kept; unchanged = unchanged; twice = twice; grounds = grounds; few = few; no_longer = no_longer }

empty_skipped : read_line [] ≡ skip
unfolding read_line span
empty_skipped = refl

pub wanted : Wanted reader
wanted = wanted_of reader empty_skipped
