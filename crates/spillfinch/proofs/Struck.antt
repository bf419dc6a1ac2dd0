-- What is wanted of the striker holds of the texts and the lists that calls of `spillfinch_strike` make.
-- Assumes nothing.
use Prim.Native.Nat.{ℕ, ◌*◌, ◌≤◌}
use mathlib.Core.Path.{◌≡◌, refl, sym, ap, ◌∙◌, subst}
use mathlib.Core.Bool.{Bool, true, false, ◌&&◌}
use mathlib.Core.List.{List, [], ◌∷◌, ◌++◌}
use native.Mathlib.Omega.{arith}
use borrow.Author.Tests.{leb-true, le-leb}
use lib.Dec.{leb}
use lib.ListN.{length, replicate}
use lib.Seq.{take_at}
use Rattle.lists.specs.Checked.{Checked as Checks, refused, ok, Placed, line}
use Rattle.lists.specs.Refusal.{Refusal, number, target_short, text_long}
use Rattle.lists.specs.Sizes.{most_text}
use Rattle.lists.proofs.Tests.{and_both}
use Rattle.text.specs.Run.{Answer, acceptance}
use Rattle.text.specs.Reading.{read_text}
use Rattle.text.specs.Rules.{rules_in}
use Rattle.text.proofs.Runs.{refusal-number}
use Rattle.rules.specs.Pair.{Rule}
use Rattle.rules.specs.Reading.{reader}
use Rattle.text_check.specs.Check.{check}
use Rattle.striking.specs.Striking.{most_strikes, judged, strikes, struck, laid_out, Made, StrikeAnswer, strike_answer, strike_checked, strike}
use Rattle.striking.proofs.Wanted.{wanted}
use Rattle.strike.proofs.Laws.{laid_twice}
use Rattle.spillfinch.specs.Exports.{numbers_with, CheckGives, StrikeGives}
use Rattle.spillfinch.specs.Joined.{number_in, used_in, Checked}
use Rattle.spillfinch.specs.Written.{made_in}
use Rattle.spillfinch.specs.Struck.{count_in, list_in, Judged, WellStruck, Struck}

-- ---- a check that is accepted

check-accepts : (t : List ℕ) (rs : List (Placed Rule)) (checked : List ℕ) → read_text reader t ≡ ok rs → CheckGives t checked → number_in checked ≡ 0
check-accepts t rs checked e c = let z : (check t).number ≡ 0 = rw e in ap number_in c ∙ z

accepts-check : (t : List ℕ) → Checked t → (rs : List (Placed Rule)) × (read_text reader t ≡ ok rs)
accepts-check t (checked, c, z) = at (read_text reader t) refl
  where
    at : (r : Checks (Placed Refusal) (List (Placed Rule))) → read_text reader t ≡ r → (rs : List (Placed Rule)) × (read_text reader t ≡ ok rs)
    at (ok rs) e = (rs, e)
    at (refused (line n f)) e =
        let (k, p) = refusal-number f in
        let q : (check t).number ≡ number f = rw e in
        absurd (omega (arith, p, sym q ∙ sym (ap number_in c) ∙ z))

-- ---- a call that made something

made_short : (t : List ℕ) (room places : ℕ) (m : Made) → strike_checked reader t room places ≡ ok m
    → (most_text ≤ room) × (most_strikes * 2 ≤ places) × (length t ≤ most_text) × (m ≡ record { text = struck reader t; strikes = strikes reader t })
unfolding strike_checked
made_short t room places m e = at (leb most_text room) (leb (most_strikes * 2) places) (leb (length t) most_text) refl refl refl
  where
    at : (a b c : Bool) → leb most_text room ≡ a → leb (most_strikes * 2) places ≡ b → leb (length t) most_text ≡ c
        → (most_text ≤ room) × (most_strikes * 2 ≤ places) × (length t ≤ most_text) × (m ≡ record { text = struck reader t; strikes = strikes reader t })
    at true true true p q r =
        let s : ok m ≡ ok (record { text = struck reader t; strikes = strikes reader t }) = sym e ∙ rw (p, q, r) in
        (leb-true most_text room p, leb-true (most_strikes * 2) places q, leb-true (length t) most_text r, cc)
    at true true false p q r = let s : ok m ≡ refused (line 0 text_long) = sym e ∙ rw (p, q, r) in let z : ◌≡◌ {A = ℕ} 0 1 = cc in absurd (omega arith)
    at true false c p q r = let s : ok m ≡ refused (line 0 target_short) = sym e ∙ rw (p, q) in let z : ◌≡◌ {A = ℕ} 0 1 = cc in absurd (omega arith)
    at false b c p q r = let s : ok m ≡ refused (line 0 target_short) = sym e ∙ rw p in let z : ◌≡◌ {A = ℕ} 0 1 = cc in absurd (omega arith)

strike-is : (t : List ℕ) (room places : ℕ) (c : Checks (Placed Refusal) Made) → strike_checked reader t room places ≡ c → strike reader t room places ≡ strike_answer room places c
unfolding strike
strike-is t room places c e = ap (strike_answer room places) e

strike-ok : (t : List ℕ) (room places : ℕ) → most_text ≤ room → most_strikes * 2 ≤ places → length t ≤ most_text → strike_checked reader t room places ≡ ok (record { text = struck reader t; strikes = strikes reader t })
unfolding strike_checked
strike-ok t room places a b c = rw (le-leb most_text room a, le-leb (most_strikes * 2) places b, le-leb (length t) most_text c)

record Makes (t : List ℕ) (room places : ℕ) (written target list : List ℕ) : Type 0 where
  room_is : most_text ≤ room
  places_are : most_strikes * 2 ≤ places
  short : length t ≤ most_text
  numbers_are : written ≡ numbers_with (acceptance room 0 0 (struck reader t)) (length (strikes reader t))
  target_is : target ≡ (acceptance room 0 0 (struck reader t)).bytes
  list_is : list ≡ (strike_answer room places (ok (record { text = struck reader t; strikes = strikes reader t }))).list

makes : (t : List ℕ) (room places : ℕ) (written target list : List ℕ) → StrikeGives t room places written target list → number_in written ≡ 0 → Makes t room places written target list
makes t room places written target list (a, b, c) z = at (strike_checked reader t room places) refl
  where
    at : (r : Checks (Placed Refusal) Made) → strike_checked reader t room places ≡ r → Makes t room places written target list
    at (refused (line n f)) e =
        let (k, p) = refusal-number f in
        let i = strike-is t room places (refused (line n f)) e in
        absurd (omega (arith, p, sym (ap (λ (x : StrikeAnswer). x.target.number) i) ∙ sym (ap number_in a) ∙ z))
    at (ok m) e =
        let (room_is, places_are, short, m-is) = made_short t room places m e in
        let i = strike-is t room places (ok m) e ∙ ap (λ (x : Made). strike_answer room places (ok x)) m-is in
        record {
          room_is = room_is;
          places_are = places_are;
          short = short;
          numbers_are = a ∙ ap (λ (x : StrikeAnswer). numbers_with x.target x.count) i;
          target_is = b ∙ ap (λ (x : StrikeAnswer). x.target.bytes) i;
          list_is = c ∙ ap (λ (x : StrikeAnswer). x.list) i;
        }

-- ---- what is wanted of it

module _ (t : List ℕ) (room places : ℕ) (written target list : List ℕ) (m : Makes t room places written target list) where
  used_is : used_in written ≡ length (struck reader t)
  used_is = ap used_in m.numbers_are

  count-is : count_in written ≡ length (strikes reader t)
  count-is = ap count_in m.numbers_are

  made-is : made_in written target ≡ struck reader t
  made-is = rw (used_is, m.target_is) (take_at (struck reader t) _ (length (struck reader t)) refl)

  listed-is : list_in written list ≡ laid_out (strikes reader t)
  listed-is = rw (count-is, m.list_is) (take_at (laid_out (strikes reader t)) _ (length (strikes reader t) * 2) (laid_twice (strikes reader t)))

  well_struck : WellStruck t room places written target list
  unfolding strikes
  well_struck = record {
    accepted = λ checked c. check-accepts (struck reader t) (rules_in (judged reader t)) checked (wanted.accepted t m.short) (subst (λ (x : List ℕ). CheckGives x checked) made-is c);
    judged = (judged reader t, record { grounds = wanted.grounds t; kept = rw made-is (wanted.kept t); listed = listed-is });
    unchanged = λ c.
        let (rs, e) = accepts-check t c in
        let (same, none) = wanted.unchanged t rs e in
        (made-is ∙ same, count-is ∙ ap length none);
    twice = λ written' target' list' g.
        let (a, b, c) = subst (λ (x : List ℕ). StrikeGives x room places written' target' list') made-is g in
        let short : length (struck reader t) ≤ most_text = omega (arith, wanted.no_longer t, m.short) in
        let i = strike-is (struck reader t) room places _ (strike-ok (struck reader t) room places m.room_is m.places_are short) in
        let (same, none) = wanted.twice t m.short in (
          b ∙ ap (λ (x : StrikeAnswer). x.target.bytes) i ∙ ap (λ (x : List ℕ). (acceptance room 0 0 x).bytes) same ∙ sym m.target_is,
          ap count_in a ∙ ap (λ (x : StrikeAnswer). x.count) i ∙ ap length none,
        );
    few = rw count-is (wanted.few t m.short);
    no_longer = rw used_is (wanted.no_longer t);
  }

pub calls_struck : Struck
calls_struck t room places written target list g z = well_struck t room places written target list (makes t room places written target list g z)
