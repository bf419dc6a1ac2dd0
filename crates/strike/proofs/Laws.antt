-- The striker check by check, and what is made once all is left.
-- Assumes nothing.
use Prim.Native.Nat.{ℕ, zero, suc, ◌+◌, ◌-◌, ◌*◌, ◌/◌, ◌≤◌, ◌<◌}
use mathlib.Core.Path.{◌≡◌, refl, sym, ap, ap₂, ◌∙◌}
use mathlib.Core.Bool.{true, false, ◌&&◌}
use mathlib.Core.List.{List, [], ◌∷◌, ◌++◌, append-nil}
use native.Mathlib.Omega.{arith}
use borrow.Author.Tests.{le-leb, lt-leb}
use borrow.Rule.Slice.PartMut.{put_mid}
use lib.Dec.{leb}
use lib.ListN.{length, take, drop, replicate, length-drop, length-append, drop_of_length-le}
use lib.Seq.{length-take-le}
use Rattle.lists.specs.Checked.{refused, ok, Placed, line}
use Rattle.lists.specs.Refusal.{Refusal, target_short, text_long}
use Rattle.lists.specs.Sizes.{most_text}
use Rattle.lists.proofs.Moves.{ap_at}
use Rattle.text.specs.Run.{acceptance}
use Rattle.rules.specs.Reading.{reader}
use Rattle.striking.specs.Striking.{most_strikes, strikes, struck, laid_out, StrikeAnswer, strike_answer, strike_checked, strike}
use Rattle.striking.proofs.Wanted.{wanted}
use Rattle.answers.specs.declared.Given.{Given}
use Rattle.answers.specs.Answers.{answered, Accepts}
use Rattle.left_lines.specs.declared.Left.{Left}
use Rattle.left_lines.specs.Left.{AllLeft}

module _ (t : List ℕ) (room places : ℕ) where
  pub strike_short : room < most_text → strike_answer room places (refused (line 0 target_short)) ≡ strike reader t room places
  unfolding strike strike_checked
  strike_short h = rw (lt-leb most_text room h)

  module _ (h : most_text ≤ room) where
    pub strike_few : places < most_strikes * 2 → strike_answer room places (refused (line 0 target_short)) ≡ strike reader t room places
    unfolding strike strike_checked
    strike_few k = rw (le-leb most_text room h, lt-leb (most_strikes * 2) places k)

    module _ (k : most_strikes * 2 ≤ places) where
      pub strike-long : most_text < length t → strike_answer room places (refused (line 0 text_long)) ≡ strike reader t room places
      unfolding strike strike_checked
      strike-long l = rw (le-leb most_text room h, le-leb (most_strikes * 2) places k, lt-leb (length t) most_text l)

      pub strike-made : length t ≤ most_text → strike_answer room places (ok (record { text = struck reader t; strikes = strikes reader t })) ≡ strike reader t room places
      unfolding strike strike_checked
      strike-made l = rw (le-leb most_text room h, le-leb (most_strikes * 2) places k, le-leb (length t) most_text l)

-- two numbers for each strike
pub laid_twice : (ss : List (Placed Refusal)) → length (laid_out ss) ≡ length ss * 2
unfolding laid_out
laid_twice [] = refl
laid_twice (line n f ∷ ss) = omega (arith, laid_twice ss)

module _ (t l : List ℕ) (k : ℕ) (e : laid_out (strikes reader t) ≡ take k l) (h : k ≤ length l) where
  pub listed-is : k ≡ length (strikes reader t) * 2
  listed-is = sym (length-take-le k l h) ∙ sym (ap length e) ∙ laid_twice (strikes reader t)

  pub listed_few : length t ≤ most_text → k ≤ most_strikes * 2
  listed_few s = omega (arith, listed-is, wanted.few t s)

  pub count-is : k / 2 ≡ length (strikes reader t)
  count-is = let q = listed-is in omega arith

-- what stands at the start of a slice, and all behind it cleared
pub cleared_rest : (x l : List ℕ) (k : ℕ) (z : List ℕ) (n : ℕ) → x ≡ take k l → k ≤ length l → z ≡ replicate n 0 → n ≡ length l - k
    → put_mid k (length l - k) l z ≡ x ++ replicate (length l - length x) 0
cleared_rest x l k z n e h f q =
    let size : length x ≡ k = ap length e ∙ length-take-le k l h in
    let d : drop (length l - k) (drop k l) ≡ [] = drop_of_length-le (drop k l) {i = length l - k} (omega (arith, length-drop k l)) in
    let r : z ≡ replicate (length l - length x) 0 = f ∙ ap_at (λ m. replicate m 0) n (length l - length x) (omega (arith, q, size)) in
    ap (λ (y : List ℕ). y ++ (z ++ drop (length l - k) (drop k l))) (sym e)
    ∙ ap (λ (y : List ℕ). x ++ (z ++ y)) d
    ∙ ap (λ (y : List ℕ). x ++ y) (append-nil z ∙ r)

-- ---- all is left

module _ (t g l : List ℕ) (d : Left) (a : AllLeft t l g d) (short : length t ≤ most_text) where
  pub used_few : d.used ≤ most_text
  used_few = omega (arith, wanted.no_longer t, ap length a.text, length-take-le d.used g a.used)

  module _ (room places : ℕ) (h : most_text ≤ room) (k : most_strikes * 2 ≤ places) (r : length g ≡ room) (p : length l ≡ places) where
    -- the numbers, the text and the list, each as the definition gives it
    pub all-given : (given : Given) (count : ℕ) (g' l' : List ℕ) → Accepts given 0 0 d.used → count ≡ d.listed / 2
        → g' ≡ struck reader t ++ replicate (length g - length (struck reader t)) 0
        → l' ≡ laid_out (strikes reader t) ++ replicate (length l - length (laid_out (strikes reader t))) 0
        → record { target = answered given g'; count = count; list = l' } ≡ strike reader t room places
    all-given given count g' l' accepts c e f =
        let target : answered given g' ≡ acceptance room 0 0 (struck reader t)
        = ap (answered given) (rw r at e) ∙ accepts room (struck reader t) (sym (ap length a.text ∙ length-take-le d.used g a.used)) in
        let listed : l' ≡ laid_out (strikes reader t) ++ replicate (places - length (laid_out (strikes reader t))) 0 = rw p at f in
        let counted : count ≡ length (strikes reader t) = c ∙ count-is t l d.listed a.list a.listed in
        (λ i. record { target = target i; count = counted i; list = listed i }) ∙ strike-made t room places h k short
