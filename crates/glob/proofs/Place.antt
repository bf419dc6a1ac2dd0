-- Laws of what stands at a place of a pattern.
-- Assumes nothing.
use Prim.Native.Nat.{ℕ, zero, suc, ◌+◌, ◌≤◌, ◌<◌}
use mathlib.Core.Path.{◌≡◌, refl, sym, ap, ◌∙◌}
use mathlib.Core.Bool.{true, false}
use mathlib.Core.List.{List, [], ◌∷◌}
use native.Mathlib.Omega.{arith}
use native.Mathlib.Decide.{dec_lt}
use borrow.Author.Tests.{eq-eqb, ne_eqb}
use lib.Dec.{eqb}
use lib.ListN.{length, get_or, drop, drop_of_length-le, get_or-eq_default}
use Rattle.lists.specs.Runs.{Part, span}
use Rattle.lists.proofs.Rest.{rest_at, get_d_any}
use Rattle.lists.proofs.Runs.{span_in, span-stop}
use Rattle.scan.specs.Ends.{is_not}
use Rattle.glob.specs.Place.{alternative_at, NotBar}

module _ (s : List ℕ) (i : ℕ) where
  pub not_bar_in : NotBar s i → i < length s
  not_bar_in n = go (dec_lt i (length s))
    where
      go : Dec (i < length s) → i < length s
      go (yes h) = h
      go (no h) = absurd (n (get_or-eq_default s 124 {n = i} (omega arith)))

  -- a byte that is no bar, and the alternative behind it
  pub alternative_on : NotBar s i → alternative_at s i ≡ get_or s i 124 ∷ alternative_at s (i + 1)
  unfolding alternative_at
  alternative_on n =
      let h = not_bar_in n in
      let e = get_d_any s i 0 124 h in
      let k : eqb (get_or s i 0) 124 ≡ false = ne_eqb (get_or s i 0) 124 (λ z. n (sym e ∙ z)) in
      ap (λ (l : List ℕ). (span (is_not 124) l).value) (rest_at s i h)
      ∙ ap (λ (r : Part (List ℕ)). r.value) (span_in (is_not 124) (get_or s i 0) (drop (i + 1) s) (rw k))
      ∙ ap (λ (b : ℕ). b ∷ (span (is_not 124) (drop (i + 1) s)).value) e

  -- a bar or the pattern's end
  pub alternative_ends : get_or s i 124 ≡ 124 → alternative_at s i ≡ []
  unfolding alternative_at span
  alternative_ends b = go (dec_lt i (length s))
    where
      go : Dec (i < length s) → (span (is_not 124) (drop i s)).value ≡ []
      go (yes h) =
          let k : eqb (get_or s i 0) 124 ≡ true = eq-eqb (get_or s i 0) 124 (get_d_any s i 0 124 h ∙ b) in
          rw (rest_at s i h, span-stop (is_not 124) (get_or s i 0) (drop (i + 1) s) (rw k))
      go (no h) = rw (drop_of_length-le s {i = i} (omega arith))

  -- what follows the alternative is the same from the next byte on
  pub rest-on : NotBar s i → (span (is_not 124) (drop i s)).rest ≡ (span (is_not 124) (drop (i + 1) s)).rest
  rest-on n =
      let h = not_bar_in n in
      let k : eqb (get_or s i 0) 124 ≡ false = ne_eqb (get_or s i 0) 124 (λ z. n (sym (get_d_any s i 0 124 h) ∙ z)) in
      ap (λ (l : List ℕ). (span (is_not 124) l).rest) (rest_at s i h) ∙ ap (λ (r : Part (List ℕ)). r.rest) (span_in (is_not 124) (get_or s i 0) (drop (i + 1) s) (rw k))

-- n bytes of an alternative further on
pub record Further (s : List ℕ) (p n q : ℕ) : Type 0 where
  pub alternative : drop n (alternative_at s p) ≡ alternative_at s q
  pub rest : (span (is_not 124) (drop p s)).rest ≡ (span (is_not 124) (drop q s)).rest
  pub inside : q ≤ length s

pub further : (s : List ℕ) (p n q : ℕ) → q ≡ p + n → p ≤ length s → n ≤ length (alternative_at s p) → Further s p n q
further s p zero q e k h =
    let z : q ≡ p = omega arith in
    rw z (record { alternative = refl; rest = refl; inside = k })
further s p (suc n) q e k h =
    let b : NotBar s p = λ z. absurd (omega (arith, ap length (alternative_ends s p z))) in
    let o = alternative_on s p b in
    let f = further s (p + 1) n q (omega arith) (omega (arith, not_bar_in s p b)) (omega (arith, ap length o)) in
    record {
      alternative = ap (λ (l : List ℕ). drop (suc n) l) o ∙ f.alternative;
      rest = rest-on s p b ∙ f.rest;
      inside = f.inside;
    }
