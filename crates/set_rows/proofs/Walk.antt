-- A walk over the entries of a set, whatever they are: what each turn leaves to be read.
-- Assumes nothing.
use Prim.Native.Nat.{ℕ, zero, suc, ◌-◌, ◌≤◌, ◌<◌}
use mathlib.Core.Path.{◌≡◌, refl, sym, ap, ◌∙◌}
use mathlib.Core.Bool.{Bool, true, false}
use mathlib.Core.List.{List, [], ◌∷◌}
use Rattle.std.specs.Prelude.{Option, None, Some}
use Rattle.std.proofs.lemmas.Option.{none-some}
use native.Mathlib.Nat.{not-suc-le-zero}
use native.Mathlib.Omega.{arith}
use borrow.Author.Tests.{le-leb, lt-leb, leb-true, eq-eqb, ne_eqb}
use lib.Dec.{leb, eqb}
use lib.ListN.{length, drop, get_or, length-drop}
use Rattle.lists.specs.Lists.{is_some}
use Rattle.lists.specs.Bytes.{between}
use Rattle.lists.proofs.Moves.{ap_at}
use Rattle.lists.proofs.Tests.{and_both, both_and, and-false}
use Rattle.entries.specs.Parse.{Parse, got, bad, bind, many}
use Rattle.entries.proofs.Rows.{through}
use Rattle.sets.specs.Sets.{whole, decode_set}
use Rattle.sets.proofs.Sets.{whole-some}
use Rattle.set_rows.specs.Places.{skip}

one-more : {A : Type 0} (a : A) (p : Parse (List A)) → is_some (whole (bind p (λ xs q. got (a ∷ xs) q))) ≡ is_some (whole p)
one-more a bad = refl
one-more a (got xs []) = refl
one-more a (got xs (b ∷ q)) = refl

module _ {A : Type 0} (one : List ℕ → Parse A) where
  -- ---- a set that is judged

  -- n entries and no byte behind them
  abbrev pub is_whole : ℕ → List ℕ → Bool
  is_whole n bs = is_some (whole (many one n bs))

  pub turn-whole : (n : ℕ) (bs r : List ℕ) (a : A) → 0 < n → one bs ≡ got a r → is_whole n bs ≡ is_whole (n - 1) r
  turn-whole zero bs r a h e = absurd (not-suc-le-zero h)
  turn-whole (suc m) bs r a h e = rw e (one-more a (many one m r) ∙ ap_at (λ i. is_whole i r) m (suc m - 1) (omega arith))

  pub turn-bad : (n : ℕ) (bs : List ℕ) → 0 < n → one bs ≡ bad → is_whole n bs ≡ false
  turn-bad zero bs h e = absurd (not-suc-le-zero h)
  turn-bad (suc m) bs h e = rw e

  -- at the end
  pub end_whole : (set : List ℕ) (p n : ℕ) → n ≡ 0 → p ≤ length set → is_whole n (drop p set) ≡ eqb p (length set)
  end_whole set p n z h = ap (λ (i : ℕ). is_whole i (drop p set)) z ∙ at (drop p set) (length-drop p set)
    where
      at : (bs : List ℕ) → length bs ≡ length set - p → is_whole 0 bs ≡ eqb p (length set)
      at [] e = sym (eq-eqb p (length set) (omega arith))
      at (b ∷ bs) e = sym (ne_eqb p (length set) (λ f. absurd (omega arith)))

  module _ (least most : ℕ) where
    pub set-empty : (set : List ℕ) → length set < 1 → decode_set least most one set ≡ None
    unfolding decode_set
    set-empty [] h = refl
    set-empty (n ∷ bs) h = absurd (omega arith)

    pub set-above : (set : List ℕ) → most < get_or set 0 0 → decode_set least most one set ≡ None
    unfolding decode_set
    set-above [] h = refl
    set-above (n ∷ bs) h = rw (lt-leb n most h, and-false (leb least n), decode_set)

    pub set_below : (set : List ℕ) → get_or set 0 0 < least → decode_set least most one set ≡ None
    unfolding decode_set
    set_below [] h = refl
    set_below (n ∷ bs) h = rw (lt-leb least n h, decode_set)

    pub set-begins : (set : List ℕ) → 1 ≤ length set → least ≤ get_or set 0 0 → get_or set 0 0 ≤ most → is_some (decode_set least most one set) ≡ is_whole (get_or set 0 0) (drop 1 set)
    unfolding decode_set
    set-begins [] h k m = absurd (omega arith)
    set-begins (n ∷ bs) h k m = rw (both_and (leb least n) (leb n most) (le-leb least n k) (le-leb n most m), decode_set)

    -- ---- a set that is known to be one

    pub record Begun (set : List ℕ) (xs : List A) : Type 0 where
      pub some : 1 ≤ length set
      pub few : get_or set 0 0 ≤ most
      pub read : many one (get_or set 0 0) (drop 1 set) ≡ got xs []

    pub set_read_lem : (set : List ℕ) (xs : List A) → decode_set least most one set ≡ Some xs → Begun set xs
    unfolding decode_set
    set_read_lem [] xs e = absurd (none-some xs e)
    set_read_lem (n ∷ bs) xs e = at (between least most n) refl e
      where
        at : (t : Bool) → between least most n ≡ t → elim t as (λ _. Option (List A)) [ true ↦ whole (many one n bs) | false ↦ None ] ≡ Some xs → Begun (n ∷ bs) xs
        at false f e = absurd (none-some xs e)
        at true f e = record { some = omega arith; few = leb-true n most (and_both (leb least n) (leb n most) f).1; read = whole-some (many one n bs) xs e }

  -- the entry at the front, and the others behind it
  pub record Turn (n : ℕ) (bs : List ℕ) (a : A) (r : List ℕ) (xs : List A) (z : List ℕ) : Type 0 where
    pub others : List A
    pub split : xs ≡ a ∷ others
    pub read : many one (n - 1) r ≡ got others z

  pub turn : (n : ℕ) (bs r : List ℕ) (a : A) (xs : List A) (z : List ℕ) → 0 < n → one bs ≡ got a r → many one n bs ≡ got xs z → Turn n bs a r xs z
  turn zero bs r a xs z h e m = absurd (not-suc-le-zero h)
  turn (suc n) bs r a xs z h e m =
      let rest : bind (many one n r) (λ ys q. got (a ∷ ys) q) ≡ got xs z = rw e at m in
      through (many one n r) _ xs z rest λ ys q e₁ e₂.
      let j : xs ≡ a ∷ ys = cc in
      let k : q ≡ z = cc in
      record { others = ys; split = j; read = ap_at (λ i. many one i r) (suc n - 1) n (omega arith) ∙ e₁ ∙ ap (got ys) k }

  -- there is one
  pub first-got : (n : ℕ) (bs : List ℕ) (xs : List A) (z : List ℕ) → 0 < n → many one n bs ≡ got xs z → (a : A) × (r : List ℕ) × (one bs ≡ got a r)
  first-got zero bs xs z h m = absurd (not-suc-le-zero h)
  first-got (suc n) bs xs z h m = through (one bs) _ xs z m λ a r e₁ e₂. (a, r, e₁)

  pub many-length : (n : ℕ) (bs : List ℕ) (xs : List A) (z : List ℕ) → many one n bs ≡ got xs z → length xs ≡ n
  many-length zero bs xs z m = let j : xs ≡ [] = cc in ap length j
  many-length (suc n) bs xs z m =
      through (one bs) _ xs z m λ a r e₁ e₂.
      through (many one n r) _ xs z e₂ λ ys q e₃ e₄.
      let j : xs ≡ a ∷ ys = cc in ap length j ∙ ap suc (many-length n r ys q e₃)

-- ---- without what is read

module _ {A : Type 0} (one : List ℕ → Parse A) where
  abbrev pub skips : List ℕ → Parse (Unit {0})
  skips bs = skip (one bs)

  skipped-whole : (n : ℕ) (bs : List ℕ) → is_whole skips n bs ≡ is_whole one n bs
  skipped-whole zero [] = refl
  skipped-whole zero (b ∷ bs) = refl
  skipped-whole (suc n) bs = at (one bs) (skipped-whole n)
    where
      at : (p : Parse A) → ((r : List ℕ) → is_whole skips n r ≡ is_whole one n r) → is_some (whole (bind (skip p) (λ u r. bind (many skips n r) (λ us q. got (u ∷ us) q)))) ≡ is_some (whole (bind p (λ a r. bind (many one n r) (λ xs q. got (a ∷ xs) q))))
      at bad ih = refl
      at (got a r) ih = one-more tt (many skips n r) ∙ ih r ∙ sym (one-more a (many one n r))

  pub set-skipped : (least most : ℕ) (set : List ℕ) → is_some (decode_set least most skips set) ≡ is_some (decode_set least most one set)
  unfolding decode_set
  set-skipped least most [] = refl
  set-skipped least most (n ∷ bs) = at (between least most n)
    where
      at : (t : Bool) → is_some (elim t as (λ _. Option (List (Unit {0}))) [ true ↦ whole (many skips n bs) | false ↦ None ]) ≡ is_some (elim t as (λ _. Option (List A)) [ true ↦ whole (many one n bs) | false ↦ None ])
      at true = skipped-whole n bs
      at false = refl
