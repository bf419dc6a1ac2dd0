-- Reading line by line, where nothing is refused.
-- Assumes nothing.
use Prim.Native.Nat.{ℕ, zero, suc, ◌+◌, ◌≤◌, zero-le, suc-le-suc}
use mathlib.Core.Path.{◌≡◌, refl, sym, ◌∙◌, ap}
use mathlib.Core.List.{List, [], ◌∷◌, ◌++◌, map}
use native.Mathlib.Nat.{zero-add, suc-add, le_of_suc-le-suc, not-suc-le-zero}
use Rattle.lists.specs.Lists.{All}
use Rattle.lists.specs.Checked.{ok, Holds, Placed, line, line_of}
use Rattle.lists.proofs.Checked.{holds-map, holds-bind}
use Rattle.text.specs.Engine.{LineRead, skip, fault, rule}
use Rattle.text.specs.Reading.{collect, rule_count}
use Rattle.text.specs.Rules.{rules_in}
use Rattle.text.proofs.Lines.{shift}

module _ {Rule : Type 0} where
  abbrev pub Faultless : List (Placed (LineRead Rule)) → Type 0
  Faultless [] = Unit {0}
  Faultless (line n skip ∷ ls) = Faultless ls
  Faultless (line n (fault f) ∷ ls) = ⊥
  Faultless (line n (rule r) ∷ ls) = Faultless ls

  pub collect-ok : (k : ℕ) (ls : List (Placed (LineRead Rule))) → Faultless ls → rule_count ls ≤ k → collect k ls ≡ ok (rules_in ls)
  unfolding collect rule_count rules_in
  collect-ok k [] f h = refl
  collect-ok k (line n skip ∷ ls) f h = collect-ok k ls f h
  collect-ok k (line n (fault x) ∷ ls) f h = absurd f
  collect-ok zero (line n (rule r) ∷ ls) f h = absurd (not-suc-le-zero h)
  collect-ok (suc k) (line n (rule r) ∷ ls) f h = rw (collect-ok k ls f (le_of_suc-le-suc h))

  pub record Collected (k : ℕ) (ls : List (Placed (LineRead Rule))) (rs : List (Placed Rule)) : Type 0 where
    pub faultless : Faultless ls
    pub few : rule_count ls ≤ k
    pub same : rs ≡ rules_in ls

  pub collected : (k : ℕ) (ls : List (Placed (LineRead Rule))) → Holds (Collected k ls) (collect k ls)
  unfolding collect rule_count rules_in
  collected k [] = record { faultless = tt; few = zero-le; same = refl }
  collected k (line n skip ∷ ls) =
      holds-map (Collected k ls) (Collected k (line n skip ∷ ls)) (collect k ls) (collected k ls)
      (λ rs h. record { faultless = h.faultless; few = h.few; same = h.same })
  collected k (line n (fault x) ∷ ls) = tt
  collected zero (line n (rule r) ∷ ls) = tt
  collected (suc k) (line n (rule r) ∷ ls) =
      holds-bind (Collected k ls) (Collected (suc k) (line n (rule r) ∷ ls)) (collect k ls) _ (collected k ls)
      (λ rs h. record {
        faultless = h.faultless;
        few = suc-le-suc h.few;
        same = ap (λ (qs : List (Placed Rule)). line n r ∷ qs) h.same;
      })

  -- ---- lines one behind the other

  pub faultless_append : (xs ys : List (Placed (LineRead Rule))) → Faultless xs → Faultless ys → Faultless (xs ++ ys)
  faultless_append [] ys f g = g
  faultless_append (line n skip ∷ xs) ys f g = faultless_append xs ys f g
  faultless_append (line n (fault x) ∷ xs) ys f g = f
  faultless_append (line n (rule r) ∷ xs) ys f g = faultless_append xs ys f g

  pub faultless_split : (xs ys : List (Placed (LineRead Rule))) → Faultless (xs ++ ys) → Faultless xs × Faultless ys
  faultless_split [] ys f = (tt, f)
  faultless_split (line n skip ∷ xs) ys f = faultless_split xs ys f
  faultless_split (line n (fault x) ∷ xs) ys f = absurd f
  faultless_split (line n (rule r) ∷ xs) ys f = faultless_split xs ys f

  pub count-append : (xs ys : List (Placed (LineRead Rule))) → rule_count (xs ++ ys) ≡ rule_count xs + rule_count ys
  unfolding rule_count
  count-append [] ys = sym (zero-add (rule_count ys))
  count-append (line n skip ∷ xs) ys = count-append xs ys
  count-append (line n (fault x) ∷ xs) ys = count-append xs ys
  count-append (line n (rule r) ∷ xs) ys = ap suc (count-append xs ys) ∙ sym (suc-add (rule_count xs) (rule_count ys))

  pub rules-append : (xs ys : List (Placed (LineRead Rule))) → rules_in (xs ++ ys) ≡ rules_in xs ++ rules_in ys
  unfolding rules_in
  rules-append [] ys = refl
  rules-append (line n skip ∷ xs) ys = rules-append xs ys
  rules-append (line n (fault x) ∷ xs) ys = rules-append xs ys
  rules-append (line n (rule r) ∷ xs) ys = ap (λ (qs : List (Placed Rule)). line n r ∷ qs) (rules-append xs ys)

  -- ---- lines further down

  pub faultless_shift : (k : ℕ) (xs : List (Placed (LineRead Rule))) → Faultless xs → Faultless (shift k xs)
  faultless_shift k [] f = tt
  faultless_shift k (line n skip ∷ xs) f = faultless_shift k xs f
  faultless_shift k (line n (fault x) ∷ xs) f = f
  faultless_shift k (line n (rule r) ∷ xs) f = faultless_shift k xs f

  pub faultless_unshift : (k : ℕ) (xs : List (Placed (LineRead Rule))) → Faultless (shift k xs) → Faultless xs
  faultless_unshift k [] f = tt
  faultless_unshift k (line n skip ∷ xs) f = faultless_unshift k xs f
  faultless_unshift k (line n (fault x) ∷ xs) f = f
  faultless_unshift k (line n (rule r) ∷ xs) f = faultless_unshift k xs f

  pub count-shift : (k : ℕ) (xs : List (Placed (LineRead Rule))) → rule_count (shift k xs) ≡ rule_count xs
  unfolding rule_count
  count-shift k [] = refl
  count-shift k (line n skip ∷ xs) = count-shift k xs
  count-shift k (line n (fault x) ∷ xs) = count-shift k xs
  count-shift k (line n (rule r) ∷ xs) = ap suc (count-shift k xs)

  pub rules-shift : (k : ℕ) (xs : List (Placed (LineRead Rule))) → rules_in (shift k xs) ≡ shift k (rules_in xs)
  unfolding rules_in
  rules-shift k [] = refl
  rules-shift k (line n skip ∷ xs) = rules-shift k xs
  rules-shift k (line n (fault x) ∷ xs) = rules-shift k xs
  rules-shift k (line n (rule r) ∷ xs) = ap (λ (qs : List (Placed Rule)). line (k + n) r ∷ qs) (rules-shift k xs)

  -- what holds of the numbers of lines holds of those of their rules
  pub rules-lines : (P : ℕ → Type 0) (xs : List (Placed (LineRead Rule))) → All (λ (p : Placed (LineRead Rule)). P (line_of p)) xs → All (λ (p : Placed Rule). P (line_of p)) (rules_in xs)
  unfolding rules_in
  rules-lines P [] h = tt
  rules-lines P (line n skip ∷ xs) (h, hs) = rules-lines P xs hs
  rules-lines P (line n (fault x) ∷ xs) (h, hs) = rules-lines P xs hs
  rules-lines P (line n (rule r) ∷ xs) (h, hs) = (h, rules-lines P xs hs)
