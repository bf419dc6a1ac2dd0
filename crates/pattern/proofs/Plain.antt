-- A pattern without `*`, `?`, `[` and `|` is well formed and matches exactly the bytes equal to it.
-- Assumes nothing.
use Prim.Native.Nat.{ℕ}
use mathlib.Core.Path.{◌≡◌, refl, ap, ◌∙◌}
use mathlib.Core.Bool.{Bool, true, false, not, ◌&&◌, ◌||◌, or-false}
use mathlib.Core.List.{List, [], ◌∷◌}
use Rattle.std.specs.Prelude.{Option, None, Some}
use borrow.Author.Tests.{not-true, eqb-false}
use lib.Dec.{eqb}
use Rattle.lists.specs.Lists.{is_some, all}
use Rattle.lists.specs.Bytes.{same_bytes}
use Rattle.lists.specs.Items.{before, items}
use Rattle.lists.proofs.Tests.{and_both, neither}
use Rattle.lists.proofs.Scan.{part-all}
use Rattle.pattern.specs.Pattern.{Element, byte, element_at, elements, takes, eats, alternative_matches, well_formed, matches, is_special, is_plain}
use Rattle.pattern.proofs.Elements.{elements_at, match_empty, match_single}

module _ (b : ℕ) where
  tests : is_special b ≡ false → (eqb b 42 ≡ false) × (eqb b 63 ≡ false) × (eqb b 91 ≡ false) × (eqb b 124 ≡ false)
  tests h =
      let (h3, d) = neither (eqb b 42 || eqb b 63 || eqb b 91) (eqb b 124) h in
      let (h2, c) = neither (eqb b 42 || eqb b 63) (eqb b 91) h3 in
      let (a, e) = neither (eqb b 42) (eqb b 63) h2 in
      (a, e, c, d)

  pub not_special : is_special b ≡ false → (b ≡ 42 → ⊥) × (b ≡ 63 → ⊥) × (b ≡ 91 → ⊥) × (b ≡ 124 → ⊥)
  not_special h = let n = tests h in (eqb-false b 42 n.0, eqb-false b 63 n.1, eqb-false b 91 n.2, eqb-false b 124 n.3)

  plain_byte : (bs : List ℕ) → is_special b ≡ false → element_at b bs ≡ Some (record { value = byte b; more = 0 })
  plain_byte bs h = let n = tests h in rw (n.0, n.1, n.2)

no_bar : (p : List ℕ) → is_plain p ≡ true → all (λ x. not (eqb x 124)) p ≡ true
no_bar [] h = refl
no_bar (b ∷ p) h =
    let (q, r) = and_both (not (is_special b)) (is_plain p) h in
    let n = tests b (not-true (is_special b) q) in
    rw (n.3, no_bar p r)

plain-elements : (p : List ℕ) → is_plain p ≡ true → is_some (elements p) ≡ true
unfolding elements items
plain-elements [] h = refl
plain-elements (b ∷ p) h =
    let (q, r) = and_both (not (is_special b)) (is_plain p) h in
    rw (elements_at b p (record { value = byte b; more = 0 }) (plain_byte b p (not-true (is_special b) q))) (go (elements p) (plain-elements p r))
  where
    go : (o : Option (List Element)) → is_some o ≡ true → is_some (before (byte b) o) ≡ true
    go None e = e
    go (Some es) e = refl

plain_alternative : (p v : List ℕ) → is_plain p ≡ true → alternative_matches p v ≡ same_bytes p v
unfolding same_bytes eats
plain_alternative [] [] h = match_empty []
plain_alternative [] (x ∷ v) h = match_empty (x ∷ v)
plain_alternative (b ∷ p) v h =
    let (q, r) = and_both (not (is_special b)) (is_plain p) h in
    match_single b p (byte b) 0 (plain_byte b p (not-true (is_special b) q)) tt v ∙ go v (λ w. plain_alternative p w r)
  where
    go : (v : List ℕ) → ((w : List ℕ) → alternative_matches p w ≡ same_bytes p w) → eats (takes (byte b)) (alternative_matches p) v ≡ same_bytes (b ∷ p) v
    go [] again = refl
    go (x ∷ w) again = ap (λ (t : Bool). eqb b x && t) (again w)

pub plain_well_formed : (pattern : List ℕ) → is_plain pattern ≡ true → well_formed pattern ≡ true
unfolding well_formed
plain_well_formed p h = rw (part-all 124 p (no_bar p h), plain-elements p h)

pub plain-matches : (pattern value : List ℕ) → is_plain pattern ≡ true → matches pattern value ≡ same_bytes pattern value
unfolding matches
plain-matches p v h = rw (part-all 124 p (no_bar p h), plain_alternative p v h) (or-false (same_bytes p v))
