-- What a step says: one law for each kind of element at a place.
-- Assumes nothing.
use Prim.Native.Nat.{ℕ, ◌+◌, ◌≤◌, ◌<◌}
use mathlib.Core.Path.{◌≡◌, refl, sym, ap, ◌∙◌}
use mathlib.Core.Bool.{Bool, true, false}
use mathlib.Core.List.{List, [], ◌∷◌}
use Rattle.std.specs.Prelude.{Option, None, Some}
use native.Mathlib.Omega.{arith}
use borrow.Author.Tests.{eq-eqb, ne_eqb, leb-true, leb-false}
use lib.Dec.{eqb, leb}
use lib.ListN.{length, get_or, drop, drop_of_length-le}
use Rattle.lists.specs.Lists.{pick}
use Rattle.lists.specs.Items.{Item}
use Rattle.lists.proofs.Rest.{rest_at, get_d_any}
use Rattle.pattern.specs.Pattern.{Element, one, byte, element_at, set_at, takes, eats, alternative_matches, is_special}
use Rattle.pattern.proofs.Elements.{Single, match_empty, match_star, match_single, match_fault}
use Rattle.pattern.proofs.Stars.{eaten, star-ends}
use Rattle.glob.specs.Place.{alternative_at, matches_from, NotBar}
use Rattle.glob.specs.Sets.{set_read}
use Rattle.glob.specs.Step.{set_step, byte_step, StepIs}
use Rattle.glob.specs.declared.Step.TheVariants.{Done, Star, Eat, Miss, Stop}
use Rattle.glob.proofs.Place.{not_bar_in, alternative_on, alternative_ends, Further, further}
use Rattle.glob.proofs.Sets.{set-whole}

-- a byte that is no bar, by its number
pub not_bar : (s : List ℕ) (p b : ℕ) → get_or s p 124 ≡ b → (b ≡ 124 → ⊥) → NotBar s p
not_bar s p b e n z = n (sym e ∙ z)

module _ (s : List ℕ) (p : ℕ) (v : List ℕ) (t : ℕ) where
  -- ---- the end of the alternative, and a star

  pub step-done : get_or s p 124 ≡ 124 → length v ≤ t → StepIs Done s p v t
  step-done e h = rw (alternative_ends s p e, drop_of_length-le v h) (match_empty [])

  pub step_left : get_or s p 124 ≡ 124 → t < length v → StepIs Miss s p v t
  step_left e h = (h, rw (alternative_ends s p e, rest_at v t h) (match_empty (get_or v t 0 ∷ drop (t + 1) v)))

  pub step-star : get_or s p 124 ≡ 42 → StepIs Star s p v t
  step-star e =
      let n = not_bar s p 42 e (λ z. absurd (omega arith)) in
      (not_bar_in s p n, λ ys. rw (alternative_on s p n, e) (match_star (alternative_at s (p + 1)) ys))

  -- a star that is the last element
  pub step-star_last : get_or s p 124 ≡ 42 → get_or s (p + 1) 124 ≡ 124 → StepIs Done s p v t
  step-star_last e f =
      (step-star e).1 (drop t v) ∙ star-ends (matches_from s (p + 1)) (rw (alternative_ends s (p + 1) f) (match_empty [])) (drop t v)

  -- ---- an element that is no star, from p to q

  module _ (e : Element) (q : ℕ) (forward : p < q) (inside : q ≤ length s) (goes : (ys : List ℕ) → matches_from s p ys ≡ eats (takes e) (matches_from s q) ys) where
    single_short : length v ≤ t → StepIs Stop s p v t
    unfolding eats
    single_short h [] k = goes []
    single_short h (y ∷ ys) k = absurd (omega arith)

    single-eats : t < length v → takes e (get_or v t 0) ≡ true → StepIs (Eat q) s p v t
    unfolding eats
    single-eats h k = record {
      forward = forward;
      inside = inside;
      byte = h;
      here = goes (drop t v) ∙ rw (rest_at v t h, k);
      on = λ ys m. eaten (takes e) (matches_from s q) ys (sym (goes ys) ∙ m);
    }

    single_misses : t < length v → takes e (get_or v t 0) ≡ false → StepIs Miss s p v t
    unfolding eats
    single_misses h k = (h, goes (drop t v) ∙ rw (rest_at v t h, k))

  module _ (b : ℕ) (here : get_or s p 124 ≡ b) (n : b ≡ 124 → ⊥) where
    open_at : alternative_at s p ≡ b ∷ alternative_at s (p + 1)
    open_at = rw (alternative_on s p (not_bar s p b here n), here)

    forward_in : p + 1 ≤ length s
    forward_in = omega (arith, not_bar_in s p (not_bar s p b here n))

    goes_one : (e : Element) → Single e → ((bs : List ℕ) → element_at b bs ≡ Some (record { value = e; more = 0 })) → (ys : List ℕ) → matches_from s p ys ≡ eats (takes e) (matches_from s (p + 1)) ys
    goes_one e k h ys = rw open_at (match_single b (alternative_at s (p + 1)) e 0 (h (alternative_at s (p + 1))) k ys)

  -- ---- `?`

  module _ (here : get_or s p 124 ≡ 63) where
    one-goes : (ys : List ℕ) → matches_from s p ys ≡ eats (takes one) (matches_from s (p + 1)) ys
    one-goes ys = goes_one 63 here (λ z. absurd (omega arith)) one tt (λ bs. refl) ys

    pub step-one_short : length v ≤ t → StepIs Stop s p v t
    step-one_short h = single_short one (p + 1) (omega arith) (forward_in 63 here (λ z. absurd (omega arith))) one-goes h

    pub step-one : t < length v → StepIs (Eat (p + 1)) s p v t
    step-one h = single-eats one (p + 1) (omega arith) (forward_in 63 here (λ z. absurd (omega arith))) one-goes h refl

  -- ---- a byte that stands for itself

  module _ (b : ℕ) (here : get_or s p 124 ≡ b) (no_bar : b ≡ 124 → ⊥) (no-star : b ≡ 42 → ⊥) (no_one : b ≡ 63 → ⊥) (no-set : b ≡ 91 → ⊥) where
    pub byte-goes : (ys : List ℕ) → matches_from s p ys ≡ eats (takes (byte b)) (matches_from s (p + 1)) ys
    byte-goes ys = goes_one b here no_bar (byte b) tt (λ bs. rw (ne_eqb b 42 no-star, ne_eqb b 63 no_one, ne_eqb b 91 no-set)) ys

    pub step-byte : StepIs (byte_step b p v t) s p v t
    step-byte = go (leb (length v) t) refl (eqb b (get_or v t 0)) refl
      where
        go : (u : Bool) → leb (length v) t ≡ u → (w : Bool) → eqb b (get_or v t 0) ≡ w → StepIs (pick u Stop (pick w (Eat (p + 1)) Miss)) s p v t
        go true h w k = single_short (byte b) (p + 1) (omega arith) (forward_in b here no_bar) byte-goes (leb-true (length v) t h)
        go false h true k = single-eats (byte b) (p + 1) (omega arith) (forward_in b here no_bar) byte-goes (leb-false (length v) t h) k
        go false h false k = single_misses (byte b) (p + 1) (omega arith) (forward_in b here no_bar) byte-goes (leb-false (length v) t h) k

  -- ---- a set

  module _ (here : get_or s p 124 ≡ 91) where
    set_opens : alternative_at s p ≡ 91 ∷ alternative_at s (p + 1)
    set_opens = open_at 91 here (λ z. absurd (omega arith))

    set-faulty : set_at (alternative_at s (p + 1)) ≡ None → (ys : List ℕ) → matches_from s p ys ≡ false
    set-faulty e ys = rw set_opens (match_fault 91 (alternative_at s (p + 1)) e ys)

    module _ (i : Item Element) (e : set_at (alternative_at s (p + 1)) ≡ Some i) where
      set_further : Further s (p + 1) i.more (p + 1 + i.more)
      set_further = further s (p + 1) i.more (p + 1 + i.more) refl (forward_in 91 here (λ z. absurd (omega arith))) (set-whole (alternative_at s (p + 1)) i e).inside

      set-goes : (ys : List ℕ) → matches_from s p ys ≡ eats (takes i.value) (matches_from s (p + 1 + i.more)) ys
      set-goes ys =
          ap (λ (l : List ℕ). alternative_matches l ys) set_opens
          ∙ match_single 91 (alternative_at s (p + 1)) i.value i.more e (set-whole (alternative_at s (p + 1)) i e).single ys
          ∙ ap (λ (l : List ℕ). eats (takes i.value) (alternative_matches l) ys) set_further.alternative

    pub step-set_short : length v ≤ t → StepIs Stop s p v t
    step-set_short h = go (set_at (alternative_at s (p + 1))) refl
      where
        go : (o : Option (Item Element)) → set_at (alternative_at s (p + 1)) ≡ o → StepIs Stop s p v t
        go None e = λ ys k. set-faulty e ys
        go (Some i) e = single_short i.value (p + 1 + i.more) (omega arith) (set_further i e).inside (set-goes i e) h

    pub step_set : t < length v → StepIs (set_step (set_read (set_at (alternative_at s (p + 1))) (get_or v t 0) (p + 1))) s p v t
    step_set h = go (set_at (alternative_at s (p + 1))) refl
      where
        taken : (i : Item Element) → set_at (alternative_at s (p + 1)) ≡ Some i → (w : Bool) → takes i.value (get_or v t 0) ≡ w
            → StepIs (pick w (Eat (p + 1 + i.more)) Miss) s p v t
        taken i e true k = single-eats i.value (p + 1 + i.more) (omega arith) (set_further i e).inside (set-goes i e) h k
        taken i e false k = single_misses i.value (p + 1 + i.more) (omega arith) (set_further i e).inside (set-goes i e) h k

        go : (o : Option (Item Element)) → set_at (alternative_at s (p + 1)) ≡ o → StepIs (set_step (set_read o (get_or v t 0) (p + 1))) s p v t
        go None e = λ ys k. set-faulty e ys
        go (Some i) e = taken i e (takes i.value (get_or v t 0)) refl
