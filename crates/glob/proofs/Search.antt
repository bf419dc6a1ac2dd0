-- The search behind a star: what holds at its head, and one law for each step.
-- Assumes nothing.
use Prim.Native.Nat.{ℕ, ◌+◌, ◌-◌, ◌*◌, ◌≤◌, ◌<◌}
use mathlib.Core.Path.{◌≡◌, refl, sym, ap, ◌∙◌}
use mathlib.Core.Bool.{Bool, true, false, ◌||◌}
use mathlib.Core.List.{List, [], ◌∷◌}
use native.Mathlib.Omega.{arith}
use native.Mathlib.Nat.{mul-le-mul_right}
use native.Mathlib.Decide.{dec_lt}
use borrow.Author.Tests.{not-true}
use lib.Arith.{digits_lt}
use lib.ListN.{length, get_or, drop, drop_of_length-le, length-drop}
use lib.Seq.{drop-drop}
use lib.Dec.{eqb}
use Rattle.lists.proofs.Rest.{rest_at}
use Rattle.lists.proofs.Tests.{eqb-sym}
use Rattle.lists.proofs.Runs.{rest_of}
use Rattle.lists.specs.Runs.{span, span_step}
use Rattle.scan.specs.Ends.{RunEnd, is_not}
use Rattle.pattern.proofs.Plain.{not_special}
use Rattle.pattern.specs.Pattern.{eats, is_special, any_suffix}
use Rattle.glob.proofs.Steps.{byte-goes}
use Rattle.pattern.proofs.Stars.{last_star, none-later}
use Rattle.glob.specs.Place.{matches_from}
use Rattle.glob.specs.Step.{Eaten, StepIs, StartIs}
use Rattle.glob.specs.declared.Step.TheVariants.{Done, Star, Miss, Stop}

-- the first of all ends, and the others
any-split : (f : List ℕ → Bool) (v : List ℕ) (i : ℕ) → any_suffix f (drop i v) ≡ (f (drop i v) || any_suffix f (drop (i + 1) v))
unfolding any_suffix
any-split f v i = go (dec_lt i (length v))
  where
    same : (b : Bool) → b ≡ (b || b)
    same true = refl
    same false = refl

    go : Dec (i < length v) → any_suffix f (drop i v) ≡ (f (drop i v) || any_suffix f (drop (i + 1) v))
    go (yes h) = rw (rest_at v i h)
    go (no h) = rw (drop_of_length-le v {i = i} (omega arith), drop_of_length-le v {i = i + 1} (omega arith)) (same (f []))

-- no match of f begins with a byte that passes a test: such bytes may be passed over
none-begins : (f : List ℕ → Bool) (p : ℕ → Bool) → ((x : ℕ) (xs : List ℕ) → p x ≡ true → f (x ∷ xs) ≡ false)
    → (bs : List ℕ) → any_suffix f (span p bs).rest ≡ any_suffix f bs
unfolding any_suffix span
none-begins f p h [] = refl
none-begins f p h (b ∷ bs) = go (p b) refl (none-begins f p h bs)
  where
    go : (t : Bool) → p b ≡ t → any_suffix f (span p bs).rest ≡ any_suffix f bs → any_suffix f (span_step t b bs (span p bs)).rest ≡ (f (b ∷ bs) || any_suffix f bs)
    go true e k = rw (h b bs e) k
    go false e k = refl

-- a try may start at the next byte that the first element behind the star takes
pub start_at_lem : (s : List ℕ) (star : ℕ) (v : List ℕ) (from r : ℕ) → from ≤ length v → RunEnd (is_not (get_or s star 124)) v from r → is_special (get_or s star 124) ≡ false
    → StartIs r s star v from
unfolding eats
start_at_lem s star v from r h e k =
    let b = get_or s star 124 in
    let n = not_special b k in
    let never : (x : ℕ) (xs : List ℕ) → is_not b x ≡ true → matches_from s star (x ∷ xs) ≡ false
    = λ x xs m. byte-goes s star [] 0 b refl n.3 n.0 n.1 n.2 (x ∷ xs) ∙ rw (eqb-sym b x ∙ not-true (eqb x b) m) in
    record {
      ahead = e.from;
      inside = omega (arith, e.from, e.within);
      same = rw (e.place, ← rest_of (is_not b) v from) (none-begins (matches_from s star) (is_not b) never (drop from v));
    }

pub start-here : (s : List ℕ) (star : ℕ) (v : List ℕ) (from : ℕ) → from ≤ length v → StartIs from s star v from
start-here s star v from h = record { ahead = omega arith; inside = h; same = refl }

-- what stands behind the star is tried from `start` on; that try has come to p and t, and a later one starts behind `start`
pub record Searching (s : List ℕ) (star : ℕ) (v : List ℕ) (from behind start p t : ℕ) : Type 0 where
  pub star_in : behind ≤ length s
  pub place_in : p ≤ length s
  pub ahead : start ≤ t
  pub value_in : t ≤ length v
  pub try : (ys : List ℕ) → matches_from s behind ys ≡ true → matches_from s p (drop (t - start) ys) ≡ true
  pub answer : (matches_from s p (drop t v) || any_suffix (matches_from s behind) (drop (start + 1) v)) ≡ any_suffix (matches_from s star) (drop from v)

-- a try that has just begun
begun : (s : List ℕ) (behind start : ℕ) (ys : List ℕ) → matches_from s behind ys ≡ true → matches_from s behind (drop (start - start) ys) ≡ true
begun s behind start ys m = let z : start - start ≡ 0 = omega arith in rw z m

module _ (s : List ℕ) (star : ℕ) (v : List ℕ) (from : ℕ) where
  pub search_begins : star ≤ length s → from ≤ length v → Searching s star v from star from star from
  search_begins h k = record {
    star_in = h;
    place_in = h;
    ahead = omega arith;
    value_in = k;
    try = begun s star from;
    answer = sym (any-split (matches_from s star) v from);
  }

  module _ (behind start p t : ℕ) (i : Searching s star v from behind start p t) where
    pub search_done : StepIs Done s p v t → true ≡ any_suffix (matches_from s star) (drop from v)
    search_done h = ap (λ (b : Bool). b || any_suffix (matches_from s behind) (drop (start + 1) v)) (sym h) ∙ i.answer

    -- the star's rest is what counts from here on
    star-counts : StepIs Star s p v t → any_suffix (matches_from s (p + 1)) (drop t v) ≡ any_suffix (matches_from s star) (drop from v)
    star-counts (h, goes) =
        let k = t - start in
        let e : start + k ≡ t = omega (arith, i.ahead) in
        let d : drop k (drop start v) ≡ drop t v = drop-drop k start v ∙ ap (λ (m : ℕ). drop m v) e in
        let a : (any_suffix (matches_from s (p + 1)) (drop t v) || any_suffix (matches_from s behind) (drop (start + 1) v)) ≡ any_suffix (matches_from s (p + 1)) (drop t v)
        = rw (← d, ← drop-drop 1 start v) (last_star (matches_from s behind) (matches_from s (p + 1)) k (λ ys m. sym (goes (drop k ys)) ∙ i.try ys m) (drop start v)) in
        sym a ∙ ap (λ (b : Bool). b || any_suffix (matches_from s behind) (drop (start + 1) v)) (sym (goes (drop t v))) ∙ i.answer

    pub search_star : StepIs Star s p v t → Searching s star v from (p + 1) t (p + 1) t
    search_star w = record {
      star_in = omega (arith, w.0);
      place_in = omega (arith, w.0);
      ahead = omega arith;
      value_in = i.value_in;
      try = begun s (p + 1) t;
      answer = sym (any-split (matches_from s (p + 1)) v t) ∙ star-counts w;
    }

    pub search_eat : (next : ℕ) → Eaten s p v t next → Searching s star v from behind start next (t + 1)
    search_eat next w =
        let e : t + 1 - start ≡ t - start + 1 = omega (arith, i.ahead) in
        record {
          star_in = i.star_in;
          place_in = w.inside;
          ahead = omega (arith, i.ahead);
          value_in = omega (arith, w.byte);
          try = λ ys m. rw (e, ← drop-drop 1 (t - start) ys) (w.on (drop (t - start) ys) (i.try ys m));
          answer = ap (λ (b : Bool). b || any_suffix (matches_from s behind) (drop (start + 1) v)) (sym w.here) ∙ i.answer;
        }

    pub search_miss : StepIs Miss s p v t → (r : ℕ) → StartIs r s behind v (start + 1) → Searching s star v from behind r behind r
    search_miss w r n = record {
      star_in = i.star_in;
      place_in = i.star_in;
      ahead = omega arith;
      value_in = n.inside;
      try = begun s behind r;
      answer =
          sym (any-split (matches_from s behind) v r)
          ∙ n.same
          ∙ ap (λ (b : Bool). b || any_suffix (matches_from s behind) (drop (start + 1) v)) (sym w.1)
          ∙ i.answer;
    }

    pub search_stop : StepIs Stop s p v t → false ≡ any_suffix (matches_from s star) (drop from v)
    search_stop w =
        let a : matches_from s p (drop t v) ≡ false = w (drop t v) (omega (arith, length-drop t v)) in
        let b : any_suffix (matches_from s behind) (drop (start + 1) v) ≡ false
        = none-later (matches_from s behind) (length v - start) (λ ys k. never ys k (matches_from s behind ys) refl) (drop (start + 1) v) (omega (arith, length-drop (start + 1) v)) in
        sym (rw (a, b)) ∙ i.answer
      where
        never : (ys : List ℕ) → length ys ≤ length v - start → (u : Bool) → matches_from s behind ys ≡ u → u ≡ false
        never ys k true m =
            let e = i.try ys m in
            let f = w (drop (t - start) ys) (omega (arith, length-drop (t - start) ys, i.ahead)) in
            sym e ∙ f
        never ys k false m = refl

-- ---- the measure: what is left of the value behind the try's start, then of the pattern

pub later_less : (a b c x y : ℕ) → a < b → x ≤ c → a * (c + 1) + x < b * (c + 1) + y
later_less a b c x y h k =
    let d : a * (c + 1) + x < b * (c + 1) = digits_lt h (omega arith) in
    omega arith

pub further_less : (a b c x y : ℕ) → a ≤ b → x < y → a * c + x < b * c + y
further_less a b c x y h k = omega (arith, mul-le-mul_right c h)
