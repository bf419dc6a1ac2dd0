-- A member at a place: a byte by itself, a range, or a falling range.
-- Assumes nothing.
use Prim.Native.Nat.{ℕ, ◌+◌, ◌≤◌, ◌<◌}
use mathlib.Core.Path.{◌≡◌, refl, sym, ◌∙◌}
use mathlib.Core.Bool.{Bool, true, false, not, ◌&&◌, ◌||◌, or-false, and-true}
use mathlib.Core.List.{List, [], ◌∷◌}
use native.Mathlib.Omega.{arith}
use native.Mathlib.Decide.{ℕ_discrete}
use borrow.Author.Tests.{ne_eqb, eqb-true, eqb-false, not-true}
use lib.Dec.{eqb}
use lib.ListN.{length, get_or}
use Rattle.lists.specs.Runs.{span, span_step}
use Rattle.lists.proofs.Rest.{get_d_any}
use Rattle.lists.proofs.Tests.{and_both, neither}
use Rattle.lists.specs.Bytes.{between}
use Rattle.pattern.specs.Pattern.{single, member_at, is_inside, body_of, set_at}
use Rattle.glob.specs.Place.{alternative_at, NotBar, range_at}
use Rattle.glob.specs.Sets.{set_read, answered, member_start, ReadOn, MemberIs}
use Rattle.std.specs.Prelude.{Some, None}
use Rattle.glob.proofs.Place.{not_bar_in, alternative_on, alternative_ends}
use Rattle.glob.proofs.Sets.{set_unclosed, set_closes, set-goes-on, member-single, member_range, member_falls, set-start}

-- ---- a body that does not go on with a dash and one more byte

alone-one : (b d : ℕ) → member_at b (span is_inside (d ∷ [])).value ≡ single b
unfolding span
alone-one b d = go (is_inside d)
  where
    go : (t : Bool) → member_at b (span_step t d [] (span is_inside [])).value ≡ single b
    go true = refl
    go false = refl

alone_two : (b d y : ℕ) (bs : List ℕ) → (eqb d 45 && not (eqb y 93)) ≡ false → member_at b (span is_inside (d ∷ y ∷ bs)).value ≡ single b
unfolding span
alone_two b d y bs h = go (is_inside d) (eqb y 93) refl h
  where
    go : (t u : Bool) → eqb y 93 ≡ u → (eqb d 45 && not u) ≡ false → member_at b (span_step t d (y ∷ bs) (span_step (not (eqb y 93)) y bs (span is_inside bs))).value ≡ single b
    go false u e k = refl
    go true true e k = rw e
    go true false e k = rw (e, sym (and-true (eqb d 45)) ∙ k)

-- ---- by place

module _ (s : List ℕ) (i : ℕ) where
  two_on : i + 1 + 1 ≡ i + 2
  two_on = omega arith

  -- the two bytes behind a place, where a range stands there
  range_bytes : range_at s i ≡ true → (get_or s (i + 1) 124 ≡ 45) × (get_or s (i + 2) 124 ≡ 93 → ⊥) × NotBar s (i + 2)
  range_bytes h =
      let y = get_or s (i + 2) 124 in
      let (d, r) = and_both (eqb (get_or s (i + 1) 124) 45) (not (eqb y 93 || eqb y 124)) h in
      let (p, q) = neither (eqb y 93) (eqb y 124) (not-true (eqb y 93 || eqb y 124) r) in
      (eqb-true (get_or s (i + 1) 124) 45 d, eqb-false y 93 p, eqb-false y 124 q)

  pub range_in : range_at s i ≡ true → i + 2 < length s
  range_in h = not_bar_in s (i + 2) (range_bytes h).2

  alone : (b : ℕ) → range_at s i ≡ false → member_at b (span is_inside (alternative_at s (i + 1))).value ≡ single b
  unfolding span
  alone b h = go (ℕ_discrete (get_or s (i + 1) 124) 124) (ℕ_discrete (get_or s (i + 2) 124) 124)
    where
      go : Dec (get_or s (i + 1) 124 ≡ 124) → Dec (get_or s (i + 2) 124 ≡ 124) → member_at b (span is_inside (alternative_at s (i + 1))).value ≡ single b
      go (yes e) k = rw (alternative_ends s (i + 1) e)
      go (no n) (yes e) = rw (alternative_on s (i + 1) n, two_on, alternative_ends s (i + 2) e) (alone-one b (get_or s (i + 1) 124))
      go (no n) (no m) =
          let k : (eqb (get_or s (i + 1) 124) 45 && not (eqb (get_or s (i + 2) 124) 93)) ≡ false
          = rw (ne_eqb (get_or s (i + 2) 124) 124 m, or-false (eqb (get_or s (i + 2) 124) 93)) at h in
          rw (alternative_on s (i + 1) n, two_on, alternative_on s (i + 2) m) (alone_two b (get_or s (i + 1) 124) (get_or s (i + 2) 124) (alternative_at s (i + 2 + 1)) k)

  module _ (n : NotBar s i) where
    low_byte : get_or s i 0 ≡ get_or s i 124
    low_byte = get_d_any s i 0 124 (not_bar_in s i n)

    pub member-alone : range_at s i ≡ false → MemberIs (Some (record { low = get_or s i 0; high = get_or s i 0; next = i + 1 })) s i
    member-alone h = record {
      forward = omega arith;
      inside = omega (arith, not_bar_in s i n);
      on = λ opposite found x. rw (low_byte, alternative_on s i n) (member-single opposite found x i (get_or s i 124) (alternative_at s (i + 1)) (alone (get_or s i 124) h));
    }

    module _ (h : range_at s i ≡ true) where
      high_byte : get_or s (i + 2) 0 ≡ get_or s (i + 2) 124
      high_byte = get_d_any s (i + 2) 0 124 (range_in h)

      range_opens : alternative_at s i ≡ get_or s i 124 ∷ 45 ∷ get_or s (i + 2) 124 ∷ alternative_at s (i + 3)
      range_opens =
          let (d, y, m) = range_bytes h in
          let k : NotBar s (i + 1) = λ e. absurd (omega arith) in
          let z : i + 2 + 1 ≡ i + 3 = omega arith in
          rw (alternative_on s i n, alternative_on s (i + 1) k, two_on, alternative_on s (i + 2) m, d, z)

      pub member_falling : get_or s (i + 2) 0 < get_or s i 0 → MemberIs None s i
      member_falling k opposite found x =
          rw range_opens (member_falls opposite found x i (get_or s i 124) (get_or s (i + 2) 124) (alternative_at s (i + 3)) (range_bytes h).1 (omega (arith, low_byte, high_byte)))

      pub member-rising : get_or s i 0 ≤ get_or s (i + 2) 0 → MemberIs (Some (record { low = get_or s i 0; high = get_or s (i + 2) 0; next = i + 3 })) s i
      member-rising k = record {
        forward = omega arith;
        inside = omega (arith, range_in h);
        on = λ opposite found x.
            rw (low_byte, high_byte, range_opens)
            (member_range opposite found x i (get_or s i 124) (get_or s (i + 2) 124) (alternative_at s (i + 3)) (range_bytes h).1 (omega (arith, low_byte, high_byte)));
      }

-- ---- behind a member, by place

module _ (s : List ℕ) (i low high next : ℕ) (r : ReadOn s i low high next) (opposite found : Bool) (x : ℕ) where
  pub read_closes : get_or s next 124 ≡ 93 → member_start opposite found x i (alternative_at s i) ≡ answered opposite (found || between low high x) (next + 1)
  read_closes e =
      let n : NotBar s next = λ z. absurd (omega arith) in
      r.on opposite found x ∙ rw (alternative_on s next n, e) (set_closes opposite (found || between low high x) x next (alternative_at s (next + 1)))

  pub read_ends : get_or s next 124 ≡ 124 → member_start opposite found x i (alternative_at s i) ≡ None
  read_ends e = r.on opposite found x ∙ rw (alternative_ends s next e) (set_unclosed opposite (found || between low high x) x next)

  pub read_on : NotBar s next → (get_or s next 124 ≡ 93 → ⊥)
      → member_start opposite found x i (alternative_at s i) ≡ member_start opposite (found || between low high x) x next (alternative_at s next)
  read_on n m = r.on opposite found x ∙ rw (alternative_on s next n) (set-goes-on opposite (found || between low high x) x next (get_or s next 124) (alternative_at s (next + 1)) m)

-- ---- a set by place, behind its opening bracket

module _ (s : List ℕ) (p x : ℕ) where
  pub set_short : get_or s p 124 ≡ 124 → set_read (set_at (alternative_at s p)) x p ≡ None
  set_short e = rw (alternative_ends s p e)

  pub set-plain : NotBar s p → (get_or s p 124 ≡ 33 → ⊥) → set_read (set_at (alternative_at s p)) x p ≡ member_start false false x p (alternative_at s p)
  set-plain n m =
      let z : p + 0 ≡ p = omega arith in
      rw (alternative_on s p n, ne_eqb (get_or s p 124) 33 m) (rw z at (set-start false x p 0 (get_or s p 124) (alternative_at s (p + 1))))

  module _ (e : get_or s p 124 ≡ 33) where
    opposite_on : alternative_at s p ≡ 33 ∷ alternative_at s (p + 1)
    opposite_on = rw (alternative_on s p (λ z. absurd (omega arith)), e)

    pub set_opposite_short : get_or s (p + 1) 124 ≡ 124 → set_read (set_at (alternative_at s p)) x p ≡ None
    unfolding body_of
    set_opposite_short f = rw (opposite_on, alternative_ends s (p + 1) f)

    pub set_opposite : NotBar s (p + 1) → set_read (set_at (alternative_at s p)) x p ≡ member_start true false x (p + 1) (alternative_at s (p + 1))
    set_opposite n = rw (opposite_on, alternative_on s (p + 1) n) (set-start true x p 1 (get_or s (p + 1) 124) (alternative_at s (p + 1 + 1)))
