-- A set read member by member: one law for each way on.
-- Assumes nothing.
use Prim.Native.Nat.{ℕ, suc, ◌+◌, ◌≤◌, ◌<◌}
use mathlib.Core.Path.{◌≡◌, refl, sym, ap}
use mathlib.Core.Bool.{Bool, true, false, ◌||◌, or-false, or_assoc}
use mathlib.Core.List.{List, [], ◌∷◌}
use Rattle.std.specs.Prelude.{Option, None, Some}
use native.Mathlib.Omega.{arith}
use borrow.Author.Tests.{ne_eqb, le-leb, lt-leb}
use lib.Dec.{eqb}
use lib.ListN.{length}
use Rattle.lists.specs.Bytes.{between}
use Rattle.lists.specs.Runs.{span}
use Rattle.lists.specs.Items.{Item, before, items}
use Rattle.lists.proofs.Items.{items_at, items-bad}
use Rattle.lists.proofs.Runs.{span_in}
use Rattle.lists.proofs.Scan.{span-length}
use Rattle.pattern.specs.Pattern.{Range, Element, set, single, member_at, members, is_inside, closed, body_of, set_of, set_with, set_by, set_at, within}
use Rattle.pattern.proofs.Elements.{Single}
use Rattle.glob.specs.Sets.{set_read, answered, members_read, body_read, member_start, behind_member}

module _ (opposite found : Bool) (x : ℕ) where
  -- a member that was read counts among those found
  found_first : (next : ℕ) (r : Range) (o : Option (List Range))
      → members_read opposite found x next (before r o) ≡ members_read opposite (found || between r.low r.high x) x next o
  found_first next r None = refl
  found_first next r (Some rs) = ap (λ (t : Bool). answered opposite t next) (sym (or_assoc found (between r.low r.high x) (within rs x)))

  -- ---- behind a member

  pub set_unclosed : (i : ℕ) → behind_member opposite found x i [] ≡ None
  unfolding span
  set_unclosed i = refl

  pub set_closes : (i : ℕ) (bs : List ℕ) → behind_member opposite found x i (93 ∷ bs) ≡ answered opposite found (i + 1)
  unfolding span members items
  set_closes i bs =
      let z : i + 0 + 1 ≡ i + 1 = omega arith in
      rw z (ap (λ (t : Bool). answered opposite t (i + 1)) (or-false found))

  pub set-goes-on : (i b : ℕ) (bs : List ℕ) → (b ≡ 93 → ⊥) → behind_member opposite found x i (b ∷ bs) ≡ member_start opposite found x i (b ∷ bs)
  set-goes-on i b bs n =
      let k : eqb b 93 ≡ false = ne_eqb b 93 n in
      let z : i + suc (length (span is_inside bs).value) + 1 ≡ i + length (span is_inside bs).value + 2 = omega arith in
      rw (span_in is_inside b bs (rw k), z)

  -- ---- at a member

  -- a body whose first member is r, and whose others are those of v
  first_read : (next : ℕ) (r : Range) (body v rest : List ℕ) → members body ≡ before r (members v)
      → body_read opposite found x next body rest ≡ body_read opposite (found || between r.low r.high x) x next v rest
  first_read next r body v [] e = refl
  first_read next r body v (c ∷ rest) e = rw e (found_first next r (members v))

  -- a byte by itself
  pub member-single : (i b : ℕ) (bs : List ℕ) → member_at b (span is_inside bs).value ≡ single b
      → member_start opposite found x i (b ∷ bs) ≡ behind_member opposite (found || between b b x) x (i + 1) bs
  unfolding members
  member-single i b bs h =
      let v = (span is_inside bs).value in
      let r : Range = record { low = b; high = b } in
      let z : i + length v + 2 ≡ i + 1 + length v + 1 = omega arith in
      rw z (first_read (i + 1 + length v + 1) r (b ∷ v) v (span is_inside bs).rest (items_at member_at b v (record { value = r; more = 0 }) h))

  module _ (i b y : ℕ) (bs : List ℕ) (n : y ≡ 93 → ⊥) where
    range_body : span is_inside (45 ∷ y ∷ bs) ≡ record { value = 45 ∷ y ∷ (span is_inside bs).value; rest = (span is_inside bs).rest }
    range_body =
        let k : eqb y 93 ≡ false = ne_eqb y 93 n in
        rw (span_in is_inside 45 (y ∷ bs) refl, span_in is_inside y bs (rw k))

    -- a range that does not fall
    pub member_range : b ≤ y → member_start opposite found x i (b ∷ 45 ∷ y ∷ bs) ≡ behind_member opposite (found || between b y x) x (i + 3) bs
    unfolding members
    member_range h =
        let v = (span is_inside bs).value in
        let r : Range = record { low = b; high = y } in
        let z : i + suc (suc (length v)) + 2 ≡ i + 3 + length v + 1 = omega arith in
        let e : member_at b (45 ∷ y ∷ v) ≡ Some (record { value = r; more = 2 }) = rw (le-leb b y h) in
        rw (range_body, z) (first_read (i + 3 + length v + 1) r (b ∷ 45 ∷ y ∷ v) v (span is_inside bs).rest (items_at member_at b (45 ∷ y ∷ v) (record { value = r; more = 2 }) e))

    pub member_falls : y < b → member_start opposite found x i (b ∷ 45 ∷ y ∷ bs) ≡ None
    unfolding members
    member_falls h =
        let v = (span is_inside bs).value in
        let e : member_at b (45 ∷ y ∷ v) ≡ None = rw (lt-leb b y h) in
        rw range_body (go (span is_inside bs).rest (i + suc (suc (length v)) + 2) v (items-bad member_at b (45 ∷ y ∷ v) e))
      where
        go : (rest : List ℕ) (next : ℕ) (v : List ℕ) → members (b ∷ 45 ∷ y ∷ v) ≡ None → body_read opposite found x next (b ∷ 45 ∷ y ∷ v) rest ≡ None
        go [] next v e = refl
        go (c ∷ rest) next v e = rw e

-- ---- a whole set

-- from the first member on
pub set-start : (opposite : Bool) (x p n b : ℕ) (bs : List ℕ) → set_read (set_with opposite n (body_of (b ∷ bs))) x p ≡ member_start opposite false x (p + n) (b ∷ bs)
unfolding body_of
set-start opposite x p n b bs = go (span is_inside bs).value (span is_inside bs).rest
  where
    read : (v : List ℕ) (o : Option (List Range)) → set_read (set_of opposite (n + length (b ∷ v) + 1) o) x p ≡ members_read opposite false x (p + n + length v + 2) o
    read v None = refl
    read v (Some rs) =
        let z : p + (n + suc (length v) + 1) ≡ p + n + length v + 2 = omega arith in
        ap (λ (q : ℕ). answered opposite (within rs x) q) z

    go : (v rest : List ℕ) → set_read (set_with opposite n (closed (b ∷ v) rest)) x p ≡ body_read opposite false x (p + n + length v + 2) (b ∷ v) rest
    go v [] = refl
    go v (c ∷ rest) = read v (members (b ∷ v))

-- a set is no star, and ends inside
pub record Whole (bs : List ℕ) (i : Item Element) : Type 0 where
  pub single : Single i.value
  pub inside : i.more ≤ length bs

body-inside : (bs body : List ℕ) → body_of bs ≡ Some body → length body + 1 ≤ length bs
unfolding body_of
body-inside [] body e = let z : ◌≡◌ {A = ℕ} 0 1 = cc in absurd (omega arith)
body-inside (b ∷ bs) body e = go (span is_inside bs).value (span is_inside bs).rest (span-length is_inside bs) e
  where
    go : (v rest : List ℕ) → length v + length rest ≡ length bs → closed (b ∷ v) rest ≡ Some body → length body + 1 ≤ length (b ∷ bs)
    go v [] h k = let z : ◌≡◌ {A = ℕ} 0 1 = cc in absurd (omega arith)
    go v (c ∷ rest) h k =
        let q : b ∷ v ≡ body = cc in
        rw (← q) (omega arith)

with_whole : (opposite : Bool) (n : ℕ) (bs all : List ℕ) (i : Item Element) → n + length bs ≤ length all → set_with opposite n (body_of bs) ≡ Some i → Whole all i
with_whole opposite n bs all i h e = go (body_of bs) refl e
  where
    last : (body : List ℕ) (o : Option (List Range)) → length body + 1 ≤ length bs → set_of opposite (n + length body + 1) o ≡ Some i → Whole all i
    last body None k e = let z : ◌≡◌ {A = ℕ} 0 1 = cc in absurd (omega arith)
    last body (Some rs) k e =
        let q : record { value = set opposite rs; more = n + length body + 1 } ≡ i = cc in
        rw (← q) (record { single = tt; inside = omega arith })

    go : (o : Option (List ℕ)) → body_of bs ≡ o → set_with opposite n o ≡ Some i → Whole all i
    go None b e = let z : ◌≡◌ {A = ℕ} 0 1 = cc in absurd (omega arith)
    go (Some body) b e = last body (members body) (body-inside bs body b) e

pub set-whole : (bs : List ℕ) (i : Item Element) → set_at bs ≡ Some i → Whole bs i
set-whole [] i e = let z : ◌≡◌ {A = ℕ} 0 1 = cc in absurd (omega arith)
set-whole (b ∷ bs) i e = go (eqb b 33) e
  where
    go : (t : Bool) → set_by t b bs ≡ Some i → Whole (b ∷ bs) i
    go true e = with_whole true 1 bs (b ∷ bs) i (omega arith) e
    go false e = with_whole false 0 (b ∷ bs) (b ∷ bs) i (omega arith) e
