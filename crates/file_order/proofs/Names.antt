-- How a name ends, and which of two comes first.
-- Assumes nothing.
use Prim.Native.Nat.{ℕ, suc, ◌-◌, ◌≤◌, ◌<◌}
use mathlib.Core.Path.{◌≡◌, refl, sym, ap, ap₂, ◌∙◌}
use mathlib.Core.Bool.{Bool, true, false, ◌&&◌, ◌||◌}
use mathlib.Core.List.{List, [], ◌∷◌}
use native.Mathlib.Omega.{arith}
use borrow.Author.Tests.{leb-true, leb-false, eqb-true, eqb-false}
use lib.Dec.{eqb, leb, ltb}
use lib.ListN.{length, drop}
use Rattle.lists.specs.Bytes.{same_bytes}
use Rattle.lists.proofs.Moves.{ap_at}
use Rattle.scan.proofs.Equality.{same-unequal}
use Rattle.std.specs.Cmp.Lexicographic.{slice_cmp}
use Rattle.std.specs.Ordering.{is_lt, ordering_then, nat_cmp}
use Rattle.std.specs.declared.cmp.Ordering.{Ordering}
use Rattle.std.specs.declared.cmp.Ordering.TheVariants.{Less, Equal, Greater}
use Rattle.std.specs.Prelude.{cond}
use Rattle.files.specs.Files.{ends_in, before}

pub and-true : (t : Bool) → (t && true) ≡ t
and-true true = refl
and-true false = refl

-- ---- the end of a name

pub ends_short : (e bs : List ℕ) → length bs < length e → ends_in e bs ≡ false
unfolding ends_in
ends_short e [] h = same-unequal e [] (λ q. absurd (omega arith))
ends_short e (b ∷ bs) h = ap₂ ◌||◌ (same-unequal e (b ∷ bs) (λ q. absurd (omega arith))) (ends_short e bs (omega arith))

ends-cons : (e : List ℕ) (b : ℕ) (bs : List ℕ) → ends_in e (b ∷ bs) ≡ (same_bytes e (b ∷ bs) || ends_in e bs)
unfolding ends_in
ends-cons e b bs = refl

or-false : (t : Bool) → (t || false) ≡ t
or-false true = refl
or-false false = refl

pub ends-long : (e bs : List ℕ) → length e ≤ length bs → ends_in e bs ≡ same_bytes e (drop (length bs - length e) bs)
ends-long e [] h = unfold ends_in in ap_at (λ k. same_bytes e (drop k [])) 0 (0 - length e) (omega arith)
ends-long e (b ∷ bs) h = ends-cons e b bs ∙ at (eqb (length e) (suc (length bs))) refl (ends-long e bs)
  where
    at : (t : Bool) → eqb (length e) (suc (length bs)) ≡ t → (length e ≤ length bs → ends_in e bs ≡ same_bytes e (drop (length bs - length e) bs))
        → (same_bytes e (b ∷ bs) || ends_in e bs) ≡ same_bytes e (drop (suc (length bs) - length e) (b ∷ bs))
    at true q ih =
        let same = eqb-true (length e) (suc (length bs)) q in
        ap (λ (t : Bool). same_bytes e (b ∷ bs) || t) (ends_short e bs (omega arith)) ∙ or-false (same_bytes e (b ∷ bs))
        ∙ ap_at (λ k. same_bytes e (drop k (b ∷ bs))) 0 (suc (length bs) - length e) (omega arith)
    at false q ih =
        let other = eqb-false (length e) (suc (length bs)) q in
        ap (λ (t : Bool). t || ends_in e bs) (same-unequal e (b ∷ bs) other) ∙ ih (omega arith)
        ∙ ap_at (λ k. same_bytes e (drop k (b ∷ bs))) (suc (length bs - length e)) (suc (length bs) - length e) (omega arith)

pub ends-with : (e bs : List ℕ) → same_bytes e (drop (length bs - length e) bs) ≡ ends_in e bs
ends-with e bs = at (leb (length e) (length bs)) refl
  where
    at : (t : Bool) → leb (length e) (length bs) ≡ t → same_bytes e (drop (length bs - length e) bs) ≡ ends_in e bs
    at true h = sym (ends-long e bs (leb-true (length e) (length bs) h))
    at false h =
        let short = leb-false (length e) (length bs) h in
        ap_at (λ k. same_bytes e (drop k bs)) (length bs - length e) 0 (omega arith)
        ∙ same-unequal e bs (λ q. absurd (omega arith))
        ∙ sym (ends_short e bs (omega arith))

-- ---- one name before another

lt-then : (t u : Bool) (o : Ordering) → is_lt (ordering_then (cond t Less (cond u Equal Greater)) o) ≡ (t || (u && is_lt o))
lt-then true u o = refl
lt-then false true o = refl
lt-then false false o = refl

pub before-cmp : (a b : List ℕ) → is_lt (slice_cmp nat_cmp a b) ≡ before a b
unfolding before
before-cmp [] [] = refl
before-cmp [] (y ∷ ys) = refl
before-cmp (x ∷ xs) [] = refl
before-cmp (x ∷ xs) (y ∷ ys) = lt-then (ltb x y) (eqb x y) (slice_cmp nat_cmp xs ys) ∙ ap (λ (t : Bool). ltb x y || (eqb x y && t)) (before-cmp xs ys)
