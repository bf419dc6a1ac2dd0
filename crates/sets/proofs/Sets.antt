-- Every set within its size can be laid out and is read back; bytes that are read as a set are its layout.
-- Assumes nothing.
use Prim.Native.Nat.{ℕ, suc, ◌≤◌, ◌<◌}
use mathlib.Core.Path.{◌≡◌, refl, sym, ap, ap₂, ◌∙◌, subst}
use mathlib.Core.Bool.{Bool, true, false}
use mathlib.Core.List.{List, [], ◌∷◌, ◌++◌, append_assoc, append-nil}
use Rattle.std.specs.Prelude.{Option, None, Some}
use Rattle.std.proofs.lemmas.Option.{none-some, same_Some}
use native.Mathlib.Omega.{arith}
use lib.Dec.{leb}
use lib.ListN.{length}
use borrow.Author.Tests.{le-leb, leb-true}
use Rattle.lists.specs.Lists.{all, cat}
use Rattle.lists.specs.Bytes.{Bytes, between}
use Rattle.lists.proofs.Tests.{and_both, both_and}
use Rattle.lists.proofs.Records.{bytes-first}
use Rattle.bits.specs.Bits.{number_at}
use Rattle.bits.specs.Fields.{Field, packed, fields_at}
use Rattle.bits.proofs.Numbers.{number_lt}
use Rattle.entries.specs.Parse.{Parse, got, bad, bind, many}
use Rattle.entries.specs.Entry.{exactly}
use Rattle.entries.proofs.Rows.{Laws, through, many_there, many-back}
use Rattle.entries.proofs.Heads.{number_of, head_read, head_back}
use Rattle.entries.proofs.Entries.{head_there, exactly_there, exactly-back}
use Rattle.sets.specs.LaidOut.{LaidOut}
use Rattle.sets.specs.Sets.{ok_long, long_fields, enc_long, one_long, encode_set, whole, decode_set}

-- ---- a long text

long_there : (x r : List ℕ) → ok_long x ≡ true → one_long (enc_long x ++ r) ≡ got x r
long_there x r h =
    let fs : List Field = long_fields (length x) in
    let l : length x ≤ 65535 = leb-true (length x) 65535 h in
    let e : fields_at (packed fs) 0 (16 ∷ []) ≡ fs = head_read fs 2 refl (omega arith, tt) in
    ap one_long (append_assoc (packed fs) x r)
    ∙ ap (λ (p : Parse (List ℕ)). bind p (λ head r. exactly (number_at head 0 16) r)) (head_there fs 2 (x ++ r) refl)
    ∙ ap (λ (n : ℕ). exactly n (x ++ r)) (ap (number_of 0) e)
    ∙ exactly_there x r

long-back : (bs x r : List ℕ) → Bytes bs → one_long bs ≡ got x r → (bs ≡ enc_long x ++ r) × (ok_long x ≡ true)
long-back bs x r h e =
    through (exactly 2 bs) _ x r e λ head q p₁ e₁.
    let (w, l) = exactly-back 2 bs head q p₁ in
    let n = number_at head 0 16 in
    let (v, m) = exactly-back n q x r e₁ in
    let b : packed (long_fields n) ≡ head = head_back head (16 ∷ []) 2 refl l (bytes-first head q (subst Bytes w h)) in
    let s : n < 65536 = number_lt head 0 16 in (
      w
          ∙ ap (λ (y : List ℕ). y ++ q) (sym b)
          ∙ ap₂ (λ (i : ℕ) (y : List ℕ). packed (long_fields i) ++ y) (sym m) v
          ∙ sym (append_assoc (packed (long_fields (length x))) x r),
      le-leb (length x) 65535 (omega arith),
    )

pub long-laws : Laws (List ℕ) enc_long ok_long one_long
long-laws = record { there = long_there; back = long-back }

-- ---- a set

pub whole-some : {A : Type 0} (p : Parse A) (a : A) → whole p ≡ Some a → p ≡ got a []
whole-some {A = A} bad a e = absurd (none-some a e)
whole-some {A = A} (got x (b ∷ bs)) a e = absurd (none-some a e)
whole-some {A = A} (got x []) a e = ap (λ (y : A). got y []) (same_Some x a e)

module _ {A : Type 0} {enc : A → List ℕ} {ok : A → Bool} {one : List ℕ → Parse A} (L : Laws A enc ok one) (least most : ℕ) where
  -- every set within its size is read back from its layout, so it is not refused
  pub set_there : (xs : List A) → least ≤ length xs → length xs ≤ most → all ok xs ≡ true → decode_set least most one (encode_set enc xs) ≡ Some xs
  unfolding decode_set encode_set
  set_there xs l m h =
      rw (both_and (leb least (length xs)) (leb (length xs) most) (le-leb least (length xs) l) (le-leb (length xs) most m), decode_set)
      (ap whole (ap (many one (length xs)) (sym (append-nil (cat enc xs))) ∙ many_there L xs [] h))

  -- and nothing else is
  pub set_back : (bs : List ℕ) (xs : List A) → Bytes bs → decode_set least most one bs ≡ Some xs
      → (bs ≡ encode_set enc xs) × (all ok xs ≡ true) × (least ≤ length xs) × (length xs ≤ most)
  unfolding decode_set encode_set
  set_back [] xs h e = absurd (none-some xs e)
  set_back (n ∷ bs) xs h e = at (between least most n) refl e
    where
      at : (t : Bool) → between least most n ≡ t → elim t as (λ _. Option (List A)) [ true ↦ whole (many one n bs) | false ↦ None ] ≡ Some xs
          → (n ∷ bs ≡ length xs ∷ cat enc xs) × (all ok xs ≡ true) × (least ≤ length xs) × (length xs ≤ most)
      at false f e = absurd (none-some xs e)
      at true f e =
          let (w, o, l) = many-back L n bs xs [] (λ i. h (suc i)) (whole-some (many one n bs) xs e) in
          let (p, q) = and_both (leb least n) (leb n most) f in
          let p' = leb-true least n p in
          let q' = leb-true n most q in
          (ap₂ (λ (i : ℕ) (y : List ℕ). i ∷ y) (sym l) (w ∙ append-nil (cat enc xs)), o, omega arith, omega arith)

  pub set_laid_out : LaidOut enc ok one least most
  set_laid_out = record { there = set_there; back = set_back }
