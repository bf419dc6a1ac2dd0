-- What the definitions read of an entry, by its size and its parts; and the checked rows.
-- Assumes nothing.
use Prim.Native.Nat.{ℕ, zero, suc, ◌+◌, ◌-◌, ◌≤◌, ◌<◌}
use mathlib.Core.Path.{◌≡◌, refl, sym, ap, ap₂, ◌∙◌, subst}
use mathlib.Core.Bool.{Bool, true, false, ◌&&◌}
use mathlib.Core.List.{List, [], ◌∷◌, map}
use native.Mathlib.Omega.{arith}
use borrow.Author.Tests.{le-leb, lt-leb, leb-true, leb-false}
use lib.Dec.{leb}
use lib.ListN.{length, take, drop, length-drop}
use lib.Seq.{drop-drop}
use Rattle.lists.specs.Lists.{pick}
use Rattle.lists.proofs.Tests.{and_both}
use Rattle.lists.proofs.Moves.{ap_at}
use Rattle.bits.specs.Bits.{number_at}
use Rattle.entries.specs.Parse.{Parse, got, bad, bind, keep, many}
use Rattle.entries.specs.Entry.{exactly, Property, ok_prop, prop_at, prop_on, one_prop, one_text}
use Rattle.entries.proofs.Rows.{through}
use Rattle.entries.proofs.Entries.{kept}
use Rattle.rows.specs.Entry.{head_len, name_len, rest_len, size, name, rest}
use Rattle.rows.specs.Row.{Row, names, end_in, end_of, passed_end}
use Rattle.rows.specs.declared.Kind.{Kind}
use Rattle.rows.specs.declared.Kind.TheVariants as kind
use Rattle.std.specs.Prelude.{None, Some}

-- a reader of entries of a kind: what it reads, and the test that its content must pass
pub record Reads (A : Type 0) (kind : Kind) (one : List ℕ → Parse A) (ok : List ℕ → Bool) (here : List ℕ → A) : Type 0 where
  pub is : (bs : List ℕ) → one bs ≡ keep (leb (size kind bs) (length bs) && ok bs) (here bs) (drop (size kind bs) bs)

-- ---- the readers

-- the same test where both sides have n more
pub leb-more : (n a b c d : ℕ) → c ≡ n + a → d ≡ n + b → leb a b ≡ leb c d
leb-more n a b c d e f = go (leb a b) refl
  where
    go : (t : Bool) → leb a b ≡ t → leb a b ≡ leb c d
    go true h = h ∙ sym (le-leb c d (omega (arith, leb-true a b h)))
    go false h = h ∙ sym (lt-leb c d (omega (arith, leb-false a b h)))

-- nothing is read where the head is cut off
pub short : {A : Type 0} (n m : ℕ) (b : Bool) (a : A) (r : List ℕ) → m < n → bad ≡ keep (leb n m && b) a r
short n m b a r h = rw (lt-leb n m h)

-- a test that may come first as well
pub swap : (a b c : Bool) → (a && (b && c)) ≡ (b && (a && c))
swap true b c = refl
swap false true c = refl
swap false false c = refl

abbrev pub text_here : List ℕ → List ℕ
text_here bs = name kind.Text bs

pub text-reads : (ok : List ℕ → Bool) → Reads (List ℕ) kind.Text (one_text ok) (λ bs. ok (text_here bs)) text_here
unfolding name_len rest_len
text-reads ok = record { is = at }
  where
    at : (bs : List ℕ) → one_text ok bs ≡ keep (leb (size kind.Text bs) (length bs) && ok (text_here bs)) (text_here bs) (drop (size kind.Text bs) bs)
    at [] = short (size kind.Text []) 0 (ok (text_here [])) (text_here []) (drop (size kind.Text []) []) (omega arith)
    at (k ∷ bs) =
        let d : drop (1 + k + 0) (k ∷ bs) ≡ drop k bs = ap_at (λ i. drop i (k ∷ bs)) (1 + k + 0) (suc k) (omega arith) in
        ap (λ (r : List ℕ). keep (leb k (length bs) && ok (take k bs)) (take k bs) r) (sym d)
        ∙ ap (λ (t : Bool). keep (t && ok (take k bs)) (take k bs) (drop (1 + k + 0) (k ∷ bs))) (leb-more 1 k (length bs) (1 + k + 0) (suc (length bs)) (omega arith) (omega arith))

abbrev pub property_here : List ℕ → Property
property_here bs = record { key = name kind.Property bs; value = rest kind.Property bs }

-- the head of an entry
pub head_cut : (n : ℕ) (bs : List ℕ) → length bs < n → exactly n bs ≡ bad
head_cut n bs h = rw (lt-leb n (length bs) h)

pub head_whole : (n : ℕ) (bs : List ℕ) → n ≤ length bs → exactly n bs ≡ got (take n bs) (drop n bs)
head_whole n bs h = rw (le-leb n (length bs) h)

-- a property by the lengths in its head
property-by : (bs : List ℕ) (k v : ℕ) → 2 ≤ length bs
    → let p : Property = record { key = take k (drop 2 bs); value = take v (drop (2 + k) bs) } in
    prop_on k v (drop 2 bs) ≡ keep (leb (2 + k + v) (length bs) && ok_prop p) p (drop (2 + k + v) bs)
property-by bs k v h =
    let p : Property = record { key = take k (drop 2 bs); value = take v (drop (2 + k) bs) } in
    let d : drop k (drop 2 bs) ≡ drop (2 + k) bs = drop-drop k 2 bs in
    let e : drop (k + v) (drop 2 bs) ≡ drop (2 + k + v) bs = drop-drop (k + v) 2 bs ∙ ap_at (λ i. drop i bs) (2 + (k + v)) (2 + k + v) (omega arith) in
    let q : prop_at k v (drop 2 bs) ≡ p = λ i. record { key = take k (drop 2 bs); value = take v (d i) } in
    ap₂ (λ (x : Property) (r : List ℕ). keep (leb (k + v) (length (drop 2 bs)) && ok_prop x) x r) q e
    ∙ ap (λ (t : Bool). keep (t && ok_prop p) p (drop (2 + k + v) bs))
    (leb-more 2 (k + v) (length (drop 2 bs)) (2 + k + v) (length bs) (omega arith) (omega (arith, length-drop 2 bs)))

pub property-reads : Reads Property kind.Property one_prop (λ bs. ok_prop (property_here bs)) property_here
unfolding name_len rest_len
property-reads = record { is = at }
  where
    at : (bs : List ℕ) → one_prop bs ≡ keep (leb (size kind.Property bs) (length bs) && ok_prop (property_here bs)) (property_here bs) (drop (size kind.Property bs) bs)
    at bs = go (leb 2 (length bs)) refl
      where
        go : (t : Bool) → leb 2 (length bs) ≡ t → one_prop bs ≡ keep (leb (size kind.Property bs) (length bs) && ok_prop (property_here bs)) (property_here bs) (drop (size kind.Property bs) bs)
        go true h =
            ap (λ (x : Parse (List ℕ)). bind x (λ head r. prop_on (number_at head 0 7) (number_at head 7 9) r)) (head_whole 2 bs (leb-true 2 (length bs) h))
            ∙ property-by bs (number_at (take 2 bs) 0 7) (number_at (take 2 bs) 7 9) (leb-true 2 (length bs) h)
        go false h =
            let l : length bs < 2 = leb-false 2 (length bs) h in
            ap (λ (x : Parse (List ℕ)). bind x (λ head r. prop_on (number_at head 0 7) (number_at head 7 9) r)) (head_cut 2 bs l)
            ∙ short (size kind.Property bs) (length bs) (ok_prop (property_here bs)) (property_here bs) (drop (size kind.Property bs) bs) (omega arith)

-- ---- a row that was read

module _ {A : Type 0} {kind : Kind} {one : List ℕ → Parse A} {ok : List ℕ → Bool} {here : List ℕ → A} (R : Reads A kind one ok here) where
  pub one-got : (bs : List ℕ) (a : A) (r : List ℕ) → one bs ≡ got a r → (size kind bs ≤ length bs) × (here bs ≡ a) × (drop (size kind bs) bs ≡ r)
  one-got bs a r e =
      let (t, x, y) = kept (leb (size kind bs) (length bs) && ok bs) (here bs) a (drop (size kind bs) bs) r (sym (R.is bs) ∙ e) in
      (leb-true (size kind bs) (length bs) (and_both (leb (size kind bs) (length bs)) (ok bs) t).0, x, y)

  -- its entries stand there
  pub many-row : (n : ℕ) (bs : List ℕ) (xs : List A) (r : List ℕ) → many one n bs ≡ got xs r → Row kind n bs
  many-row zero bs xs r e = tt
  many-row (suc n) bs xs r e =
      through (one bs) _ xs r e λ a q p₁ e₁.
      through (many one n q) _ xs r e₁ λ ys q' p₂ e₂.
      let (h, x, y) = one-got bs a q p₁ in
      (h, subst (Row kind n) (sym y) (many-row n q ys q' p₂))

  -- it ends where the walk ends
  pub many-end : (n at : ℕ) (bs : List ℕ) (xs : List A) (r : List ℕ) → many one n bs ≡ got xs r → at + length bs ≡ end_in kind at n bs + length r
  many-end zero at bs xs r e = let q : bs ≡ r = cc in ap (λ (l : List ℕ). at + length l) q
  many-end (suc n) at bs xs r e =
      through (one bs) _ xs r e λ a q p₁ e₁.
      through (many one n q) _ xs r e₁ λ ys q' p₂ e₂.
      let (h, x, y) = one-got bs a q p₁ in
      let i : at + size kind bs + length (drop (size kind bs) bs) ≡ end_in kind (at + size kind bs) n (drop (size kind bs) bs) + length q' =
      many-end n (at + size kind bs) (drop (size kind bs) bs) ys q' (ap (many one n) y ∙ p₂)
      in
      let j : q' ≡ r = cc in
      rw (← j) (omega (arith, length-drop (size kind bs) bs))

  -- its names
  pub many-names : (nm : A → List ℕ) → ((bs : List ℕ) → nm (here bs) ≡ name kind bs)
      → (n : ℕ) (bs : List ℕ) (xs : List A) (r : List ℕ) → many one n bs ≡ got xs r → names kind n bs ≡ map nm xs
  many-names nm f zero bs xs r e = let q : xs ≡ [] = cc in rw q
  many-names nm f (suc n) bs xs r e =
      through (one bs) _ xs r e λ a q p₁ e₁.
      through (many one n q) _ xs r e₁ λ ys q' p₂ e₂.
      let (h, x, y) = one-got bs a q p₁ in
      let j : xs ≡ a ∷ ys = cc in
      rw (j, y, many-names nm f n q ys q' p₂, sym (f bs) ∙ ap nm x)

-- ---- where a check says that it ends

-- something was read, and ends there
pub end_at : {A X : Type 0} (n p : ℕ) (q : Parse A) → end_of n q ≡ Some p → ((a : A) (r : List ℕ) → q ≡ got a r → p ≡ n - length r → X) → X
end_at n p (got a r) e k = k a r refl (cc)
end_at n p bad e k = let z : ◌≡◌ {A = ℕ} 0 1 = cc in absurd (omega arith)

-- nothing was read
pub end-bad : {A : Type 0} (n : ℕ) (q : Parse A) → end_of n q ≡ None → q ≡ bad
end-bad n (got a r) e = let z : ◌≡◌ {A = ℕ} 0 1 = cc in absurd (omega arith)
end-bad n bad e = refl

-- ---- a row whose entries are checked as they are passed

end_more : {A : Type 0} (n : ℕ) (a : A) (p : Parse (List A)) → end_of n (bind p (λ xs q. got (a ∷ xs) q)) ≡ end_of n p
end_more n a (got xs q) = refl
end_more n a bad = refl

-- its end is that of what is read
module _ {A : Type 0} {kind : Kind} {one : List ℕ → Parse A} {ok : List ℕ → Bool} {here : List ℕ → A} (R : Reads A kind one ok here)
    (test : List ℕ → List ℕ → List ℕ → Bool) (same : (bs : List ℕ) → test (take (head_len kind) bs) (name kind bs) (rest kind bs) ≡ ok bs) where
  pub passed_read : (l : List ℕ) (n p : ℕ) → p ≤ length l → passed_end kind test p n (drop p l) ≡ end_of (length l) (many one n (drop p l))
  passed_read l zero p h = ap_at (λ i. Some i) p (length l - length (drop p l)) (omega (arith, length-drop p l))
  passed_read l (suc n) p h =
      rw (same (drop p l), R.is (drop p l)) (go (drop p l) (size kind (drop p l)) (leb (size kind (drop p l)) (length (drop p l))) (ok (drop p l)) λ e.
      let d : drop (size kind (drop p l)) (drop p l) ≡ drop (p + size kind (drop p l)) l = drop-drop (size kind (drop p l)) p l in
      rw d (passed_read l n (p + size kind (drop p l)) (omega (arith, leb-true (size kind (drop p l)) (length (drop p l)) e, length-drop p l))))
    where
      go : (bs : List ℕ) (s : ℕ) (t u : Bool)
          → (t ≡ true → passed_end kind test (p + s) n (drop s bs) ≡ end_of (length l) (many one n (drop s bs)))
          → pick (t && u) (passed_end kind test (p + s) n (drop s bs)) None
          ≡ end_of (length l) (bind (keep (t && u) (here bs) (drop s bs)) (λ a q. bind (many one n q) (λ xs r. got (a ∷ xs) r)))
      go bs s true true f = f refl ∙ sym (end_more (length l) (here bs) (many one n (drop s bs)))
      go bs s true false f = refl
      go bs s false u f = refl
