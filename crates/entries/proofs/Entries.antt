-- Each entry is read back, and what was read was so written; how long entries are, and that they hold no NUL.
-- Assumes nothing.
use Prim.Native.Nat.{ℕ, suc, ◌+◌, ◌*◌, ◌≤◌}
use mathlib.Core.Path.{◌≡◌, refl, sym, ap, ap₂, ◌∙◌, subst}
use mathlib.Core.Bool.{Bool, true, false, ◌&&◌}
use mathlib.Core.List.{List, [], ◌∷◌, ◌++◌, append_assoc}
use Rattle.std.specs.Prelude.{Option, None, Some}
use native.Mathlib.Omega.{arith}
use lib.ListN.{length, take, drop, length-append, length-drop, take-append-drop}
use lib.Seq.{take-append_seam, drop-append_seam, length-take-le, drop-drop, drop_at}
use lib.Dec.{leb}
use borrow.Author.Tests.{le-leb, leb-true}
use Rattle.lists.specs.Lists.{pick, all}
use Rattle.lists.specs.Bytes.{clean, Bytes, same_bytes, ok_text}
use Rattle.lists.proofs.Tests.{and_both}
use Rattle.lists.proofs.Records.{bytes-first}
use Rattle.bits.specs.Bits.{number_at}
use Rattle.bits.specs.Fields.{Field, width, packed, fields_at}
use Rattle.bits.proofs.Fields.{length-packed}
use Rattle.entries.specs.Parse.{Parse, got, bad, keep, bind}
use Rattle.entries.specs.Entry.{enc_text, one_text, Property, ok_prop, prop_fields, enc_prop, prop_at, prop_on, one_prop, exactly, lookup}
use Rattle.entries.proofs.Rows.{Laws, through}
use Rattle.entries.proofs.Heads.{number_of, head_read, head_back}

-- a test that kept something held
pub kept : {A : Type 0} (b : Bool) (x y : A) (q r : List ℕ) → keep b x q ≡ got y r → (b ≡ true) × (x ≡ y) × (q ≡ r)
kept true x y q r e = (refl, cc, cc)
kept false x y q r e = let z : ◌≡◌ {A = ℕ} 0 1 = cc in absurd (omega arith)

never : {A X : Type 0} (y : A) (r : List ℕ) → bad ≡ got y r → X
never y r e = let z : ◌≡◌ {A = ℕ} 0 1 = cc in absurd (omega arith)

-- ---- n bytes

pub exactly_there : (x r : List ℕ) → exactly (length x) (x ++ r) ≡ got x r
exactly_there x r =
    rw (le-leb (length x) (length (x ++ r)) (omega (arith, length-append x r)), take-append_seam x r, drop-append_seam x r)

pub exactly-back : (n : ℕ) (bs x r : List ℕ) → exactly n bs ≡ got x r → (bs ≡ x ++ r) × (length x ≡ n)
exactly-back n bs x r e =
    let (t, a, b) = kept (leb n (length bs)) (take n bs) x (drop n bs) r e in
    let h : n ≤ length bs = leb-true n (length bs) t in
    (sym (take-append-drop n bs) ∙ ap₂ (λ (p q : List ℕ). p ++ q) a b, sym (ap length a) ∙ length-take-le n bs h)

-- the bytes of a head in front of any others
pub head_there : (fs : List Field) (k : ℕ) (r : List ℕ) → width fs ≡ 8 * k → exactly k (packed fs ++ r) ≡ got (packed fs) r
head_there fs k r w = ap (λ (i : ℕ). exactly i (packed fs ++ r)) (sym (length-packed fs k w)) ∙ exactly_there (packed fs) r

-- ---- a text

text_there : (ok : List ℕ → Bool) (x r : List ℕ) → ok x ≡ true → one_text ok (enc_text x ++ r) ≡ got x r
text_there ok x r h =
    rw (le-leb (length x) (length (x ++ r)) (omega (arith, length-append x r)), take-append_seam x r, drop-append_seam x r, h)

text-back : (ok : List ℕ → Bool) (bs x r : List ℕ) → Bytes bs → one_text ok bs ≡ got x r → (bs ≡ enc_text x ++ r) × (ok x ≡ true)
text-back ok [] x r h e = never x r e
text-back ok (k ∷ bs) x r h e =
    let (t, a, b) = kept (leb k (length bs) && ok (take k bs)) (take k bs) x (drop k bs) r e in
    let (t₁, t₂) = and_both (leb k (length bs)) (ok (take k bs)) t in
    text-more ok k bs x r t₁ t₂ a b
  where
    text-more : (ok : List ℕ → Bool) (k : ℕ) (bs x r : List ℕ) → leb k (length bs) ≡ true → ok (take k bs) ≡ true → take k bs ≡ x → drop k bs ≡ r → (k ∷ bs ≡ enc_text x ++ r) × (ok x ≡ true)
    text-more ok k bs x r t o a b =
        let n : length x ≡ k = sym (ap length a) ∙ length-take-le k bs (leb-true k (length bs) t) in
        (ap₂ (λ (m : ℕ) (l : List ℕ). m ∷ l) (sym n) (sym (take-append-drop k bs) ∙ ap₂ (λ (p q : List ℕ). p ++ q) a b), ap ok (sym a) ∙ o)

pub text-laws : (ok : List ℕ → Bool) → Laws (List ℕ) enc_text ok (one_text ok)
text-laws ok = record { there = text_there ok; back = text-back ok }

-- ---- a property

-- the parts of a property that stands at the front
prop_put : (p : Property) (r : List ℕ) → ok_prop p ≡ true → let k = length p.key in let v = length p.value in let l = p.key ++ p.value ++ r in keep (leb (k + v) (length l) && ok_prop (prop_at k v l)) (prop_at k v l) (drop (k + v) l) ≡ got p r
prop_put p r h =
    let k = length p.key in
    let v = length p.value in
    let l : List ℕ = p.key ++ p.value ++ r in
    let s : l ≡ p.key ++ (p.value ++ r) = append_assoc p.key p.value r in
    let n : length l ≡ k + (v + length r) = ap length s ∙ length-append p.key (p.value ++ r) ∙ ap (λ (i : ℕ). k + i) (length-append p.value r) in
    let t₁ : take k l ≡ p.key = ap (take k) s ∙ take-append_seam p.key (p.value ++ r) in
    let t₂ : take v (drop k l) ≡ p.value = ap (λ (i : List ℕ). take v (drop k i)) s ∙ ap (take v) (drop-append_seam p.key (p.value ++ r)) ∙ take-append_seam p.value r in
    let t₃ : drop (k + v) l ≡ r = drop_at (p.key ++ p.value) r (k + v) (length-append p.key p.value) in
    let q : prop_at k v l ≡ p = λ i. record { key = t₁ i; value = t₂ i } in
    ap₂ (λ (x : Property) (y : List ℕ). keep (leb (k + v) (length l) && ok_prop x) x y) q t₃
    ∙ ap₂ (λ (x y : Bool). keep (x && y) p r) (le-leb (k + v) (length l) (omega arith)) h

prop_there : (p : Property) (r : List ℕ) → ok_prop p ≡ true → one_prop (enc_prop p ++ r) ≡ got p r
prop_there p r h =
    let k = length p.key in
    let v = length p.value in
    let fs : List Field = prop_fields k v in
    let (o, o') = and_both (ok_text 64 p.key) _ h in
    let (_, m) = and_both (leb 1 k) _ o in
    let lk : k ≤ 64 = leb-true k 64 (and_both (leb k 64) _ m).0 in
    let lv : v ≤ 256 = leb-true v 256 (and_both (leb v 256) _ o').0 in
    let e : fields_at (packed fs) 0 (7 ∷ 9 ∷ []) ≡ fs = head_read fs 2 refl (omega arith, (omega arith, tt)) in
    ap one_prop (append_assoc (packed fs) (p.key ++ p.value) r)
    ∙ ap (λ (x : Parse (List ℕ)). bind x (λ head r. prop_on (number_at head 0 7) (number_at head 7 9) r)) (head_there fs 2 (p.key ++ p.value ++ r) refl)
    ∙ ap₂ (λ (i j : ℕ). prop_on i j (p.key ++ p.value ++ r)) (ap (number_of 0) e) (ap (number_of 1) e)
    ∙ prop_put p r h

-- what stands behind the lengths, by the parts that were read of it
prop_take : (k v : ℕ) (bs : List ℕ) → k + v ≤ length bs → (packed (prop_fields k v) ++ bs ≡ enc_prop (prop_at k v bs) ++ drop (k + v) bs)
prop_take k v bs h =
    let n₁ : length (take k bs) ≡ k = length-take-le k bs (omega arith) in
    let n₂ : length (take v (drop k bs)) ≡ v = length-take-le v (drop k bs) (simp length-drop (omega arith)) in
    let s : bs ≡ (take k bs ++ take v (drop k bs)) ++ drop (k + v) bs =
    sym
    (append_assoc (take k bs) (take v (drop k bs)) (drop (k + v) bs)
    ∙ ap (λ (x : List ℕ). take k bs ++ (take v (drop k bs) ++ x)) (sym (drop-drop v k bs))
    ∙ ap (λ (x : List ℕ). take k bs ++ x) (take-append-drop v (drop k bs))
    ∙ take-append-drop k bs)
    in
    ap₂ (λ (i j : ℕ). packed (prop_fields i j) ++ bs) (sym n₁) (sym n₂)
    ∙ ap (λ (x : List ℕ). packed (prop_fields (length (take k bs)) (length (take v (drop k bs)))) ++ x) s
    ∙ sym (append_assoc (packed (prop_fields (length (take k bs)) (length (take v (drop k bs))))) (take k bs ++ take v (drop k bs)) (drop (k + v) bs))

prop_back : (bs : List ℕ) (p : Property) (r : List ℕ) → Bytes bs → one_prop bs ≡ got p r → (bs ≡ enc_prop p ++ r) × (ok_prop p ≡ true)
prop_back bs p r h e =
    through (exactly 2 bs) _ p r e λ head q p₁ e₁.
    let (w, l) = exactly-back 2 bs head q p₁ in
    let k = number_at head 0 7 in
    let v = number_at head 7 9 in
    let (t, x, y) = kept (leb (k + v) (length q) && ok_prop (prop_at k v q)) (prop_at k v q) p (drop (k + v) q) r e₁ in
    let (t₁, t₂) = and_both (leb (k + v) (length q)) (ok_prop (prop_at k v q)) t in
    let b : packed (prop_fields k v) ≡ head = head_back head (7 ∷ 9 ∷ []) 2 refl l (bytes-first head q (subst Bytes w h)) in (
      w
          ∙ ap (λ (x : List ℕ). x ++ q) (sym b)
          ∙ prop_take k v q (leb-true (k + v) (length q) t₁)
          ∙ ap₂ (λ (x : Property) (y : List ℕ). enc_prop x ++ y) x y,
      ap ok_prop (sym x) ∙ t₂,
    )

pub prop_laws : Laws Property enc_prop ok_prop one_prop
prop_laws = record { there = prop_there; back = prop_back }

-- an entry is kept if its test holds
pub keep_there : {A : Type 0} (b : Bool) (x y : A) (q r : List ℕ) → b ≡ true → x ≡ y → q ≡ r → keep b x q ≡ got y r
keep_there b x y q r e f g = rw (e, f, g)

-- ---- properties

pub prop_value : (p : Property) → ok_prop p ≡ true → clean p.value ≡ true
prop_value p h =
    let (a, b) = and_both (ok_text 64 p.key) (leb (length p.value) 256 && clean p.value) h in
    (and_both (leb (length p.value) 256) (clean p.value) b).1

-- a value that was found is one of the properties'
abbrev pub Clean : Option (List ℕ) → Type 0
Clean None = Unit {0}
Clean (Some v) = clean v ≡ true

pick-clean : (t : Bool) (a b : Option (List ℕ)) → Clean a → Clean b → Clean (pick t a b)
pick-clean true a b h k = h
pick-clean false a b h k = k

pub lookup-clean : (k : List ℕ) (ps : List Property) → all ok_prop ps ≡ true → Clean (lookup k ps)
lookup-clean k [] h = tt
lookup-clean k (p ∷ ps) h =
    let (a, b) = and_both (ok_prop p) (all ok_prop ps) h in
    pick-clean (same_bytes p.key k) (Some p.value) (lookup k ps) (prop_value p a) (lookup-clean k ps b)

-- ---- sizes

pub text-size : (most : ℕ) (x : List ℕ) → ok_text most x ≡ true → length (enc_text x) ≤ suc most
text-size most x h =
    let a = and_both (leb 1 (length x)) (leb (length x) most && clean x) h in
    let b = and_both (leb (length x) most) (clean x) a.1 in
    let c = leb-true (length x) most b.0 in
    omega arith

pub prop_length : (p : Property) → length (enc_prop p) ≡ 2 + (length p.key + length p.value)
prop_length p =
    let fs : List Field = prop_fields (length p.key) (length p.value) in
    length-append (packed fs) (p.key ++ p.value) ∙ ap₂ (λ (i j : ℕ). i + j) (length-packed fs 2 refl) (length-append p.key p.value)

pub prop_size : (p : Property) → ok_prop p ≡ true → length (enc_prop p) ≤ 322
prop_size p h =
    let a = and_both (ok_text 64 p.key) (leb (length p.value) 256 && clean p.value) h in
    let b = and_both (leb (length p.value) 256) (clean p.value) a.1 in
    let c = leb-true (length p.value) 256 b.0 in
    let d = text-size 64 p.key a.0 in
    omega (arith, prop_length p)

-- a property that was read is sound
pub property-kept : (bs : List ℕ) (p : Property) (r : List ℕ) → one_prop bs ≡ got p r → ok_prop p ≡ true
property-kept bs p r e =
    through (exactly 2 bs) _ p r e λ head q p₁ e₁.
    let k = number_at head 0 7 in
    let v = number_at head 7 9 in
    let (t, x, y) = kept (leb (k + v) (length q) && ok_prop (prop_at k v q)) (prop_at k v q) p (drop (k + v) q) r e₁ in
    ap ok_prop (sym x) ∙ (and_both (leb (k + v) (length q)) (ok_prop (prop_at k v q)) t).1
