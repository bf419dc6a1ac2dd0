-- Document 02, Item 5: a record of edition 1 and the record of edition 2 that says the same are made of each other.
-- Assumes nothing.
use Prim.Native.Nat.{ℕ, zero, suc, ◌+◌, ◌-◌, ◌*◌, ◌/◌, ◌^◌, ◌≤◌, ◌<◌}
use mathlib.Core.Path.{◌≡◌, refl, sym, ap, ap₂, ◌∙◌, subst}
use mathlib.Core.Bool.{Bool, true, false}
use mathlib.Core.List.{List, [], ◌∷◌, ◌++◌, append_assoc}
use Rattle.std.specs.Prelude.{Some, None}
use native.Mathlib.Omega.{arith}
use lib.ListN.{length, get_or, take, drop, length-append, take-append-drop}
use lib.Seq.{take-append_seam, drop-append_seam, length-take-le}
use lib.Dec.{eqb}
use borrow.Author.Tests.{eqb-true, eq-eqb}
use Rattle.lists.specs.Lists.{is_empty}
use Rattle.lists.specs.Bytes.{Bytes}
use Rattle.lists.proofs.Tests.{and_both, both_and}
use Rattle.lists.proofs.Bytes.{bytes_rest}
use Rattle.lists.proofs.Records.{bytes-first}
use Rattle.lists.proofs.Rest.{rest_at}
use Rattle.lists.proofs.Lists.{cat-append, empty_list}
use Rattle.bits.specs.Bits.{to_bits, from_bits, bits_of, bytes_of, number_at}
use Rattle.bits.specs.Fields.{Field, field_bits, packed, bit}
use Rattle.bits.proofs.Bits.{length-bytes, bytes-front, bytes-append}
use Rattle.bits.proofs.Fields.{length_fields, packed_at}
use Rattle.bits.proofs.Numbers.{number_lt, number-add, number_past, number-front, number-byte}
use Rattle.outcome.specs.Head.{Head, fields, header, head_of}
use Rattle.outcome.specs.State.{State, head_for, body, encode, decode, Good}
use Rattle.outcome.specs.Old.{renewed, aged, plain, encode_old, decode_old}
use Rattle.outcome.proofs.Head.{header-length, head_there}
use Rattle.outcome.proofs.RoundTrip.{good_fit, back}
use Rattle.outcome.proofs.Fits.{encode-size, fits-plain}

-- ---- bytes put in and taken out

module _ (t r : List ℕ) (l : length t ≡ 10) where
  first : take 10 (t ++ r) ≡ t
  first = ap (λ (i : ℕ). take i (t ++ r)) (sym l) ∙ take-append_seam t r

  rest : drop 10 (t ++ r) ≡ r
  rest = ap (λ (i : ℕ). drop i (t ++ r)) (sym l) ∙ drop-append_seam t r

beyond : (t r : List ℕ) (x y : ℕ) → length t ≡ 10 → drop 12 (t ++ (x ∷ y ∷ r)) ≡ r
beyond t r x y l =
    let u : List ℕ = t ++ (x ∷ y ∷ []) in
    let k : length u ≡ 12 = omega (arith, length-append t (x ∷ y ∷ [])) in
    ap (drop 12) (sym (append_assoc t (x ∷ y ∷ []) r)) ∙ ap (λ (i : ℕ). drop i (u ++ r)) (sym k) ∙ drop-append_seam u r

pub aged-renewed : (b : ℕ) (bs : List ℕ) → 10 ≤ length bs → aged (renewed (b ∷ bs)) ≡ b ∷ bs
unfolding aged renewed
aged-renewed b bs h =
    let t : List ℕ = take 10 bs in
    let l : length t ≡ 10 = length-take-le 10 bs h in
    let e : b + 16 - 16 ≡ b = omega arith in
    ap₂ (λ (x : ℕ) (y : List ℕ). x ∷ y) e
    (ap₂ (λ (x y : List ℕ). x ++ y) (first t (0 ∷ 0 ∷ drop 10 bs) l) (beyond t (drop 10 bs) 0 0 l) ∙ take-append-drop 10 bs)

renewed-aged : (b : ℕ) (bs : List ℕ) → 16 ≤ b → 12 ≤ length bs → get_or bs 10 0 ≡ 0 → get_or bs 11 0 ≡ 0 → renewed (aged (b ∷ bs)) ≡ b ∷ bs
unfolding aged renewed
renewed-aged b bs g h x y =
    let t : List ℕ = take 10 bs in
    let l : length t ≡ 10 = length-take-le 10 bs (omega arith) in
    let e : b - 16 + 16 ≡ b = omega arith in
    let d : drop 10 bs ≡ 0 ∷ 0 ∷ drop 12 bs = rest_at bs 10 (omega arith) ∙ ap₂ (λ (p : ℕ) (q : List ℕ). p ∷ q) x (rest_at bs 11 (omega arith) ∙ ap (λ (p : ℕ). p ∷ drop 12 bs) y) in
    ap₂ (λ (p : ℕ) (q : List ℕ). p ∷ q) e
    (ap₂ (λ (p q : List ℕ). p ++ (0 ∷ 0 ∷ q)) (first t (drop 12 bs) l) (rest t (drop 12 bs) l) ∙ ap (λ (q : List ℕ). t ++ q) (sym d) ∙ take-append-drop 10 bs)

-- ---- the fields of a good state's record

module _ (n : ℕ) (s : State) (g : Good n s) where
  head_of_lem : head_of (header (head_for s)) ≡ head_for s
  head_of_lem = head_there (head_for s) (good_fit n s g)

  number_of : (at k : ℕ) → at + k ≤ 104 → number_at (encode s) at k ≡ number_at (header (head_for s)) at k
  unfolding encode
  number_of at k h = number-front (header (head_for s)) (s.output ++ body s) at k (subst (λ (i : ℕ). at + k ≤ 8 * i) (sym (header-length (head_for s))) h)

  edition_is : number_at (encode s) 0 4 ≡ 2
  edition_is = number_of 0 4 (omega arith) ∙ ap (λ (h : Head). h.edition) head_of_lem

  pub output_is : number_at (encode s) 88 10 ≡ length s.output
  output_is = number_of 88 10 (omega arith) ∙ ap (λ (h : Head). h.output) head_of_lem

  pub watch_is : number_at (encode s) 98 2 ≡ s.watch
  watch_is = number_of 98 2 (omega arith) ∙ ap (λ (h : Head). h.watch) head_of_lem

  unused_is : number_at (encode s) 100 4 ≡ 0
  unused_is = number_of 100 4 (omega arith) ∙ ap (λ (h : Head). h.unused) head_of_lem

  pub long : 13 ≤ length (encode s)
  long = rw (encode-size s) (omega arith)

  -- ---- from edition 1

  module _ (b : ℕ) (bs : List ℕ) (e : encode s ≡ renewed (b ∷ bs)) where
    pub old_long : 10 ≤ length bs
    unfolding renewed
    old_long =
        let k = ap length e in
        let u = length-append (take 10 bs) (0 ∷ 0 ∷ drop 10 bs) in
        let v = ap length (take-append-drop 10 bs) in
        let w = length-append (take 10 bs) (drop 10 bs) in
        let m = long in
        omega arith

    zeros : (at k : ℕ) → number_at (encode s) (88 + at) k ≡ number_at (0 ∷ 0 ∷ drop 10 bs) at k
    unfolding renewed
    zeros at k =
        let p : List ℕ = (b + 16) ∷ take 10 bs in
        let l : length p ≡ 11 = ap suc (length-take-le 10 bs old_long) in
        ap (λ (x : List ℕ). number_at x (88 + at) k) e
        ∙ ap (λ (i : ℕ). number_at (p ++ (0 ∷ 0 ∷ drop 10 bs)) (8 * i + at) k) (sym l)
        ∙ number_past p (0 ∷ 0 ∷ drop 10 bs) at k

    zero_output : number_at (0 ∷ 0 ∷ drop 10 bs) 0 10 ≡ 0
    unfolding number_at bits_of to_bits from_bits
    zero_output = refl

    zero_watch : number_at (0 ∷ 0 ∷ drop 10 bs) 10 2 ≡ 0
    unfolding number_at bits_of to_bits from_bits
    zero_watch = refl

    -- edition 1 says no output and no watch
    pub old_plain : plain s ≡ true
    old_plain =
        let o : length s.output ≡ 0 = sym output_is ∙ zeros 0 10 ∙ zero_output in
        let w : s.watch ≡ 0 = sym watch_is ∙ zeros 10 2 ∙ zero_watch in
        both_and (is_empty s.output) (eqb s.watch 0) (empty_list s.output o) (eq-eqb s.watch 0 w)

-- ---- to edition 1

no_bytes : (x : List ℕ) → is_empty x ≡ true → length x ≡ 0
no_bytes [] h = refl
no_bytes (b ∷ x) h = let z : ◌≡◌ {A = ℕ} 0 1 = cc in absurd (omega arith)

-- a record of edition 2 that edition 1 can say
pub record Ages (b : ℕ) (bs : List ℕ) : Type 0 where
  pub again : renewed (aged (b ∷ bs)) ≡ b ∷ bs
  pub edition : eqb ((b - 16) / 16) 1 ≡ true

module _ (n b : ℕ) (bs : List ℕ) (s : State) (by : Bytes (b ∷ bs)) (is : decode n (b ∷ bs) ≡ Some s) (pl : plain s ≡ true) where
  private_good : Good n s
  private_good = (back n (b ∷ bs) s by is).1

  packs : encode s ≡ b ∷ bs
  packs = (back n (b ∷ bs) s by is).0

  pub ages : Ages b bs
  ages =
      let l : List ℕ = b ∷ bs in
      let g = private_good in
      let at : (i k : ℕ) → number_at (encode s) i k ≡ number_at l i k = λ i k. ap (λ (x : List ℕ). number_at x i k) packs in
      let m : 13 ≤ length l = subst (λ (x : List ℕ). 13 ≤ length x) packs (long n s g) in
      let (po, pw) = and_both (is_empty s.output) (eqb s.watch 0) pl in
      let o : number_at l 88 10 ≡ 0 = sym (at 88 10) ∙ output_is n s g ∙ no_bytes s.output po in
      let w : number_at l 98 2 ≡ 0 = sym (at 98 2) ∙ watch_is n s g ∙ eqb-true s.watch 0 pw in
      let u : number_at l 100 4 ≡ 0 = sym (at 100 4) ∙ unused_is n s g in
      let ed : number_at l 0 4 ≡ 2 = sym (at 0 4) ∙ edition_is n s g in
      let a₁ : number_at l 88 12 ≡ number_at l 88 10 * 2 ^ 2 + number_at l 98 2 = number-add l 88 10 2 (omega arith) in
      let a₂ : number_at l 88 16 ≡ number_at l 88 12 * 2 ^ 4 + number_at l 100 4 = number-add l 88 12 4 (omega arith) in
      let a₃ : number_at l 88 16 ≡ number_at l 88 8 * 2 ^ 8 + number_at l 96 8 = number-add l 88 8 8 (omega arith) in
      let a₄ : number_at l 0 8 ≡ number_at l 0 4 * 2 ^ 4 + number_at l 4 4 = number-add l 0 4 4 (omega arith) in
      let b₁ : number_at l 88 8 ≡ get_or bs 10 0 = number-byte l 11 by (omega arith) in
      let b₂ : number_at l 96 8 ≡ get_or bs 11 0 = number-byte l 12 by (omega arith) in
      let b₀ : number_at l 0 8 ≡ b = number-byte l 0 by (omega arith) in
      let lt = number_lt l 4 4 in
      let z₁ : number_at l 88 16 ≡ 0 = omega arith in
      let x : get_or bs 10 0 ≡ 0 = omega arith in
      let y : get_or bs 11 0 ≡ 0 = omega arith in
      let f : b ≡ 32 + number_at l 4 4 = omega arith in
      let h : (b - 16) / 16 ≡ 1 = omega arith in
      record { again = renewed-aged b bs (omega arith) (omega arith) x y; edition = eq-eqb ((b - 16) / 16) 1 h }

-- ---- both round trips of edition 1

-- what is read of edition 1 is the record of its state, which is good and plain
pub record Read1 (n : ℕ) (bs : List ℕ) (s : State) : Type 0 where
  pub good : Good n s
  pub plain-state : plain s ≡ true
  pub packs : encode_old s ≡ bs

renewed-bytes : (b : ℕ) (bs : List ℕ) → eqb (b / 16) 1 ≡ true → Bytes (b ∷ bs) → Bytes (renewed (b ∷ bs))
unfolding renewed
renewed-bytes b bs h by zero = let e = eqb-true (b / 16) 1 h in omega arith
renewed-bytes b bs h by (suc i) =
    joined (take 10 bs) (0 ∷ 0 ∷ drop 10 bs) (bytes-first (take 10 bs) (drop 10 bs) (λ k. subst (λ (x : List ℕ). get_or x k 0 < 256) (sym (take-append-drop 10 bs)) (by (suc k)))) two i
  where
    rest-bytes : Bytes (drop 10 bs)
    rest-bytes = bytes_rest (take 10 bs) (drop 10 bs) (λ k. subst (λ (x : List ℕ). get_or x k 0 < 256) (sym (take-append-drop 10 bs)) (by (suc k)))

    two : Bytes (0 ∷ 0 ∷ drop 10 bs)
    two zero = omega arith
    two (suc zero) = omega arith
    two (suc (suc k)) = rest-bytes k

    joined : (x y : List ℕ) → Bytes x → Bytes y → Bytes (x ++ y)
    joined [] y f g i = g i
    joined (a ∷ x) y f g zero = f zero
    joined (a ∷ x) y f g (suc i) = joined x y (λ k. f (suc k)) g i

pub back_old : (n : ℕ) (bs : List ℕ) (s : State) → Bytes bs → decode_old n bs ≡ Some s → Read1 n bs s
unfolding decode_old
back_old n [] s by e = let z : ◌≡◌ {A = ℕ} 0 1 = cc in absurd (omega arith)
back_old n (b ∷ bs) s by e = at (eqb (b / 16) 1) refl
  where
    at : (t : Bool) → eqb (b / 16) 1 ≡ t → Read1 n (b ∷ bs) s
    at false h = let q : None ≡ Some s = rw (h, decode_old) at e in let z : ◌≡◌ {A = ℕ} 0 1 = cc in absurd (omega arith)
    at true h =
        let q : decode n (renewed (b ∷ bs)) ≡ Some s = rw (h, decode_old) at e in
        let (p, g) = back n (renewed (b ∷ bs)) s (renewed-bytes b bs h by) q in
        unfold encode_old in
        record { good = g; plain-state = old_plain n s g b bs p; packs = ap aged p ∙ aged-renewed b bs (old_long n s g b bs p) }

-- the record of edition 1 of a plain state is read back, whatever record of edition 2 it was read of
pub there_old : (n : ℕ) (bs : List ℕ) (s : State) → Bytes bs → decode n bs ≡ Some s → plain s ≡ true → decode_old n (encode_old s) ≡ Some s
unfolding encode_old aged decode_old
there_old n [] s by e pl = let k : 13 ≤ length (encode s) = long n s (back n [] s by e).1 in let q = ap length (back n [] s by e).0 in absurd (omega arith)
there_old n (b ∷ bs) s by e pl =
    let a = ages n b bs s by e pl in
    ap (λ (x : List ℕ). decode_old n (aged x)) (back n (b ∷ bs) s by e).0 ∙ at a.edition a.again
  where
    at : eqb ((b - 16) / 16) 1 ≡ true → renewed (aged (b ∷ bs)) ≡ b ∷ bs → decode_old n (aged (b ∷ bs)) ≡ Some s
    at h q = rw (h, decode_old) (ap (decode n) q ∙ e)

-- ---- sizes

pub old_size : (n : ℕ) (bs : List ℕ) (s : State) → Bytes bs → decode n bs ≡ Some s → plain s ≡ true → length (encode_old s) ≤ 17611
unfolding encode_old aged
old_size n [] s by e pl = let k : 13 ≤ length (encode s) = long n s (back n [] s by e).1 in let q = ap length (back n [] s by e).0 in absurd (omega arith)
old_size n (b ∷ bs) s by e pl =
    let (p, g) = back n (b ∷ bs) s by e in
    let (po, pw) = and_both (is_empty s.output) (eqb s.watch 0) pl in
    let m = long n s g in
    let k = fits-plain n s g (no_bytes s.output po) in
    subst (λ (x : List ℕ). length (aged x) ≤ 17611) (sym p) (shorter (subst (λ (x : List ℕ). 13 ≤ length x) p m) (subst (λ (x : List ℕ). length x ≤ 17613) p k))
  where
    shorter : 13 ≤ length (b ∷ bs) → length (b ∷ bs) ≤ 17613 → length (aged (b ∷ bs)) ≤ 17611
    shorter m k =
        let u = length-append (take 10 bs) (drop 12 bs) in
        let v : length (take 10 bs) ≡ 10 = length-take-le 10 bs (omega arith) in
        let w = length-append (take 12 bs) (drop 12 bs) in
        let x = ap length (take-append-drop 12 bs) in
        let y : length (take 12 bs) ≡ 12 = length-take-le 12 bs (omega arith) in
        omega arith

-- how long a sound record of edition 1 is
pub old_lengths : (n : ℕ) (bs : List ℕ) (s : State) → Bytes bs → decode_old n bs ≡ Some s → (11 ≤ length bs) × (length bs ≤ 17611)
unfolding decode_old
old_lengths n [] s by e = let z : ◌≡◌ {A = ℕ} 0 1 = cc in absurd (omega arith)
old_lengths n (b ∷ bs) s by e = at (eqb (b / 16) 1) refl
  where
    at : (t : Bool) → eqb (b / 16) 1 ≡ t → (11 ≤ length (b ∷ bs)) × (length (b ∷ bs) ≤ 17611)
    at false h = let q : None ≡ Some s = rw (h, decode_old) at e in let z : ◌≡◌ {A = ℕ} 0 1 = cc in absurd (omega arith)
    at true h =
        let q : decode n (renewed (b ∷ bs)) ≡ Some s = rw (h, decode_old) at e in
        let r = renewed-bytes b bs h by in
        let (p, g) = back n (renewed (b ∷ bs)) s r q in
        let size = old_size n (renewed (b ∷ bs)) s r q (old_plain n s g b bs p) in
        (omega (arith, old_long n s g b bs p), subst (λ (x : List ℕ). length x ≤ 17611) (back_old n (b ∷ bs) s by e).packs size)

-- ---- edition 1 as document 01 lays it out

-- the fields that both editions have
abbrev shared : Head → List Field
shared h =
    (1, bit h.closed.links)
    ∷ (1, bit h.closed.tags)
    ∷ (1, bit h.closed.runs)
    ∷ (1, bit h.closed.owner)
    ∷ (1, bit h.closed.group)
    ∷ (1, bit h.closed.mode)
    ∷ (6, h.owner)
    ∷ (6, h.group)
    ∷ (1, h.mode_set)
    ∷ (12, h.mode)
    ∷ (32, h.priority)
    ∷ (5, h.links)
    ∷ (6, h.properties)
    ∷ (5, h.tags)
    ∷ (5, h.runs)
    ∷ []

-- edition 1: 11 bytes
abbrev pub old_fields : Head → List Field
old_fields h = (4, 1) ∷ shared h

abbrev new_fields : Head → List Field
new_fields h = (10, h.output) ∷ (2, h.watch) ∷ (4, h.unused) ∷ []

-- an edition and the fields behind it
abbrev bits_from : ℕ → Head → List ℕ
bits_from v h = field_bits ((4, v) ∷ shared h)

old_first : (h : Head) → from_bits (take 8 (bits_from 2 h)) - 16 ≡ from_bits (take 8 (bits_from 1 h))
unfolding from_bits to_bits
old_first h = omega arith

old_rest : (h : Head) → drop 8 (bits_from 2 h) ≡ drop 8 (bits_from 1 h)
unfolding to_bits
old_rest h = refl

-- the header as its first 11 bytes and two more
header-parts : (h : Head) → h.edition ≡ 2
    → header h ≡ bytes_of 11 (bits_from 2 h) ++ bytes_of 2 (drop 88 (bits_from 2 h ++ field_bits (new_fields h)))
unfolding header
header-parts h e =
    let z : List ℕ = bits_from 2 h in
    let y : List ℕ = field_bits (new_fields h) in
    let l : length z ≡ 88 = length_fields ((4, 2) ∷ shared h) in
    packed_at (fields h) 13 refl
    ∙ ap (λ (v : ℕ). bytes_of 13 (field_bits ((4, v) ∷ (shared h ++ new_fields h)))) e
    ∙ ap (bytes_of 13) (cat-append (λ (f : Field). to_bits f.0 f.1) ((4, 2) ∷ shared h) (new_fields h))
    ∙ bytes-append 11 2 (z ++ y)
    ∙ ap (λ (x : List ℕ). x ++ bytes_of 2 (drop 88 (z ++ y))) (bytes-front 11 z y (omega arith))

-- the record of edition 1 of a plain state is 11 bytes of those fields, and then the parts from the owner on
pub old_laid : (s : State) → plain s ≡ true → encode_old s ≡ packed (old_fields (head_for s)) ++ body s
unfolding encode_old encode aged bytes_of
old_laid s pl =
    let h : Head = head_for s in
    let z : List ℕ = bits_from 2 h in
    let w : List ℕ = drop 88 (z ++ field_bits (new_fields h)) in
    let t : List ℕ = bytes_of 10 (drop 8 z) in
    let l : length t ≡ 10 = length-bytes 10 (drop 8 z) in
    let (po, _) = and_both (is_empty s.output) (eqb s.watch 0) pl in
    let x = from_bits (take 8 w) in
    let y = from_bits (take 8 (drop 8 w)) in
    let r : List ℕ = x ∷ y ∷ body s in
    ap (λ (o : List ℕ). aged (header h ++ (o ++ body s))) (nothing s.output po)
    ∙ ap (λ (k : List ℕ). aged (k ++ body s)) (header-parts h refl)
    ∙ ap (λ (k : List ℕ). aged (from_bits (take 8 z) ∷ k)) (append_assoc t (x ∷ y ∷ []) (body s))
    ∙ ap₂ (λ (i : ℕ) (k : List ℕ). i ∷ k) (old_first h) (ap₂ (λ (i k : List ℕ). i ++ k) (first t r l) (beyond t (body s) x y l))
    ∙ ap (λ (k : List ℕ). from_bits (take 8 (bits_from 1 h)) ∷ (bytes_of 10 k ++ body s)) (old_rest h)
    ∙ ap (λ (k : List ℕ). k ++ body s) (sym (packed_at (old_fields h) 11 refl))
  where
    nothing : (o : List ℕ) → is_empty o ≡ true → o ≡ []
    nothing [] h = refl
    nothing (b ∷ o) h = let z : ◌≡◌ {A = ℕ} 0 1 = cc in absurd (omega arith)
