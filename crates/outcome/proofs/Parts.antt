-- Mode, owner and runs are read back, and what was read was so written.
-- Assumes nothing.
use Prim.Native.Nat.{ℕ, zero, suc, ◌≤◌, ◌<◌}
use mathlib.Core.Path.{◌≡◌, refl, sym, ap, ap₂, ◌∙◌, subst}
use mathlib.Core.Bool.{Bool, true, false, ◌&&◌, ◌||◌, not}
use mathlib.Core.List.{List, [], ◌∷◌, ◌++◌, append_assoc}
use Rattle.std.specs.Prelude.{Option, Some, None}
use native.Mathlib.Omega.{arith}
use lib.ListN.{length, take, drop, length-append, take-append-drop}
use lib.Seq.{take-append_seam, drop-append_seam, length-take-le}
use lib.Dec.{leb, eqb}
use borrow.Author.Tests.{le-leb, leb-true, eqb-true}
use Rattle.lists.specs.Bytes.{Bytes, ok_text}
use Rattle.lists.proofs.Tests.{and_both, both_and}
use Rattle.lists.proofs.Records.{bytes-first}
use Rattle.bits.specs.Bits.{number_at}
use Rattle.bits.specs.Fields.{Field, packed, fields_at, flag_at}
use Rattle.bits.proofs.Fields.{bit_small, eqb-bit, bit-flag}
use Rattle.entries.specs.Parse.{Parse, got, bind}
use Rattle.entries.specs.Entry.{exactly}
use Rattle.entries.proofs.Rows.{Laws, through}
use Rattle.entries.proofs.Heads.{number_of, head_read, head_back}
use Rattle.entries.proofs.Entries.{kept, keep_there, exactly-back, head_there}
use Rattle.outcome.specs.Content.{others_write}
use Rattle.outcome.specs.State.{Run, mode_set, mode_bits, mode_of, OkModeBits, ok_run, run_fields, enc_run, run_at, run_on, one_run, ModeBits, one_sized}

-- ---- mode

pub mode_there : (m : Option ℕ) → mode_of (mode_set m) (mode_bits m) ≡ m
mode_there None = refl
mode_there (Some m) = refl

pub mode-set : (a b : ℕ) → a < 2 → mode_set (mode_of a b) ≡ a
mode-set zero b h = refl
mode-set (suc zero) b h = refl
mode-set (suc (suc a)) b h = absurd (omega arith)

pub mode_bits_lem : (a b : ℕ) → (eqb a 1 || eqb b 0) ≡ true → mode_bits (mode_of a b) ≡ b
mode_bits_lem a b h = go (eqb a 1) refl h
  where
    go : (t : Bool) → eqb a 1 ≡ t → (t || eqb b 0) ≡ true → mode_bits (mode_of a b) ≡ b
    go true e h = rw e
    go false e h = rw e (sym (eqb-true b 0 h))

pub mode_okay : (a b : ℕ) → ModeBits b → OkModeBits (mode_of a b)
mode_okay a b h = go (eqb a 1) refl
  where
    go : (t : Bool) → eqb a 1 ≡ t → OkModeBits (mode_of a b)
    go true e = rw e h
    go false e = rw e tt

pub mode_small : (m : Option ℕ) → OkModeBits m → mode_bits m < 4096
mode_small None h = omega arith
mode_small (Some m) h = h.small

-- Item 8
pub mode-kept : (m : Option ℕ) → OkModeBits m → not (others_write (mode_bits m)) ≡ true
mode-kept None h = refl
mode-kept (Some m) h = h.kept

pub set_small : (m : Option ℕ) → mode_set m < 2
set_small None = omega arith
set_small (Some m) = omega arith

pub set-or : (m : Option ℕ) → (eqb (mode_set m) 1 || eqb (mode_bits m) 0) ≡ true
set-or None = refl
set-or (Some m) = refl

-- ---- output, owner and group

pub sized_there : (ok : List ℕ → Bool) (x r : List ℕ) → ok x ≡ true → one_sized ok (length x) (x ++ r) ≡ got x r
sized_there ok x r h =
    rw (le-leb (length x) (length (x ++ r)) (omega (arith, length-append x r)), take-append_seam x r, drop-append_seam x r, h)

pub sized-back : (ok : List ℕ → Bool) (n : ℕ) (bs x r : List ℕ) → one_sized ok n bs ≡ got x r → (bs ≡ x ++ r) × (length x ≡ n) × (ok x ≡ true)
sized-back ok n bs x r e =
    let (t, a, b) = kept (leb n (length bs) && ok (take n bs)) (take n bs) x (drop n bs) r e in
    let (t₁, t₂) = and_both (leb n (length bs)) (ok (take n bs)) t in
    let h : n ≤ length bs = leb-true n (length bs) t₁ in
    (sym (take-append-drop n bs) ∙ ap₂ (λ (p q : List ℕ). p ++ q) a b, sym (ap length a) ∙ length-take-le n bs h, ap ok (sym a) ∙ t₂)

-- ---- runs

run_there : (n : ℕ) (r : Run) (z : List ℕ) → ok_run n r ≡ true → one_run n (enc_run r ++ z) ≡ got r z
run_there n r z o =
    let k = length r.template in
    let fs : List Field = run_fields r in
    let head : List ℕ = packed fs in
    let t : List ℕ = r.template ++ z in
    let (o₁, o₂) = and_both (leb r.place 16) _ o in
    let (o₃, o₄) = and_both (leb r.place n) _ o₂ in
    let (o₅, o₆) = and_both (ok_text 256 r.template) _ o₄ in
    let (o₇, o₈) = and_both (leb 1 k) _ o₅ in
    let (o₉, _) = and_both (leb k 256) _ o₈ in
    let hp : r.place ≤ 16 = leb-true r.place 16 o₁ in
    let hk : k ≤ 256 = leb-true k 256 o₉ in
    let e : fields_at head 0 (1 ∷ 5 ∷ 9 ∷ 1 ∷ []) ≡ fs = head_read fs 2 refl (bit_small r.builtin, (omega arith, (omega arith, (omega arith, tt)))) in
    let e₀ : flag_at head 0 ≡ r.builtin = ap (λ (l : List Field). eqb (number_of 0 l) 1) e ∙ eqb-bit r.builtin in
    let e₁ : number_at head 1 5 ≡ r.place = ap (number_of 1) e in
    let e₂ : number_at head 6 9 ≡ k = ap (number_of 2) e in
    let e₃ : take (number_at head 6 9) t ≡ r.template = ap (λ (i : ℕ). take i t) e₂ ∙ take-append_seam r.template z in
    let e₄ : drop (number_at head 6 9) t ≡ z = ap (λ (i : ℕ). drop i t) e₂ ∙ drop-append_seam r.template z in
    let q : run_at head t ≡ r = λ i. record { builtin = e₀ i; place = e₁ i; template = e₃ i } in
    let v : eqb (number_at head 15 1) 0 ≡ true = ap (λ (l : List Field). eqb (number_of 3 l) 0) e in
    let w : leb (number_at head 6 9) (length t) ≡ true = le-leb (number_at head 6 9) (length t) (rw e₂ (omega (arith, length-append r.template z))) in
    ap (one_run n) (append_assoc head r.template z)
    ∙ ap (λ (x : Parse (List ℕ)). bind x (run_on n)) (head_there fs 2 t refl)
    ∙ keep_there
    (eqb (number_at head 15 1) 0 && (leb (number_at head 6 9) (length t) && ok_run n (run_at head t)))
    (run_at head t) r
    (drop (number_at head 6 9) t) z
    (both_and _ _ v (both_and _ _ w (ap (ok_run n) q ∙ o))) q e₄

run_took : (head bs : List ℕ) → Bytes head → length head ≡ 2 → number_at head 15 1 ≡ 0 → number_at head 6 9 ≤ length bs
    → head ++ bs ≡ enc_run (run_at head bs) ++ drop (number_at head 6 9) bs
run_took head bs b l u h =
    let k = number_at head 6 9 in
    let n : length (take k bs) ≡ k = length-take-le k bs h in
    let e : run_fields (run_at head bs) ≡ fields_at head 0 (1 ∷ 5 ∷ 9 ∷ 1 ∷ []) = λ i. (1, bit-flag head 0 i) ∷ (5, number_at head 1 5) ∷ (9, n i) ∷ (1, sym u i) ∷ [] in
    let f : packed (run_fields (run_at head bs)) ≡ head = ap packed e ∙ head_back head (1 ∷ 5 ∷ 9 ∷ 1 ∷ []) 2 refl l b in
    ap₂ (λ (x y : List ℕ). x ++ y) (sym f) (sym (take-append-drop k bs)) ∙ sym (append_assoc (packed (run_fields (run_at head bs))) (take k bs) (drop k bs))

run-back : (n : ℕ) (bs : List ℕ) (r : Run) (z : List ℕ) → Bytes bs → one_run n bs ≡ got r z → (bs ≡ enc_run r ++ z) × (ok_run n r ≡ true)
run-back n bs r z g e =
    through (exactly 2 bs) _ r z e λ head q p₁ e₁.
    let (w, l) = exactly-back 2 bs head q p₁ in
    let k = number_at head 6 9 in
    let (t, x, y) = kept (eqb (number_at head 15 1) 0 && (leb k (length q) && ok_run n (run_at head q))) (run_at head q) r (drop k q) z e₁ in
    let (t₁, t₂) = and_both (eqb (number_at head 15 1) 0) _ t in
    let (t₃, t₄) = and_both (leb k (length q)) (ok_run n (run_at head q)) t₂ in (
      w
          ∙ run_took head q (bytes-first head q (subst Bytes w g)) l (eqb-true (number_at head 15 1) 0 t₁) (leb-true k (length q) t₃)
          ∙ ap₂ (λ (u : Run) (v : List ℕ). enc_run u ++ v) x y,
      ap (ok_run n) (sym x) ∙ t₄,
    )

pub run-laws : (n : ℕ) → Laws Run enc_run (ok_run n) (one_run n)
run-laws n = record { there = run_there n; back = run-back n }
