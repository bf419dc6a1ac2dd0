-- The stage behind the bytes of a physical line, by its first byte that is no blank and by its last byte.
-- Assumes nothing.
use Prim.Native.Nat.{ℕ}
use mathlib.Core.Path.{◌≡◌, refl, sym, ap, ◌∙◌}
use mathlib.Core.Bool.{Bool, true, false, not}
use mathlib.Core.List.{List, [], ◌∷◌, ◌++◌}
use native.Mathlib.Omega.{arith}
use lib.Dec.{eqb}
use lib.ListN.{get_or}
use borrow.Author.Tests.{eqb-true, eq-eqb, ne_eqb}
use Rattle.lists.specs.Lists.{pick, all}
use Rattle.lists.specs.Bytes.{is_blank}
use Rattle.lists.specs.Runs.{span}
use Rattle.lists.proofs.Tests.{and_both}
use Rattle.lists.proofs.Runs.{span_in, span-stop}
use Rattle.text.specs.Lines.{Stage, blank, comment, plain, slash, joined, is_slash, ruled, next, stage_of, newlines}
use Rattle.text.proofs.Places.{is_in_line, stage_comment}
use Rattle.lines.specs.Ends.{ends_slash}

pub false≢true : {A : Type 0} → false ≡ true → A
false≢true e = let z : ◌≡◌ {A = ℕ} 0 1 = cc in absurd (omega arith)

-- ---- bytes without a newline

in_line : (b : ℕ) → is_in_line b ≡ true → eqb b 10 ≡ false
in_line b h = at (eqb b 10) h
  where
    at : (t : Bool) → not t ≡ true → t ≡ false
    at true e = false≢true e
    at false e = refl

pub no-newlines : (w : List ℕ) → all is_in_line w ≡ true → newlines w ≡ 0
unfolding newlines
no-newlines [] h = refl
no-newlines (b ∷ w) h =
    let (p, q) = and_both (is_in_line b) (all is_in_line w) h in
    rw (in_line b p) (no-newlines w q)

-- ---- the last byte

pub ends-none : false ≡ ends_slash []
unfolding ends_slash
ends-none = refl

pub ends_snoc : (w : List ℕ) (b : ℕ) → ends_slash (w ++ (b ∷ [])) ≡ eqb b 92
unfolding ends_slash
ends_snoc [] b = refl
ends_snoc (c ∷ []) b = refl
ends_snoc (c ∷ d ∷ w) b = ends_snoc (d ∷ w) b

slash-ruled : (b : ℕ) → is_slash (ruled b) ≡ eqb b 92
slash-ruled b = at (eqb b 92)
  where
    at : (t : Bool) → is_slash (pick t slash plain) ≡ t
    at true = refl
    at false = refl

-- no other byte leaves a backslash
next_other : (s : Stage) (b : ℕ) → eqb b 92 ≡ false → is_slash (next s b) ≡ false
next_other s b h = at s
  where
    either : (t : Bool) (x y : Stage) → is_slash x ≡ false → is_slash y ≡ false → is_slash (pick t x y) ≡ false
    either true x y p q = p
    either false x y p q = q

    last : is_slash (ruled b) ≡ false
    last = slash-ruled b ∙ h

    at : (s : Stage) → is_slash (next s b) ≡ false
    at blank = either (eqb b 10) blank _ refl (either (is_blank b) blank _ refl (either (eqb b 35) comment (ruled b) refl last))
    at comment = either (eqb b 10) blank comment refl refl
    at plain = either (eqb b 10) blank (ruled b) refl last
    at slash = either (eqb b 10) joined (ruled b) refl last
    at joined = either (eqb b 10) blank (ruled b) refl last

other_last : (s : Stage) (b : ℕ) (w : List ℕ) → ends_slash (b ∷ w) ≡ false → is_slash (stage_of s (b ∷ w)) ≡ false
unfolding stage_of ends_slash
other_last s b [] h = next_other s b h
other_last s b (c ∷ w) h = other_last (next s b) c w h

pub plain_last : (w : List ℕ) → ends_slash w ≡ false → is_slash (stage_of blank w) ≡ false
unfolding stage_of
plain_last [] h = refl
plain_last (b ∷ w) h = other_last blank b w h

ruled-next : (b c : ℕ) → eqb c 10 ≡ false → next (ruled b) c ≡ ruled c
ruled-next b c h = at (eqb b 92)
  where
    at : (t : Bool) → next (pick t slash plain) c ≡ ruled c
    at true = rw h
    at false = rw h

-- in a rule the last byte decides
ruled_last : (b : ℕ) (w : List ℕ) → all is_in_line w ≡ true → is_slash (stage_of (ruled b) w) ≡ ends_slash (b ∷ w)
unfolding stage_of ends_slash
ruled_last b [] h = slash-ruled b
ruled_last b (c ∷ w) h =
    let (p, q) = and_both (is_in_line c) (all is_in_line w) h in
    ap (λ (s : Stage). is_slash (stage_of s w)) (ruled-next b c (in_line c p)) ∙ ruled_last c w q

pub joined_last : (w : List ℕ) → all is_in_line w ≡ true → is_slash (stage_of joined w) ≡ ends_slash w
unfolding stage_of ends_slash
joined_last [] h = refl
joined_last (b ∷ w) h =
    let (p, q) = and_both (is_in_line b) (all is_in_line w) h in
    rw (in_line b p) (ruled_last b w q)

-- ---- the first byte that is no blank

blank_other : (b : ℕ) → is_blank b ≡ true → eqb b 92 ≡ false
blank_other b k = at (eqb b 92) refl
  where
    at : (t : Bool) → eqb b 92 ≡ t → t ≡ false
    at true e = let c : b ≡ 92 = eqb-true b 92 e in false≢true (rw c at k)
    at false e = refl

blank-front : (b : ℕ) (w : List ℕ) → is_blank b ≡ true → ends_slash (b ∷ w) ≡ ends_slash w
unfolding ends_slash
blank-front b [] k = blank_other b k
blank-front b (c ∷ w) k = refl

abbrev pub first_in : List ℕ → ℕ
first_in bs = get_or (span is_blank bs).rest 0 0

-- at the head of the bytes of a line, which others may follow
pub comment-first : (w r : List ℕ) → all is_in_line w ≡ true → first_in (w ++ r) ≡ 35 → is_slash (stage_of blank w) ≡ false
unfolding stage_of
comment-first [] r h e = refl
comment-first (b ∷ w) r h e =
    let (p, q) = and_both (is_in_line b) (all is_in_line w) h in
    at (is_blank b) refl (in_line b p) q (λ k. comment-first w r q k)
  where
    at : (t : Bool) → is_blank b ≡ t → eqb b 10 ≡ false → all is_in_line w ≡ true → (first_in (w ++ r) ≡ 35 → is_slash (stage_of blank w) ≡ false) → is_slash (stage_of (next blank b) w) ≡ false
    at true k n q f = rw (n, k) (f (rw (span_in is_blank b (w ++ r) k) at e))
    at false k n q f =
        let c : b ≡ 35 = rw (span-stop is_blank b (w ++ r) k) at e in
        rw (n, k, eq-eqb b 35 c, stage_comment w q)

pub rule-first : (w r : List ℕ) → all is_in_line w ≡ true → (first_in (w ++ r) ≡ 35 → ⊥) → is_slash (stage_of blank w) ≡ ends_slash w
unfolding stage_of
rule-first [] r h e = ends-none
rule-first (b ∷ w) r h e =
    let (p, q) = and_both (is_in_line b) (all is_in_line w) h in
    at (is_blank b) refl (in_line b p) q (λ k. rule-first w r q k)
  where
    at : (t : Bool) → is_blank b ≡ t → eqb b 10 ≡ false → all is_in_line w ≡ true → ((first_in (w ++ r) ≡ 35 → ⊥) → is_slash (stage_of blank w) ≡ ends_slash w)
        → is_slash (stage_of (next blank b) w) ≡ ends_slash (b ∷ w)
    at true k n q f = rw (n, k) (f (λ z. e (rw (span_in is_blank b (w ++ r) k) z)) ∙ sym (blank-front b w k))
    at false k n q f =
        let c : eqb b 35 ≡ false = ne_eqb b 35 (λ z. e (rw (span-stop is_blank b (w ++ r) k) z)) in
        rw (n, k, c) (ruled_last b w q)
