-- What is left of a rule that a line held, whatever is taken out of it, is written as a line that reads back and is not longer.
-- Assumes nothing.
use Prim.Native.Nat.{ℕ, zero, suc, ◌+◌, ◌-◌, ◌≤◌}
use mathlib.Core.Path.{◌≡◌, refl, ap, subst}
use mathlib.Core.Bool.{Bool, true, false, not, ◌&&◌, ◌||◌}
use mathlib.Core.List.{List, [], ◌∷◌}
use native.Mathlib.Omega.{arith}
use lib.Dec.{leb}
use lib.ListN.{length, length-append}
use borrow.Author.Tests.{leb-true, not-true}
use Rattle.lists.specs.Lists.{pick, reject, All}
use Rattle.lists.specs.Bytes.{holds}
use Rattle.lists.specs.Sizes.{most_line, most_pairs}
use Rattle.lists.proofs.Checked.{holds_at}
use Rattle.lists.proofs.Tests.{and_both}
use Rattle.lists.proofs.Bytes.{holds-clean}
use Rattle.text.specs.Engine as text
use Rattle.text.specs.Lines.{blank, is_slash, stage_of, unjoined, newlines}
use Rattle.text.specs.Reading.{lent_by, read_lent}
use Rattle.text.proofs.Unjoined.{unjoined_flat, unjoined-newlines}
use Rattle.rules.specs.Key.{LABEL, GOTO, same_key}
use Rattle.rules.specs.Pair.{Pair, Rule}
use Rattle.rules.specs.Reading.{unblank, read_line, reader}
use Rattle.writing.specs.Writing.{pair_text, line_text}
use Rattle.writing.proofs.Values.{Fair}
use Rattle.writing.proofs.Pairs.{unblank-fair, unblank-size, Writable}
use Rattle.writing.proofs.Lines.{Allowed, Again, last_again, more-again, line-more, pairs-again, line-fair, line-closed, line-start, rule_read_lem, both_fair, LineAgain, line-by}

-- ---- pairs that may stand in a line may do so without some of them

-- a flag that was lower before
abbrev Lower : Bool → Bool → Type 0
Lower a b = b ≡ false → a ≡ false

again-lower : (x y l l' g g' : Bool) → Lower l' l → Lower g' g → not ((x && l) || (y && g)) ≡ true → not ((x && l') || (y && g')) ≡ true
again-lower false false l l' g g' a b h = refl
again-lower false true l l' g g' a b h = ap not (b (not-true g h))
again-lower true y true l' g g' a b h = let z : ◌≡◌ {A = ℕ} 0 1 = cc in absurd (omega arith)
again-lower true false false l' g g' a b h = rw (a refl)
again-lower true true false l' g g' a b h = rw (a refl) (ap not (b (not-true g h)))

or-lower : (a b c : Bool) → Lower a b → Lower (a || c) (b || c)
or-lower a true c l h = let z : ◌≡◌ {A = ℕ} 0 1 = cc in absurd (omega arith)
or-lower a false c l h = rw (l refl) h

below_or : (a b c : Bool) → Lower a b → Lower a (b || c)
below_or a true c l h = let z : ◌≡◌ {A = ℕ} 0 1 = cc in absurd (omega arith)
below_or a false c l h = l refl

allowed-left : (out : Pair → Bool) (k k' : ℕ) (l l' g g' : Bool) (ps : List Pair) → k ≤ k' → Lower l' l → Lower g' g → Allowed k l g ps → Allowed k' l' g' (reject out ps)
allowed-left out k k' l l' g g' [] m a b h = tt
allowed-left out zero k' l l' g g' (p ∷ ps) m a b h = absurd h
allowed-left out (suc k) zero l l' g g' (p ∷ ps) m a b h = absurd (omega arith)
allowed-left out (suc k) (suc k') l l' g g' (p ∷ ps) m a b (w, n, h) =
    at (out p)
    (allowed-left out k (suc k') (l || same_key p.key LABEL) l' (g || same_key p.key GOTO) g' ps (omega arith) (below_or l' l (same_key p.key LABEL) a) (below_or g' g (same_key p.key GOTO) b) h)
    (allowed-left out k k' (l || same_key p.key LABEL) (l' || same_key p.key LABEL) (g || same_key p.key GOTO) (g' || same_key p.key GOTO) ps (omega arith) (or-lower l' l (same_key p.key LABEL) a) (or-lower g' g (same_key p.key GOTO) b) h)
  where
    at : (t : Bool) → Allowed (suc k') l' g' (reject out ps) → Allowed k' (l' || same_key p.key LABEL) (g' || same_key p.key GOTO) (reject out ps)
        → Allowed (suc k') l' g' (pick t (reject out ps) (p ∷ reject out ps))
    at true x y = x
    at false x y = (w, again-lower (same_key p.key LABEL) (same_key p.key GOTO) l l' g g' a b n, y)

-- ---- pairs that may stand in a line are read from it as it is written

allowed-again : (k : ℕ) (l g : Bool) (p : Pair) (ps : List Pair) → Allowed k l g (p ∷ ps) → Again k l g (length (line_text (p ∷ ps))) (p ∷ ps)
allowed-again zero l g p ps h = absurd h
allowed-again (suc k) l g p [] (w, n, h) = unfold line_text in last_again k l g (length (pair_text p)) p w n (omega arith)
allowed-again (suc k) l g p (q ∷ ps) (w, n, h) =
    more-again k l g (length (line_text (p ∷ q ∷ ps))) p w n (length (line_text (q ∷ ps))) (q ∷ ps) (allowed-again k (l || same_key p.key LABEL) (g || same_key p.key GOTO) q ps h)
    (omega (arith, ap length (line-more p q ps), length-append (pair_text p) (44 ∷ line_text (q ∷ ps))))

-- ---- sizes

-- each pair with a comma
unfoldable commas : List Pair → ℕ
commas [] = 0
commas (p ∷ ps) = suc (length (pair_text p) + commas ps)

line-commas : (p : Pair) (ps : List Pair) → suc (length (line_text (p ∷ ps))) ≡ commas (p ∷ ps)
unfolding commas line_text
line-commas p [] = omega arith
line-commas p (q ∷ ps) = omega (arith, length-append (pair_text p) (44 ∷ line_text (q ∷ ps)), line-commas q ps)

left-commas : (out : Pair → Bool) (ps : List Pair) → commas (reject out ps) ≤ commas ps
unfolding commas
left-commas out [] = omega arith
left-commas out (p ∷ ps) = at (out p) (left-commas out ps)
  where
    at : (t : Bool) → commas (reject out ps) ≤ commas ps → commas (pick t (reject out ps) (p ∷ reject out ps)) ≤ suc (length (pair_text p) + commas ps)
    at true h = omega arith
    at false h = omega arith

left-size : (out : Pair → Bool) (q : Pair) (qs : List Pair) (p : Pair) (ps : List Pair) → reject out (q ∷ qs) ≡ p ∷ ps → length (line_text (p ∷ ps)) ≤ length (line_text (q ∷ qs))
left-size out q qs p ps e = omega (arith, line-commas p ps, line-commas q qs, ap commas e, left-commas out (q ∷ qs))

all_writable : (k : ℕ) (l g : Bool) (ps : List Pair) → Allowed k l g ps → All Writable ps
all_writable k l g [] h = tt
all_writable zero l g (p ∷ ps) h = absurd h
all_writable (suc k) l g (p ∷ ps) (w, n, h) = (w, all_writable k (l || same_key p.key LABEL) (g || same_key p.key GOTO) ps h)

-- ---- a line

line-left : (out : Pair → Bool) (l : List ℕ) (r : Rule) → holds 10 l ≡ false → read_line l ≡ text.rule r → (p : Pair) (ps : List Pair) → reject out r ≡ p ∷ ps → LineAgain (length l) (p ∷ ps)
line-left out l r flat e p ps q =
    let z = rule_read_lem l r e in
    let (a, b) = and_both (leb (length l) most_line) (not (holds 0 l)) z.sized in
    let f : Fair l = both_fair l (holds-clean l (not-true (holds 0 l) b)) flat in
    let g = holds_at (Again most_pairs false false (length (unblank l))) z.pairs (pairs-again most_pairs false false (unblank l) (unblank-fair l f)) in
    at r g q (leb-true (length l) most_line a)
  where
    at : (r : Rule) → Again most_pairs false false (length (unblank l)) r → reject out r ≡ p ∷ ps → length l ≤ most_line → LineAgain (length l) (p ∷ ps)
    at [] g q h = absurd (omega (arith, g.some_pair))
    at (c ∷ cs) g q h =
        let w : Allowed most_pairs false false (p ∷ ps) =
        subst (Allowed most_pairs false false) q (allowed-left out most_pairs most_pairs false false false false (c ∷ cs) (omega arith) (λ x. x) (λ x. x) g.allowed) in
        let i = allowed-again most_pairs false false p ps w in
        let ws = all_writable most_pairs false false (p ∷ ps) w in
        let j = left-size out c cs p ps q in
        record {
          reads = line-by (line_text (p ∷ ps)) (p ∷ ps) (line-start p ps ws.0) (omega (arith, g.size, unblank-size l)) (line-fair (p ∷ ps) ws) i.reads;
          size = omega (arith, g.size, unblank-size l);
          fair-line = line-fair (p ∷ ps) ws;
          closed = line-closed p ps;
        }

-- of a line as lent: what is left has room for the newlines of its joins too
pub lent-left : (out : Pair → Bool) (l : List ℕ) (r : Rule) → read_lent reader l ≡ text.rule r → (p : Pair) (ps : List Pair) → reject out r ≡ p ∷ ps → LineAgain (length l - newlines l) (p ∷ ps)
unfolding read_lent
lent-left out l r e p ps q = at (is_slash (stage_of blank l)) e
  where
    at : (t : Bool) → lent_by reader t l ≡ text.rule r → LineAgain (length l - newlines l) (p ∷ ps)
    at true h = let z : ◌≡◌ {A = ℕ} 0 1 = cc in absurd (omega arith)
    at false h =
        let a = line-left out (unjoined l) r (unjoined_flat l) h p ps q in
        record { reads = a.reads; size = omega (arith, a.size, unjoined-newlines l); fair-line = a.fair-line; closed = a.closed }
