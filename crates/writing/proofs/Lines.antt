-- A rule as it is written is a line of its own that reads back, and is not longer than its line was.
-- Assumes nothing.
use Prim.Native.Nat.{ℕ, zero, suc, ◌+◌, ◌≤◌}
use mathlib.Core.Path.{◌≡◌, refl, sym, ap, ◌∙◌}
use mathlib.Core.Bool.{Bool, true, false, not, ◌&&◌, ◌||◌}
use mathlib.Core.List.{List, [], ◌∷◌, ◌++◌, append_assoc, append-nil}
use native.Mathlib.Omega.{arith}
use lib.Dec.{eqb, leb}
use lib.ListN.{length, length-append}
use borrow.Author.Tests.{le-leb, leb-true, eqb-true, not-true}
use Rattle.lists.specs.Lists.{pick, all, cat, All}
use Rattle.lists.specs.Bytes.{is_upper, is_blank, holds, clean}
use Rattle.lists.specs.Runs.{Part, span}
use Rattle.lists.specs.Checked.{Checked, refused, ok, Holds}
use Rattle.lists.specs.Refusal.{Refusal, pair_extra}
use Rattle.lists.specs.Sizes.{most_line, most_pairs}
use Rattle.lists.proofs.Checked.{holds-bind, holds_at, holds-map}
use Rattle.lists.proofs.Lists.{all_append}
use Rattle.lists.proofs.Tests.{and_both, both_and, neither}
use Rattle.lists.proofs.Bytes.{holds-clean}
use Rattle.text.specs.Engine as text
use Rattle.text.specs.Lines.{Stage, blank, comment, plain, slash, joined, is_slash, next, stage_of, unjoined}
use Rattle.text.specs.Reading.{lent_by, read_lent}
use Rattle.text.proofs.Lines.{lines_to, stage_append}
use Rattle.text.proofs.Unjoined.{unjoined_flat, unjoined-size, unjoined-same}
use Rattle.rules.specs.Key.{LABEL, GOTO, same_key}
use Rattle.rules.specs.Pair.{Pair, Rule}
use Rattle.rules.specs.Reading.{unblank, read_pair, again, comma_then, others, read_pairs, rule_read, comment_or, read_unblank, read_sized, read_line, reader}
use Rattle.rules.proofs.Sound.{require-then}
use Rattle.writing.specs.Writing.{name_of, argument_text, op_text, ends_in_slash, needs_code, plain_byte, code_byte, value_as, value_text, pair_text, line_text}
use Rattle.writing.proofs.Values.{fair, Fair, fair-holds}
use Rattle.writing.proofs.Pairs.{unblank-none, unblank-fair, unblank-size, Writable, op_start, pair_again, PairFits, pair_fits}

-- ---- the pairs of a line

-- pairs that a line may hold where k are still allowed: no LABEL behind a LABEL, no GOTO behind a GOTO
abbrev pub Allowed : ℕ → Bool → Bool → List Pair → Type 0
Allowed k label goto [] = Unit {0}
Allowed zero label goto (p ∷ ps) = ⊥
Allowed (suc k) label goto (p ∷ ps) =
    Writable p × (not (again p.key label goto) ≡ true) × Allowed k (label || same_key p.key LABEL) (goto || same_key p.key GOTO) ps

pub record Again (k : ℕ) (label goto : Bool) (n : ℕ) (ps : List Pair) : Type 0 where
  pub reads : read_pairs k label goto (line_text ps) ≡ ok ps
  pub size : length (line_text ps) ≤ n
  pub writable : All Writable ps
  pub allowed : Allowed k label goto ps
  pub some_pair : 1 ≤ length ps

pub line-more : (p q : Pair) (ps : List Pair) → line_text (p ∷ q ∷ ps) ≡ pair_text p ++ (44 ∷ line_text (q ∷ ps))
unfolding line_text
line-more p q ps = refl

pairs-by : (k : ℕ) (label goto : Bool) (bs : List ℕ) (p : Part Pair) (ps : List Pair) → read_pair bs ≡ ok p → not (again p.value.key label goto) ≡ true
    → others p.rest (λ rest. read_pairs k (label || same_key p.value.key LABEL) (goto || same_key p.value.key GOTO) rest) ≡ ok ps
    → read_pairs (suc k) label goto bs ≡ ok (p.value ∷ ps)
unfolding read_pairs
pairs-by k label goto bs p ps e f g = rw (e, f, g)

module _ (k : ℕ) (label goto : Bool) (n : ℕ) (p : Pair) (w : Writable p) (new : not (again p.key label goto) ≡ true) where
  abbrev label' : Bool
  label' = label || same_key p.key LABEL

  abbrev goto' : Bool
  goto' = goto || same_key p.key GOTO

  pub last_again : length (pair_text p) ≤ n → Again (suc k) label goto n (p ∷ [])
  unfolding line_text span
  last_again h =
      let e : read_pair (pair_text p) ≡ ok (record { value = p; rest = [] }) = rw (← (append-nil (pair_text p))) (pair_again p w []) in
      record {
        reads = pairs-by k label goto (pair_text p) (record { value = p; rest = [] }) [] e new refl;
        size = h;
        writable = (w, tt);
        allowed = (w, new, tt);
        some_pair = omega arith;
      }

  pub more-again : (m : ℕ) (ps : List Pair) → Again k label' goto' m ps → length (pair_text p) + suc m ≤ n → Again (suc k) label goto n (p ∷ ps)
  more-again m [] a h = absurd (omega (arith, a.some_pair))
  more-again m (q ∷ ps) a h =
      let rest : List ℕ = 44 ∷ line_text (q ∷ ps) in
      let e : read_pair (pair_text p ++ rest) ≡ ok (record { value = p; rest = rest }) = pair_again p w rest ∙ ap (λ (l : List ℕ). ok (record { value = p; rest = l })) (unblank-none 44 (line_text (q ∷ ps)) refl) in
      record {
        reads = rw (line-more p q ps) (pairs-by k label goto (pair_text p ++ rest) (record { value = p; rest = rest }) (q ∷ ps) e new a.reads);
        size = rw (line-more p q ps) (omega (arith, length-append (pair_text p) rest, a.size));
        writable = (w, a.writable);
        allowed = (w, new, a.allowed);
        some_pair = omega arith;
      }

module _ (k : ℕ) (label goto : Bool) (bs : List ℕ) (p : Part Pair) (f : PairFits (length bs) p) (new : not (again p.value.key label goto) ≡ true) where
  abbrev later : List ℕ → Checked Refusal (List Pair)
  later rest = read_pairs k (label || same_key p.value.key LABEL) (goto || same_key p.value.key GOTO) rest

  abbrev Later : List ℕ → List Pair → Type 0
  Later rest ps = Again k (label || same_key p.value.key LABEL) (goto || same_key p.value.key GOTO) (length rest) ps

  abbrev Whole : List Pair → Type 0
  Whole ps = Again (suc k) label goto (length bs) (p.value ∷ ps)

  comma : (t : Bool) (b : ℕ) (rest : List ℕ) → p.rest ≡ b ∷ rest → ((rest : List ℕ) → Fair rest → Holds (Later rest) (later rest)) → Holds Whole (comma_then t rest later)
  comma true b rest e ih =
      holds-map (Later rest) Whole (later rest) (ih rest (and_both (fair b) (all fair rest) (rw e at f.fair-rest)).1)
      (λ ps a. more-again k label goto (length bs) p.value f.writable new (length rest) ps a (omega (arith, f.size, ap length e)))
  comma false b rest e ih = tt

  behind : (rest : List ℕ) → p.rest ≡ rest → ((rest : List ℕ) → Fair rest → Holds (Later rest) (later rest)) → Holds Whole (others rest later)
  behind [] e ih = last_again k label goto (length bs) p.value f.writable new (omega (arith, f.size))
  behind (b ∷ rest) e ih = comma (eqb b 44) b rest e ih

pub pairs-again : (k : ℕ) (label goto : Bool) (bs : List ℕ) → Fair bs → Holds (Again k label goto (length bs)) (read_pairs k label goto bs)
unfolding read_pairs
pairs-again zero label goto bs h = holds-bind (PairFits (length bs)) (Again zero label goto (length bs)) (read_pair bs) _ (pair_fits bs h) (λ _ _. tt)
pairs-again (suc k) label goto bs h =
    holds-bind (PairFits (length bs)) (Again (suc k) label goto (length bs)) (read_pair bs) _ (pair_fits bs h)
    (λ p f. require-then (Again (suc k) label goto (length bs)) (not (again p.value.key label goto)) pair_extra _
    (λ new. holds-bind (Whole k label goto bs p f new) (Again (suc k) label goto (length bs)) (others p.rest (later k label goto bs p f new)) _
    (behind k label goto bs p f new p.rest refl (λ rest r. pairs-again k (label || same_key p.value.key LABEL) (goto || same_key p.value.key GOTO) rest r))
    (λ ps a. a)))

-- ---- its bytes

cat-fair : (f : ℕ → List ℕ) (v : List ℕ) → All (λ (b : ℕ). Fair (f b)) v → Fair (cat f v)
cat-fair f [] h = refl
cat-fair f (b ∷ v) (h, hs) = all_append fair (f b) (cat f v) h (cat-fair f v hs)

plain-fair : (v : List ℕ) → clean v ≡ true → holds 10 v ≡ false → All (λ (b : ℕ). Fair (plain_byte b)) v
plain-fair [] h k = tt
plain-fair (b ∷ v) h k =
    let (p, q) = and_both (not (eqb b 0)) (clean v) h in
    let (x, y) = neither (eqb b 10) (holds 10 v) k in
    (at (eqb b 34) (both_and (not (eqb b 0)) (not (eqb b 10)) p (rw x)), plain-fair v q y)
  where
    at : (t : Bool) → fair b ≡ true → Fair (pick t (92 ∷ b ∷ []) (b ∷ []))
    at true f = rw f
    at false f = rw f

code-fair : (v : List ℕ) → clean v ≡ true → All (λ (b : ℕ). Fair (code_byte b)) v
code-fair [] h = tt
code-fair (b ∷ v) h =
    let (p, q) = and_both (not (eqb b 0)) (clean v) h in
    (at (eqb b 10) (eqb b 92 || eqb b 34) refl p, code-fair v q)
  where
    at : (n t : Bool) → eqb b 10 ≡ n → not (eqb b 0) ≡ true → Fair (pick n (92 ∷ 110 ∷ []) (pick t (92 ∷ b ∷ []) (b ∷ [])))
    at true t e f = refl
    at false true e f = rw (f, e)
    at false false e f = rw (f, e)

value_fair : (v : List ℕ) → clean v ≡ true → Fair (value_text v)
unfolding value_text needs_code
value_fair v h = at (holds 10 v || ends_in_slash v) refl
  where
    at : (t : Bool) → (holds 10 v || ends_in_slash v) ≡ t → Fair (value_as t v)
    at true e = all_append fair (cat code_byte v) (34 ∷ []) (cat-fair code_byte v (code-fair v h)) refl
    at false e = all_append fair (cat plain_byte v) (34 ∷ []) (cat-fair plain_byte v (plain-fair v h (neither (holds 10 v) (ends_in_slash v) e).0)) refl

argument_fair : (a : List ℕ) → Fair a → Fair (argument_text a)
argument_fair [] h = refl
argument_fair (b ∷ a) h = all_append fair (b ∷ a) (125 ∷ []) h refl

pair_fair : (p : Pair) → Writable p → Fair (pair_text p)
unfolding pair_text
pair_fair p w =
    let n : Fair (name_of p.key) = rw (← w.key_is, w.named.by_key) w.named.clean in
    all_append fair (name_of p.key) (argument_text p.argument ++ (op_text p.op ++ value_text p.value)) n
    (all_append fair (argument_text p.argument) (op_text p.op ++ value_text p.value) (argument_fair p.argument w.argument_fair)
    (all_append fair (op_text p.op) (value_text p.value) (op_start p.op).clean (value_fair p.value w.value_clean)))

pub line-fair : (ps : List Pair) → All Writable ps → Fair (line_text ps)
unfolding line_text
line-fair [] h = refl
line-fair (p ∷ []) (w, h) = pair_fair p w
line-fair (p ∷ q ∷ ps) (w, h) = all_append fair (pair_text p) (44 ∷ line_text (q ∷ ps)) (pair_fair p w) (line-fair (q ∷ ps) h)

-- it ends in a mark
abbrev EndsMark : List ℕ → Type 0
EndsMark l = (x : List ℕ) × (l ≡ x ++ (34 ∷ []))

ends-behind : (a l : List ℕ) → EndsMark l → EndsMark (a ++ l)
ends-behind a l (x, e) = (a ++ x, rw e (sym (append_assoc a x (34 ∷ []))))

pair_ends : (p : Pair) → EndsMark (pair_text p)
unfolding pair_text value_text
pair_ends p =
    ends-behind (name_of p.key) (argument_text p.argument ++ (op_text p.op ++ value_text p.value))
    (ends-behind (argument_text p.argument) (op_text p.op ++ value_text p.value)
    (ends-behind (op_text p.op) (value_text p.value) (at (needs_code p.value))))
  where
    at : (t : Bool) → EndsMark (value_as t p.value)
    at true = (101 ∷ 34 ∷ cat code_byte p.value, refl)
    at false = (34 ∷ cat plain_byte p.value, refl)

line-ends : (p : Pair) (ps : List Pair) → EndsMark (line_text (p ∷ ps))
unfolding line_text
line-ends p [] = pair_ends p
line-ends p (q ∷ ps) = ends-behind (pair_text p) (44 ∷ line_text (q ∷ ps)) (ends-behind (44 ∷ []) (line_text (q ∷ ps)) (line-ends q ps))

mark_closed : (s : Stage) → is_slash (next s 34) ≡ false
mark_closed blank = refl
mark_closed comment = refl
mark_closed plain = refl
mark_closed slash = refl
mark_closed joined = refl

pub line-closed : (p : Pair) (ps : List Pair) → is_slash (stage_of blank (line_text (p ∷ ps))) ≡ false
unfolding stage_of
line-closed p ps =
    let (x, e) = line-ends p ps in
    rw (e, stage_append blank x (34 ∷ [])) (mark_closed (stage_of blank x))

-- it begins with a letter
pub record Start (l : List ℕ) : Type 0 where
  pub first : ℕ
  pub others : List ℕ
  pub is : l ≡ first ∷ others
  pub no-blank : is_blank first ≡ false
  pub no-comment : eqb first 35 ≡ false

letter_start : (b : ℕ) → is_upper b ≡ true → (is_blank b ≡ false) × (eqb b 35 ≡ false)
letter_start b h =
    let (p, q) = and_both (leb 65 b) (leb b 90) h in
    let l = leb-true 65 b p in
    (rw (other 32 (omega arith), other 9 (omega arith)), other 35 (omega arith))
  where
    other : (c : ℕ) → suc c ≤ b → eqb b c ≡ false
    other c l = at (eqb b c) refl
      where
        at : (t : Bool) → eqb b c ≡ t → t ≡ false
        at true e = let z = eqb-true b c e in absurd (omega arith)
        at false e = refl

name-start : (n rest : List ℕ) → all is_upper n ≡ true → leb 1 (length n) ≡ true → Start (n ++ rest)
name-start [] rest u l = let z : ◌≡◌ {A = ℕ} 0 1 = cc in absurd (omega arith)
name-start (b ∷ n) rest u l =
    let (p, q) = letter_start b (and_both (is_upper b) (all is_upper n) u).0 in
    record { first = b; others = n ++ rest; is = refl; no-blank = p; no-comment = q }

pair_start : (p : Pair) → Writable p → (rest : List ℕ) → Start (pair_text p ++ rest)
unfolding pair_text
pair_start p w rest =
    let e : name_of p.key ≡ w.row.name = rw (← w.key_is) w.named.by_key in
    rw (append_assoc (name_of p.key) (argument_text p.argument ++ (op_text p.op ++ value_text p.value)) rest, e)
    (name-start w.row.name ((argument_text p.argument ++ (op_text p.op ++ value_text p.value)) ++ rest) w.named.upper w.named.some_byte)

pub line-start : (p : Pair) (ps : List Pair) → Writable p → Start (line_text (p ∷ ps))
unfolding line_text
line-start p [] w = rw (← (append-nil (pair_text p))) (pair_start p w [])
line-start p (q ∷ ps) w = pair_start p w (44 ∷ line_text (q ∷ ps))

-- ---- a line

-- a rule was read from a line's bytes: 10 did not apply, and its pairs were read
pub record RuleRead (l : List ℕ) (r : Rule) : Type 0 where
  pub sized : (leb (length l) most_line && not (holds 0 l)) ≡ true
  pub pairs : read_pairs most_pairs false false (unblank l) ≡ ok r

pub rule_read_lem : (l : List ℕ) (r : Rule) → read_line l ≡ text.rule r → RuleRead l r
unfolding read_line
rule_read_lem l r e = at (leb (length l) most_line && not (holds 0 l)) refl e
  where
    pairs : (c : Checked Refusal (List Pair)) → rule_read c ≡ text.rule r → c ≡ ok r
    pairs (refused f) h = let z : ◌≡◌ {A = ℕ} 0 1 = cc in absurd (omega arith)
    pairs (ok ps) h = cc

    comment-or : (t : Bool) (bs : List ℕ) → comment_or t bs ≡ text.rule r → read_pairs most_pairs false false bs ≡ ok r
    comment-or true bs h = let z : ◌≡◌ {A = ℕ} 0 1 = cc in absurd (omega arith)
    comment-or false bs h = pairs (read_pairs most_pairs false false bs) h

    from : (bs : List ℕ) → read_unblank bs ≡ text.rule r → read_pairs most_pairs false false bs ≡ ok r
    from [] h = let z : ◌≡◌ {A = ℕ} 0 1 = cc in absurd (omega arith)
    from (b ∷ bs) h = comment-or (eqb b 35) (b ∷ bs) h

    at : (t : Bool) → (leb (length l) most_line && not (holds 0 l)) ≡ t → read_sized t l ≡ text.rule r → RuleRead l r
    at true q h = record { sized = q; pairs = from (unblank l) h }
    at false q h = let z : ◌≡◌ {A = ℕ} 0 1 = cc in absurd (omega arith)

fair_nul : (v : List ℕ) → Fair v → holds 0 v ≡ false
fair_nul [] h = refl
fair_nul (b ∷ v) h =
    let (p, q) = and_both (fair b) (all fair v) h in
    rw (not-true (eqb b 0) (and_both (not (eqb b 0)) (not (eqb b 10)) p).0) (fair_nul v q)

pub both_fair : (l : List ℕ) → clean l ≡ true → holds 10 l ≡ false → Fair l
both_fair [] h k = refl
both_fair (b ∷ l) h k =
    let (p, q) = and_both (not (eqb b 0)) (clean l) h in
    let (x, y) = neither (eqb b 10) (holds 10 l) k in
    both_and (fair b) (all fair l) (both_and (not (eqb b 0)) (not (eqb b 10)) p (rw x)) (both_fair l q y)

-- what is written of a rule that was read from bytes without a newline
pub record LineAgain (n : ℕ) (r : Rule) : Type 0 where
  pub reads : read_line (line_text r) ≡ text.rule r
  pub size : length (line_text r) ≤ n
  pub fair-line : Fair (line_text r)
  pub closed : is_slash (stage_of blank (line_text r)) ≡ false

pub line-by : (l : List ℕ) (r : Rule) → Start l → length l ≤ most_line → Fair l → read_pairs most_pairs false false l ≡ ok r → read_line l ≡ text.rule r
unfolding read_line
line-by l r s h f e =
    rw (le-leb (length l) most_line h, fair_nul l f, s.is, unblank-none s.first s.others s.no-blank, s.no-comment, ← s.is, e)

pub line-again : (l : List ℕ) (r : Rule) → holds 10 l ≡ false → read_line l ≡ text.rule r → LineAgain (length l) r
line-again l r flat e =
    let q = rule_read_lem l r e in
    let (a, b) = and_both (leb (length l) most_line) (not (holds 0 l)) q.sized in
    let f : Fair l = both_fair l (holds-clean l (not-true (holds 0 l) b)) flat in
    let g = holds_at (Again most_pairs false false (length (unblank l))) q.pairs (pairs-again most_pairs false false (unblank l) (unblank-fair l f)) in
    at r g (leb-true (length l) most_line a)
  where
    at : (r : Rule) → Again most_pairs false false (length (unblank l)) r → length l ≤ most_line → LineAgain (length l) r
    at [] g h = absurd (omega (arith, g.some_pair))
    at (p ∷ ps) g h =
        let f = line-fair (p ∷ ps) g.writable in
        record {
          reads = line-by (line_text (p ∷ ps)) (p ∷ ps) (line-start p ps g.writable.0) (omega (arith, g.size, unblank-size l)) f g.reads;
          size = omega (arith, g.size, unblank-size l);
          fair-line = f;
          closed = line-closed p ps;
        }

-- ---- a line as lent

pub lent_again : (l : List ℕ) (r : Rule) → read_lent reader l ≡ text.rule r → LineAgain (length l) r
unfolding read_lent
lent_again l r e = at (is_slash (stage_of blank l)) e
  where
    at : (t : Bool) → lent_by reader t l ≡ text.rule r → LineAgain (length l) r
    at true h = let z : ◌≡◌ {A = ℕ} 0 1 = cc in absurd (omega arith)
    at false h =
        let a = line-again (unjoined l) r (unjoined_flat l) h in
        record { reads = a.reads; size = omega (arith, a.size, unjoined-size l); fair-line = a.fair-line; closed = a.closed }

pub lent_reads : (n : ℕ) (r : Rule) → LineAgain n r → read_lent reader (line_text r) ≡ text.rule r
unfolding read_lent
lent_reads n r a = rw (a.closed, unjoined-same (line_text r) (fair-holds (line_text r) a.fair-line)) a.reads

-- and it is one line
pub one_line : (s : Stage) (l : List ℕ) → Fair l → lines_to s l ≡ l ∷ []
unfolding lines_to
one_line s [] h = refl
one_line s (b ∷ l) h =
    let (p, q) = and_both (fair b) (all fair l) h in
    rw (not-true (eqb b 10) (and_both (not (eqb b 0)) (not (eqb b 10)) p).1, one_line (next s b) l q)
