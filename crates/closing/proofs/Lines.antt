-- Document 02, Item 13: the lines of a text without the assignments to a key.
-- Assumes nothing.
use Prim.Native.Nat.{ℕ, zero, suc, ◌+◌, ◌-◌, ◌≤◌}
use mathlib.Core.Path.{◌≡◌, refl, sym, ap, ap₂, ◌∙◌, subst}
use mathlib.Core.Bool.{Bool, true, false}
use mathlib.Core.List.{List, [], ◌∷◌, ◌++◌, map, append_assoc, append-nil}
use native.Mathlib.Omega.{arith}
use lib.Dec.{eqb}
use lib.ListN.{length, length-append, replicate, length-replicate}
use Rattle.lists.specs.Lists.{cat}
use Rattle.lists.specs.Bytes.{holds}
use Rattle.lists.specs.Runs.{span}
use Rattle.lists.specs.Checked.{Placed, line, in_place}
use Rattle.lists.proofs.Tests.{neither}
use Rattle.rules.specs.Pair.{Pair, Rule}
use Rattle.rules.specs.Reading.{read_line, reader}
use Rattle.text.specs.Lines.{Stage, blank, is_slash, next, stage_of, is_open, lines_in, numbered, newlines, unjoined}
use Rattle.text.specs.Engine.{LineRead, skip, fault, rule}
use Rattle.text.specs.Reading.{lent_by, read_lent}
use Rattle.text.proofs.Lines.{newlines-append, lines_seam, flat_line, flat_newlines}
use Rattle.text.proofs.Unjoined.{unjoined-newlines}
use Rattle.text.proofs.Collect.{Faultless}
use Rattle.writing.specs.Writing.{line_text}
use Rattle.writing.proofs.Values.{fair-holds}
use Rattle.writing.proofs.Lines.{LineAgain, lent_reads}
use Rattle.writing.proofs.Left.{lent-left}
use Rattle.striking.specs.Striking.{together}
use Rattle.striking.proofs.Lines.{together-lines, Proper, proper, newlines-line, newlines_last}
use Rattle.closing.specs.Closing.{ClosingKey, assigns_to, drop_rule}
use Rattle.closing.specs.Dropping.{left_of, drop_line, drop_text}

-- ---- a rule as it is written

-- what is left of a rule, as it is read
abbrev pub rule_or : Rule → LineRead Rule
rule_or [] = skip
rule_or (p ∷ ps) = rule (p ∷ ps)

pub empty-lent : read_lent reader [] ≡ skip
unfolding read_lent stage_of unjoined read_line span
empty-lent = refl

-- bytes that are one line, read as what is left of a rule, with room for n bytes
pub record Written (n : ℕ) (r : Rule) : Type 0 where
  pub flat : holds 10 (line_text r) ≡ false
  pub closed : is_slash (stage_of blank (line_text r)) ≡ false
  pub reads : read_lent reader (line_text r) ≡ rule_or r
  pub size : length (line_text r) ≤ n

nothing_written : (n : ℕ) → Written n []
unfolding line_text stage_of
nothing_written n = record { flat = refl; closed = refl; reads = empty-lent; size = omega arith }

again-written : (n : ℕ) (p : Pair) (ps : List Pair) → LineAgain n (p ∷ ps) → Written n (p ∷ ps)
again-written n p ps a = record { flat = fair-holds (line_text (p ∷ ps)) a.fair-line; closed = a.closed; reads = lent_reads n (p ∷ ps) a; size = a.size }

module _ (k : ClosingKey) where
  pub written : (l : List ℕ) (r : Rule) → read_lent reader l ≡ rule r → Written (length l - newlines l) (drop_rule k r)
  written l r e = at (drop_rule k r) refl
    where
      at : (r' : Rule) → drop_rule k r ≡ r' → Written (length l - newlines l) r'
      at [] q = nothing_written (length l - newlines l)
      at (p ∷ ps) q = again-written (length l - newlines l) p ps (lent-left (assigns_to k) l r e p ps q)

-- ---- newlines and sizes

newlines-many : (j : ℕ) → newlines (replicate j 10) ≡ j
unfolding newlines
newlines-many zero = refl
newlines-many (suc j) = ap suc (newlines-many j)

newlines_fit : (l : List ℕ) → newlines l ≤ length l
newlines_fit l = omega (arith, unjoined-newlines l)

module _ (k : ClosingKey) where
  left-newlines : (l : List ℕ) (x : LineRead Rule) → read_lent reader l ≡ x → newlines (left_of k l x) ≡ newlines l
  left-newlines l skip e = refl
  left-newlines l (fault f) e = refl
  left-newlines l (rule r) e =
      newlines-append (line_text (drop_rule k r)) (replicate (newlines l) 10)
      ∙ omega (arith, flat_newlines (line_text (drop_rule k r)) (written k l r e).flat, newlines-many (newlines l))

  left_shorter : (l : List ℕ) (x : LineRead Rule) → read_lent reader l ≡ x → length (left_of k l x) ≤ length l
  left_shorter l skip e = omega arith
  left_shorter l (fault f) e = omega arith
  left_shorter l (rule r) e =
      omega (arith, length-append (line_text (drop_rule k r)) (replicate (newlines l) 10), length-replicate {A = ℕ} (newlines l) 10, (written k l r e).size, newlines_fit l)

  same-newlines : (ls : List (List ℕ)) → newlines (together (map (drop_line k) ls)) ≡ newlines (together ls)
  unfolding together newlines
  same-newlines [] = refl
  same-newlines (l ∷ []) = left-newlines l (read_lent reader l) refl
  same-newlines (l ∷ m ∷ ls) =
      newlines-append (drop_line k l) (10 ∷ together (map (drop_line k) (m ∷ ls)))
      ∙ ap₂ ◌+◌ (left-newlines l (read_lent reader l) refl) (ap suc (same-newlines (m ∷ ls)))
      ∙ sym (newlines-append l (10 ∷ together (m ∷ ls)))

  no_longer : (ls : List (List ℕ)) → length (together (map (drop_line k) ls)) ≤ length (together ls)
  unfolding together
  no_longer [] = omega arith
  no_longer (l ∷ []) = left_shorter l (read_lent reader l) refl
  no_longer (l ∷ m ∷ ls) =
      let i = no_longer (m ∷ ls) in
      let j = left_shorter l (read_lent reader l) refl in
      omega (arith, length-append (drop_line k l) (10 ∷ together (map (drop_line k) (m ∷ ls))), length-append l (10 ∷ together (m ∷ ls)))

  pub drop-lines : (t : List ℕ) → newlines (drop_text k t) ≡ newlines t
  unfolding drop_text
  drop-lines t = same-newlines (lines_in blank t) ∙ ap newlines (together-lines blank t)

  pub drop_shorter : (t : List ℕ) → length (drop_text k t) ≤ length t
  unfolding drop_text
  drop_shorter t = subst (λ (x : List ℕ). length (together (map (drop_line k) (lines_in blank t))) ≤ length x) (together-lines blank t) (no_longer (lines_in blank t))

-- ---- the lines

-- a line and newlines behind it
tail_line : (w : List ℕ) (j : ℕ) (v : List ℕ) → holds 10 w ≡ false → is_slash (stage_of blank w) ≡ false
    → lines_in blank ((w ++ replicate j 10) ++ (10 ∷ v)) ≡ w ∷ (replicate j [] ++ lines_in blank v)
tail_line w zero v f c =
    ap (lines_in blank) (ap (λ (x : List ℕ). x ++ (10 ∷ v)) (append-nil w))
    ∙ lines_seam blank w v c
    ∙ ap (λ (ls : List (List ℕ)). ls ++ lines_in blank v) (flat_line blank w f)
tail_line w (suc j) v f c =
    ap (lines_in blank) (append_assoc w (10 ∷ replicate j 10) (10 ∷ v))
    ∙ lines_seam blank w (replicate j 10 ++ (10 ∷ v)) c
    ∙ ap₂ (λ (a b : List (List ℕ)). a ++ b) (flat_line blank w f) (newlines-line j v)

flat_last : (s : Stage) (w : List ℕ) → holds 10 w ≡ false → lines_in s w ≡ w ∷ []
unfolding lines_in
flat_last s [] h = refl
flat_last s (b ∷ w) h = let (p, q) = neither (eqb b 10) (holds 10 w) h in rw (p, flat_last (next s b) w q)

last_line : (w : List ℕ) (j : ℕ) → holds 10 w ≡ false → is_slash (stage_of blank w) ≡ false → lines_in blank (w ++ replicate j 10) ≡ w ∷ replicate j []
last_line w zero f c = ap (lines_in blank) (append-nil w) ∙ flat_last blank w f
last_line w (suc j) f c =
    lines_seam blank w (replicate j 10) c ∙ ap₂ (λ (a b : List (List ℕ)). a ++ b) (flat_line blank w f) (newlines_last j)

closed-skip : (l : List ℕ) → read_lent reader l ≡ skip → is_slash (stage_of blank l) ≡ false
unfolding read_lent
closed-skip l e = at (is_open l) refl e
  where
    at : (t : Bool) → is_open l ≡ t → lent_by reader t l ≡ skip → t ≡ false
    at true q h = let z : ◌≡◌ {A = ℕ} 0 1 = cc in absurd (omega arith)
    at false q h = refl

module _ (k : ClosingKey) where
  -- what a line becomes
  abbrev pub lines_left : List ℕ → LineRead Rule → List (List ℕ)
  lines_left l skip = l ∷ []
  lines_left l (fault f) = l ∷ []
  lines_left l (rule r) = line_text (drop_rule k r) ∷ replicate (newlines l) []

  abbrev pub becomes : List ℕ → List (List ℕ)
  becomes l = lines_left l (read_lent reader l)

  next-left : (l v : List ℕ) (x : LineRead Rule) → read_lent reader l ≡ x → Faultless (line 0 x ∷ [])
      → (is_slash (stage_of blank l) ≡ false → (v : List ℕ) → lines_in blank (l ++ (10 ∷ v)) ≡ l ∷ lines_in blank v)
      → lines_in blank (left_of k l x ++ (10 ∷ v)) ≡ lines_left l x ++ lines_in blank v
  next-left l v skip e f p = p (closed-skip l e) v
  next-left l v (fault z) e f p = absurd f
  next-left l v (rule r) e f p = let w = written k l r e in tail_line (line_text (drop_rule k r)) (newlines l) v w.flat w.closed

  last_left : (l : List ℕ) (x : LineRead Rule) → read_lent reader l ≡ x → lines_in blank l ≡ l ∷ [] → lines_in blank (left_of k l x) ≡ lines_left l x ++ []
  last_left l skip e p = p
  last_left l (fault z) e p = p
  last_left l (rule r) e p =
      let w = written k l r e in
      last_line (line_text (drop_rule k r)) (newlines l) w.flat w.closed ∙ sym (append-nil (line_text (drop_rule k r) ∷ replicate (newlines l) []))

  abbrev reads_of : ℕ → List (List ℕ) → List (Placed (LineRead Rule))
  reads_of n ls = map (in_place (read_lent reader)) (numbered n ls)

  first_fine : (n : ℕ) (x : LineRead Rule) (xs : List (Placed (LineRead Rule))) → Faultless (line n x ∷ xs) → Faultless (line 0 x ∷ []) × Faultless xs
  first_fine n skip xs f = (tt, f)
  first_fine n (fault z) xs f = absurd f
  first_fine n (rule r) xs f = (tt, f)

  dropped_lines : (n : ℕ) (ls : List (List ℕ)) → Proper blank ls → Faultless (reads_of n ls) → lines_in blank (together (map (drop_line k) ls)) ≡ cat becomes ls
  unfolding together numbered
  dropped_lines n [] p f = absurd p
  dropped_lines n (l ∷ []) p f = last_left l (read_lent reader l) refl p
  dropped_lines n (l ∷ m ∷ ls) (p, ps) f =
      let (h, hs) = first_fine n (read_lent reader l) (reads_of (suc (newlines l + n)) (m ∷ ls)) f in
      next-left l (together (map (drop_line k) (m ∷ ls))) (read_lent reader l) refl h p
      ∙ ap (λ (w : List (List ℕ)). becomes l ++ w) (dropped_lines (suc (newlines l + n)) (m ∷ ls) ps hs)

  pub lines_left_lem : (t : List ℕ) → Faultless (reads_of 1 (lines_in blank t)) → lines_in blank (drop_text k t) ≡ cat becomes (lines_in blank t)
  unfolding drop_text
  lines_left_lem t f = dropped_lines 1 (lines_in blank t) (proper blank t) f
