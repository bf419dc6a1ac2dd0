-- The lines of a text that is put together again from lines, some of which lost their bytes.
-- Assumes nothing.
use Prim.Native.Nat.{ℕ, zero, suc, ◌≤◌}
use mathlib.Core.Path.{◌≡◌, refl, sym, ap, ◌∙◌, subst}
use mathlib.Core.Bool.{Bool, true, false, not, ◌&&◌, ◌||◌}
use mathlib.Core.List.{List, [], ◌∷◌, ◌++◌, append-nil}
use native.Mathlib.Omega.{arith}
use lib.Dec.{eqb}
use lib.ListN.{length, replicate, length-append, length-replicate}
use borrow.Author.Tests.{eqb-true}
use Rattle.lists.specs.Lists.{is_empty}
use Rattle.lists.specs.Runs.{onto, split_step}
use Rattle.lists.specs.Checked.{Placed, line}
use Rattle.lists.proofs.Runs.{Cons}
use Rattle.lists.proofs.Tests.{and_both, neither}
use Rattle.text.specs.Lines.{Stage, blank, is_slash, ends, next, stage_of, lines_in, newlines, one_more, is_open}
use Rattle.text.specs.Engine.{LineRead, skip, fault, rule}
use Rattle.text.proofs.Lines.{lines_cons, lines_seam, lines_to, not_last}
use Rattle.text.proofs.Places.{begin_blank}
use Rattle.striking.specs.Striking.{left_of, all_left, together}

-- ---- a text is its lines together

together-onto : (b : ℕ) (x : List ℕ) (xs : List (List ℕ)) → together ((b ∷ x) ∷ xs) ≡ b ∷ together (x ∷ xs)
unfolding together
together-onto b x [] = refl
together-onto b x (y ∷ xs) = refl

step-together : (t : Bool) (b : ℕ) (ls : List (List ℕ)) → Cons ls → (t ≡ true → b ≡ 10) → together (split_step t b ls) ≡ b ∷ together ls
unfolding together
step-together t b [] c f = absurd (omega (arith, ap length c.is))
step-together true b (x ∷ xs) c f = ap (λ (d : ℕ). d ∷ together (x ∷ xs)) (sym (f refl))
step-together false b (x ∷ xs) c f = together-onto b x xs

pub together-lines : (s : Stage) (t : List ℕ) → together (lines_in s t) ≡ t
unfolding lines_in together
together-lines s [] = refl
together-lines s (b ∷ t) =
    step-together (ends s b t) b (lines_in (next s b) t) (lines_cons (next s b) t) (λ e. eqb-true b 10 (and_both (eqb b 10) (is_empty t || not (is_slash s)) e).0)
    ∙ ap (λ (l : List ℕ). b ∷ l) (together-lines (next s b) t)

-- ---- each line stands by itself

-- lines the first of which begins in stage s: each but the last is a line whatever follows its newline, unless it is open
abbrev pub Proper : Stage → List (List ℕ) → Type 0
Proper s [] = ⊥
Proper s (l ∷ []) = lines_in s l ≡ l ∷ []
Proper s (l ∷ m ∷ ls) = (is_slash (stage_of s l) ≡ false → (v : List ℕ) → lines_in s (l ++ (10 ∷ v)) ≡ l ∷ lines_in blank v) × Proper blank (m ∷ ls)

proper_ended : (s : Stage) (ls : List (List ℕ)) → Cons ls → Proper blank ls → Proper s ([] ∷ ls)
unfolding lines_to stage_of
proper_ended s [] c p = absurd p
proper_ended s (x ∷ xs) c p = ((λ h v. lines_seam s [] v h), p)

not-ended : (a c d : Bool) → (a && (c || d)) ≡ false → (a && d) ≡ false
not-ended true c d h = (neither c d h).1
not-ended false c d h = refl

proper_onto : (s : Stage) (b : ℕ) (u x : List ℕ) (xs : List (List ℕ)) → ends s b u ≡ false → lines_in (next s b) u ≡ x ∷ xs → Proper (next s b) (x ∷ xs) → Proper s ((b ∷ x) ∷ xs)
unfolding lines_in stage_of together
proper_onto s b u x [] e q p =
    let w : x ≡ u = sym (ap together q) ∙ together-lines (next s b) u in
    rw (w, e) (ap (onto b) (rw w at q))
proper_onto s b u x (y ∷ ys) e q (p, ps) =
    ((λ h v. rw (not_last x v, not-ended (eqb b 10) (is_empty u) (not (is_slash s)) e) (ap (onto b) (p h v))), ps)

pub proper : (s : Stage) (t : List ℕ) → Proper s (lines_in s t)
unfolding lines_in
proper s [] = refl
proper s (b ∷ t) = at (ends s b t) refl (proper blank t) (lines_in (next s b) t) refl (lines_cons (next s b) t) (proper (next s b) t)
  where
    at : (x : Bool) → ends s b t ≡ x → Proper blank (lines_in blank t) → (ls : List (List ℕ)) → lines_in (next s b) t ≡ ls → Cons ls → Proper (next s b) ls → Proper s (split_step x b ls)
    at true e p ls q c r = proper_ended s ls c q_proper
      where
        q_proper : Proper blank ls
        q_proper = subst (Proper blank) (sym (begin_blank s b t e) ∙ q) p
    at false e p [] q c r = absurd (omega (arith, ap length c.is))
    at false e p (x ∷ xs) q c r = proper_onto s b t x xs e q r

-- ---- newlines only

pub newlines-line : (k : ℕ) (v : List ℕ) → lines_in blank (replicate k 10 ++ (10 ∷ v)) ≡ replicate (suc k) [] ++ lines_in blank v
unfolding lines_in
newlines-line zero v = rw (or_last v)
  where
    or_last : (w : List ℕ) → (is_empty w || true) ≡ true
    or_last [] = refl
    or_last (b ∷ w) = refl
newlines-line (suc k) v = rw (not_last (replicate k 10) v) (ap (λ (ls : List (List ℕ)). [] ∷ ls) (newlines-line k v))

pub newlines_last : (k : ℕ) → lines_in blank (replicate k 10) ≡ replicate (suc k) []
unfolding lines_in
newlines_last zero = refl
newlines_last (suc zero) = refl
newlines_last (suc (suc k)) = ap (λ (ls : List (List ℕ)). [] ∷ ls) (newlines_last (suc k))

-- ---- what is left of lines

-- a line that is kept is not open
closed : (l : List ℕ) → (is_open l ≡ true → ⊥) → is_open l ≡ false
closed l f = at (is_open l) refl
  where
    at : (t : Bool) → is_open l ≡ t → t ≡ false
    at true e = absurd (f e)
    at false e = refl

newlines-le : (l : List ℕ) → newlines l ≤ length l
unfolding newlines
newlines-le [] = omega arith
newlines-le (b ∷ l) = at (eqb b 10) (newlines-le l)
  where
    at : (t : Bool) → newlines l ≤ length l → one_more t (newlines l) ≤ suc (length l)
    at true h = omega arith
    at false h = omega arith

module _ {Rule : Type 0} where
  abbrev pub IsFault : LineRead Rule → Type 0
  IsFault skip = ⊥
  IsFault (fault f) = Unit {0}
  IsFault (rule r) = ⊥

  -- a mark for each line, and an open line is struck
  abbrev pub Marked : List (List ℕ) → List (Placed (LineRead Rule)) → Type 0
  Marked [] [] = Unit {0}
  Marked [] (y ∷ ys) = ⊥
  Marked (l ∷ ls) [] = ⊥
  Marked (l ∷ ls) (line n y ∷ ys) = (is_open l ≡ true → IsFault y) × Marked ls ys

  abbrev pub lines_left : LineRead Rule → List ℕ → List (List ℕ)
  lines_left skip l = l ∷ []
  lines_left (fault f) l = replicate (suc (newlines l)) []
  lines_left (rule r) l = l ∷ []

  unfoldable pub all_lines_left : List (List ℕ) → List (Placed (LineRead Rule)) → List (List ℕ)
  all_lines_left [] ys = []
  all_lines_left (l ∷ ls) [] = []
  all_lines_left (l ∷ ls) (line n y ∷ ys) = lines_left y l ++ all_lines_left ls ys

  last_left : (y : LineRead Rule) (l : List ℕ) → lines_in blank l ≡ l ∷ [] → lines_in blank (left_of y l) ≡ lines_left y l ++ []
  last_left skip l p = p
  last_left (fault f) l p = newlines_last (newlines l) ∙ sym (append-nil (replicate (suc (newlines l)) []))
  last_left (rule r) l p = p

  next-left : (y : LineRead Rule) (l v : List ℕ) → (is_open l ≡ true → IsFault y) → (is_slash (stage_of blank l) ≡ false → (v : List ℕ) → lines_in blank (l ++ (10 ∷ v)) ≡ l ∷ lines_in blank v)
      → lines_in blank (left_of y l ++ (10 ∷ v)) ≡ lines_left y l ++ lines_in blank v
  next-left skip l v o p = p (closed l o) v
  next-left (fault f) l v o p = newlines-line (newlines l) v
  next-left (rule r) l v o p = p (closed l o) v

  pub lines_left_lem : (ls : List (List ℕ)) (ys : List (Placed (LineRead Rule))) → Proper blank ls → Marked ls ys → lines_in blank (together (all_left ls ys)) ≡ all_lines_left ls ys
  unfolding together all_left all_lines_left
  lines_left_lem [] ys p m = absurd p
  lines_left_lem (l ∷ []) [] p m = absurd m
  lines_left_lem (l ∷ []) (line n y ∷ []) p m = last_left y l p
  lines_left_lem (l ∷ []) (line n y ∷ z ∷ ys) p (m, ms) = absurd ms
  lines_left_lem (l ∷ k ∷ ls) [] p m = absurd m
  lines_left_lem (l ∷ k ∷ ls) (line n y ∷ []) p (m, ms) = absurd ms
  lines_left_lem (l ∷ k ∷ ls) (line n y ∷ line o z ∷ ys) (p, ps) (m, ms) =
      next-left y l (together (all_left (k ∷ ls) (line o z ∷ ys))) m p ∙ ap (λ (w : List (List ℕ)). lines_left y l ++ w) (lines_left_lem (k ∷ ls) (line o z ∷ ys) ps ms)

  -- ---- sizes

  left_le : (y : LineRead Rule) (l : List ℕ) → length (left_of y l) ≤ length l
  left_le skip l = omega arith
  left_le (fault f) l = omega (arith, length-replicate {A = ℕ} (newlines l) 10, newlines-le l)
  left_le (rule r) l = omega arith

  pub all-le : (ls : List (List ℕ)) (ys : List (Placed (LineRead Rule))) → Marked ls ys → length (together (all_left ls ys)) ≤ length (together ls)
  unfolding together all_left
  all-le [] ys m = omega arith
  all-le (l ∷ []) [] m = absurd m
  all-le (l ∷ []) (line n y ∷ []) m = left_le y l
  all-le (l ∷ []) (line n y ∷ z ∷ ys) (m, ms) = absurd ms
  all-le (l ∷ k ∷ ls) [] m = absurd m
  all-le (l ∷ k ∷ ls) (line n y ∷ []) (m, ms) = absurd ms
  all-le (l ∷ k ∷ ls) (line n y ∷ line o z ∷ ys) (m, ms) =
      let a = all-le (k ∷ ls) (line o z ∷ ys) ms in
      let b = left_le y l in
      let u : List ℕ = together (all_left (k ∷ ls) (line o z ∷ ys)) in
      omega (arith, length-append (left_of y l) (10 ∷ u), length-append l (10 ∷ together (k ∷ ls)))
