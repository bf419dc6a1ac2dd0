-- What a line leaves of a text: the line with its newline, or its newlines.
-- Assumes nothing.
use Prim.Native.Nat.{ℕ, zero, suc, ◌+◌, ◌-◌, ◌≤◌, ◌<◌}
use mathlib.Core.Path.{◌≡◌, refl, sym, ap, ap₂, ◌∙◌}
use mathlib.Core.Bool.{Bool, true, false, not, ◌&&◌, ◌||◌}
use mathlib.Core.List.{List, [], ◌∷◌, ◌++◌, append_assoc, append-nil}
use native.Mathlib.Omega.{arith}
use borrow.Author.Tests.{le-leb, lt-leb, ltb-true, ltb-false, eqb-true, eq-eqb, ne_eqb}
use lib.Dec.{eqb, leb, ltb}
use lib.ListN.{length, take, drop, get_or, set, replicate, length-drop, take-append-drop, replicate-append-replicate, length-replicate}
use lib.Seq.{take-suc, get_or-drop, drop-drop}
use Rattle.lists.specs.Lists.{pick, is_empty}
use Rattle.lists.specs.Runs.{split_step}
use Rattle.lists.specs.Checked.{Placed, line}
use Rattle.lists.specs.Refusal.{Refusal, number}
use Rattle.lists.proofs.Moves.{ap_at, length_part}
use Rattle.lists.proofs.Tests.{and_both}
use Rattle.lists.proofs.Runs.{Cons}
use Rattle.lists.specs.Bytes.{part}
use Rattle.splice.specs.Moves.{stored}
use Rattle.splice.proofs.Laws.{set-stored, length-stored, stored-stored}
use Rattle.text.specs.Engine.{LineRead, skip, fault, rule}
use Rattle.text.specs.Lines.{Stage, blank, is_slash, ends, next, lines_in, newlines}
use Rattle.text.proofs.Lines.{lines_cons}
use Rattle.text.proofs.Places.{line_size, lines_from, from_step}
use Rattle.rules.specs.Pair.{Rule}
use Rattle.striking.specs.Striking.{strikes_of, left_of, all_left, together, laid_out}
use Rattle.lines.specs.Ends.{end_from}
use Rattle.lines.proofs.Held.{end-within, newlines-size}
use Rattle.reader.proofs.Numbers.{number_small}
use Rattle.table.specs.Puts.{Added}
use Rattle.table.proofs.Pairs.{added_stored}
use Rattle.left_lines.specs.Left.{fault_of, next_of, left_bytes, strike_at, Listed}

-- ---- a line ends at a newline

size_newline : (s : Stage) (bs : List ℕ) → line_size s bs < length bs → get_or bs (line_size s bs) 0 ≡ 10
unfolding line_size
size_newline s [] h = absurd (omega arith)
size_newline s (b ∷ bs) h = at (ends s b bs) refl h (size_newline (next s b) bs)
  where
    at : (t : Bool) → ends s b bs ≡ t → pick t 0 (suc (line_size (next s b) bs)) < suc (length bs) → (line_size (next s b) bs < length bs → get_or bs (line_size (next s b) bs) 0 ≡ 10)
        → get_or (b ∷ bs) (pick t 0 (suc (line_size (next s b) bs))) 0 ≡ 10
    at true e k f = eqb-true b 10 (and_both (eqb b 10) (is_empty bs || not (is_slash s)) e).0
    at false e k f = f (omega arith)

module _ (x : List ℕ) (at e : ℕ) (h : at ≤ length x) (q : e ≡ end_from x at) where
  newline_at : e < length x → get_or x e 0 ≡ 10
  newline_at k =
      ap_at (λ i. get_or x i 0) e (at + line_size blank (drop at x)) q
      ∙ sym (get_or-drop at x (line_size blank (drop at x)) 0)
      ∙ size_newline blank (drop at x) (omega (arith, length-drop at x))

  -- with its newline
  part-more : e < length x → part x at (e + 1) ≡ part x at e ++ (10 ∷ [])
  part-more k =
      let (from, to) = end-within x at e h q in
      let size : e + 1 - at ≡ suc (e - at) = omega arith in
      rw size (take-suc (drop at x) (e - at) 0 (omega (arith, length-drop at x)))
      ∙ ap (λ (b : ℕ). part x at e ++ (b ∷ [])) (get_or-drop at x (e - at) 0 ∙ ap_at (λ i. get_or x i 0) (at + (e - at)) e (omega arith) ∙ newline_at k)

  -- ---- the lines behind it

  none-behind : length x ≤ e → lines_from x (e + 1) ≡ []
  none-behind k = rw (lt-leb (e + 1) (length x) (omega arith))

  some-behind : e < length x → Cons (lines_from x (e + 1))
  some-behind k = rw (le-leb (e + 1) (length x) (omega arith)) (lines_cons blank (drop (e + 1) x))

module _ (l : List ℕ) (n : ℕ) (y : LineRead Rule) (ys : List (Placed (LineRead Rule))) where
  last_together : (ls : List (List ℕ)) → ls ≡ [] → together (all_left (l ∷ ls) (line n y ∷ ys)) ≡ left_of y l ++ together (all_left ls ys)
  unfolding together all_left
  last_together ls e = rw e (sym (append-nil (left_of y l)))

  next-together : (ls : List (List ℕ)) → Cons ls → together (all_left (l ∷ ls) (line n y ∷ ys)) ≡ left_of y l ++ (10 ∷ together (all_left ls ys))
  unfolding together all_left
  next-together ls c = rw c.is (at ys)
    where
      at : (zs : List (Placed (LineRead Rule))) → together (left_of y l ∷ all_left (c.first ∷ c.rest) zs) ≡ left_of y l ++ (10 ∷ together (all_left (c.first ∷ c.rest) zs))
      at [] = refl
      at (line m z ∷ zs) = refl

-- ---- what is put

module _ (x : List ℕ) (at e k : ℕ) (h : at ≤ length x) (q : e ≡ end_from x at) (j : newlines (part x at e) ≡ k) where
  -- a kept line
  kept-bytes : (rest : List ℕ) (b : Bool) → ltb e (length x) ≡ b → part x at (pick b (e + 1) e) ++ rest ≡ part x at e ++ (pick b (10 ∷ rest) rest)
  kept-bytes rest true c = rw (part-more x at e h q (ltb-true e (length x) c)) (append_assoc (part x at e) (10 ∷ []) rest)
  kept-bytes rest false c = refl

  -- a struck one
  struck-bytes : (rest : List ℕ) (b : Bool) → replicate (k + (pick b (e + 1) e - e)) 10 ++ rest ≡ replicate (newlines (part x at e)) 10 ++ (pick b (10 ∷ rest) rest)
  struck-bytes rest true =
      let one : k + (e + 1 - e) ≡ k + 1 = omega arith in
      rw (one, j) (ap (λ (l : List ℕ). l ++ rest) (sym (replicate-append-replicate k 1 10)) ∙ append_assoc (replicate k 10) (10 ∷ []) rest)
  struck-bytes rest false = let none : k + (e - e) ≡ k = omega arith in rw (none, j)

  bytes-by : (y : LineRead Rule) (rest : List ℕ) (b : Bool) → ltb e (length x) ≡ b
      → pick (eqb (fault_of y) 0) (part x at (pick b (e + 1) e)) (replicate (k + (pick b (e + 1) e - e)) 10) ++ rest ≡ left_of y (part x at e) ++ (pick b (10 ∷ rest) rest)
  bytes-by skip rest b c = kept-bytes rest b c
  bytes-by (fault f) rest b c = rw (ne_eqb (number f) 0 (λ z. omega (arith, (number_small f).0))) (struck-bytes rest b)
  bytes-by (rule r) rest b c = kept-bytes rest b c

  pub left_step : (n : ℕ) (y : LineRead Rule) (ys : List (Placed (LineRead Rule)))
      → together (all_left (lines_from x at) (line n y ∷ ys)) ≡ left_bytes x at e k (fault_of y) ++ together (all_left (lines_from x (e + 1)) ys)
  left_step n y ys =
      let rest = together (all_left (lines_from x (e + 1)) ys) in
      ap (λ (ls : List (List ℕ)). together (all_left ls (line n y ∷ ys))) (from_step x at e h q)
      ∙ go (ltb e (length x)) refl
      ∙ sym (bytes-by y rest (ltb e (length x)) refl)
    where
      go : (b : Bool) → ltb e (length x) ≡ b → together (all_left (part x at e ∷ lines_from x (e + 1)) (line n y ∷ ys))
          ≡ left_of y (part x at e) ++ pick b (10 ∷ together (all_left (lines_from x (e + 1)) ys)) (together (all_left (lines_from x (e + 1)) ys))
      go true c = next-together (part x at e) n y ys (lines_from x (e + 1)) (some-behind x at e h q (ltb-true e (length x) c))
      go false c = last_together (part x at e) n y ys (lines_from x (e + 1)) (none-behind x at e h q (ltb-false e (length x) c))

  -- no longer than the line with its newline
  pub bytes-size : (f : ℕ) → (at ≤ e) × (e ≤ length x) × (k ≤ e - at) × (e ≤ next_of x e) × (next_of x e ≤ e + 1) × (next_of x e ≤ length x) × (length (left_bytes x at e k f) ≤ next_of x e - at)
  bytes-size f =
      let (from, to) = end-within x at e h q in
      let few : k ≤ e - at = omega (arith, newlines-size (part x at e), length_part x at e to, j) in
      go (ltb e (length x)) refl from to few
    where
      size : (next : ℕ) → next ≤ length x → e ≤ next → at ≤ e → k ≤ e - at → (b : Bool) → length (pick b (part x at next) (replicate (k + (next - e)) 10)) ≤ next - at
      size next a b c d true = omega (arith, length_part x at next a)
      size next a b c d false = omega (arith, length-replicate {A = ℕ} (k + (next - e)) 10)

      go : (b : Bool) → ltb e (length x) ≡ b → at ≤ e → e ≤ length x → k ≤ e - at
          → (at ≤ e) × (e ≤ length x) × (k ≤ e - at) × (e ≤ pick b (e + 1) e) × (pick b (e + 1) e ≤ e + 1) × (pick b (e + 1) e ≤ length x)
          × (length (pick (eqb f 0) (part x at (pick b (e + 1) e)) (replicate (k + (pick b (e + 1) e - e)) 10)) ≤ pick b (e + 1) e - at)
      go true c from to few = let l = ltb-true e (length x) c in (from, to, few, omega arith, omega arith, omega arith, size (e + 1) (omega arith) (omega arith) from few (eqb f 0))
      go false c from to few = (from, to, few, omega arith, omega arith, to, size e to (omega arith) from few (eqb f 0))

-- ---- the list

pub strike-step : (n : ℕ) (y : LineRead Rule) (ys : List (Placed (LineRead Rule))) → laid_out (strikes_of (line n y ∷ ys)) ≡ strike_at n (fault_of y) ++ laid_out (strikes_of ys)
unfolding strikes_of laid_out
strike-step n skip ys = refl
strike-step n (fault f) ys = rw (ne_eqb (number f) 0 (λ z. omega (arith, (number_small f).0)))
strike-step n (rule r) ys = refl

-- ---- newlines, one after the other

pub newlines-none : (t : List ℕ) (used : ℕ) → t ≡ stored t used (replicate 0 10)
newlines-none t used = sym (take-append-drop used t) ∙ ap_at (λ i. take used t ++ drop i t) used (used + 0) (omega arith)

pub newlines-more : (t g : List ℕ) (used i : ℕ) → used + i < length t → g ≡ stored t used (replicate i 10) → set g (used + i) 10 ≡ stored t used (replicate (i + 1) 10)
newlines-more t g used i h e =
    let size : length {A = ℕ} (replicate i 10) ≡ i = length-replicate {A = ℕ} i 10 in
    let whole : length (stored t used (replicate i 10)) ≡ length t = length-stored t used (replicate i 10) (omega arith) in
    ap (λ (w : List ℕ). set w (used + i) 10) e
    ∙ set-stored (stored t used (replicate i 10)) (used + i) 10 (omega arith)
    ∙ ap_at (λ k. stored (stored t used (replicate i 10)) k (10 ∷ [])) (used + i) (used + length {A = ℕ} (replicate i 10)) (omega arith)
    ∙ stored-stored t used (replicate i 10) (10 ∷ []) (omega arith)
    ∙ ap (stored t used) (replicate-append-replicate i 1 10)

-- ---- a strike in the list, or none

module _ (n f used : ℕ) (s : List ℕ) where
  pub listed-none : f ≡ 0 → Listed n f used s s used
  listed-none z =
      let none : strike_at n f ≡ [] = rw (eq-eqb f 0 z) in
      record {
        end = rw none (omega arith);
        added = record { is = rw none (ap_at (λ k. take k s) (used + 0) used (omega arith) ∙ sym (append-nil (take used s))); size = refl };
        behind = λ k h. refl;
      }

  pub strike-size : (f ≡ 0 → ⊥) → strike_at n f ≡ n ∷ f ∷ []
  strike-size z = rw (ne_eqb f 0 z)

  pub listed-one : (s' : List ℕ) (r : ℕ) → (f ≡ 0 → ⊥) → r ≡ used + 2 → Added (n ∷ f ∷ []) used s s' → drop (used + 2) s' ≡ drop (used + 2) s → Listed n f used s s' r
  listed-one s' r z e put rest = record {
    end = rw (strike-size z) e;
    added = rw (strike-size z) put;
    behind = λ k h.
        let q : k ≡ used + 2 + (k - (used + 2)) = omega arith in
        rw q (sym (drop-drop (k - (used + 2)) (used + 2) s') ∙ ap (drop (k - (used + 2))) rest ∙ drop-drop (k - (used + 2)) (used + 2) s);
  }

-- ---- a line that is put

pub next-within : (x : List ℕ) (e : ℕ) → e ≤ length x → (e ≤ next_of x e) × (next_of x e ≤ length x)
next-within x e h = go (ltb e (length x)) refl
  where
    go : (b : Bool) → ltb e (length x) ≡ b → (e ≤ pick b (e + 1) e) × (pick b (e + 1) e ≤ length x)
    go true c = (omega arith, omega (arith, ltb-true e (length x) c))
    go false c = (omega arith, h)

module _ (x g g' : List ℕ) (at e k f used next : ℕ) (h : e ≤ length x) (q : next ≡ next_of x e) where
  pub put-kept : f ≡ 0 → used + (next - at) ≤ length g → g' ≡ stored g used (part x at next) → (used + (next - at) ≡ used + length (left_bytes x at e k f)) × Added (left_bytes x at e k f) used g g'
  put-kept z room put =
      let is : left_bytes x at e k f ≡ part x at next = rw (eq-eqb f 0 z) (ap_at (λ i. part x at i) (next_of x e) next (sym q)) in
      let size : length (part x at next) ≡ next - at = length_part x at next (omega (arith, q, (next-within x e h).1)) in
      (rw is (omega arith), rw is (added_stored (part x at next) used g g' (omega arith) put))

  pub put-struck : (f ≡ 0 → ⊥) → Added (replicate (k + (next - e)) 10) used g g' → (used + (k + (next - e)) ≡ used + length (left_bytes x at e k f)) × Added (left_bytes x at e k f) used g g'
  put-struck z put =
      let is : left_bytes x at e k f ≡ replicate (k + (next - e)) 10 = rw (ne_eqb f 0 z) (ap_at (λ i. replicate (k + (i - e)) 10) (next_of x e) next (sym q)) in
      let size : length {A = ℕ} (replicate (k + (next - e)) 10) ≡ k + (next - e) = length-replicate {A = ℕ} (k + (next - e)) 10 in
      (rw is (omega arith), rw is put)

-- the numbers of faults are small
pub fault_small : (y : LineRead Rule) → fault_of y < 65536
fault_small skip = omega arith
fault_small (fault f) = (number_small f).1
fault_small (rule r) = omega arith
