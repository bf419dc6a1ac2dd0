-- From one physical line of a text to the next, up to the end of a line as lent.
-- Assumes nothing.
use Prim.Native.Nat.{ℕ, suc, ◌+◌, ◌-◌, ◌≤◌, ◌<◌}
use mathlib.Core.Path.{◌≡◌, refl, sym, ap, ◌∙◌}
use mathlib.Core.Bool.{Bool, true, false}
use mathlib.Core.Logic.{◌⊎◌, ⊎_elim}
use mathlib.Core.List.{List, [], ◌∷◌, ◌++◌}
use native.Mathlib.Omega.{arith}
use native.Mathlib.Nat.{eq-or-lt_of_le, add-zero}
use lib.Dec.{eqb}
use lib.ListN.{length, get_or, drop, length-drop, drop_of_length-le}
use lib.Seq.{get_or-drop, take-add, drop-drop}
use borrow.Author.Tests.{eqb-true, not-false}
use Rattle.lists.specs.Lists.{all}
use Rattle.lists.specs.Bytes.{is_blank, part}
use Rattle.lists.specs.Runs.{span, span_at}
use Rattle.lists.proofs.Rest.{rest_at}
use Rattle.lists.proofs.Tests.{both_and}
use Rattle.lists.proofs.Runs.{span_in, span-stop, run_at, rest_of, span-whole}
use Rattle.lists.proofs.Moves.{length_part}
use Rattle.text.specs.Lines.{Stage, blank, comment, plain, slash, joined, is_slash, next, stage_of, newlines}
use Rattle.text.proofs.Lines.{stage_append, newlines-append}
use Rattle.text.proofs.Places.{is_in_line, line_size, size-run, size-end, size_last, size-join}
use Rattle.scan.specs.Ends.{RunEnd, is_not}
use Rattle.pairs.proofs.Parts.{part-cons, part-next, part-empty}
use Rattle.lines.specs.Ends.{ends_slash, end_from}
use Rattle.lines.proofs.Stages.{false≢true, no-newlines, ends-none, ends_snoc, plain_last, joined_last, first_in, comment-first, rule-first}

-- ---- a run of bytes that pass a test

span-all : (p : ℕ → Bool) (bs : List ℕ) → all p (span p bs).value ≡ true
unfolding span
span-all p [] = refl
span-all p (b ∷ bs) = at (p b) refl (span-all p bs)
  where
    at : (t : Bool) → p b ≡ t → all p (span p bs).value ≡ true → all p (span p (b ∷ bs)).value ≡ true
    at true e h = rw (span_in p b bs e) (both_and (p b) (all p (span p bs).value) e h)
    at false e h = rw (span-stop p b bs e)

-- the byte behind it fails
span-behind : (p : ℕ → Bool) (bs : List ℕ) → 0 < length (span p bs).rest → p (get_or (span p bs).rest 0 0) ≡ false
unfolding span
span-behind p [] h = absurd (omega arith)
span-behind p (b ∷ bs) h = at (p b) refl h (λ k. span-behind p bs k)
  where
    at : (t : Bool) → p b ≡ t → 0 < length (span p (b ∷ bs)).rest → (0 < length (span p bs).rest → p (get_or (span p bs).rest 0 0) ≡ false)
        → p (get_or (span p (b ∷ bs)).rest 0 0) ≡ false
    at true e k f = rw (span_in p b bs e) (f (rw (span_in p b bs e) at k))
    at false e k f = rw (span-stop p b bs e) e

first_at : (s : List ℕ) (k : ℕ) → get_or (drop k s) 0 0 ≡ get_or s k 0
first_at s k = get_or-drop k s 0 0 ∙ rw add-zero

-- the first byte that is no blank, by its place
pub first-place : (t : List ℕ) (at i : ℕ) → i ≡ span_at is_blank t at → first_in (drop at t) ≡ get_or t i 0
first-place t at i e = rw (rest_of is_blank t at, e) (first_at t (span_at is_blank t at))

-- ---- a physical line

module _ (t : List ℕ) (b e : ℕ) (h : b ≤ length t) (r : RunEnd (is_not 10) t b e) where
  pub run-within : e ≤ length t
  run-within = omega (arith, r.within, r.from)

  is-run : (span (is_not 10) (drop b t)).value ≡ part t b e
  is-run = rw r.place (run_at (is_not 10) t b)

  is-rest : (span (is_not 10) (drop b t)).rest ≡ drop e t
  is-rest = rw r.place (rest_of (is_not 10) t b)

  pub run-all : all is_in_line (part t b e) ≡ true
  run-all = rw (← is-run) (span-all (is_not 10) (drop b t))

  pub run-front : drop b t ≡ part t b e ++ drop e t
  run-front = sym (rw (is-run, is-rest) at (span-whole (is_not 10) (drop b t)))

  pub run-stop : e < length t → get_or t e 0 ≡ 10
  run-stop l =
      let n : 0 < length (drop e t) = omega (arith, length-drop e t) in
      let f : is_not 10 (get_or (drop e t) 0 0) ≡ false = rw is-rest at (span-behind (is_not 10) (drop b t) (rw is-rest n)) in
      sym (first_at t e) ∙ eqb-true (get_or (drop e t) 0 0) 10 (not-false (eqb (get_or (drop e t) 0 0) 10) f)

  -- the line goes on behind it
  pub run-size : (s : Stage) → line_size s (drop b t) ≡ (e - b) + line_size (stage_of s (part t b e)) (drop e t)
  run-size s =
      ap (line_size s) run-front
      ∙ (size-run s (part t b e) (drop e t) run-all ∙ ap (λ (n : ℕ). n + line_size (stage_of s (part t b e)) (drop e t)) (length_part t b e run-within))

-- its last byte
module _ (t : List ℕ) (at e : ℕ) where
  pub slash_at : at < e → e ≤ length t → ends_slash (part t at e) ≡ eqb (get_or t (e - 1) 0) 92
  slash_at h l =
      let q : e ≡ (e - 1) + 1 = omega arith in
      let p : part t at e ≡ part t at (e - 1) ++ (get_or t (e - 1) 0 ∷ []) = ap (part t at) q ∙ part-next t at (e - 1) (omega arith) (omega arith) in
      ap ends_slash p ∙ ends_snoc (part t at (e - 1)) (get_or t (e - 1) 0)

  pub slash-none : e ≤ at → ends_slash (part t at e) ≡ false
  slash-none h = ap ends_slash (part-empty t at e h) ∙ sym ends-none

-- ---- up to the end of a physical line

-- the bytes of a line up to the end of a physical line, with n newlines that join; k: the last byte is a backslash that joins
pub record Walk (t : List ℕ) (at e : ℕ) (k : Bool) (n : ℕ) : Type 0 where
  pub from : at ≤ e
  pub within : e ≤ length t
  pub stop : e < length t → get_or t e 0 ≡ 10
  pub size : line_size blank (drop at t) ≡ (e - at) + line_size (stage_of blank (part t at e)) (drop e t)
  pub slash-is : is_slash (stage_of blank (part t at e)) ≡ k
  pub count : newlines (part t at e) ≡ n

module _ (t : List ℕ) (at e : ℕ) (h : at ≤ length t) (r : RunEnd (is_not 10) t at e) where
  begin : (k : Bool) → is_slash (stage_of blank (part t at e)) ≡ k → Walk t at e k 0
  begin k q = record {
    from = r.from;
    within = run-within t at e h r;
    stop = run-stop t at e h r;
    size = run-size t at e h r blank;
    slash-is = q;
    count = no-newlines (part t at e) (run-all t at e h r);
  }

  -- whatever the line is, it ends where its last byte is no backslash
  pub walk_plain : ends_slash (part t at e) ≡ false → Walk t at e false 0
  walk_plain q = begin false (plain_last (part t at e) q)

  module _ (i : ℕ) (f : i ≡ span_at is_blank t at) where
    first-is : first_in (part t at e ++ drop e t) ≡ get_or t i 0
    first-is = rw (← (run-front t at e h r)) (first-place t at i f)

    pub walk_comment : get_or t i 0 ≡ 35 → Walk t at e false 0
    walk_comment q = begin false (comment-first (part t at e) (drop e t) (run-all t at e h r) (first-is ∙ q))

    pub walk_first : (get_or t i 0 ≡ 35 → ⊥) → (k : Bool) → k ≡ ends_slash (part t at e) → Walk t at e k 0
    walk_first q k p = begin k (rule-first (part t at e) (drop e t) (run-all t at e h r) (λ z. q (sym first-is ∙ z)) ∙ sym p)

module _ (t : List ℕ) (at e : ℕ) (n : ℕ) where
  -- the line ends here
  size_none : (s : Stage) → e ≤ length t → (e < length t → get_or t e 0 ≡ 10) → is_slash s ≡ false → line_size s (drop e t) ≡ 0
  unfolding line_size
  size_none s w g q = ⊎_elim last inside (eq-or-lt_of_le w)
    where
      last : e ≡ length t → line_size s (drop e t) ≡ 0
      last p = rw (drop_of_length-le t {i = e} (omega arith))

      inside : e < length t → line_size s (drop e t) ≡ 0
      inside p = rw (rest_at t e p, g p) (size-end s (drop (e + 1) t) q)

  pub walk_ends : Walk t at e false n → e ≡ end_from t at
  walk_ends w = let z = size_none (stage_of blank (part t at e)) w.within w.stop w.slash-is in omega (arith, w.size, z, w.from)

  -- or nothing follows its backslash
  size_open : Walk t at e true n → length t - e ≤ 1 → line_size (stage_of blank (part t at e)) (drop e t) ≡ 0
  unfolding line_size
  size_open w l = ⊎_elim last inside (eq-or-lt_of_le w.within)
    where
      last : e ≡ length t → line_size (stage_of blank (part t at e)) (drop e t) ≡ 0
      last p = rw (drop_of_length-le t {i = e} (omega arith))

      inside : e < length t → line_size (stage_of blank (part t at e)) (drop e t) ≡ 0
      inside p = rw (rest_at t e p, w.stop p, drop_of_length-le t {i = e + 1} (omega arith)) (size_last (stage_of blank (part t at e)))

  pub walk_open : Walk t at e true n → length t - e ≤ 1 → e ≡ end_from t at
  walk_open w l = let z = size_open w l in omega (arith, w.size, z, w.from)

  -- or the next physical line is joined
  module _ (w : Walk t at e true n) (l : 1 < length t - e) (e' : ℕ) (r : RunEnd (is_not 10) t (e + 1) e') where
    abbrev more : List ℕ
    more = part t (e + 1) e'

    parts : part t at e' ≡ part t at e ++ (10 ∷ more)
    parts =
        let q : e' - at ≡ (e - at) + (e' - e) = omega (arith, w.from, r.from) in
        let p : at + (e - at) ≡ e = omega (arith, w.from) in
        let c = part-cons t e e' (omega (arith, r.from)) (run-within t (e + 1) e' (omega arith) r) in
        rw (q, take-add (e - at) (e' - e) (drop at t), drop-drop (e - at) at t, p, c, w.stop (omega arith))

    size-on : line_size (stage_of blank (part t at e)) (drop e t) ≡ suc (line_size joined (drop (e + 1) t))
    size-on =
        rw (rest_at t e (omega arith), w.stop (omega arith), rest_at t (e + 1) (omega arith))
        (size-join (stage_of blank (part t at e)) (get_or t (e + 1) 0) (drop (e + 1 + 1) t) w.slash-is)

    joins : (s : Stage) → is_slash s ≡ true → next s 10 ≡ joined
    joins blank q = false≢true q
    joins comment q = false≢true q
    joins plain q = false≢true q
    joins slash q = refl
    joins joined q = false≢true q

    stage_on : stage_of blank (part t at e') ≡ stage_of joined more
    unfolding stage_of
    stage_on =
        rw (parts, stage_append blank (part t at e) (10 ∷ more)) (ap (λ (s : Stage). stage_of s more) (joins (stage_of blank (part t at e)) w.slash-is))

    count-on : newlines (part t at e') ≡ n + 1
    unfolding newlines
    count-on = rw (parts, newlines-append (part t at e) (10 ∷ more), w.count, no-newlines more (run-all t (e + 1) e' (omega arith) r))

    pub walk_on : (k : Bool) → k ≡ ends_slash more → Walk t at e' k (n + 1)
    walk_on k p = record {
      from = omega (arith, w.from, r.from);
      within = run-within t (e + 1) e' (omega arith) r;
      stop = run-stop t (e + 1) e' (omega arith) r;
      size = rw stage_on (omega (arith, w.size, size-on, run-size t (e + 1) e' (omega arith) r joined, w.from, r.from));
      slash-is = ap is_slash stage_on ∙ (joined_last more (run-all t (e + 1) e' (omega arith) r) ∙ sym p);
      count = count-on;
    }
