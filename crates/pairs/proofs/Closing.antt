-- The scan for a closing mark: what holds at each place, and one law for each way on.
-- Assumes nothing.
use Prim.Native.Nat.{ℕ, ◌+◌, ◌-◌, ◌≤◌, ◌<◌}
use mathlib.Core.Path.{◌≡◌, refl, sym, subst, ◌∙◌}
use mathlib.Core.Bool.{Bool, true, false, not, ◌&&◌}
use mathlib.Core.List.{List, [], ◌∷◌, ◌++◌}
use Rattle.std.specs.Prelude.{None, Some}
use native.Mathlib.Omega.{arith}
use borrow.Author.Tests.{eq-eqb, ne_eqb, lt-ltb, le-ltb}
use lib.Dec.{eqb}
use lib.ListN.{length, get_or, drop, drop_of_length-le}
use lib.Seq.{drop-drop}
use Rattle.lists.specs.Lists.{pick}
use Rattle.lists.proofs.Rest.{rest_at}
use Rattle.lists.specs.Bytes.{part}
use Rattle.rules.specs.Places.{close_end, weight, weights}
use Rattle.rules.specs.Reading.{quoted, unescape}
use Rattle.rules.proofs.Values.{quoted_at, value_length}
use Rattle.pairs.specs.declared.Close.{Close}
use Rattle.pairs.specs.Bounds.{Closes}
use Rattle.pairs.proofs.Parts.{part_none, part-next}

-- a backslash stands directly before a place of a value that starts at another
abbrev pub escaped_at : List ℕ → ℕ → ℕ → Bool
escaped_at s start i = not (eqb i start) && eqb (get_or s (i - 1) 0) 92

weights_snoc : (xs : List ℕ) (b : ℕ) → weights (xs ++ (b ∷ [])) ≡ weights xs + weight b
unfolding weights
weights_snoc [] b = omega arith
weights_snoc (x ∷ xs) b = let h = weights_snoc xs b in omega arith

-- a value that starts at a place is not closed before i
pub record Scans (s : List ℕ) (start i marks : ℕ) : Type 0 where
  pub from : start ≤ i
  pub within : i ≤ length s
  pub whole : close_end (escaped_at s start i) (drop i s) i ≡ close_end false (drop start s) start
  pub counted : marks + weights (part s start i) ≡ i - start

module _ (s : List ℕ) (start : ℕ) where
  pub scan_begins : start ≤ length s → Scans s start start 0
  unfolding weights
  scan_begins h = record {
    from = omega arith;
    within = h;
    whole = rw (eq-eqb start start refl);
    counted = rw (part_none s start) (omega arith);
  }

  module _ (i marks : ℕ) (c : Scans s start i marks) where
    behind : escaped_at s start (i + 1) ≡ eqb (get_or s i 0) 92
    behind =
        let n : (i + 1 ≡ start) → ⊥ = λ e. omega arith in
        let p : i + 1 - 1 ≡ i = omega arith in
        rw (ne_eqb (i + 1) start n, p)

    step : (t : Bool) → i < length s → (eqb (get_or s i 0) 34 && not (escaped_at s start i)) ≡ t
        → close_end (escaped_at s start i) (drop i s) i ≡ pick t (Some i) (close_end (escaped_at s start (i + 1)) (drop (i + 1) s) (i + 1))
    unfolding close_end
    step t h e = rw (rest_at s i h, e, behind)

    weigh : i < length s → weights (part s start (i + 1)) ≡ weights (part s start i) + weight (get_or s i 0)
    weigh h = rw (part-next s start i c.from h) (weights_snoc (part s start i) (get_or s i 0))

    pub scan_plain : i < length s → (get_or s i 0 ≡ 34 → ⊥) → Scans s start (i + 1) marks
    scan_plain h n =
        let f = ne_eqb (get_or s i 0) 34 n in
        let w : weight (get_or s i 0) ≡ 1 = rw f in
        record {
          from = omega arith;
          within = omega arith;
          whole = sym (step false h (rw f)) ∙ c.whole;
          counted = rw (weigh h) (omega arith);
        }

    pub scan_marked : i < length s → get_or s i 0 ≡ 34 → (i ≡ start → ⊥) → get_or s (i - 1) 0 ≡ 92 → Scans s start (i + 1) (marks + 1)
    scan_marked h m n b =
        let t = eq-eqb (get_or s i 0) 34 m in
        let w : weight (get_or s i 0) ≡ 0 = rw t in
        let e : escaped_at s start i ≡ true = rw (ne_eqb i start n, eq-eqb (get_or s (i - 1) 0) 92 b) in
        record {
          from = omega arith;
          within = omega arith;
          whole = sym (step false h (rw (t, e))) ∙ c.whole;
          counted = rw (weigh h) (omega arith);
        }

    closes : i < length s → get_or s i 0 ≡ 34 → escaped_at s start i ≡ false → Closes s start (record { end = i; marks = marks })
    closes h m e = record {
      place = sym c.whole ∙ step true h (rw (eq-eqb (get_or s i 0) 34 m, e)) ∙ rw (lt-ltb i (length s) h);
      from = c.from;
      within = c.within;
      marks = c.counted;
    }

    pub scan_empty : i < length s → get_or s i 0 ≡ 34 → i ≡ start → Closes s start (record { end = i; marks = marks })
    scan_empty h m e = closes h m (rw (eq-eqb i start e))

    pub scan_closed : i < length s → get_or s i 0 ≡ 34 → (i ≡ start → ⊥) → (get_or s (i - 1) 0 ≡ 92 → ⊥) → Closes s start (record { end = i; marks = marks })
    scan_closed h m n b = closes h m (rw (ne_eqb i start n, ne_eqb (get_or s (i - 1) 0) 92 b))

    out : length s ≤ i → Closes s start (record { end = i; marks = marks })
    unfolding close_end
    out h = record {
      place = sym c.whole ∙ rw (drop_of_length-le s h, le-ltb i (length s) h);
      from = c.from;
      within = c.within;
      marks = c.counted;
    }

    pub scan_out : length s ≤ i → Closes s start (record { end = length s; marks = marks })
    scan_out h =
        let w = c.within in
        let e : i ≡ length s = omega arith in
        subst (λ (n : ℕ). Closes s start (record { end = n; marks = marks })) e (out h)

-- ---- the value that was closed

module _ (s : List ℕ) (start : ℕ) (c : Close) (h : Closes s start c) where
  pub value_unclosed : length s ≤ c.end → quoted false (drop start s) ≡ None
  value_unclosed l = quoted_at false (drop start s) start ∙ rw (h.place, le-ltb c.end (length s) l)

  pub value_closed : c.end < length s → quoted false (drop start s) ≡ Some (record { value = part s start c.end; rest = drop (c.end + 1) s })
  value_closed l =
      let f = h.from in
      let e : start + (c.end - start + 1) ≡ c.end + 1 = omega arith in
      quoted_at false (drop start s) start ∙ rw (h.place, lt-ltb c.end (length s) l, drop-drop (c.end - start + 1) start s, e)

  pub value_size : c.end < length s → c.end - start - c.marks ≡ length (unescape (part s start c.end))
  value_size l =
      let v = value_length false (drop start s) (record { value = part s start c.end; rest = drop (c.end + 1) s }) (value_closed l) in
      let m = h.marks in
      omega arith
