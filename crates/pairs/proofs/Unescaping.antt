-- A value put into an array, unescaped: what holds at each place, and one law for each way on.
-- Assumes nothing.
use Prim.Native.Nat.{ℕ, ◌+◌, ◌≤◌, ◌<◌}
use mathlib.Core.Path.{◌≡◌, refl, sym, ap, ◌∙◌}
use mathlib.Core.Bool.{Bool, true, false, ◌&&◌}
use mathlib.Core.List.{List, [], ◌∷◌, ◌++◌, append_assoc, append-nil}
use Rattle.std.specs.Prelude.{None, Some}
use Rattle.std.proofs.lemmas.Option.{none-some, same_Some}
use native.Mathlib.Numerals.{add-one}
use native.Mathlib.Omega.{arith}
use lib.Dec.{eqb}
use lib.ListN.{length, get_or, take, drop, set, length-set, length-append}
use lib.Seq.{length-take-le, take-suc-set}
use Rattle.lists.specs.Runs.{Part}
use Rattle.lists.specs.Bytes.{part}
use Rattle.rules.specs.Coded.{coded}
use Rattle.rules.specs.Reading.{starts_mark, unescape, unescape_step}
use Rattle.escapes.specs.declared.Closed.{Closed}
use Rattle.escapes.specs.Values.{decoded}
use Rattle.escapes.specs.Answers.{ClosedIs}
use Rattle.pairs.specs.Bounds.{WrittenAt, Put}
use Rattle.pairs.proofs.Parts.{part-cons, part-empty}

pub starts_at_lem : (s : List ℕ) (a e : ℕ) → a < e → e ≤ length s → starts_mark (part s a e) ≡ eqb (get_or s a 0) 34
starts_at_lem s a e h k = rw (part-cons s a e h k)

pub starts_none : (s : List ℕ) (a e : ℕ) → e ≤ a → starts_mark (part s a e) ≡ false
starts_none s a e h = rw (part-empty s a e h)

-- the value from start to e is put up to i, and fills n bytes
pub record Puts (s : List ℕ) (start e : ℕ) (out₀ out : List ℕ) (i n : ℕ) : Type 0 where
  pub from : start ≤ i
  pub within : i ≤ e
  pub kept : length out ≡ length out₀
  pub room : n ≤ length out₀
  pub whole : take n out ++ unescape (part s i e) ≡ unescape (part s start e)

module _ (s : List ℕ) (start e : ℕ) (out₀ : List ℕ) (h : e ≤ length s) (short : length (unescape (part s start e)) ≤ length out₀) where
  pub put-begins : start ≤ e → Puts s start e out₀ out₀ start 0
  put-begins f = record { from = omega arith; within = f; kept = refl; room = omega arith; whole = refl }

  module _ (out : List ℕ) (i n : ℕ) (p : Puts s start e out₀ out i n) where
    step : (t : Bool) → i < e → (eqb (get_or s i 0) 92 && starts_mark (part s (i + 1) e)) ≡ t
        → unescape (part s i e) ≡ unescape_step t (get_or s i 0) (unescape (part s (i + 1) e))
    unfolding unescape
    step t l q = rw (part-cons s i e l h, q)

    sizes : length (take n out) + length (unescape (part s i e)) ≤ length out₀
    sizes = omega (arith, short, length-append (take n out) (unescape (part s i e)), ap length p.whole)

    pub put-escape : i < e → (eqb (get_or s i 0) 92 && starts_mark (part s (i + 1) e)) ≡ true → Puts s start e out₀ out (i + 1) n
    put-escape l q = record {
      from = omega arith;
      within = omega arith;
      kept = p.kept;
      room = p.room;
      whole = ap (λ (x : List ℕ). take n out ++ x) (sym (step true l q)) ∙ p.whole;
    }

    pub put_room : i < e → (eqb (get_or s i 0) 92 && starts_mark (part s (i + 1) e)) ≡ false → n < length out
    put_room l q = omega (arith, sizes, ap length (step false l q), length-take-le n out (omega arith))

    pub put_byte : i < e → (eqb (get_or s i 0) 92 && starts_mark (part s (i + 1) e)) ≡ false
        → Puts s start e out₀ (set out n (get_or s i 0)) (i + 1) (n + 1)
    put_byte l q =
        let r = put_room l q in
        record {
          from = omega arith;
          within = omega arith;
          kept = simp length-set p.kept;
          room = omega arith;
          whole =
              rw (add-one n, take-suc-set out n (get_or s i 0) (omega arith), append_assoc (take n out) (get_or s i 0 ∷ []) (unescape (part s (i + 1) e)))
              (ap (λ (x : List ℕ). take n out ++ x) (sym (step false l q)) ∙ p.whole);
        }

    pub put-ends : e ≤ i → Put (unescape (part s start e)) out n
    unfolding unescape
    put-ends l =
        let w : take n out ≡ unescape (part s start e) = sym (append-nil (take n out)) ∙ ap (λ (x : List ℕ). take n out ++ unescape x) (sym (part-empty s i e l)) ∙ p.whole in
        record { is = w; size = sym (length-take-le n out (omega arith)) ∙ ap length w }

-- ---- a value behind an `e`

module _ (line : List ℕ) (start end : ℕ) (w : WrittenAt line true start end) where
  pub decoded-put : (k : Closed) (out out' : List ℕ) → ClosedIs line start out out' (Some k) → length (decoded (part line start end)) ≤ length out → Put (decoded (part line start end)) out' k.len
  decoded-put k out out' c h =
      let v : decoded (part line start k.end) ≡ decoded (part line start end) =
      ap (λ (p : Part (List ℕ)). p.value) (same_Some _ _ (sym c.0.closed ∙ w.closed)) in
      let l = ap length v in
      record { is = c.2 (omega (arith, c.1)) ∙ v; size = c.1 ∙ l }

  pub never_faulty : coded 0 (drop start line) ≡ None → ⊥
  never_faulty e = none-some _ (sym e ∙ w.closed)
