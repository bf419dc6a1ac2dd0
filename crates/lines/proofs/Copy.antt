-- The bytes of a line without its joins, one after another.
-- Assumes nothing.
use Prim.Native.Nat.{ℕ, ◌+◌, ◌-◌, ◌≤◌, ◌<◌}
use mathlib.Core.Path.{◌≡◌, refl, sym, ap, ◌∙◌}
use mathlib.Core.Bool.{Bool, true, false, ◌&&◌, ◌||◌}
use mathlib.Core.List.{List, [], ◌∷◌, ◌++◌, append_assoc, append-nil}
use native.Mathlib.Omega.{arith}
use native.Mathlib.Numerals.{add-one}
use lib.Dec.{eqb}
use lib.ListN.{length, get_or, take, set, length-append, length-set}
use lib.Seq.{length-take-le, take-suc-set}
use borrow.Author.Tests.{ne_eqb}
use Rattle.lists.specs.Bytes.{holds, part}
use Rattle.lists.proofs.Tests.{or-true, neither}
use Rattle.text.specs.Lines.{starts_newline, without, unjoined}
use Rattle.pairs.proofs.Parts.{part-cons, part-empty}
use Rattle.lines.specs.Ends.{goes}

holds-behind : (b : ℕ) (u v : List ℕ) → holds b v ≡ true → holds b (u ++ v) ≡ true
holds-behind b [] v h = h
holds-behind b (x ∷ u) v h = rw (holds-behind b u v h) (or-true (eqb x b))

holds_snoc : (b x : ℕ) (u : List ℕ) → holds b u ≡ false → eqb x b ≡ false → holds b (u ++ (x ∷ [])) ≡ false
holds_snoc b x [] h e = rw e
holds_snoc b x (y ∷ u) h e = let (p, q) = neither (eqb y b) (holds b u) h in rw (p, holds_snoc b x u q e)

-- ---- whether a byte goes

module _ (t : List ℕ) (at e : ℕ) (h : at < e) (l : e ≤ length t) where
  goes_at : goes (part t at e) ≡ (eqb (get_or t at 0) 10 || (eqb (get_or t at 0) 92 && starts_newline (part t (at + 1) e)))
  unfolding goes
  goes_at = rw (part-cons t at e h l)

  pub newline_goes : get_or t at 0 ≡ 10 → goes (part t at e) ≡ true
  newline_goes q = goes_at ∙ rw q

  pub slash-goes : get_or t at 0 ≡ 92 → at + 1 < e → goes (part t at e) ≡ eqb (get_or t (at + 1) 0) 10
  slash-goes q k = goes_at ∙ rw (q, part-cons t (at + 1) e k l)

  pub slash_stays : get_or t at 0 ≡ 92 → e ≤ at + 1 → goes (part t at e) ≡ false
  slash_stays q k = goes_at ∙ rw (q, part-empty t (at + 1) e k)

  pub other_stays : (get_or t at 0 ≡ 10 → ⊥) → (get_or t at 0 ≡ 92 → ⊥) → goes (part t at e) ≡ false
  other_stays p q = goes_at ∙ rw (ne_eqb (get_or t at 0) 10 p, ne_eqb (get_or t at 0) 92 q)

-- ---- byte by byte

-- the bytes up to place i stand without their joins in the first n of a line
pub record Copied (t : List ℕ) (at e i n : ℕ) (line : List ℕ) : Type 0 where
  pub size : length line ≡ 1024
  pub within : i ≤ e
  pub few : n ≤ 1024
  pub whole : take n line ++ unjoined (part t i e) ≡ unjoined (part t at e)
  pub clean : holds 0 (take n line) ≡ false

pub copy-begins : (t : List ℕ) (at e : ℕ) (line : List ℕ) → at ≤ e → length line ≡ 1024 → Copied t at e at 0 line
copy-begins t at e line h s = record { size = s; within = h; few = omega arith; whole = refl; clean = refl }

module _ (t : List ℕ) (at e i n : ℕ) (line : List ℕ) (c : Copied t at e i n line) where
  module _ (h : i < e) (l : e ≤ length t) where
    first : (k : Bool) → goes (part t i e) ≡ k → unjoined (part t i e) ≡ without k (get_or t i 0) (unjoined (part t (i + 1) e))
    unfolding unjoined goes
    first k g = rw (part-cons t i e h l) (ap (λ (x : Bool). without x (get_or t i 0) (unjoined (part t (i + 1) e))) (rw (part-cons t i e h l) at g))

    pub copy-gone : goes (part t i e) ≡ true → Copied t at e (i + 1) n line
    copy-gone g = record {
      size = c.size;
      within = omega arith;
      few = c.few;
      whole = rw (first true g) at c.whole;
      clean = c.clean;
    }

    module _ (g : goes (part t i e) ≡ false) where
      kept : take n line ++ (get_or t i 0 ∷ unjoined (part t (i + 1) e)) ≡ unjoined (part t at e)
      kept = rw (first false g) at c.whole

      pub copy_nul : get_or t i 0 ≡ 0 → holds 0 (unjoined (part t at e)) ≡ true
      copy_nul z = rw (← kept, z) (holds-behind 0 (take n line) (0 ∷ unjoined (part t (i + 1) e)) refl)

      pub copy-long : 1024 ≤ n → 1024 < length (unjoined (part t at e))
      copy-long m =
          omega
          (arith, ap length kept, length-append (take n line) (get_or t i 0 ∷ unjoined (part t (i + 1) e)), length-take-le n line (omega (arith, c.size, c.few)), c.few)

      pub copy-byte : n < 1024 → (get_or t i 0 ≡ 0 → ⊥) → Copied t at e (i + 1) (n + 1) (set line n (get_or t i 0))
      copy-byte m z =
          let s : take (n + 1) (set line n (get_or t i 0)) ≡ take n line ++ (get_or t i 0 ∷ []) = rw add-one (take-suc-set line n (get_or t i 0) (omega (arith, c.size))) in
          record {
            size = length-set line n (get_or t i 0) ∙ c.size;
            within = omega arith;
            few = omega arith;
            whole = rw (s, append_assoc (take n line) (get_or t i 0 ∷ []) (unjoined (part t (i + 1) e))) kept;
            clean = rw s (holds_snoc 0 (get_or t i 0) (take n line) c.clean (ne_eqb (get_or t i 0) 0 z));
          }

  pub copy-ends : e ≤ i → take n line ≡ unjoined (part t at e)
  unfolding unjoined
  copy-ends h = sym (append-nil (take n line)) ∙ (rw (part-empty t i e h) at c.whole)
