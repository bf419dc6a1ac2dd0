-- A list without the run at its end, looked for from the end: one law for each kind of run.
-- Assumes nothing.
use Prim.Native.Nat.{ℕ, zero, suc, ◌-◌, ◌≤◌, ◌<◌}
use mathlib.Core.Path.{◌≡◌, refl, sym}
use mathlib.Core.Bool.{Bool, true, false, not}
use mathlib.Core.List.{List, [], ◌∷◌}
use native.Mathlib.Omega.{arith}
use native.Mathlib.Numerals.{sub-one}
use native.Mathlib.Nat.{le_of_suc-le-suc, not-suc-le-zero}
use lib.Dec.{eqb}
use lib.ListN.{length, get_or, take, drop}
use Rattle.lists.specs.Lists.{all}
use Rattle.lists.specs.Bytes.{is_space}
use Rattle.lists.specs.Runs.{trim_step, trim, chomp}
use Rattle.lists.proofs.Tests.{and_both}
use Rattle.lists.specs.Bytes.{is_digit}
use Rattle.lists.specs.Runs.{split_at, last_of, end_digits}
use Rattle.lists.proofs.Scan.{digits-all, digits_at, part-all, part_at}
use Rattle.scan.specs.Ends.{RunStart, is_not, is_newline}
use borrow.Author.Tests.{eqb-true}

-- f takes the bytes that pass the test from the end
pub record Trims (p : ℕ → Bool) (f : List ℕ → List ℕ) : Type 0 where
  pub none : f [] ≡ []
  pub step : (b : ℕ) (s : List ℕ) → f (b ∷ s) ≡ trim_step (p b) b (f s)

pub trims_spaces : Trims is_space trim
unfolding trim
trims_spaces = record { none = refl; step = λ b s. refl }

pub trims_newlines : Trims is_newline chomp
unfolding chomp
trims_newlines = record { none = refl; step = λ b s. refl }

module _ (p : ℕ → Bool) (f : List ℕ → List ℕ) (t : Trims p f) where
  trimmed_all : (s : List ℕ) → all p s ≡ true → f s ≡ []
  trimmed_all [] h = t.none
  trimmed_all (b ∷ s) h =
      let (q, r) = and_both (p b) (all p s) h in
      rw (t.step b s, q, trimmed_all s r)

  trimmed_behind : (s : List ℕ) (n : ℕ) → n < length s → p (get_or s n 0) ≡ false → all p (drop (suc n) s) ≡ true → take (suc n) s ≡ f s
  trimmed_behind [] n h u k = absurd (not-suc-le-zero h)
  trimmed_behind (b ∷ s) zero h u k = rw (t.step b s, u, trimmed_all s k)
  trimmed_behind (b ∷ []) (suc n) h u k = absurd (omega arith)
  trimmed_behind (b ∷ c ∷ s) (suc n) h u k = rw (t.step b (c ∷ s), ← trimmed_behind (c ∷ s) n (le_of_suc-le-suc h) u k) (go (p b))
    where
      go : (v : Bool) → b ∷ c ∷ take n s ≡ trim_step v b (c ∷ take n s)
      go true = refl
      go false = refl

  -- the byte before place n does not pass, and all behind do
  trimmed_at : (s : List ℕ) (n : ℕ) → 0 < n → n ≤ length s → p (get_or s (n - 1) 0) ≡ false → all p (drop n s) ≡ true → take n s ≡ f s
  trimmed_at s zero z h u k = absurd (omega arith)
  trimmed_at s (suc n) z h u k = trimmed_behind s n h (rw sub-one at u) k

  pub trimmed : (s : List ℕ) (r : ℕ) → RunStart p s r → take r s ≡ f s
  trimmed s zero w = sym (trimmed_all s w.behind)
  trimmed s (suc n) w = trimmed_at s (suc n) (omega arith) w.within (w.before (omega arith)) w.behind

-- ---- what is left is the run itself

pub digits_from : (s : List ℕ) (r : ℕ) → RunStart is_digit s r → drop r s ≡ end_digits s
digits_from s zero w = sym (digits-all s w.behind)
digits_from s (suc n) w = digits_at s (suc n) (omega arith) w.within (w.before (omega arith)) w.behind

pub part_from : (b : ℕ) (s : List ℕ) (r : ℕ) → RunStart (is_not b) s r → drop r s ≡ last_of (split_at b s)
part_from b s zero w = rw (part-all b s w.behind)
part_from b s (suc n) w =
    part_at b s (suc n) (omega arith) w.within (found (eqb (get_or s (suc n - 1) 0) b) refl (w.before (omega arith))) w.behind
  where
    found : (t : Bool) → eqb (get_or s (suc n - 1) 0) b ≡ t → not t ≡ false → get_or s (suc n - 1) 0 ≡ b
    found true e h = eqb-true _ _ e
    found false e h = let z : ◌≡◌ {A = ℕ} 0 1 = cc h in absurd (omega arith)
