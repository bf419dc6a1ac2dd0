-- What is wanted of the runs of a set holds.
-- Assumes nothing.
use Prim.Native.Nat.{ℕ, zero, suc, ◌+◌, ◌*◌}
use mathlib.Core.Path.{◌≡◌, refl, sym, ap, ap₂, ◌∙◌, subst}
use mathlib.Core.List.{List, [], ◌∷◌, ◌++◌, map, append_assoc}
use Rattle.std.specs.Prelude.{Option, None, Some}
use native.Mathlib.Nat.{suc-mul, zero-mul}
use native.Mathlib.Omega.{arith}
use lib.ListN.{length, take, drop, length-map}
use lib.Seq.{take_at, drop-append-add}
use Rattle.lists.specs.Lists.{nth, cat, All}
use Rattle.lists.specs.Bytes.{Bytes}
use Rattle.lists.specs.Checked.{Checked, refused, ok, ◌>>=◌, ◌>>◌, found}
use Rattle.lists.specs.Refusal.{set_bad}
use Rattle.lists.specs.Sizes.{fullest_outcome}
use Rattle.lists.proofs.Records.{bytes-first}
use Rattle.lists.proofs.Bytes.{bytes_rest}
use Rattle.bits.specs.Fields.{packed}
use Rattle.text.specs.Run.{Answer}
use Rattle.text.proofs.Runs.{refusal-number}
use Rattle.engine.proofs.Runs.{run_length}
use Rattle.sets.specs.Sets.{long_fields, enc_long}
use Rattle.sets.specs.Lent.{Lent, enc_lent, decode_lent}
use Rattle.sets.specs.Sets as sets
use Rattle.sets.specs.Answer.{Fault, of_set}
use Rattle.sets.proofs.Lent.{lent_laid_out}
use Rattle.numbers.specs.Numbers.{most_numbers, numbers}
use Rattle.each.specs.Each.{run_of, each_runs, each_of, room_for, each_checked, each_answer}
use Rattle.each.specs.Wanted.{part_of, EachAlone, Wanted}

-- ---- by places

abbrev mapped : {A B : Type 0} → (A → B) → Option A → Option B
mapped f None = None
mapped f (Some a) = Some (f a)

nth-mapped : {A B : Type 0} (f : A → B) (xs : List A) (k : ℕ) → nth k (map f xs) ≡ mapped f (nth k xs)
nth-mapped f [] k = refl
nth-mapped f (x ∷ xs) zero = refl
nth-mapped f (x ∷ xs) (suc k) = nth-mapped f xs k

-- the parts of lists of one length, one behind the other
part-cat : {A : Type 0} (f : A → List ℕ) (n : ℕ) (xs : List A) → All (λ a. length (f a) ≡ n) xs → (k : ℕ) (a : A) → nth k xs ≡ Some a → (r : List ℕ)
    → part_of n k (cat f xs ++ r) ≡ f a
part-cat f n [] h k a e r = let z : ◌≡◌ {A = ℕ} 0 1 = cc in absurd (omega arith)
part-cat f n (x ∷ xs) (h, hs) zero a e r =
    let i : x ≡ a = cc in
    ap (λ (m : ℕ). take n (drop m ((f x ++ cat f xs) ++ r))) (zero-mul n)
    ∙ ap (take n) (append_assoc (f x) (cat f xs) r)
    ∙ take_at (f x) (cat f xs ++ r) n h
    ∙ ap f i
part-cat f n (x ∷ xs) (h, hs) (suc k) a e r =
    let m : suc k * n ≡ length (f x) + k * n = suc-mul k n ∙ omega (arith, h) in
    ap₂ (λ (i : ℕ) (l : List ℕ). take n (drop i l)) m (append_assoc (f x) (cat f xs) r)
    ∙ ap (take n) (drop-append-add (f x) (cat f xs ++ r) (k * n))
    ∙ part-cat f n xs hs k a e r

-- ---- the lengths of the parts

outcomes : (ls : List Lent) → Bytes (cat enc_lent ls) → All (λ (l : Lent). Bytes l.outcome) ls
outcomes [] h = tt
outcomes (l ∷ ls) h =
    let first = bytes-first (enc_lent l) (cat enc_lent ls) h in
    let second = bytes_rest (enc_long l.device) (enc_long l.outcome) first in
    (bytes_rest (packed (long_fields (length l.outcome))) l.outcome second, outcomes ls (bytes_rest (enc_lent l) (cat enc_lent ls) h))

set_outcomes : (set : List ℕ) (ls : List Lent) → Bytes set → decode_lent set ≡ Some ls → All (λ (l : Lent). Bytes l.outcome) ls
unfolding sets.encode_set
set_outcomes set ls by e = outcomes ls (bytes_rest (length ls ∷ []) (cat enc_lent ls) (subst Bytes (lent_laid_out.back set ls by e).0 by))

module _ (text sheet : List ℕ) where
  targets_long : Bytes sheet → (ls : List Lent) → All (λ (l : Lent). Bytes l.outcome) ls → All (λ (a : Answer). length a.bytes ≡ fullest_outcome) (each_runs text sheet ls)
  targets_long by [] h = tt
  targets_long by (l ∷ ls) (h, hs) = (run_length text l.device l.outcome sheet fullest_outcome h by, targets_long by ls hs)

  answers-long : (rs : List Answer) → All (λ (a : Answer). length (numbers a) ≡ most_numbers) rs
  answers-long [] = tt
  answers-long (a ∷ rs) = (refl, answers-long rs)

-- ---- a set that is not refused

number_ok : (room places : ℕ) (c : Checked Fault (List Answer)) → (each_of room places c).own.number ≡ 0 → (rs : List Answer) × (c ≡ ok rs)
number_ok room places (refused f) e = let (k, p) = refusal-number f.why in absurd (omega (arith, sym p ∙ e))
number_ok room places (ok rs) e = (rs, refl)

checked_runs : (text set sheet : List ℕ) (room places : ℕ) (rs : List Answer) → each_checked text set sheet room places ≡ ok rs
    → (ls : List Lent) × (decode_lent set ≡ Some ls) × (rs ≡ each_runs text sheet ls)
unfolding each_checked
checked_runs text set sheet room places rs e = lents (decode_lent set) e
  where
    after : (ls : List Lent) (r : Checked Fault (Unit {0})) → (r >> ok (each_runs text sheet ls)) ≡ ok rs → rs ≡ each_runs text sheet ls
    after ls (refused f) e = let z : ◌≡◌ {A = ℕ} 0 1 = cc in absurd (omega arith)
    after ls (ok u) e = let q : rs ≡ each_runs text sheet ls = cc in q

    lents : (o : Option (List Lent)) → (found o (of_set set_bad) >>= λ ls. room_for (length ls) room places >> ok (each_runs text sheet ls)) ≡ ok rs
        → (ls : List Lent) × (o ≡ Some ls) × (rs ≡ each_runs text sheet ls)
    lents None e = let z : ◌≡◌ {A = ℕ} 0 1 = cc in absurd (omega arith)
    lents (Some ls) e = (ls, refl, after ls (room_for (length ls) room places) e)

each_alone : (text set sheet : List ℕ) (room places : ℕ) → Bytes set → Bytes sheet → (each_answer text set sheet room places).own.number ≡ 0
    → EachAlone text set sheet (each_answer text set sheet room places)
unfolding each_answer
each_alone text set sheet room places by bs z =
    let (rs, e) = number_ok room places (each_checked text set sheet room places) z in
    let (ls, f, g) = checked_runs text set sheet room places rs e in
    let is : each_answer text set sheet room places ≡ each_of room places (ok (each_runs text sheet ls)) = ap (each_of room places) (e ∙ ap ok g) in
    subst (EachAlone text set sheet) (sym is)
    record {
      lents = ls;
      held = f;
      counted = length-map ls (run_of text sheet);
      alone = λ k l h.
          let there : nth k (each_runs text sheet ls) ≡ Some (run_of text sheet l) = nth-mapped (run_of text sheet) ls k ∙ ap (mapped (run_of text sheet)) h in
          record {
            target = part-cat (λ (a : Answer). a.bytes) fullest_outcome (each_runs text sheet ls) (targets_long text sheet bs ls (set_outcomes set ls by f)) k _ there _;
            answer = part-cat numbers most_numbers (each_runs text sheet ls) (answers-long text sheet (each_runs text sheet ls)) k _ there _;
          };
    }

pub wanted : Wanted
wanted = record {
  each_alone = each_alone;
  anywhere = λ text sheet ls ms j k e. nth-mapped (run_of text sheet) ls j ∙ ap (mapped (run_of text sheet)) e ∙ sym (nth-mapped (run_of text sheet) ms k);
}
