-- The rules of a text as they are written: accepted, the same rules, and not longer than the text and a newline.
-- Assumes nothing.
use Prim.Native.Nat.{ℕ, suc, ◌+◌, ◌≤◌}
use mathlib.Core.Path.{◌≡◌, refl, sym, ap, ◌∙◌, subst}
use mathlib.Core.Bool.{Bool, true, false}
use mathlib.Core.List.{List, [], ◌∷◌, ◌++◌, map, append_assoc}
use Rattle.std.specs.Prelude.{Option, None, Some}
use Rattle.std.proofs.lemmas.Option.{none-some}
use native.Mathlib.Omega.{arith}
use lib.Dec.{leb}
use lib.ListN.{length, length-append}
use borrow.Author.Tests.{leb-true}
use Rattle.lists.specs.Lists.{pick, cat, All}
use Rattle.lists.specs.Runs.{span}
use Rattle.lists.specs.Checked.{ok, require, Placed, line, in_place, Holds}
use Rattle.lists.specs.Refusal.{target_short, text_long}
use Rattle.lists.specs.Sizes.{most_text, most_rules}
use Rattle.lists.proofs.Checked.{holds-bind, holds-seq, holds-require, holds_at, holds_self}
use Rattle.text.specs.Engine.{LineRead, skip, fault, rule}
use Rattle.text.specs.Lines.{blank, stage_of, lines_in, numbered, lines, newlines, unjoined}
use Rattle.text.specs.Reading.{rule_count, has_label, goes_to, read_lent, reads, read_text}
use Rattle.text.specs.Rules.{rules_in, rules_of}
use Rattle.text.proofs.Lines.{lines_seam, total, lines-total}
use Rattle.text.proofs.Collect.{Faultless}
use Rattle.text.proofs.Settle.{Aimed, Settled}
use Rattle.text.proofs.Texts.{reading_of, Parts, read_ok, read}
use Rattle.rules.specs.Pair.{Rule, label_of, goto_of}
use Rattle.rules.specs.Reading.{read_line, reader}
use Rattle.writing.specs.Writing.{line_text, rule_of, written, write_checked}
use Rattle.writing.specs.Wanted.{Reads, Wanted}
use Rattle.writing.proofs.Lines.{LineAgain, lent_again, lent_reads, one_line}

-- ---- what the lines of a text give

-- a rule that can be written, from a line of some length
abbrev Good : Placed Rule → Type 0
Good p = (n : ℕ) × LineAgain n (rule_of p)

pub record Gives (n : ℕ) (rs : List (Placed Rule)) : Type 0 where
  pub good : All Good rs
  pub size : length (written rs) ≤ n

gives_line : (n : ℕ) (l : List ℕ) (ls : List (List ℕ)) (xs : List (Placed (LineRead Rule))) (x : LineRead Rule) → read_lent reader l ≡ x
    → Gives (total ls) (rules_in xs) → Gives (total (l ∷ ls)) (rules_in (line n x ∷ xs))
unfolding rules_in total written
gives_line n l ls xs skip e g = record { good = g.good; size = omega (arith, g.size) }
gives_line n l ls xs (fault f) e g = record { good = g.good; size = omega (arith, g.size) }
gives_line n l ls xs (rule r) e g =
    let a = lent_again l r e in
    record {
      good = ((length l, a), g.good);
      size =
          omega (arith, length-append (line_text r ++ (10 ∷ [])) (cat (λ (p : Placed Rule). line_text (rule_of p) ++ (10 ∷ [])) (rules_in xs)), length-append (line_text r) (10 ∷ []), a.size, g.size);
    }

gives-lines : (n : ℕ) (ls : List (List ℕ)) → Gives (total ls) (rules_in (map (in_place (read_lent reader)) (numbered n ls)))
unfolding numbered rules_in total written
gives-lines n [] = record { good = tt; size = omega arith }
gives-lines n (l ∷ ls) =
    gives_line n l ls (map (in_place (read_lent reader)) (numbered (suc (newlines l + n)) ls)) (read_lent reader l) refl (gives-lines (suc (newlines l + n)) ls)

pub text-gives : (t : List ℕ) → Gives (suc (length t)) (rules_of reader t)
unfolding rules_of lines
text-gives t = subst (λ (k : ℕ). Gives k (rules_in (map (in_place (read_lent reader)) (numbered 1 (lines_in blank t))))) (lines-total blank t) (gives-lines 1 (lines_in blank t))

-- ---- what is written, line by line

written-lines : (rs : List (Placed Rule)) → All Good rs → lines_in blank (written rs) ≡ map (λ (p : Placed Rule). line_text (rule_of p)) rs ++ ([] ∷ [])
unfolding written lines_in
written-lines [] h = refl
written-lines (p ∷ rs) ((n, a), h) =
    let w : List ℕ = cat (λ (q : Placed Rule). line_text (rule_of q) ++ (10 ∷ [])) rs in
    rw (append_assoc (line_text (rule_of p)) (10 ∷ []) w, lines_seam blank (line_text (rule_of p)) w a.closed, one_line blank (line_text (rule_of p)) a.fair-line)
    (ap (λ (ls : List (List ℕ)). line_text (rule_of p) ∷ ls) (written-lines rs h))

empty-lent : read_lent reader [] ≡ skip
unfolding read_lent stage_of unjoined read_line span
empty-lent = refl

record ReadSame (rs : List (Placed Rule)) (xs : List (Placed (LineRead Rule))) : Type 0 where
  faultless : Faultless xs
  count : rule_count xs ≡ length rs
  same : map rule_of (rules_in xs) ≡ map rule_of rs

read_same : (n : ℕ) (rs : List (Placed Rule)) → All Good rs → ReadSame rs (map (in_place (read_lent reader)) (numbered n (map (λ (p : Placed Rule). line_text (rule_of p)) rs ++ ([] ∷ []))))
unfolding numbered rules_in rule_count
read_same n [] h = rw empty-lent record { faultless = tt; count = refl; same = refl }
read_same n (p ∷ rs) ((k, a), h) =
    let i = read_same (suc (newlines (line_text (rule_of p)) + n)) rs h in
    rw (lent_reads k (rule_of p) a) record { faultless = i.faultless; count = ap suc i.count; same = ap (λ (l : List Rule). rule_of p ∷ l) i.same }

-- ---- jumps do not depend on the numbers of lines

goes_same : (g : List ℕ) (ps qs : List (Placed Rule)) → map rule_of ps ≡ map rule_of qs → (l : ℕ) → goes_to reader g ps ≡ Some l → (m : ℕ) × (goes_to reader g qs ≡ Some m)
unfolding goes_to
goes_same g [] qs e l h = absurd (none-some l h)
goes_same g (line n r ∷ ps) [] e l h = absurd (omega (arith, ap length e))
goes_same g (line n r ∷ ps) (line m s ∷ qs) e l h =
    let q : r ≡ s = cc in
    let es : map rule_of ps ≡ map rule_of qs = cc in
    at (has_label g (label_of s)) (rw q at h) (λ k. goes_same g ps qs es l k)
  where
    at : (t : Bool) → pick t (Some n) (goes_to reader g ps) ≡ Some l → (goes_to reader g ps ≡ Some l → (k : ℕ) × (goes_to reader g qs ≡ Some k))
        → (k : ℕ) × (pick t (Some m) (goes_to reader g qs) ≡ Some k)
    at true k f = (m, refl)
    at false k f = f k

aimed_same : (g : Option (List ℕ)) (ps qs : List (Placed Rule)) → map rule_of ps ≡ map rule_of qs → Aimed (reading_of reader) g ps → Aimed (reading_of reader) g qs
aimed_same None ps qs e a = tt
aimed_same (Some g) ps qs e (l, h) = goes_same g ps qs e l h

pub settled_same : (ps qs : List (Placed Rule)) → map rule_of ps ≡ map rule_of qs → Settled (reading_of reader) ps → Settled (reading_of reader) qs
settled_same [] [] e s = tt
settled_same [] (line m s ∷ qs) e t = absurd (omega (arith, ap length e))
settled_same (line n r ∷ ps) [] e s = tt
settled_same (line n r ∷ ps) (line m s ∷ qs) e (a, t) =
    let q : r ≡ s = cc in
    let es : map rule_of ps ≡ map rule_of qs = cc in
    (aimed_same (goto_of s) ps qs es (rw q at a), settled_same ps qs es t)

-- ---- the wants

count-length : (xs : List (Placed (LineRead Rule))) → length (rules_in xs) ≡ rule_count xs
unfolding rules_in rule_count
count-length [] = refl
count-length (line n skip ∷ xs) = count-length xs
count-length (line n (fault f) ∷ xs) = count-length xs
count-length (line n (rule r) ∷ xs) = ap suc (count-length xs)

reads_back : (t : List ℕ) (rs : List (Placed Rule)) → read_text reader t ≡ ok rs → length (written rs) ≤ most_text → Reads (written rs) (map rule_of rs)
unfolding rules_of lines
reads_back t rs e h =
    let r = read (reading_of reader) t rs e in
    let g : All Good rs = rw r.same (text-gives t).good in
    let s : ReadSame rs (reads reader (written rs)) = rw (written-lines rs g) (read_same 1 rs g) in
    let few : length rs ≤ most_rules = rw r.same (rw (count-length (reads reader t)) r.parts.few) in
    let p : Parts (reading_of reader) (written rs) = record {
      short = h;
      faultless = s.faultless;
      few = rw s.count few;
      settled = settled_same rs (rules_of reader (written rs)) (sym s.same) (rw r.same r.parts.settled);
    } in
    (rules_of reader (written rs), read_ok (reading_of reader) (written rs) p, s.same)

no_longer : (t : List ℕ) (rs : List (Placed Rule)) → read_text reader t ≡ ok rs → length (written rs) ≤ length t + 1
no_longer t rs e = let r = read (reading_of reader) t rs e in rw r.same (omega (arith, (text-gives t).size))

-- what is written does not depend on the numbers of lines
written_same : (ps qs : List (Placed Rule)) → map rule_of ps ≡ map rule_of qs → written ps ≡ written qs
unfolding written
written_same [] [] e = refl
written_same [] (line m s ∷ qs) e = absurd (omega (arith, ap length e))
written_same (line n r ∷ ps) [] e = absurd (omega (arith, ap length e))
written_same (line n r ∷ ps) (line m s ∷ qs) e =
    let q : r ≡ s = cc in
    let es : map rule_of ps ≡ map rule_of qs = cc in
    rw (q, written_same ps qs es)

-- what an accepted writing was
pub record Wrote (t : List ℕ) (room : ℕ) (w : List ℕ) : Type 0 where
  pub rules : List (Placed Rule)
  pub enough : leb most_text room ≡ true
  pub accepted : read_text reader t ≡ ok rules
  pub short : leb (length (written rules)) most_text ≡ true
  pub is : w ≡ written rules

pub wrote : (t : List ℕ) (room : ℕ) → Holds (Wrote t room) (write_checked t room)
unfolding write_checked
wrote t room =
    holds-seq (λ (_ : Unit {0}). leb most_text room ≡ true) (Wrote t room) (require (leb most_text room) (line 0 target_short)) _ (holds-require (leb most_text room) (line 0 target_short))
    (λ _ h. holds-bind (λ (rs : List (Placed Rule)). read_text reader t ≡ ok rs) (Wrote t room) (read_text reader t) _ (holds_self (read_text reader t))
    (λ rs e. holds-seq (λ (_ : Unit {0}). leb (length (written rs)) most_text ≡ true) (Wrote t room) (require (leb (length (written rs)) most_text) (line 0 text_long)) (ok (written rs)) (holds-require (leb (length (written rs)) most_text) (line 0 text_long))
    (λ _ k. record { rules = rs; enough = h; accepted = e; short = k; is = refl })))

write-by : (w : List ℕ) (room : ℕ) (rs : List (Placed Rule)) → leb most_text room ≡ true → read_text reader w ≡ ok rs → leb (length (written rs)) most_text ≡ true → write_checked w room ≡ ok (written rs)
unfolding write_checked
write-by w room rs h e k = rw (h, e, k)

twice : (t w : List ℕ) (room : ℕ) → write_checked t room ≡ ok w → write_checked w room ≡ ok w
twice t w room e =
    let a = holds_at (Wrote t room) e (wrote t room) in
    let (ps, p, q) = reads_back t a.rules a.accepted (leb-true (length (written a.rules)) most_text a.short) in
    let s : written ps ≡ written a.rules = written_same ps a.rules q in
    rw a.is (write-by (written a.rules) room ps a.enough p (rw s a.short) ∙ ap ok s)

pub wanted : Wanted
wanted = record { reads_back = reads_back; twice = twice; no_longer = no_longer }
