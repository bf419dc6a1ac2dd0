-- Document 02, Item 11: every set of files within its size can be laid out and is read back; where a file stands.
-- Assumes nothing.
use Prim.Native.Nat.{ℕ, suc, ◌+◌, ◌≤◌}
use mathlib.Core.Path.{◌≡◌, refl, sym, ap, ◌∙◌, subst}
use mathlib.Core.Bool.{Bool, true, false, ◌&&◌, ◌||◌}
use mathlib.Core.List.{List, [], ◌∷◌, ◌++◌, append_assoc}
use Rattle.std.specs.Prelude.{Some}
use native.Mathlib.Omega.{arith}
use lib.Dec.{leb}
use lib.ListN.{length}
use Rattle.lists.specs.Lists.{pick, all, any, nth}
use Rattle.lists.specs.Bytes.{Bytes}
use Rattle.lists.proofs.Tests.{and_both, both_and}
use Rattle.lists.proofs.Bytes.{bytes_rest}
use Rattle.entries.specs.Parse.{got}
use Rattle.entries.specs.Entry.{enc_text, one_text}
use Rattle.entries.proofs.Rows.{Laws, through}
use Rattle.entries.proofs.Entries.{text-laws, kept}
use Rattle.sets.specs.Sets.{ok_long, enc_long, one_long}
use Rattle.sets.proofs.Sets.{long-laws, set_there, set_back, set_laid_out}
use Rattle.files.specs.Files.{File, ok_name, ok_file, enc_file, one_file, file_of, most_files, last_rank, encode_files, decode_files, same_file, position_from}
use Rattle.files.specs.Promise.{FilesLaidOut}

-- ---- the layout

file_there : (f : File) (r : List ℕ) → ok_file f ≡ true → one_file (enc_file f ++ r) ≡ got f r
file_there f r h =
    let (p, q) = and_both (leb f.rank last_rank) (ok_name f.name && ok_long f.text) h in
    let (a, b) = and_both (ok_name f.name) (ok_long f.text) q in
    ap (λ (x : List ℕ). one_file (f.rank ∷ x)) (append_assoc (enc_text f.name) (enc_long f.text) r)
    ∙ rw ((text-laws ok_name).there f.name (enc_long f.text ++ r) a, long-laws.there f.text r b, p)

file-back : (bs : List ℕ) (f : File) (r : List ℕ) → Bytes bs → one_file bs ≡ got f r → (bs ≡ enc_file f ++ r) × (ok_file f ≡ true)
file-back [] f r h e = let z : ◌≡◌ {A = ℕ} 0 1 = cc in absurd (omega arith)
file-back (k ∷ bs) f r h e =
    through (one_text ok_name bs) _ f r e λ n q p₁ e₁.
    through (one_long q) _ f r e₁ λ t z p₂ e₂.
    let hs : Bytes bs = λ i. h (suc i) in
    let (w, m) = (text-laws ok_name).back bs n q hs p₁ in
    let (w', m') = long-laws.back q t z (bytes_rest (enc_text n) q (subst Bytes w hs)) p₂ in
    let (b, i, j) = kept (leb k last_rank) (file_of k n t) f z r e₂ in
    rw (← i, ← j) (
      ap (λ (x : List ℕ). k ∷ x) (w ∙ ap (λ (y : List ℕ). enc_text n ++ y) w' ∙ sym (append_assoc (enc_text n) (enc_long t) z)),
      both_and (leb k last_rank) (ok_name n && ok_long t) b (both_and (ok_name n) (ok_long t) m m'),
    )

pub file-laws : Laws File enc_file ok_file one_file
file-laws = record { there = file_there; back = file-back }

-- to 32 files, whatever their texts, to 65,535 bytes each
pub laid_out : (fs : List File) → length fs ≤ most_files → all ok_file fs ≡ true → decode_files (encode_files fs) ≡ Some fs
laid_out fs m h = set_there file-laws 0 most_files fs (omega arith) m h

pub laid_back : (bs : List ℕ) (fs : List File) → Bytes bs → decode_files bs ≡ Some fs
    → (bs ≡ encode_files fs) × (all ok_file fs ≡ true) × (0 ≤ length fs) × (length fs ≤ most_files)
laid_back bs fs h e = set_back file-laws 0 most_files bs fs h e

pub files_laid_out : FilesLaidOut
files_laid_out = set_laid_out file-laws 0 most_files

-- ---- positions

-- the file at a position has the name and rank of the one that is meant
pub position_there : (n : ℕ) (f : File) (fs : List File) → any (same_file f) fs ≡ true
    → (k : ℕ) × (g : File) × (position_from n f fs ≡ n + k) × (nth k fs ≡ Some g) × (same_file f g ≡ true)
unfolding position_from
position_there n f [] h = let z : ◌≡◌ {A = ℕ} 0 1 = cc in absurd (omega arith)
position_there n f (g ∷ gs) h = at (same_file f g) refl h (position_there (suc n) f gs)
  where
    at : (t : Bool) → same_file f g ≡ t → (t || any (same_file f) gs) ≡ true
        → (any (same_file f) gs ≡ true → (k : ℕ) × (h : File) × (position_from (suc n) f gs ≡ suc n + k) × (nth k gs ≡ Some h) × (same_file f h ≡ true))
        → (k : ℕ) × (h : File) × (pick t n (position_from (suc n) f gs) ≡ n + k) × (nth k (g ∷ gs) ≡ Some h) × (same_file f h ≡ true)
    at true e h ih = (0, g, omega arith, refl, e)
    at false e h ih = let (k, x, p, q, r) = ih h in (suc k, x, p ∙ omega arith, q, r)
