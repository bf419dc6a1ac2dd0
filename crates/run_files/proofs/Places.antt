-- The position of a file in the lent order is one more than its number.
-- Assumes nothing.
use Prim.Native.Nat.{ℕ, zero, suc, ◌+◌, ◌≤◌, ◌<◌}
use mathlib.Core.Path.{◌≡◌, refl, sym, ap, ◌∙◌}
use mathlib.Core.Bool.{Bool, true, false, ◌&&◌, ◌||◌}
use mathlib.Core.List.{List, [], ◌∷◌, map}
use native.Mathlib.Omega.{arith}
use borrow.Author.Tests.{eq-eqb}
use lib.Dec.{eqb}
use lib.ListN.{length, take, get_or, get_or-map}
use lib.Seq.{get_or-take}
use Rattle.lists.specs.Lists.{pick, any}
use Rattle.lists.proofs.Tests.{both_and, neither, eqb-sym}
use Rattle.lists.proofs.Bytes.{same_refl, same-sym}
use Rattle.files.specs.Files.{File, file_of, same_name, same_file, doubled, position_from}
use Rattle.file_rows.specs.Places.{file_at, files_at}
use Rattle.file_order.specs.Order.{file_on}
use Rattle.file_order.proofs.Numbers.{mapped-length}

same_itself : (f : File) → same_file f f ≡ true
same_itself f = both_and (same_name f f) (eqb f.rank f.rank) (same_refl f.name) (eq-eqb f.rank f.rank refl)

none_at : (p : File → Bool) (fs : List File) (x : File) (i : ℕ) → any p fs ≡ false → i < length fs → p (get_or fs i x) ≡ false
none_at p [] x i h l = absurd (omega arith)
none_at p (f ∷ fs) x zero h l = (neither (p f) (any p fs) h).0
none_at p (f ∷ fs) x (suc i) h l = none_at p fs x i (neither (p f) (any p fs) h).1 (omega arith)

same_turned : (f g : File) → same_file f g ≡ same_file g f
same_turned f g = ap (λ (t : Bool). t && eqb f.rank g.rank) (same-sym f.name g.name) ∙ ap (λ (t : Bool). same_name g f && t) (eqb-sym f.rank g.rank)

position_in : (n : ℕ) (fs : List File) (x : File) (i : ℕ) → doubled fs ≡ false → i < length fs → position_from n (get_or fs i x) fs ≡ n + i
unfolding position_from
position_in n [] x i h l = absurd (omega arith)
position_in n (f ∷ fs) x zero h l = rw (same_itself f) (omega arith)
position_in n (f ∷ fs) x (suc i) h l =
    let (a, b) = neither (any (same_file f) fs) (doubled fs) h in
    let other : same_file (get_or fs i x) f ≡ false = same_turned (get_or fs i x) f ∙ none_at (same_file f) fs x i a (omega arith) in
    rw other (position_in (suc n) fs x i b (omega arith) ∙ omega arith)

pub position_is : (set starts : List ℕ) (n i : ℕ) → n ≤ length starts → doubled (files_at set starts n) ≡ false → i < n → position_from 1 (file_on set starts i) (files_at set starts n) ≡ i + 1
position_is set starts n i r once h =
    let fs = files_at set starts n in
    let there : get_or fs i (file_at set 0) ≡ file_on set starts i = get_or-map (file_at set) (take n starts) i 0 ∙ ap (file_at set) (get_or-take n starts i 0 h) in
    ap (λ (f : File). position_from 1 f fs) (sym there) ∙ position_in 1 fs (file_at set 0) i once (omega (arith, mapped-length (file_at set) starts n r)) ∙ omega arith
