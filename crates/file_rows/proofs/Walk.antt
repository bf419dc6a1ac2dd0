-- The walk that finds the places of the files of a set.
-- Assumes nothing.
use Prim.Native.Nat.{ℕ, ◌+◌, ◌-◌, ◌≤◌, ◌<◌}
use mathlib.Core.Path.{◌≡◌, refl, sym, ap, ◌∙◌, subst}
use mathlib.Core.Bool.{Bool, true, false}
use mathlib.Core.List.{List, [], ◌∷◌, ◌++◌, map, append_assoc, append-nil}
use Rattle.std.specs.Prelude.{None, Some}
use native.Mathlib.Omega.{arith}
use native.Mathlib.Numerals.{add-one}
use borrow.Author.Tests.{ltb-true, ltb-false, eq-eqb, ne_eqb}
use lib.Dec.{ltb}
use lib.ListN.{length, take, drop, get_or, set, length-set}
use lib.Seq.{take-suc, take-set-le, get_or-set_same, get_or-set_other}
use Rattle.lists.specs.Lists.{is_some}
use Rattle.lists.proofs.Lists.{is-some, is_none}
use Rattle.lists.proofs.Moves.{ap_at}
use Rattle.entries.specs.Parse.{got, bad, many}
use Rattle.files.specs.Files.{File, most_files, one_file, decode_files}
use Rattle.set_rows.proofs.Walk as walk
use Rattle.set_rows.proofs.Walk.{is_whole}
use Rattle.file_rows.specs.Places.{file_at, Stands, FileIs, files_at, AllStand, FilesIn}

-- i of n places are found, and the next file begins at p
pub record Found (bytes starts : List ℕ) (p i n : ℕ) : Type 0 where
  pub within : p ≤ length bytes
  pub few : i ≤ n
  pub most : n ≤ most_files
  pub room : length starts ≡ most_files
  pub stand : AllStand bytes starts i
  pub whole : is_whole one_file (n - i) (drop p bytes) ≡ is_some (decode_files bytes)
  pub left : (fs : List File) → decode_files bytes ≡ Some fs → (gs : List File) × (fs ≡ files_at bytes starts i ++ gs) × (many one_file (n - i) (drop p bytes) ≡ got gs [])

pub found_first : (bytes starts : List ℕ) (n : ℕ) → 1 ≤ length bytes → n ≡ get_or bytes 0 0 → n ≤ most_files → length starts ≡ most_files → Found bytes starts 1 0 n
found_first bytes starts n h e m r =
    record {
      within = h;
      few = omega arith;
      most = m;
      room = r;
      stand = λ i l. absurd (omega arith);
      whole = ap_at (λ k. is_whole one_file k (drop 1 bytes)) (n - 0) (get_or bytes 0 0) (omega arith) ∙ sym (walk.set-begins one_file 0 most_files bytes h (omega arith) (omega arith));
      left = λ fs d. (fs, refl, ap_at (λ k. many one_file k (drop 1 bytes)) (n - 0) (get_or bytes 0 0) (omega arith) ∙ (walk.set_read_lem one_file 0 most_files bytes fs d).read);
    }

module _ (bytes starts : List ℕ) (p i n : ℕ) (w : Found bytes starts p i n) (more : i < n) where
  pub found-bad : one_file (drop p bytes) ≡ bad → decode_files bytes ≡ None
  found-bad e = is_none (decode_files bytes) (sym w.whole ∙ walk.turn-bad one_file (n - i) (drop p bytes) (omega arith) e)

  module _ (q : ℕ) (is : FileIs bytes p q) where
    abbrev after : List ℕ
    after = set starts i p

    put : take (i + 1) after ≡ take i starts ++ (p ∷ [])
    put =
        ap (λ (k : ℕ). take k after) (add-one i)
        ∙ take-suc after i 0 (omega (arith, length-set starts i p))
        ∙ ap (λ (x : List ℕ). x ++ (get_or after i 0 ∷ [])) (take-set-le i starts i p (omega arith))
        ∙ ap (λ (k : ℕ). take i starts ++ (k ∷ [])) (get_or-set_same starts i p 0 (omega arith))

    map_snoc : (xs : List ℕ) → map (file_at bytes) (xs ++ (p ∷ [])) ≡ map (file_at bytes) xs ++ (file_at bytes p ∷ [])
    map_snoc [] = refl
    map_snoc (x ∷ xs) = ap (λ (l : List File). file_at bytes x ∷ l) (map_snoc xs)

    files-put : files_at bytes after (i + 1) ≡ files_at bytes starts i ++ (file_at bytes p ∷ [])
    files-put = ap (map (file_at bytes)) put ∙ map_snoc (take i starts)

    stands_put : AllStand bytes after (i + 1)
    stands_put k l = at (ltb k i) refl
      where
        at : (t : Bool) → ltb k i ≡ t → Stands bytes (get_or after k 0)
        at true e = let u = ltb-true k i e in subst (Stands bytes) (sym (get_or-set_other starts i k p 0 (λ (x : k ≡ i). absurd (omega arith)))) (w.stand k u)
        at false e =
            let u = ltb-false k i e in
            let same : k ≡ i = omega arith in
            subst (Stands bytes) (sym (ap (λ (j : ℕ). get_or after j 0) same ∙ get_or-set_same starts i p 0 (omega arith))) is.stands

    pub found-next : Found bytes after q (i + 1) n
    found-next =
        record {
          within = is.within;
          few = omega arith;
          most = w.most;
          room = length-set starts i p ∙ w.room;
          stand = stands_put;
          whole = ap_at (λ k. is_whole one_file k (drop q bytes)) (n - (i + 1)) (n - i - 1) (omega arith)
              ∙ sym (walk.turn-whole one_file (n - i) (drop p bytes) (drop q bytes) (file_at bytes p) (omega arith) is.read) ∙ w.whole;
          left = λ fs d.
              let (gs, e, m) = w.left fs d in
              let t = walk.turn one_file (n - i) (drop p bytes) (drop q bytes) (file_at bytes p) gs [] (omega arith) is.read m in (
                t.others,
                e ∙ ap (λ (x : List File). files_at bytes starts i ++ x) t.split ∙ sym (append_assoc (files_at bytes starts i) (file_at bytes p ∷ []) t.others) ∙ ap (λ (x : List File). x ++ t.others) (sym files-put),
                ap_at (λ k. many one_file k (drop q bytes)) (n - (i + 1)) (n - i - 1) (omega arith) ∙ t.read,
              );
        }

module _ (bytes starts : List ℕ) (p i n : ℕ) (w : Found bytes starts p i n) (done : n ≤ i) where
  ended : p ≡ length bytes → is_some (decode_files bytes) ≡ true
  ended e = sym w.whole ∙ walk.end_whole one_file bytes p (n - i) (omega arith) w.within ∙ eq-eqb p (length bytes) e

  pub found-behind : (p ≡ length bytes → ⊥) → decode_files bytes ≡ None
  found-behind e = is_none (decode_files bytes) (sym w.whole ∙ walk.end_whole one_file bytes p (n - i) (omega arith) w.within ∙ ne_eqb p (length bytes) e)

  pub found_all : p ≡ length bytes → FilesIn bytes starts n
  found_all e =
      let (fs, d) = is-some (decode_files bytes) (ended e) in
      let (gs, f, m) = w.left fs d in
      let none_left : many one_file 0 (drop p bytes) ≡ got gs [] = ap_at (λ k. many one_file k (drop p bytes)) 0 (n - i) (omega arith) ∙ m in
      let empty : [] ≡ gs = cc in
      let same : i ≡ n = omega (arith, w.few) in
      record {
        few = w.most;
        stand = λ k l. w.stand k (omega arith);
        files = d ∙ ap Some (f ∙ ap (λ (x : List File). files_at bytes starts i ++ x) (sym empty) ∙ append-nil (files_at bytes starts i) ∙ ap (files_at bytes starts) same);
      }
