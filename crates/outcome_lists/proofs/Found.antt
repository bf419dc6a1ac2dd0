-- An entry of a row in the target, found by its name and taken out.
-- Assumes nothing.
use Prim.Native.Nat.{ℕ, suc, ◌+◌, ◌-◌, ◌≤◌}
use mathlib.Core.Path.{◌≡◌, refl, sym, ap, ap₂, ◌∙◌, subst}
use mathlib.Core.Bool.{Bool, true, false}
use Rattle.std.specs.Prelude.{Ok, Err}
use mathlib.Core.List.{List, [], ◌∷◌, ◌++◌, map, append-nil}
use native.Mathlib.Omega.{arith}
use lib.ListN.{length, drop, length-append}
use Rattle.lists.specs.Lists.{all, cat, reject}
use Rattle.lists.specs.Bytes.{same_bytes, among, distinct}
use Rattle.lists.specs.Sizes.{fullest_outcome}
use Rattle.lists.proofs.Tests.{and_both}
use Rattle.lists.proofs.Lists.{all_split, cat-append}
use Rattle.lists.proofs.Edits.{reject-none, reject-one}
use Rattle.bits.specs.Bits.{number_at}
use Rattle.rows.specs.Entry.{head_len}
use Rattle.rows.specs.Row.{find_in}
use Rattle.rows.specs.declared.Kind.{Kind}
use Rattle.rows.specs.declared.Found.{Found}
use Rattle.rows.proofs.Search.{Written, Among, found_among, missing_among}
use Rattle.outcome.specs.State.{State, Good}
use Rattle.outcome_target.specs.Layout.{start_of, end_of, count_place, count_width, Rising}
use Rattle.outcome_target.specs.Held.{Held}
use Rattle.outcome_target.specs.declared.Layout.{Layout}
use Rattle.outcome_target.specs.declared.Section.{Section}
use Rattle.outcome_target.proofs.Facts.{behind, held-rising, held-size}
use Rattle.outcome_target.proofs.Rows.{RowOf, row-end, row_count, row-bytes}
use Rattle.row_edits.specs.Edits.{Cut}
use Rattle.row_edits.proofs.Held.{cut_held}

-- what a cut of the entry that was found asks
pub record Cuts (lay : Layout) (part : Section) (room : ℕ) (f : Found) : Type 0 where
  pub rising : Rising lay
  pub over : f.at ≤ f.value + f.len
  pub within : f.at + (f.value + f.len - f.at) ≤ end_of lay part
  pub end : lay.end ≤ room
  pub most : lay.end ≤ fullest_outcome

-- the size of an entry by its parts
entry-size : {A : Type 0} {kind : Kind} {enc nm rs : A → List ℕ} {ok : A → Bool} → Written A kind enc nm rs ok → (a : A) → ok a ≡ true → length (enc a) ≡ head_len kind + length (nm a) + length (rs a)
entry-size {enc = enc} W a k = let s = W.sized a [] k in let m = W.names a [] k in let r = W.rests a [] k in omega arith

module _ {A : Type 0} {part : Section} {enc : A → List ℕ} {list : State → List A} {anew : State → List A → State} (T : RowOf A part enc list anew)
    {kind : Kind} {nm rs : A → List ℕ} {ok : A → Bool} (W : Written A kind enc nm rs ok)
    (n : ℕ) (l : List ℕ) (lay : Layout) (s : State) (w : Held n l lay s) (each : all ok (list s) ≡ true) (apart : distinct (map nm (list s)) ≡ true)
    (x : List ℕ) (at count : ℕ) (start : at ≡ start_of lay part) (number : count ≡ number_at l (count_place part) (count_width part)) where
  search_is : find_in kind x at count (drop at l) ≡ find_in kind x at (length (list s)) (cat enc (list s) ++ behind n l lay s w T.frame)
  search_is =
      ap (λ (i : ℕ). find_in kind x at i (drop at l)) (number ∙ row_count T n l lay s w)
      ∙ ap (find_in kind x at (length (list s))) (ap (λ (i : ℕ). drop i l) start ∙ row-bytes T n l lay s w)

  -- nothing has the name
  pub found_missing : (p : ℕ) → find_in kind x at count (drop at l) ≡ Err p → among x (map nm (list s)) ≡ false
  found_missing p e = (missing_among W x (list s) at p (behind n l lay s w T.frame) each (sym search_is ∙ e)).0

  pub missing_kept : (p : ℕ) → find_in kind x at count (drop at l) ≡ Err p → list s ≡ reject (λ y. same_bytes (nm y) x) (list s)
  missing_kept p e = sym (reject-none nm x (list s) (found_missing p e))

  module _ (f : Found) (e : find_in kind x at count (drop at l) ≡ Ok f) where
    pub entry_found : Among A kind enc nm rs x (list s) at f
    entry_found = found_among W x (list s) at f (behind n l lay s w T.frame) each (sym search_is ∙ e)

    pub entry-ok : (i : Among A kind enc nm rs x (list s) at f) → ok i.entry ≡ true
    entry-ok i = (and_both (ok i.entry) (all ok i.after) (all_split ok i.before (i.entry ∷ i.after) (ap (all ok) (sym i.whole) ∙ each)).1).0

    size_is : (i : Among A kind enc nm rs x (list s) at f) → f.value + f.len - f.at ≡ length (cat enc (i.entry ∷ []))
    size_is i = omega (arith, i.value, i.size, entry-size W i.entry (entry-ok i), length-append (enc i.entry) [])

    row-size : (i : Among A kind enc nm rs x (list s) at f) → length (cat enc (list s)) ≡ length (cat enc i.before) + (length (enc i.entry) + length (cat enc i.after))
    row-size i =
        ap (λ (y : List A). length (cat enc y)) i.whole
        ∙ ap length (cat-append enc i.before (i.entry ∷ i.after))
        ∙ length-append (cat enc i.before) (enc i.entry ++ cat enc i.after)
        ∙ ap (λ (j : ℕ). length (cat enc i.before) + j) (length-append (enc i.entry) (cat enc i.after))

    pub found-cuts : Cuts lay part (length l) f
    found-cuts =
        let i = entry_found in
        let z = entry-size W i.entry (entry-ok i) in
        let q = row-size i in
        let r = row-end T n l lay s w in
        let h = held-size n l lay s w in
        record {
          rising = held-rising n l lay s w;
          over = omega (arith, i.value);
          within = omega (arith, i.value, i.size, i.place);
          end = h.1;
          most = h.0;
        }

    -- there is one
    pub found-more : 1 ≤ count
    found-more =
        let i = entry_found in
        omega (arith, number, row_count T n l lay s w, ap length i.whole, length-append i.before (i.entry ∷ i.after))

    pub found-held : (l' : List ℕ) (lay' : Layout) → length l' ≡ length l → Cut l lay part f.at (f.value + f.len - f.at) (count - 1) l' lay'
        → Good n (anew s (reject (λ y. same_bytes (nm y) x) (list s))) → Held n l' lay' (anew s (reject (λ y. same_bytes (nm y) x) (list s)))
    found-held l' lay' same c good =
        let i = entry_found in
        let out : List A = i.before ++ i.after in
        let o : reject (λ y. same_bytes (nm y) x) (list s) ≡ out =
        ap (reject (λ y. same_bytes (nm y) x)) i.whole
        ∙ reject-one nm x i.before i.entry i.after i.first i.same (ap (λ (y : List A). distinct (map nm y)) (sym i.whole) ∙ apart)
        in
        let m : count - 1 ≡ length out =
        omega (arith, number, row_count T n l lay s w, ap length i.whole, length-append i.before (i.entry ∷ i.after), length-append i.before i.after)
        in
        subst (λ (y : List A). Held n l' lay' (anew s y)) (sym o)
        (cut_held T n l lay s w l' lay' same i.before (i.entry ∷ []) i.after f.at (f.value + f.len - f.at) (count - 1) i.whole
        (i.place ∙ ap (λ (j : ℕ). j + length (cat enc i.before)) start)
        (size_is i) m c (subst (λ (y : List A). Good n (anew s y)) o good))
