-- A held record whose row has grown by an entry or lost some is held again.
-- Assumes nothing.
use Prim.Native.Nat.{ℕ, ◌+◌, ◌≤◌}
use mathlib.Core.Path.{◌≡◌, refl, sym, ap, ap₂, ◌∙◌, subst}
use mathlib.Core.List.{List, [], ◌∷◌, ◌++◌, append-nil, append_assoc}
use native.Mathlib.Omega.{arith}
use lib.ListN.{length, length-append}
use Rattle.lists.specs.Lists.{cat}
use Rattle.lists.specs.Sizes.{fullest_outcome}
use Rattle.lists.proofs.Lists.{cat-append}
use Rattle.bits.specs.Bits.{put_at}
use Rattle.splice.specs.Moves.{inserted, removed, padded}
use Rattle.entries.proofs.Heads.{place_of, width_of}
use Rattle.outcome.specs.Head.{fields, header_size, header}
use Rattle.outcome.specs.State.{State, Good, head_for, encode}
use Rattle.outcome.proofs.Head.{header-length}
use Rattle.outcome.proofs.Fits.{fits}
use Rattle.outcome_target.specs.Layout.{layout_of, start_of, end_of, moved_by, count_place, count_width, Rising}
use Rattle.outcome_target.specs.Held.{Held}
use Rattle.outcome_target.specs.declared.Layout.{Layout}
use Rattle.outcome_target.specs.declared.Section.{Section}
use Rattle.outcome_target.proofs.Edits.{by_part, layout_end, count_kept}
use Rattle.outcome_target.proofs.Facts.{held-rising}
use Rattle.outcome_target.proofs.Rows.{RowOf, row-start, row-end}
use Rattle.outcome_target.proofs.Changes.{part-removed, part-inserted}
use Rattle.row_edits.specs.Edits.{Grown, Cut}

-- the length of a record by its parts
laid_size : (h f m b e : List ℕ) → length h ≡ header_size → m ≡ e → length (h ++ (f ++ (m ++ b))) ≡ header_size + (length f + (length e + length b))
laid_size h f m b e k q = rw q (simp length-append (omega arith))

-- what an entry needs behind the last of a row
pub record Room (lay : Layout) (room k : ℕ) : Type 0 where
  pub rising : Rising lay
  pub fits : lay.end + k ≤ room
  pub most : lay.end + k ≤ fullest_outcome

module _ {A : Type 0} {part : Section} {enc : A → List ℕ} {list : State → List A} {anew : State → List A → State} (T : RowOf A part enc list anew)
    (n : ℕ) (l : List ℕ) (lay : Layout) (s : State) (w : Held n l lay s) where
  -- there is room for it where the state with it may stand in a record
  pub grown_room : (x : A) → Good n (anew s (list s ++ (x ∷ []))) → Room lay (length l) (length (enc x))
  grown_room x good =
      let xs : List A = list s ++ (x ∷ []) in
      let h : ℕ = length (T.frame.front s) in
      let b : ℕ = length (T.frame.back s) in
      let old : lay.end ≡ header_size + (h + (length (cat enc (list s)) + b)) =
      ap (λ (j : Layout). j.end) w.layout
      ∙ layout_end s
      ∙ ap length (by_part T.frame s)
      ∙ laid_size (header (head_for s)) (T.frame.front s) (T.frame.bytes (T.frame.get s)) (T.frame.back s) (cat enc (list s)) (header-length (head_for s))
      (T.written (T.frame.get s) ∙ ap (cat enc) (T.gets s))
      in
      let new : length (encode (anew s xs)) ≡ header_size + (h + (length (cat enc xs) + b)) =
      ap (λ (j : State). length (encode j)) (sym (T.puts s xs))
      ∙ ap length (T.frame.laid s xs)
      ∙ laid_size (header (head_for (T.frame.put s xs))) (T.frame.front s) (T.frame.bytes xs) (T.frame.back s) (cat enc xs) (header-length (head_for (T.frame.put s xs))) (T.written xs)
      in
      let more : length (cat enc xs) ≡ length (cat enc (list s)) + length (enc x) =
      ap length (cat-append enc (list s) (x ∷ []) ∙ ap (λ (y : List ℕ). cat enc (list s) ++ y) (append-nil (enc x)))
      ∙ length-append (cat enc (list s)) (enc x)
      in
      let f : length (encode (anew s xs)) ≤ fullest_outcome = fits n (anew s xs) good in
      let r : fullest_outcome ≤ length l = w.room in
      record { rising = held-rising n l lay s w; fits = omega arith; most = omega arith }

module _ {A : Type 0} {part : Section} {enc : A → List ℕ} {list : State → List A} {anew : State → List A → State} (T : RowOf A part enc list anew)
    (n : ℕ) (l : List ℕ) (lay : Layout) (s : State) (w : Held n l lay s) (l' : List ℕ) (lay' : Layout) (same : length l' ≡ length l) where
  -- the bytes of the row
  whole : T.frame.bytes (T.frame.get s) ≡ cat enc (list s)
  whole = T.written (T.frame.get s) ∙ ap (cat enc) (T.gets s)

  put_good : (xs : List A) → Good n (anew s xs) → Good n (T.frame.put s xs)
  put_good xs g = subst (Good n) (sym (T.puts s xs)) g

  -- the header's field in its place, with another number
  counted : (u : List ℕ) (xs : List A) (m : ℕ) → m ≡ length xs → l' ≡ put_at u (count_place part) (count_width part) m
      → l' ≡ put_at u (place_of T.number (fields (head_for s))) (width_of T.number (fields (head_for s))) (T.frame.count xs)
  counted u xs m e c =
      c
      ∙ ap₂ (λ (i j : ℕ). put_at u i j m) (sym (T.place (head_for s))) (sym (T.width (head_for s)))
      ∙ ap (put_at u (place_of T.number (fields (head_for s))) (width_of T.number (fields (head_for s)))) (e ∙ sym (T.counts xs))

  -- an entry behind the last
  pub grown_held : (x : A) (m : ℕ) → m ≡ length (list s) + 1 → Grown l lay part m (enc x) l' lay' → Good n (anew s (list s ++ (x ∷ []))) → Held n l' lay' (anew s (list s ++ (x ∷ [])))
  grown_held x m e g good =
      let xs : List A = list s ++ (x ∷ []) in
      let a : List ℕ = cat enc (list s) in
      let k : m ≡ length xs = e ∙ sym (length-append (list s) (x ∷ [])) in
      subst (λ (j : Layout). Held n l' j (anew s xs)) (sym g.layout)
      (subst (Held n l' (moved_by lay part 0 (length (enc x)))) (T.puts s xs)
      (part-inserted n l lay s w T.frame a [] (enc x) [] xs
      (whole ∙ sym (append-nil a))
      (T.written xs ∙ cat-append enc (list s) (x ∷ []))
      (put_good xs good)
      (end_of lay part)
      (row-end T n l lay s w ∙ ap (λ (i : ℕ). i + length a) (row-start T n l lay s w))
      (inserted l (end_of lay part) lay.end (enc x))
      g.between
      l'
      (counted (inserted l (end_of lay part) lay.end (enc x)) xs m k g.bytes)
      same
      refl
      refl))

  -- the entries g between a and b taken out
  pub cut_held : (a g b : List A) (at k m : ℕ) → list s ≡ a ++ (g ++ b) → at ≡ start_of lay part + length (cat enc a) → k ≡ length (cat enc g) → m ≡ length (a ++ b)
      → Cut l lay part at k m l' lay' → Good n (anew s (a ++ b)) → Held n l' lay' (anew s (a ++ b))
  cut_held a g b at k m e p q c t good =
      let xs : List A = a ++ b in
      let p₀ : at ≡ header_size + length (T.frame.front s) + length (cat enc a) = p ∙ ap (λ (i : ℕ). i + length (cat enc a)) (row-start T n l lay s w) in
      subst (λ (j : Layout). Held n l' j (anew s xs)) (sym (t.layout ∙ ap (λ (i : ℕ). moved_by lay part i 0) q))
      (subst (Held n l' (moved_by lay part (length (cat enc g)) 0)) (T.puts s xs)
      (part-removed n l lay s w T.frame (cat enc a) (cat enc g) [] (cat enc b) xs
      (whole ∙ ap (cat enc) e ∙ cat-append enc a (g ++ b) ∙ ap (λ (y : List ℕ). cat enc a ++ y) (cat-append enc g b))
      (T.written xs ∙ cat-append enc a b)
      (put_good xs good)
      at
      p₀
      (removed l at lay.end k)
      t.between
      l'
      (counted (removed l at lay.end k) xs m c t.bytes)
      same
      refl
      (ap (removed l at lay.end) q)))

-- ---- one entry in the place of another

module _ {A : Type 0} {part : Section} {enc : A → List ℕ} {list : State → List A} {anew : State → List A → State} (T : RowOf A part enc list anew) (s : State) where
  -- what stands before the entries behind a, and behind those before b
  abbrev pub ahead : List A → List ℕ
  ahead a = header (head_for s) ++ (T.frame.front s ++ cat enc a)

  abbrev pub after : List A → List ℕ
  after b = cat enc b ++ T.frame.back s

  module _ (n : ℕ) (l : List ℕ) (lay : Layout) (w : Held n l lay s) (a : List A) (g : A) (b : List A) (e : list s ≡ a ++ (g ∷ b)) where
    row_is : T.frame.bytes (T.frame.get s) ≡ cat enc a ++ (enc g ++ cat enc b)
    row_is = T.written (T.frame.get s) ∙ ap (cat enc) (T.gets s ∙ e) ∙ cat-append enc a (g ∷ b)

    pub entry_around : l ≡ padded (length l) (ahead a ++ (enc g ++ after b))
    entry_around =
        let x : encode s ≡ ahead a ++ (enc g ++ after b) =
        by_part T.frame s ∙ ap (λ (m : List ℕ). header (head_for s) ++ (T.frame.front s ++ (m ++ T.frame.back s))) row_is ∙ simp append_assoc
        in
        w.bytes ∙ ap (padded (length l)) x

    pub entry-start : length (ahead a) ≡ start_of lay part + length (cat enc a)
    entry-start = simp length-append (omega (arith, header-length (head_for s), row-start T n l lay s w))

    pub entry-end : length (ahead a) + length (enc g) + length (after b) ≡ lay.end
    entry-end =
        let x : lay.end ≡ header_size + (length (T.frame.front s) + (length (cat enc a ++ (enc g ++ cat enc b)) + length (T.frame.back s))) =
        ap (λ (j : Layout). j.end) w.layout
        ∙ layout_end s
        ∙ ap length (by_part T.frame s)
        ∙ laid_size (header (head_for s)) (T.frame.front s) (T.frame.bytes (T.frame.get s)) (T.frame.back s) (cat enc a ++ (enc g ++ cat enc b)) (header-length (head_for s)) row_is
        in
        simp length-append
        (omega (arith, header-length (head_for s), length-append (cat enc a) (enc g ++ cat enc b), length-append (enc g) (cat enc b)))

    module _ (y : A) (good : Good n (anew s (a ++ (y ∷ b)))) where
      -- there is room for it
      pub exchanged_room : lay.end + length (enc y) ≤ fullest_outcome + length (enc g)
      exchanged_room =
          let xs : List A = a ++ (y ∷ b) in
          let new : length (encode (anew s xs)) ≡ header_size + (length (T.frame.front s) + (length (cat enc a ++ (enc y ++ cat enc b)) + length (T.frame.back s))) =
          ap (λ (j : State). length (encode j)) (sym (T.puts s xs))
          ∙ ap length (T.frame.laid s xs)
          ∙ laid_size (header (head_for (T.frame.put s xs))) (T.frame.front s) (T.frame.bytes xs) (T.frame.back s) (cat enc a ++ (enc y ++ cat enc b)) (header-length (head_for (T.frame.put s xs)))
          (T.written xs ∙ cat-append enc a (y ∷ b))
          in
          let f : length (encode (anew s xs)) ≤ fullest_outcome = fits n (anew s xs) good in
          omega (arith, entry-end, entry-start, row-start T n l lay s w, length-append (cat enc b) (T.frame.back s), length-append (cat enc a) (enc y ++ cat enc b), length-append (enc y) (cat enc b))

      pub exchanged_held : (l' : List ℕ) → length l' ≡ length l → l' ≡ padded (length l) (ahead a ++ (enc y ++ after b))
          → Held n l' (moved_by lay part (length (enc g)) (length (enc y))) (anew s (a ++ (y ∷ b)))
      exchanged_held l' same u =
          let xs : List A = a ++ (y ∷ b) in
          let k : T.frame.count xs ≡ T.frame.count (T.frame.get s) =
          T.counts xs ∙ length-append a (y ∷ b) ∙ sym (length-append a (g ∷ b)) ∙ sym (ap length e) ∙ sym (ap length (T.gets s)) ∙ sym (T.counts (T.frame.get s))
          in
          subst (λ (j : Layout). Held n l' (moved_by j part (length (enc g)) (length (enc y))) (anew s xs)) (sym w.layout)
          (subst (Held n l' (moved_by (layout_of s) part (length (enc g)) (length (enc y)))) (T.puts s xs)
          (count_kept T.frame s (cat enc a) (enc g) (enc y) (cat enc b) xs row_is (T.written xs ∙ cat-append enc a (y ∷ b)) n (length l)
          (subst (Good n) (sym (T.puts s xs)) good) w.room l' u k same))
