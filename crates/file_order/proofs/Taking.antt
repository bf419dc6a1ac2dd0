-- A file is taken in among those that are in order.
-- Assumes nothing.
use Prim.Native.Nat.{ℕ, zero, suc, ◌+◌, ◌-◌, ◌≤◌, ◌<◌}
use mathlib.Core.Path.{◌≡◌, refl, sym, ap, ap₂, ◌∙◌, subst}
use mathlib.Core.Bool.{Bool, true, false}
use mathlib.Core.List.{List, [], ◌∷◌, ◌++◌, map, append_assoc}
use native.Mathlib.Omega.{arith}
use lib.ListN.{length, take, drop, get_or, length-append, length-drop, take-append-drop}
use lib.Seq.{length-take-le, take-append_seam, take-nil}
use Rattle.lists.specs.Lists.{pick, reject, All}
use Rattle.lists.proofs.Lists.{All-append, All-split}
use Rattle.lists.proofs.Moves.{ap_at}
use Rattle.lists.specs.Bytes.{part}
use Rattle.splice.specs.Moves.{inserted}
use Rattle.files.specs.Files.{File, loses, before, insert, in_order, winners}
use Rattle.file_rows.specs.Places.{file_at, files_at}
use Rattle.file_order.specs.Order.{file_on, chosen, Kept, place_in, TakenIs, WinnersAre}
use Rattle.file_order.proofs.Numbers.{mapped_next, mapped_end}

-- ---- where a file is put

pub insert-place : (f : File) (gs : List File) → insert f gs ≡ take (place_in f gs) gs ++ (f ∷ drop (place_in f gs) gs)
insert-place f [] = refl
insert-place f (g ∷ gs) = at (before f.name g.name) (insert-place f gs)
  where
    at : (t : Bool) → insert f gs ≡ take (place_in f gs) gs ++ (f ∷ drop (place_in f gs) gs)
        → pick t (f ∷ g ∷ gs) (g ∷ insert f gs) ≡ take (pick t 0 (suc (place_in f gs))) (g ∷ gs) ++ (f ∷ drop (pick t 0 (suc (place_in f gs))) (g ∷ gs))
    at true ih = refl
    at false ih = ap (λ (l : List File). g ∷ l) ih

-- the search for it, from place j on
module _ (set starts order : List ℕ) (k : ℕ) (room : k ≤ length order) (f : File) (j : ℕ) where
  abbrev found : List File
  found = chosen set starts order k

  next : j < k → drop j found ≡ file_on set starts (get_or order j 0) ∷ drop (j + 1) found
  next h = mapped_next (file_on set starts) order k room j h

  pub place_here : j < k → before f.name (file_on set starts (get_or order j 0)).name ≡ true → place_in f (drop j found) ≡ 0
  place_here h e = ap (place_in f) (next h) ∙ rw e

  pub place-on : j < k → before f.name (file_on set starts (get_or order j 0)).name ≡ false → j + place_in f (drop j found) ≡ j + 1 + place_in f (drop (j + 1) found)
  place-on h e =
      let behind : place_in f (drop j found) ≡ suc (place_in f (drop (j + 1) found)) = ap (place_in f) (next h) ∙ rw e in
      omega (arith, behind)

  pub place_end : k ≤ j → place_in f (drop j found) ≡ 0
  place_end h = ap (place_in f) (mapped_end (file_on set starts) order k room j h)

-- ---- a number put in there

module _ {A : Type 0} (g : ℕ → A) where
  map-append : (xs ys : List ℕ) → map g (xs ++ ys) ≡ map g xs ++ map g ys
  map-append [] ys = refl
  map-append (x ∷ xs) ys = ap (λ (l : List A). g x ∷ l) (map-append xs ys)

  map-take : (n : ℕ) (xs : List ℕ) → take n (map g xs) ≡ map g (take n xs)
  map-take zero xs = refl
  map-take (suc n) [] = refl
  map-take (suc n) (x ∷ xs) = ap (λ (l : List A). g x ∷ l) (map-take n xs)

  map-drop : (n : ℕ) (xs : List ℕ) → drop n (map g xs) ≡ map g (drop n xs)
  map-drop zero xs = refl
  map-drop (suc n) [] = refl
  map-drop (suc n) (x ∷ xs) = map-drop n xs

take-take : (a b : ℕ) (xs : List ℕ) → a ≤ b → take a (take b xs) ≡ take a xs
take-take zero b xs h = refl
take-take (suc a) zero xs h = absurd (omega arith)
take-take (suc a) (suc b) [] h = refl
take-take (suc a) (suc b) (x ∷ xs) h = ap (λ (l : List ℕ). x ∷ l) (take-take a b xs (omega arith))

drop-take : (a b : ℕ) (xs : List ℕ) → a ≤ b → drop a (take b xs) ≡ take (b - a) (drop a xs)
drop-take zero b xs h = ap_at (λ k. take k xs) b (b - 0) (omega arith)
drop-take (suc a) zero xs h = absurd (omega arith)
drop-take (suc a) (suc b) [] h = sym (take-nil (suc b - suc a))
drop-take (suc a) (suc b) (x ∷ xs) h = drop-take a b xs (omega arith) ∙ ap_at (λ k. take k (drop a xs)) (b - a) (suc b - suc a) (omega arith)

module _ (order : List ℕ) (at k i : ℕ) (a : at ≤ k) (room : k < length order) where
  abbrev order' : List ℕ
  order' = inserted order at k (i ∷ [])

  -- the numbers up to it, it and those behind it
  abbrev front : List ℕ
  front = take at (take k order)

  abbrev behind : List ℕ
  behind = drop at (take k order)

  put_in : take (k + 1) order' ≡ front ++ (i ∷ behind)
  put_in =
      let xs = take at order in
      let ys = i ∷ part order at k in
      let rest = drop (k + 1) order in
      let nx : length xs ≡ at = length-take-le at order (omega arith) in
      let ny : length (part order at k) ≡ k - at = length-take-le (k - at) (drop at order) (omega (arith, length-drop at order)) in
      let n : length (xs ++ ys) ≡ k + 1 = length-append xs ys ∙ omega (arith, nx, ny) in
      ap (take (k + 1)) (sym (append_assoc xs ys rest))
      ∙ ap (λ (m : ℕ). take m ((xs ++ ys) ++ rest)) (sym n)
      ∙ take-append_seam (xs ++ ys) rest
      ∙ ap₂ (λ (x y : List ℕ). x ++ (i ∷ y)) (sym (take-take at k order a)) (sym (drop-take at k order a))

  pub put-kept : (n : ℕ) → Kept n order k → i < n → length order' ≡ length order → Kept n order' (k + 1)
  put-kept n w h l =
      let whole : All (λ (j : ℕ). j < n) (front ++ behind) = subst (All (λ (j : ℕ). j < n)) (sym (take-append-drop at (take k order))) w.numbers in
      let (p, q) = All-split (λ (j : ℕ). j < n) front behind whole in
      record { room = omega arith; numbers = subst (All (λ (j : ℕ). j < n)) (sym put_in) (All-append (λ (j : ℕ). j < n) front (i ∷ behind) p (h, q)) }

  pub put-files : (set starts : List ℕ) → at ≡ place_in (file_on set starts i) (chosen set starts order k)
      → chosen set starts order' (k + 1) ≡ insert (file_on set starts i) (chosen set starts order k)
  put-files set starts e =
      let g = file_on set starts in
      let before = chosen set starts order k in
      ap (map g) put_in
      ∙ map-append g front (i ∷ behind)
      ∙ ap₂ (λ (x y : List File). x ++ (g i ∷ y)) (sym (map-take g at (take k order))) (sym (map-drop g at (take k order)))
      ∙ ap (λ (m : ℕ). take m before ++ (g i ∷ drop m before)) e
      ∙ sym (insert-place (g i) before)

module _ (set starts : List ℕ) (n : ℕ) (order : List ℕ) (k i : ℕ) (w : Kept n order k) where
  abbrev beaten : Bool
  beaten = loses (files_at set starts n) (file_on set starts i)

  pub passed : beaten ≡ true → TakenIs set starts n order k i order k
  passed e = record { few = omega arith; kept = w; files = rw e }

  pub taken : (at : ℕ) (order' : List ℕ) → (at ≡ place_in (file_on set starts i) (chosen set starts order k)) × (at ≤ k) → k < length order → i < n
      → order' ≡ inserted order at k (i ∷ []) → length order' ≡ length order → beaten ≡ false → TakenIs set starts n order k i order' (k + 1)
  taken at order' (p, a) room h e l f =
      subst (λ (x : List ℕ). TakenIs set starts n order k i x (k + 1)) (sym e)
      (record {
        few = omega arith;
        kept = put-kept order at k i a room n w h (ap length (sym e) ∙ l);
        files = put-files order at k i a room set starts p ∙ rw f;
      })

-- ---- all files, from the last to the first

-- of those from number i on, the ones that count are in order
pub record Ordered (set starts : List ℕ) (n : ℕ) (order : List ℕ) (k i : ℕ) : Type 0 where
  pub few : k + i ≤ n
  pub room : n ≤ length order
  pub kept : Kept n order k
  pub files : chosen set starts order k ≡ in_order (reject (loses (files_at set starts n)) (drop i (files_at set starts n)))

pub ordered-none : (set starts : List ℕ) (n : ℕ) (order : List ℕ) → n ≤ length starts → n ≤ length order → Ordered set starts n order 0 n
ordered-none set starts n order r m =
    record {
      few = omega arith;
      room = m;
      kept = record { room = omega arith; numbers = tt };
      files = sym (ap (λ (l : List File). in_order (reject (loses (files_at set starts n)) l)) (mapped_end (file_at set) starts n r n (omega arith)));
    }

-- one more in front of those
one_more : (f : File) (xs : List File) (t : Bool) → pick t (in_order xs) (insert f (in_order xs)) ≡ in_order (pick t xs (f ∷ xs))
one_more f xs true = refl
one_more f xs false = refl

pub ordered-next : (set starts : List ℕ) (n : ℕ) (order : List ℕ) (k i : ℕ) → n ≤ length starts → Ordered set starts n order k i → 0 < i
    → (order' : List ℕ) (k' : ℕ) → length order' ≡ length order → TakenIs set starts n order k (i - 1) order' k' → Ordered set starts n order' k' (i - 1)
ordered-next set starts n order k i r w h order' k' l t =
    let all = files_at set starts n in
    let f = file_on set starts (i - 1) in
    let xs = reject (loses all) (drop i all) in
    let split : drop (i - 1) all ≡ f ∷ drop i all
    = mapped_next (file_at set) starts n r (i - 1) (omega (arith, w.few)) ∙ ap_at (λ j. f ∷ drop j all) (i - 1 + 1) i (omega arith) in
    record {
      few = omega (arith, t.few, w.few);
      room = omega (arith, w.room);
      kept = t.kept;
      files = t.files ∙ ap (λ (x : List File). pick (loses all f) x (insert f x)) w.files ∙ one_more f xs (loses all f) ∙ sym (ap (λ (x : List File). in_order (reject (loses all) x)) split);
    }

pub ordered-all : (set starts : List ℕ) (n : ℕ) (order : List ℕ) (k i : ℕ) → Ordered set starts n order k i → i ≡ 0 → WinnersAre set starts n order k
unfolding winners
ordered-all set starts n order k i w z =
    let all = files_at set starts n in
    record { few = omega (arith, w.few); kept = w.kept; files = w.files ∙ ap (λ (j : ℕ). in_order (reject (loses all) (drop j all))) z }
