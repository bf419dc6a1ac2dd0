-- One entry of a row in the places that code has, and a turn of each loop over a row.
-- Assumes nothing.
use Prim.Native.Nat.{ℕ, zero, suc, ◌+◌, ◌-◌, ◌≤◌, ◌<◌}
use mathlib.Core.Path.{◌≡◌, refl, sym, ap, ap₂, ◌∙◌, subst}
use mathlib.Core.Bool.{Bool, true, false, not, ◌&&◌, ◌||◌}
use mathlib.Core.List.{List}
use native.Mathlib.Nat.{not-suc-le-zero}
use native.Mathlib.Omega.{arith}
use lib.ListN.{length, take, drop, length-drop}
use lib.Seq.{drop-drop}
use borrow.Author.Tests.{le-leb, lt-leb}
use Rattle.lists.specs.Lists.{pick}
use Rattle.lists.specs.Bytes.{same_bytes, among, distinct}
use Rattle.lists.proofs.Moves.{ap_at}
use Rattle.rows.specs.Entry.{head_len, name_len, rest_len, size, name, rest, Placed}
use Rattle.std.specs.Prelude.{None, leb}
use Rattle.rows.specs.Row.{Row, names, find_in, end_in, passed_end}
use Rattle.rows.specs.declared.Kind.{Kind}
use Rattle.rows.specs.declared.Entry.{Entry}
use Rattle.std.specs.Prelude.{Ok, is_ok}

-- ---- one entry

-- its parts
module _ (kind : Kind) (l : List ℕ) (p : ℕ) (e : Entry) (w : Placed kind l p e) where
  pub place_end : e.end ≡ p + size kind (drop p l)
  place_end = omega (arith, w.start, w.middle, w.end)

  pub place-name : take (e.rest - e.name) (drop e.name l) ≡ name kind (drop p l)
  place-name =
      ap₂ (λ (i j : ℕ). take i (drop j l)) (let n : e.rest - e.name ≡ name_len kind (drop p l) = omega (arith, w.middle) in n) w.start
      ∙ ap (take (name_len kind (drop p l))) (sym (drop-drop (head_len kind) p l))

  pub place_rest : take (e.end - e.rest) (drop e.rest l) ≡ rest kind (drop p l)
  place_rest =
      ap₂ (λ (i j : ℕ). take i (drop j l))
      (let n : e.end - e.rest ≡ rest_len kind (drop p l) = omega (arith, w.end) in n)
      (let n : e.rest ≡ p + (head_len kind + name_len kind (drop p l)) = omega (arith, w.start, w.middle) in n)
      ∙ ap (take (rest_len kind (drop p l))) (sym (drop-drop (head_len kind + name_len kind (drop p l)) p l))

  pub place-next : drop e.end l ≡ drop (size kind (drop p l)) (drop p l)
  place-next = ap (λ (i : ℕ). drop i l) place_end ∙ sym (drop-drop (size kind (drop p l)) p l)

-- ---- one entry of a row

pub row_first : (kind : Kind) (left : ℕ) (bs : List ℕ) → 0 < left → Row kind left bs → size kind bs ≤ length bs
row_first kind zero bs h r = absurd (not-suc-le-zero h)
row_first kind (suc n) bs h r = r.0

row-others : (kind : Kind) (left : ℕ) (bs : List ℕ) → 0 < left → Row kind left bs → Row kind (left - 1) (drop (size kind bs) bs)
row-others kind zero bs h r = absurd (not-suc-le-zero h)
row-others kind (suc n) bs h r = subst (λ (i : ℕ). Row kind i (drop (size kind bs) bs)) (let e : n ≡ suc n - 1 = omega arith in e) r.1

find_first : (kind : Kind) (x : List ℕ) (at left : ℕ) (bs : List ℕ) → 0 < left
    → find_in kind x at left bs
    ≡ pick (same_bytes (name kind bs) x) (Ok (record { at = at; value = at + head_len kind + name_len kind bs; len = rest_len kind bs })) (find_in kind x (at + size kind bs) (left - 1) (drop (size kind bs) bs))
find_first kind x at zero bs h = absurd (not-suc-le-zero h)
find_first kind x at (suc n) bs h =
    ap_at (λ i. pick (same_bytes (name kind bs) x) (Ok (record { at = at; value = at + head_len kind + name_len kind bs; len = rest_len kind bs })) (find_in kind x (at + size kind bs) i (drop (size kind bs) bs))) n (suc n - 1) (omega arith)

distinct-first : (kind : Kind) (left : ℕ) (bs : List ℕ) → 0 < left
    → distinct (names kind left bs)
    ≡ not (among (name kind bs) (names kind (left - 1) (drop (size kind bs) bs))) && distinct (names kind (left - 1) (drop (size kind bs) bs))
distinct-first kind zero bs h = absurd (not-suc-le-zero h)
distinct-first kind (suc n) bs h =
    ap_at (λ i. not (among (name kind bs) (names kind i (drop (size kind bs) bs))) && distinct (names kind i (drop (size kind bs) bs))) n (suc n - 1) (omega arith)

end-first : (kind : Kind) (at left : ℕ) (bs : List ℕ) → 0 < left → end_in kind at left bs ≡ end_in kind (at + size kind bs) (left - 1) (drop (size kind bs) bs)
end-first kind at zero bs h = absurd (not-suc-le-zero h)
end-first kind at (suc n) bs h = ap_at (λ i. end_in kind (at + size kind bs) i (drop (size kind bs) bs)) n (suc n - 1) (omega arith)

-- ---- a turn

module _ (kind : Kind) (l : List ℕ) (p left : ℕ) (e : Entry) (w : Placed kind l p e) (h : 0 < left) where
  pub row-turn : Row kind left (drop p l) → Row kind (left - 1) (drop e.end l)
  row-turn r = subst (Row kind (left - 1)) (sym (place-next kind l p e w)) (row-others kind left (drop p l) h r)

  find_turn : (x : List ℕ)
      → find_in kind x p left (drop p l)
      ≡ pick (same_bytes (take (e.rest - e.name) (drop e.name l)) x) (Ok (record { at = p; value = e.rest; len = e.end - e.rest })) (find_in kind x e.end (left - 1) (drop e.end l))
  find_turn x =
      let a : p + head_len kind + name_len kind (drop p l) ≡ e.rest = omega (arith, w.start, w.middle) in
      let b : rest_len kind (drop p l) ≡ e.end - e.rest = omega (arith, w.end) in
      find_first kind x p left (drop p l) h
      ∙ rw (sym (place_end kind l p e w), sym (place-next kind l p e w), sym (place-name kind l p e w), a, b)

  pub find_here : (x : List ℕ) → same_bytes (take (e.rest - e.name) (drop e.name l)) x ≡ true → find_in kind x p left (drop p l) ≡ Ok (record { at = p; value = e.rest; len = e.end - e.rest })
  find_here x t = find_turn x ∙ rw t

  pub find_next : (x : List ℕ) → same_bytes (take (e.rest - e.name) (drop e.name l)) x ≡ false
      → find_in kind x p left (drop p l) ≡ find_in kind x e.end (left - 1) (drop e.end l)
  find_next x t = find_turn x ∙ rw t

  distinct-turn :
      distinct (names kind left (drop p l))
      ≡ not (among (take (e.rest - e.name) (drop e.name l)) (names kind (left - 1) (drop e.end l))) && distinct (names kind (left - 1) (drop e.end l))
  distinct-turn = distinct-first kind left (drop p l) h ∙ rw (sym (place-name kind l p e w), sym (place-next kind l p e w))

  pub twice_here : among (take (e.rest - e.name) (drop e.name l)) (names kind (left - 1) (drop e.end l)) ≡ true → distinct (names kind left (drop p l)) ≡ false
  twice_here t = distinct-turn ∙ rw t

  pub distinct-next : among (take (e.rest - e.name) (drop e.name l)) (names kind (left - 1) (drop e.end l)) ≡ false
      → distinct (names kind left (drop p l)) ≡ distinct (names kind (left - 1) (drop e.end l))
  distinct-next t = distinct-turn ∙ rw t

  pub end-next : end_in kind p left (drop p l) ≡ end_in kind e.end (left - 1) (drop e.end l)
  end-next = end-first kind p left (drop p l) h ∙ rw (sym (place_end kind l p e w), sym (place-next kind l p e w))

-- the same with a count of the entries that were passed
module _ (kind : Kind) (l : List ℕ) (p n i : ℕ) (e : Entry) (w : Placed kind l p e) (h : i < n) where
  left : 0 < n - i
  left = omega arith

  others : n - i - 1 ≡ n - (i + 1)
  others = omega arith

  pub row_step : Row kind (n - i) (drop p l) → Row kind (n - (i + 1)) (drop e.end l)
  row_step r = rw others at (row-turn kind l p (n - i) e w left r)

  pub find_step : (x : List ℕ) → same_bytes (take (e.rest - e.name) (drop e.name l)) x ≡ false
      → find_in kind x p (n - i) (drop p l) ≡ find_in kind x e.end (n - (i + 1)) (drop e.end l)
  find_step x t = rw others at (find_next kind l p (n - i) e w left x t)

  pub twice_at : among (take (e.rest - e.name) (drop e.name l)) (names kind (n - i - 1) (drop e.end l)) ≡ true → distinct (names kind (n - i) (drop p l)) ≡ false
  twice_at t = twice_here kind l p (n - i) e w left t

  pub distinct_step : among (take (e.rest - e.name) (drop e.name l)) (names kind (n - i - 1) (drop e.end l)) ≡ false
      → distinct (names kind (n - i) (drop p l)) ≡ distinct (names kind (n - (i + 1)) (drop e.end l))
  distinct_step t = distinct-next kind l p (n - i) e w left t ∙ ap (λ k. distinct (names kind k (drop e.end l))) others

  pub end_step : end_in kind p (n - i) (drop p l) ≡ end_in kind e.end (n - (i + 1)) (drop e.end l)
  end_step = rw others at (end-next kind l p (n - i) e w left)

-- ---- a turn of a check

passed_first : (kind : Kind) (ok : List ℕ → List ℕ → List ℕ → Bool) (at left : ℕ) (bs : List ℕ) → 0 < left
    → passed_end kind ok at left bs
    ≡ pick (leb (size kind bs) (length bs) && ok (take (head_len kind) bs) (name kind bs) (rest kind bs)) (passed_end kind ok (at + size kind bs) (left - 1) (drop (size kind bs) bs)) None
passed_first kind ok at zero bs h = absurd (not-suc-le-zero h)
passed_first kind ok at (suc n) bs h =
    ap_at (λ i. pick (leb (size kind bs) (length bs) && ok (take (head_len kind) bs) (name kind bs) (rest kind bs)) (passed_end kind ok (at + size kind bs) i (drop (size kind bs) bs)) None) n
    (suc n - 1)
    (omega arith)

module _ (kind : Kind) (ok : List ℕ → List ℕ → List ℕ → Bool) (l : List ℕ) (p n i : ℕ) (h : i < n) where
  -- the entry reaches past the end
  pub passed_outside : length (drop p l) < size kind (drop p l) → passed_end kind ok p (n - i) (drop p l) ≡ None
  passed_outside k = passed_first kind ok p (n - i) (drop p l) (omega arith) ∙ rw (lt-leb (size kind (drop p l)) (length (drop p l)) k)

  -- it is inside
  pub passed_turn : (e : Entry) → Placed kind l p e
      → passed_end kind ok p (n - i) (drop p l)
      ≡ pick (ok (take (e.name - p) (drop p l)) (take (e.rest - e.name) (drop e.name l)) (take (e.end - e.rest) (drop e.rest l))) (passed_end kind ok e.end (n - (i + 1)) (drop e.end l)) None
  passed_turn e w =
      let s : size kind (drop p l) ≤ length (drop p l) = omega (arith, length-drop p l, place_end kind l p e w, w.within) in
      let a : head_len kind ≡ e.name - p = omega (arith, w.start) in
      let b : n - i - 1 ≡ n - (i + 1) = omega arith in
      passed_first kind ok p (n - i) (drop p l) (omega arith)
      ∙ rw (le-leb (size kind (drop p l)) (length (drop p l)) s)
      (λ j. pick (ok (take (a j) (drop p l)) (sym (place-name kind l p e w) j) (sym (place_rest kind l p e w) j)) (passed_end kind ok (sym (place_end kind l p e w) j) (b j) (sym (place-next kind l p e w) j)) None)

-- ---- the search and the names

pub found-named : (kind : Kind) (x : List ℕ) (at n : ℕ) (bs : List ℕ) → is_ok (find_in kind x at n bs) ≡ among x (names kind n bs)
found-named kind x at zero bs = refl
found-named kind x at (suc n) bs = go (same_bytes (name kind bs) x) (found-named kind x (at + size kind bs) n (drop (size kind bs) bs))
  where
    go : (t : Bool) → is_ok (find_in kind x (at + size kind bs) n (drop (size kind bs) bs)) ≡ among x (names kind n (drop (size kind bs) bs))
        → is_ok (pick t (Ok (record { at = at; value = at + head_len kind + name_len kind bs; len = rest_len kind bs })) (find_in kind x (at + size kind bs) n (drop (size kind bs) bs)))
        ≡ (t || among x (names kind n (drop (size kind bs) bs)))
    go true h = refl
    go false h = h
