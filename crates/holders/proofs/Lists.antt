-- The list of the names that are claimed so far, and one claim more.
-- Assumes nothing.
use Prim.Native.Nat.{ℕ, zero, suc, ◌+◌, ◌≤◌}
use mathlib.Core.Path.{◌≡◌, refl, sym, ap, ap₂, ◌∙◌}
use mathlib.Core.Bool.{Bool, true, false}
use mathlib.Core.List.{List, [], ◌∷◌, ◌++◌, append_assoc, append-nil, map}
use native.Mathlib.Omega.{arith}
use native.Mathlib.Numerals.{add-one}
use lib.ListN.{length, take, drop, length-append, take-append-drop}
use Rattle.lists.specs.Lists.{pick, cat}
use Rattle.lists.specs.Bytes.{among}
use Rattle.lists.proofs.Lists.{cat-append}
use Rattle.splice.specs.Moves.{stored, padded}
use Rattle.splice.proofs.Laws.{append-padded}
use Rattle.outcome.specs.State.{State}
use Rattle.contest.specs.Contest.{firsts, links_of}
use Rattle.contest.specs.Operation.{enc_listed}
use Rattle.contest.proofs.Steps.{firsts_snoc, firsts_more}
use Rattle.holders.specs.Lists.{row_of, rows_of, Written}

map-append : {A B : Type 0} (f : A → B) (xs ys : List A) → map f (xs ++ ys) ≡ map f xs ++ map f ys
map-append f [] ys = refl
map-append {B = B} f (x ∷ xs) ys = ap (λ (l : List B). f x ∷ l) (map-append f xs ys)

rows_append : (set : List ℕ) (xs ys : List (List ℕ)) → rows_of set (xs ++ ys) ≡ rows_of set xs ++ rows_of set ys
rows_append set xs ys = ap (cat enc_listed) (map-append (row_of set) xs ys) ∙ cat-append enc_listed (map (row_of set) xs) (map (row_of set) ys)

-- a row has a head
rows-many : (set : List ℕ) (xs : List (List ℕ)) → length xs ≤ length (rows_of set xs)
rows-many set [] = omega arith
rows-many set (x ∷ xs) = omega (arith, rows-many set xs, length-append (enc_listed (row_of set x)) (rows_of set xs))

pub names_few : (set : List ℕ) (claimed : List (List ℕ)) (t : List ℕ) (end names : ℕ) → Written set claimed t end names → names ≤ end
names_few set claimed t end names w = omega (arith, w.ends, w.counts, rows-many set (firsts claimed))

module _ (set : List ℕ) (claimed : List (List ℕ)) (x : List ℕ) where
  abbrev row : List ℕ
  row = enc_listed (row_of set x)

  -- a name that was met before
  pub written_known : (t : List ℕ) (end names : ℕ) → among x claimed ≡ true → Written set claimed t end names → Written set (claimed ++ (x ∷ [])) t end names
  written_known t end names e w =
      let same : firsts claimed ≡ firsts (claimed ++ (x ∷ [])) =
      sym (firsts_snoc claimed x ∙ ap (λ (b : Bool). firsts claimed ++ pick b [] (x ∷ [])) e ∙ append-nil (firsts claimed))
      in
      record {
        bytes = w.bytes ∙ ap (λ (xs : List (List ℕ)). padded (length t) (rows_of set xs)) same;
        ends = w.ends ∙ ap (λ (xs : List (List ℕ)). length (rows_of set xs)) same;
        counts = w.counts ∙ ap length same;
      }

  module _ (e : among x claimed ≡ false) where
    new : firsts (claimed ++ (x ∷ [])) ≡ firsts claimed ++ (x ∷ [])
    new = firsts_snoc claimed x ∙ ap (λ (b : Bool). firsts claimed ++ pick b [] (x ∷ [])) e

    rows_new : rows_of set (firsts (claimed ++ (x ∷ []))) ≡ rows_of set (firsts claimed) ++ row
    rows_new = ap (rows_of set) new ∙ rows_append set (firsts claimed) (x ∷ []) ∙ ap (λ (l : List ℕ). rows_of set (firsts claimed) ++ l) (append-nil row)

    pub written_new : (t t' : List ℕ) (end end' names : ℕ) → Written set claimed t end names → t' ≡ stored t end row → end' ≡ end + length row → length t' ≡ length t
        → Written set (claimed ++ (x ∷ [])) t' end' (names + 1)
    written_new t t' end end' names w s f l = record {
      bytes = s
          ∙ append-padded (rows_of set (firsts claimed)) row (length t) end t w.bytes (sym w.ends)
          ∙ ap₂ (λ (n : ℕ) (l : List ℕ). padded n l) (sym l) (sym rows_new);
      ends = f ∙ omega (arith, w.ends, ap length rows_new, length-append (rows_of set (firsts claimed)) row);
      counts = omega (arith, w.counts, ap length new, length-append (firsts claimed) (x ∷ []));
    }

    -- there is room for its row where there is for the whole list
    pub row_room : (t : List ℕ) (end names : ℕ) (later all : List (List ℕ)) → Written set claimed t end names → all ≡ (claimed ++ (x ∷ [])) ++ later
        → length (rows_of set (firsts all)) ≤ length t → end + length row ≤ length t
    row_room t end names later all w f h =
        let (zs, g) = firsts_more (claimed ++ (x ∷ [])) later in
        let whole : rows_of set (firsts all) ≡ (rows_of set (firsts claimed) ++ row) ++ rows_of set zs =
        ap (λ (xs : List (List ℕ)). rows_of set (firsts xs)) f ∙ ap (rows_of set) g ∙ rows_append set (firsts (claimed ++ (x ∷ []))) zs ∙ ap (λ (l : List ℕ). l ++ rows_of set zs) rows_new
        in
        omega (arith, h, w.ends, ap length whole, length-append (rows_of set (firsts claimed) ++ row) (rows_of set zs), length-append (rows_of set (firsts claimed)) row)

-- ---- the links of records up to one of them

take_next : (ss : List State) (i : ℕ) (s : State) (rs : List State) → drop i ss ≡ s ∷ rs → take (suc i) ss ≡ take i ss ++ (s ∷ [])
take_next [] zero s rs d = let z : ◌≡◌ {A = ℕ} 0 1 = cc in absurd (omega arith)
take_next [] (suc i) s rs d = let z : ◌≡◌ {A = ℕ} 0 1 = cc in absurd (omega arith)
take_next (r ∷ ss) zero s rs d = let e : r ≡ s = cc in ap (λ (q : State). q ∷ []) e
take_next (r ∷ ss) (suc i) s rs d = ap (λ (l : List State). r ∷ l) (take_next ss i s rs d)

module _ (ss : List State) (i : ℕ) (s : State) (d : drop i ss ≡ s ∷ drop (suc i) ss) where
  -- all of them
  pub links-all : links_of ss ≡ (links_of (take i ss) ++ s.links) ++ links_of (drop (suc i) ss)
  links-all =
      ap links_of (sym (take-append-drop i ss))
      ∙ cat-append (λ (r : State). r.links) (take i ss) (drop i ss)
      ∙ ap (λ (rs : List State). links_of (take i ss) ++ links_of rs) d
      ∙ sym (append_assoc (links_of (take i ss)) s.links (links_of (drop (suc i) ss)))

  -- one record more
  pub links-more : links_of (take (i + 1) ss) ≡ links_of (take i ss) ++ s.links
  links-more =
      ap links_of (ap (λ (m : ℕ). take m ss) (add-one i) ∙ take_next ss i s (drop (suc i) ss) d)
      ∙ cat-append (λ (r : State). r.links) (take i ss) (s ∷ [])
      ∙ ap (λ (l : List (List ℕ)). links_of (take i ss) ++ l) (append-nil s.links)
