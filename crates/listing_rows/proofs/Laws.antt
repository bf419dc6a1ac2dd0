-- The lines of a row: one entry and the others; and what they are of texts and properties that were read.
-- Assumes nothing.
use Prim.Native.Nat.{ℕ, zero, suc, ◌+◌, ◌-◌, ◌≤◌, ◌<◌}
use mathlib.Core.Path.{◌≡◌, refl, sym, ap, ap₂, ◌∙◌, subst}
use mathlib.Core.List.{List, [], ◌∷◌, ◌++◌}
use native.Mathlib.Omega.{arith}
use native.Mathlib.Nat.{not-suc-le-zero}
use lib.ListN.{length, take, drop}
use Rattle.lists.specs.Lists.{cat}
use Rattle.lists.proofs.Moves.{ap_at}
use Rattle.entries.specs.Entry.{Property, one_prop}
use Rattle.entries.specs.Parse.{got, many}
use Rattle.entries.proofs.Rows.{through}
use Rattle.rows.proofs.Readers.{property-reads, one-got}
use Rattle.engine.specs.Listing.{escaped, line_of}
use Rattle.insertion.specs.Append as Append
use Rattle.rows.specs.Entry.{size, name, rest, Placed}
use Rattle.rows.specs.Row.{names}
use Rattle.rows.specs.declared.Kind.{Kind}
use Rattle.rows.specs.declared.Kind.TheVariants as kind
use Rattle.rows.specs.declared.Entry.{Entry}
use Rattle.rows.proofs.Turns.{place-name, place_rest, place-next}
use Rattle.listing_lines.proofs.Laws.{Leads, leads_more, leads_full, leads_last}
use Rattle.listing_rows.specs.Lines.{entry_line, entry_lines}

-- ---- one entry, and the others

lines-first : (kind : Kind) (word : List ℕ) (left : ℕ) (bs : List ℕ) → 0 < left
    → entry_lines kind word left bs ≡ entry_line kind word (name kind bs) (rest kind bs) ++ entry_lines kind word (left - 1) (drop (size kind bs) bs)
lines-first kind word zero bs h = absurd (not-suc-le-zero h)
lines-first kind word (suc n) bs h =
    ap_at (λ i. entry_line kind word (name kind bs) (rest kind bs) ++ entry_lines kind word i (drop (size kind bs) bs)) n (suc n - 1) (omega arith)

-- the line of the entry at place p
module _ (kind : Kind) (word l : List ℕ) (p left : ℕ) (y o₀ : List ℕ) (used₀ : ℕ) (o : List ℕ) (used : ℕ)
    (lead : Leads y o₀ used₀ (entry_lines kind word left (drop p l)) o used) where
  module _ (e : Entry) (w : Placed kind l p e) (h : 0 < left) where
    abbrev line : List ℕ
    line = entry_line kind word (take (e.rest - e.name) (drop e.name l)) (take (e.end - e.rest) (drop e.rest l))

    abbrev others : List ℕ
    others = entry_lines kind word (left - 1) (drop e.end l)

    parted : Leads y o₀ used₀ (line ++ others) o used
    parted =
        let turn : entry_lines kind word left (drop p l) ≡ line ++ others =
        lines-first kind word left (drop p l) h
        ∙ ap₂ (λ (a c : List ℕ). a ++ c)
        (ap₂ (entry_line kind word) (sym (place-name kind l p e w)) (sym (place_rest kind l p e w)))
        (ap (entry_lines kind word (left - 1)) (sym (place-next kind l p e w))) in
        subst (λ (z : List ℕ). Leads y o₀ used₀ z o used) turn lead

    -- is written, or there is no room for it
    pub entries_next : (k : ℕ) (o₁ : List ℕ) → Append.Placed line o used k o₁ → Leads y o₀ used₀ others o₁ k
    entries_next = leads_more y o₀ used₀ o used line others parted

    pub entries_full : length o < used + length line → length o₀ < used₀ + length y
    entries_full = leads_full y o₀ used₀ o used line others parted

  pub entries_end : used ≤ length o → left ≤ 0 → Append.Placed y o₀ used₀ used o
  entries_end r h =
      leads_last y o₀ used₀ o used r
      (subst (λ (z : List ℕ). Leads y o₀ used₀ z o used) (ap_at (λ i. entry_lines kind word i (drop p l)) left 0 (omega arith)) lead)

-- ---- texts

pub text-lines : (word : List ℕ) (n : ℕ) (bs : List ℕ) → entry_lines kind.Text word n bs ≡ cat (λ (x : List ℕ). line_of word (escaped x)) (names kind.Text n bs)
text-lines word zero bs = refl
text-lines word (suc n) bs = ap (λ (z : List ℕ). line_of word (escaped (name kind.Text bs)) ++ z) (text-lines word n (drop (size kind.Text bs) bs))

-- ---- properties

pub property-lines : (word : List ℕ) (n : ℕ) (bs : List ℕ) (ps : List Property) (r : List ℕ) → many one_prop n bs ≡ got ps r
    → entry_lines kind.Property word n bs ≡ cat (λ (p : Property). line_of word (escaped p.key ++ (61 ∷ escaped p.value))) ps
property-lines word zero bs ps r e = let q : ps ≡ [] = cc in rw q
property-lines word (suc n) bs ps r e =
    through (one_prop bs) _ ps r e λ p q e₁ f₁.
    through (many one_prop n q) _ ps r f₁ λ qs q' e₂ f₂.
    let (h, x, y) = one-got property-reads bs p q e₁ in
    let j : ps ≡ p ∷ qs = cc in
    let line : Property → List ℕ = λ (p : Property). line_of word (escaped p.key ++ (61 ∷ escaped p.value)) in
    rw j (ap₂ (λ (a c : List ℕ). a ++ c) (ap line x) (ap (entry_lines kind.Property word n) y ∙ property-lines word n q qs q' e₂))
