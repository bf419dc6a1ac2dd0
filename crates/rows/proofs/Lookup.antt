-- What a search by key says of the properties that were read.
-- Assumes nothing.
use Prim.Native.Nat.{ℕ, zero, suc, ◌+◌, ◌≤◌}
use mathlib.Core.Path.{◌≡◌, sym, ap, ◌∙◌}
use mathlib.Core.Bool.{Bool, true, false}
use mathlib.Core.List.{List, [], ◌∷◌}
use Rattle.std.specs.Prelude.{Option, None, Some, Result, Ok, Err}
use native.Mathlib.Omega.{arith}
use lib.ListN.{length, take, drop, length-drop}
use lib.Seq.{drop-drop}
use Rattle.lists.specs.Lists.{pick}
use Rattle.lists.specs.Bytes.{same_bytes}
use Rattle.lists.proofs.Moves.{ap_at}
use Rattle.entries.specs.Parse.{got, many}
use Rattle.entries.specs.Entry.{Property, one_prop, lookup, or_empty}
use Rattle.entries.proofs.Rows.{through}
use Rattle.rows.specs.Entry.{head_len, name_len, rest_len, size, name, rest}
use Rattle.rows.specs.Row.{find_in, part_of}
use Rattle.rows.specs.declared.Kind.TheVariants as kind
use Rattle.rows.specs.declared.Found.{Found}
use Rattle.rows.proofs.Readers.{property_here, property-reads, one-got}

-- a found value is a part of the record; absent and empty stay apart
abbrev pub Says : List ℕ → Result Found ℕ → Option (List ℕ) → Type 0
Says l (Ok f) o = (f.value + f.len ≤ length l) × (o ≡ Some (take f.len (drop f.value l)))
Says l (Err p) o = o ≡ None

says-pick : (l : List ℕ) (t : Bool) (f g : Result Found ℕ) (o q : Option (List ℕ)) → Says l f o → Says l g q → Says l (pick t f g) (pick t o q)
says-pick l true f g o q h k = h
says-pick l false f g o q h k = k

-- the value of the entry at place `at`
value_at : (l : List ℕ) (at : ℕ) → size kind.Property (drop at l) ≤ length (drop at l)
    → let v = at + head_len kind.Property + name_len kind.Property (drop at l) in let k = rest_len kind.Property (drop at l) in
    (v + k ≤ length l) × (◌≡◌ {A = Option (List ℕ)} (Some (rest kind.Property (drop at l))) (Some (take k (drop v l))))
value_at l at h =
    let m = name_len kind.Property (drop at l) in
    let k = rest_len kind.Property (drop at l) in (
      omega (arith, length-drop at l),
      ap (λ (x : List ℕ). Some (take k x)) (drop-drop (2 + m) at l ∙ ap_at (λ i. drop i l) (at + (2 + m)) (at + 2 + m) (omega arith)),
    )

pub find_lookup : (l x : List ℕ) (n at : ℕ) (ps : List Property) (r : List ℕ) → many one_prop n (drop at l) ≡ got ps r
    → Says l (find_in kind.Property x at n (drop at l)) (lookup x ps)
find_lookup l x zero at ps r e = let q : ps ≡ [] = cc in rw q
find_lookup l x (suc n) at ps r e =
    through (one_prop (drop at l)) _ ps r e λ p q p₁ e₁.
    through (many one_prop n q) _ ps r e₁ λ qs q' p₂ e₂.
    let (h, y, z) = one-got property-reads (drop at l) p q p₁ in
    let j : property_here (drop at l) ∷ qs ≡ ps = cc in
    let s = size kind.Property (drop at l) in
    let d : drop (at + s) l ≡ drop s (drop at l) = sym (drop-drop s at l) in
    let i : Says l (find_in kind.Property x (at + s) n (drop (at + s) l)) (lookup x qs) = find_lookup l x n (at + s) qs q' (ap (many one_prop n) (d ∙ z) ∙ p₂) in
    rw (← j)
    (says-pick l (same_bytes (name kind.Property (drop at l)) x) _ _ _ _ (value_at l at h) (rw d at i))

pub value_part : (l x : List ℕ) (n at : ℕ) (ps : List Property) (r : List ℕ) → many one_prop n (drop at l) ≡ got ps r
    → part_of (find_in kind.Property x at n (drop at l)) l ≡ or_empty (lookup x ps)
value_part l x n at ps r e = go (find_in kind.Property x at n (drop at l)) (lookup x ps) (find_lookup l x n at ps r e)
  where
    go : (f : Result Found ℕ) (o : Option (List ℕ)) → Says l f o → part_of f l ≡ or_empty o
    go (Ok f) o h = sym (ap or_empty h.1)
    go (Err p) o h = sym (ap or_empty h)
