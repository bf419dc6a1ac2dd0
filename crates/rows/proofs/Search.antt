-- The search on a row that was written: the entries before and behind the one that was found.
-- Assumes nothing.
use Prim.Native.Nat.{ℕ, suc, ◌+◌}
use mathlib.Core.Path.{◌≡◌, refl, sym, ap, ap₂, ◌∙◌}
use mathlib.Core.Bool.{Bool, true, false, ◌||◌}
use mathlib.Core.List.{List, [], ◌∷◌, ◌++◌, map, append_assoc}
use native.Mathlib.Omega.{arith}
use lib.ListN.{length, drop, length-append, length-drop}
use lib.Seq.{drop-append_seam, length-take-le}
use Rattle.lists.specs.Lists.{pick, all, cat}
use Rattle.lists.specs.Bytes.{same_bytes, among}
use Rattle.lists.proofs.Tests.{and_both}
use Rattle.entries.specs.Parse.{Parse}
use Rattle.entries.specs.Entry.{Property, ok_prop, enc_text, enc_prop}
use Rattle.entries.proofs.Rows.{Laws}
use Rattle.entries.proofs.Entries.{text-laws, prop_laws}
use Rattle.rows.specs.Entry.{head_len, name_len, rest_len, size, name, rest}
use Rattle.rows.specs.Row.{find_in}
use Rattle.rows.specs.declared.Kind.{Kind}
use Rattle.rows.specs.declared.Kind.TheVariants as kind
use Rattle.rows.specs.declared.Found.{Found}
use Rattle.std.specs.Prelude.{Result, Ok, Err}
use Rattle.rows.proofs.Readers.{Reads, one-got, text-reads, property-reads}

-- what the walk reads of an entry that stands at the front
pub record Written (A : Type 0) (kind : Kind) (enc nm rs : A → List ℕ) (ok : A → Bool) : Type 0 where
  pub sized : (a : A) (r : List ℕ) → ok a ≡ true → size kind (enc a ++ r) ≡ length (enc a)
  pub named : (a : A) (r : List ℕ) → ok a ≡ true → name kind (enc a ++ r) ≡ nm a
  pub names : (a : A) (r : List ℕ) → ok a ≡ true → name_len kind (enc a ++ r) ≡ length (nm a)
  pub rests : (a : A) (r : List ℕ) → ok a ≡ true → rest_len kind (enc a ++ r) ≡ length (rs a)

module _ {A : Type 0} {kind : Kind} {enc : A → List ℕ} {ok : A → Bool} {one : List ℕ → Parse A} {test : List ℕ → Bool} {here : List ℕ → A}
    (L : Laws A enc ok one) (R : Reads A kind one test here)
    (nm rs : A → List ℕ) (f : (bs : List ℕ) → nm (here bs) ≡ name kind bs) (g : (bs : List ℕ) → rs (here bs) ≡ rest kind bs) where
  pub written : Written A kind enc nm rs ok
  written = record { sized = s; named = n; names = nl; rests = rl }
    where
      s : (a : A) (r : List ℕ) → ok a ≡ true → size kind (enc a ++ r) ≡ length (enc a)
      s a r k =
          let (h, x, y) = one-got R (enc a ++ r) a r (L.there a r k) in
          omega (arith, length-append (enc a) r, length-drop (size kind (enc a ++ r)) (enc a ++ r), ap length y)

      n : (a : A) (r : List ℕ) → ok a ≡ true → name kind (enc a ++ r) ≡ nm a
      n a r k = let (h, x, y) = one-got R (enc a ++ r) a r (L.there a r k) in sym (f (enc a ++ r)) ∙ ap nm x

      nl : (a : A) (r : List ℕ) → ok a ≡ true → name_len kind (enc a ++ r) ≡ length (nm a)
      nl a r k =
          let bs : List ℕ = enc a ++ r in
          let (h, x, y) = one-got R bs a r (L.there a r k) in
          sym (length-take-le (name_len kind bs) (drop (head_len kind) bs) (omega (arith, length-drop (head_len kind) bs))) ∙ ap length (n a r k)

      rl : (a : A) (r : List ℕ) → ok a ≡ true → rest_len kind (enc a ++ r) ≡ length (rs a)
      rl a r k =
          let bs : List ℕ = enc a ++ r in
          let (h, x, y) = one-got R bs a r (L.there a r k) in
          let m : ℕ = head_len kind + name_len kind bs in
          sym (length-take-le (rest_len kind bs) (drop m bs) (omega (arith, length-drop m bs))) ∙ ap length (sym (g bs) ∙ ap rs x)

pub text-written : (ok : List ℕ → Bool) → Written (List ℕ) kind.Text enc_text (λ x. x) (λ x. []) ok
unfolding rest_len
text-written ok = written (text-laws ok) (text-reads ok) (λ x. x) (λ x. []) (λ bs. refl) (λ bs. refl)

pub property-written : Written Property kind.Property enc_prop (λ p. p.key) (λ p. p.value) ok_prop
property-written = written prop_laws property-reads (λ p. p.key) (λ p. p.value) (λ bs. refl) (λ bs. refl)

-- ---- the search

-- the entry that was found, among the others
pub record Among (A : Type 0) (kind : Kind) (enc nm rs : A → List ℕ) (x : List ℕ) (xs : List A) (at : ℕ) (f : Found) : Type 0 where
  pub before : List A
  pub entry : A
  pub after : List A
  pub whole : xs ≡ before ++ (entry ∷ after)
  pub first : among x (map nm before) ≡ false
  pub same : same_bytes (nm entry) x ≡ true
  pub place : f.at ≡ at + length (cat enc before)
  pub value : f.value ≡ f.at + head_len kind + length (nm entry)
  pub size : f.len ≡ length (rs entry)

module _ {A : Type 0} {kind : Kind} {enc nm rs : A → List ℕ} {ok : A → Bool} (W : Written A kind enc nm rs ok) (x : List ℕ) where
  -- the search by one entry
  find_one : (at : ℕ) (a : A) (xs : List A) (r : List ℕ) → ok a ≡ true
      → find_in kind x at (suc (length xs)) (cat enc (a ∷ xs) ++ r)
      ≡ pick (same_bytes (nm a) x) (Ok (record { at = at; value = at + head_len kind + length (nm a); len = length (rs a) })) (find_in kind x (at + length (enc a)) (length xs) (cat enc xs ++ r))
  find_one at a xs r k =
      let q : List ℕ = cat enc xs ++ r in
      ap (find_in kind x at (suc (length xs))) (append_assoc (enc a) (cat enc xs) r)
      ∙ rw (W.named a q k, W.sized a q k, W.names a q k, W.rests a q k, drop-append_seam (enc a) q)

  pub found_among : (xs : List A) (at : ℕ) (f : Found) (r : List ℕ) → all ok xs ≡ true → find_in kind x at (length xs) (cat enc xs ++ r) ≡ Ok f → Among A kind enc nm rs x xs at f
  found_among [] at f r h e = let z : ◌≡◌ {A = ℕ} 0 1 = cc in absurd (omega arith)
  found_among (a ∷ xs) at f r h e =
      let (u, w) = and_both (ok a) (all ok xs) h in
      go (same_bytes (nm a) x) refl (sym (find_one at a xs r u) ∙ e) (λ g. found_among xs (at + length (enc a)) f r w g)
    where
      go : (t : Bool) → same_bytes (nm a) x ≡ t
          → pick (same_bytes (nm a) x) (Ok (record { at = at; value = at + head_len kind + length (nm a); len = length (rs a) })) (find_in kind x (at + length (enc a)) (length xs) (cat enc xs ++ r)) ≡ Ok f
          → (find_in kind x (at + length (enc a)) (length xs) (cat enc xs ++ r) ≡ Ok f → Among A kind enc nm rs x xs (at + length (enc a)) f)
          → Among A kind enc nm rs x (a ∷ xs) at f
      go true t e g =
          let q : ◌≡◌ {A = Result Found ℕ} (Ok (record { at = at; value = at + head_len kind + length (nm a); len = length (rs a) })) (Ok f) = rw t at e in
          let q₀ : ◌≡◌ {A = Found} (record { at = at; value = at + head_len kind + length (nm a); len = length (rs a) }) f = cc in
          let q₁ : at ≡ f.at = ap (λ (z : Found). z.at) q₀ in
          let q₂ : at + head_len kind + length (nm a) ≡ f.value = ap (λ (z : Found). z.value) q₀ in
          let q₃ : length (rs a) ≡ f.len = ap (λ (z : Found). z.len) q₀ in
          record { before = []; entry = a; after = xs; whole = refl; first = refl; same = t; place = omega arith; value = omega arith; size = sym q₃ }
      go false t e g =
          let i = g (rw t at e) in
          record {
            before = a ∷ i.before;
            entry = i.entry;
            after = i.after;
            whole = ap (λ (l : List A). a ∷ l) i.whole;
            first = ap₂ ◌||◌ t i.first;
            same = i.same;
            place = i.place ∙ omega (arith, length-append (enc a) (cat enc i.before));
            value = i.value;
            size = i.size;
          }

  pub missing_among : (xs : List A) (at p : ℕ) (r : List ℕ) → all ok xs ≡ true → find_in kind x at (length xs) (cat enc xs ++ r) ≡ Err p
      → (among x (map nm xs) ≡ false) × (p ≡ at + length (cat enc xs))
  missing_among [] at p r h e = let q : at ≡ p = cc in (refl, omega arith)
  missing_among (a ∷ xs) at p r h e =
      let (u, w) = and_both (ok a) (all ok xs) h in
      go (same_bytes (nm a) x) refl (sym (find_one at a xs r u) ∙ e) (λ f. missing_among xs (at + length (enc a)) p r w f)
    where
      go : (t : Bool) → same_bytes (nm a) x ≡ t
          → pick (same_bytes (nm a) x) (Ok (record { at = at; value = at + head_len kind + length (nm a); len = length (rs a) })) (find_in kind x (at + length (enc a)) (length xs) (cat enc xs ++ r)) ≡ Err p
          → (find_in kind x (at + length (enc a)) (length xs) (cat enc xs ++ r) ≡ Err p → (among x (map nm xs) ≡ false) × (p ≡ at + length (enc a) + length (cat enc xs)))
          → (among x (map nm (a ∷ xs)) ≡ false) × (p ≡ at + length (cat enc (a ∷ xs)))
      go true t e f =
          let q : ◌≡◌ {A = Result Found ℕ} (Ok (record { at = at; value = at + head_len kind + length (nm a); len = length (rs a) })) (Err p) = rw t at e in
          let z : ◌≡◌ {A = ℕ} 0 1 = cc in
          absurd (omega arith)
      go false t e f = let (i, j) = f (rw t at e) in (ap₂ ◌||◌ t i, omega (arith, length-append (enc a) (cat enc xs)))
