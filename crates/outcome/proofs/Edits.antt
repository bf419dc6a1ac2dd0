-- The lists and the properties of an outcome stay sound under every edit.
-- Assumes nothing.
use Prim.Native.Nat.{ℕ, suc, ◌≤◌, ◌<◌}
use mathlib.Core.Path.{◌≡◌, refl, sym, ap, ◌∙◌, subst}
use mathlib.Core.Bool.{Bool, true, false}
use mathlib.Core.List.{List, [], ◌∷◌, ◌++◌, map}
use native.Mathlib.Omega.{arith}
use lib.ListN.{length, length-append}
use lib.Dec.{ltb}
use borrow.Author.Tests.{ltb-true}
use Rattle.lists.specs.Lists.{pick, all, reject}
use Rattle.lists.specs.Bytes.{same_bytes, among, distinct}
use Rattle.lists.specs.Checked.{Holds}
use Rattle.lists.specs.Sizes.{most_properties, most_runs}
use Rattle.lists.proofs.Tests.{and_both, both_and}
use Rattle.lists.proofs.Lists.{all_snoc, pick_both, reject-size, reject-all}
use Rattle.lists.proofs.Bytes.{same-eq, distinct_snoc, reject-distinct}
use Rattle.entries.specs.Entry.{Property, ok_prop, keys}
use Rattle.outcome.specs.State.{Run, ok_run, Entries, Properties, Runs}
use Rattle.outcome.specs.Edits.{append, add_entry, remove_entry, property, remove_property, replace_property, set_property}

-- ---- at the end

pub append-holds : {A : Type 0} (P : List A → Type 0) (most : ℕ) (x : A) (xs : List A) → (length xs < most → P (xs ++ (x ∷ []))) → Holds P (append most x xs)
append-holds P most x xs f = at (ltb (length xs) most) refl
  where
    at : (t : Bool) → ltb (length xs) most ≡ t → Holds P (append most x xs)
    at true e = rw (e, append) (f (ltb-true (length xs) most e))
    at false e = rw (e, append) tt

snoc_size : {A : Type 0} (x : A) (xs : List A) (most : ℕ) → length xs < most → length (xs ++ (x ∷ [])) ≤ most
snoc_size x xs most h = omega (arith, length-append xs (x ∷ []))

-- ---- links and tags

map-id : {A : Type 0} (xs : List A) → map (λ (x : A). x) xs ≡ xs
map-id [] = refl
map-id {A} (x ∷ xs) = ap (λ (l : List A). x ∷ l) (map-id xs)

module _ (most : ℕ) (ok : List ℕ → Bool) where
  pub empty_entries : Entries most ok []
  empty_entries = record { few = omega arith; each = refl; apart = refl }

  pub add-entry : (x : List ℕ) (xs : List (List ℕ)) → ok x ≡ true → Entries most ok xs → Holds (Entries most ok) (add_entry most x xs)
  unfolding add_entry
  add-entry x xs h g = at (among x xs) refl
    where
      at : (t : Bool) → among x xs ≡ t → Holds (Entries most ok) (add_entry most x xs)
      at true e = rw (e, add_entry) g
      at false e =
          rw (e, add_entry)
          (append-holds (Entries most ok) most x xs
          (λ room. record { few = snoc_size x xs most room; each = all_snoc ok xs x g.each h; apart = distinct_snoc xs x g.apart e }))

  pub remove_entry_lem : (x : List ℕ) (xs : List (List ℕ)) → Entries most ok xs → Entries most ok (remove_entry x xs)
  remove_entry_lem x xs g =
      let out : List ℕ → Bool = λ y. same_bytes y x in
      let i = reject-size out xs in
      let d : distinct (map (λ (y : List ℕ). y) xs) ≡ true = rw (map-id xs) g.apart in
      record {
        few = omega (arith, g.few);
        each = reject-all out ok xs g.each;
        apart = ap distinct (sym (map-id (reject out xs))) ∙ reject-distinct (λ (y : List ℕ). y) out xs d;
      }

-- ---- properties

pub remove-property : (k : List ℕ) (ps : List Property) → Properties ps → Properties (remove_property k ps)
remove-property k ps g =
    let out : Property → Bool = λ p. same_bytes p.key k in
    let i = reject-size out ps in
    record {
      few = omega (arith, g.few);
      each = reject-all out ok_prop ps g.each;
      apart = reject-distinct (λ (p : Property). p.key) out ps g.apart;
    }

replace_keys : (k v : List ℕ) (ps : List Property) → keys (replace_property k v ps) ≡ keys ps
unfolding replace_property
replace_keys k v [] = refl
replace_keys k v (p ∷ ps) = at (same_bytes p.key k) refl (replace_keys k v ps)
  where
    at : (t : Bool) → same_bytes p.key k ≡ t → keys (replace_property k v ps) ≡ keys ps → keys (pick t (property k v ∷ ps) (p ∷ replace_property k v ps)) ≡ keys (p ∷ ps)
    at true e i = ap (λ (x : List ℕ). x ∷ keys ps) (sym (same-eq p.key k e))
    at false e i = ap (λ (l : List (List ℕ)). p.key ∷ l) i

pub replace_size : (k v : List ℕ) (ps : List Property) → length (replace_property k v ps) ≡ length ps
unfolding replace_property
replace_size k v [] = refl
replace_size k v (p ∷ ps) =
    pick_both (λ (l : List Property). length l ≡ suc (length ps)) (same_bytes p.key k) (property k v ∷ ps) (p ∷ replace_property k v ps) refl (ap suc (replace_size k v ps))

replace_all : (k v : List ℕ) (ps : List Property) → ok_prop (property k v) ≡ true → all ok_prop ps ≡ true → all ok_prop (replace_property k v ps) ≡ true
unfolding replace_property
replace_all k v [] h g = refl
replace_all k v (p ∷ ps) h g =
    let (a, b) = and_both (ok_prop p) (all ok_prop ps) g in
    pick_both (λ (l : List Property). all ok_prop l ≡ true) (same_bytes p.key k) (property k v ∷ ps) (p ∷ replace_property k v ps)
    (both_and (ok_prop (property k v)) (all ok_prop ps) h b) (both_and (ok_prop p) (all ok_prop (replace_property k v ps)) a (replace_all k v ps h b))

keys_snoc : (ps : List Property) (p : Property) → keys (ps ++ (p ∷ [])) ≡ keys ps ++ (p.key ∷ [])
keys_snoc [] p = refl
keys_snoc (q ∷ ps) p = ap (λ (l : List (List ℕ)). q.key ∷ l) (keys_snoc ps p)

pub set-property : (k v : List ℕ) (ps : List Property) → ok_prop (property k v) ≡ true → Properties ps → Holds Properties (set_property k v ps)
unfolding set_property
set-property k v ps h g = at (among k (keys ps)) refl
  where
    at : (t : Bool) → among k (keys ps) ≡ t → Holds Properties (set_property k v ps)
    at true e =
        rw (e, set_property)
        (record {
          few = subst (λ (i : ℕ). i ≤ most_properties) (sym (replace_size k v ps)) g.few;
          each = replace_all k v ps h g.each;
          apart = ap distinct (replace_keys k v ps) ∙ g.apart;
        })
    at false e =
        rw (e, set_property)
        (append-holds Properties most_properties (property k v) ps
        (λ room. record {
          few = snoc_size (property k v) ps most_properties room;
          each = all_snoc ok_prop ps (property k v) g.each h;
          apart = ap distinct (keys_snoc ps (property k v)) ∙ distinct_snoc (keys ps) k g.apart e;
        }))

-- ---- runs

pub empty_runs : (n : ℕ) → Runs n []
empty_runs n = record { few = omega arith; each = refl }

pub add-run : (n : ℕ) (r : Run) (rs : List Run) → ok_run n r ≡ true → Runs n rs → Holds (Runs n) (append most_runs r rs)
add-run n r rs h g =
    append-holds (Runs n) most_runs r rs (λ room. record { few = snoc_size r rs most_runs room; each = all_snoc (ok_run n) rs r g.each h })
