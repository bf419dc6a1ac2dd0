-- A property in the target set anew, added, or removed.
-- Assumes nothing.
use Prim.Native.Nat.{ℕ, ◌+◌, ◌-◌, ◌≤◌, ◌<◌}
use mathlib.Core.Path.{◌≡◌, refl, sym, ap, ap₂, ◌∙◌, subst}
use mathlib.Core.Bool.{Bool, true, false}
use mathlib.Core.List.{List, [], ◌∷◌, ◌++◌, append_assoc}
use native.Mathlib.Omega.{arith}
use borrow.Author.Tests.{leb-true}
use lib.Dec.{leb}
use lib.ListN.{length, drop, length-append}
use Rattle.lists.specs.Lists.{pick, cat}
use Rattle.lists.specs.Bytes.{same_bytes, clean, ok_text, among, distinct}
use Rattle.lists.specs.Checked.{Checked, refused, ok, Holds}
use Rattle.lists.specs.Refusal.{Refusal, list_full}
use Rattle.lists.proofs.Tests.{and_both, neither}
use Rattle.lists.proofs.Bytes.{same-eq}
use Rattle.lists.proofs.Edits.{among_one}
use Rattle.bits.specs.Bits.{number_at}
use Rattle.bits.specs.Fields.{packed}
use Rattle.bits.proofs.Fields.{length-packed}
use Rattle.splice.specs.Moves.{stored, replaced, padded}
use Rattle.splice.proofs.Laws.{replace_padded, store_padded}
use Rattle.entries.specs.Entry.{Property, ok_prop, prop_fields, enc_prop, keys}
use Rattle.entries.proofs.Entries.{prop_length}
use Rattle.rows.specs.Row.{find_in}
use Rattle.rows.specs.declared.Kind.TheVariants as kind
use Rattle.rows.specs.declared.Found.{Found}
use Rattle.std.specs.Prelude.{Ok, Err}
use Rattle.rows.proofs.Search.{Among, property-written}
use Rattle.outcome.specs.State.{State, Properties, Good}
use Rattle.outcome.specs.Change.{with_properties}
use Rattle.outcome.specs.Edits.{property, remove_property, replace_property, set_property}
use Rattle.outcome.proofs.Edits.{set-property, remove-property}
use Rattle.outcome.proofs.Change.{properties_good}
use Rattle.outcome_target.specs.Layout.{start_of, moved_by, Rising}
use Rattle.outcome_target.specs.Held.{Held}
use Rattle.outcome_target.specs.declared.Layout.{Layout}
use Rattle.outcome_target.specs.declared.Section.TheVariants as section
use Rattle.outcome_target.proofs.Facts.{held-size}
use Rattle.outcome_target.proofs.Rows.{properties-row, row_count}
use Rattle.row_edits.specs.Edits.{Grown, Revalued}
use Rattle.row_edits.proofs.Held.{Room, grown_room, grown_held, ahead, after, entry_around, entry-start, entry-end, exchanged_room, exchanged_held}
use Rattle.outcome_lists.proofs.Found.{Cuts, entry_found, found-cuts, found_missing}
use Rattle.outcome_lists.proofs.Runs.{append_last, append_full}

-- ---- the definition

module _ (k v : List ℕ) where
  -- the first property with the key
  replace_one : (a : List Property) (e : Property) (b : List Property) → among k (keys a) ≡ false → same_bytes e.key k ≡ true
      → replace_property k v (a ++ (e ∷ b)) ≡ a ++ (property k v ∷ b)
  unfolding replace_property
  replace_one [] e b h q = rw q
  replace_one (p ∷ a) e b h q =
      let (x, y) = neither (same_bytes p.key k) (among k (keys a)) h in
      rw x (ap (λ (l : List Property). p ∷ l) (replace_one a e b y q))

  pub set_there : (a : List Property) (e : Property) (b : List Property) → among k (keys a) ≡ false → same_bytes e.key k ≡ true
      → set_property k v (a ++ (e ∷ b)) ≡ ok (a ++ (property k v ∷ b))
  unfolding set_property
  set_there a e b h q = rw (among_one (λ (p : Property). p.key) k a e b q, set_property) (ap (λ (l : List Property). ok l) (replace_one a e b h q))

  pub set_last : (ps : List Property) → among k (keys ps) ≡ false → length ps < 32 → set_property k v ps ≡ ok (ps ++ (property k v ∷ []))
  unfolding set_property
  set_last ps h q = rw (h, set_property) (append_last 32 (property k v) ps q)

  pub set_full : (ps : List Property) → among k (keys ps) ≡ false → 32 ≤ length ps → set_property k v ps ≡ refused list_full
  unfolding set_property
  set_full ps h q = rw (h, set_property) (append_full 32 (property k v) ps q)

-- ---- in the target

-- the layout where both numbers have as much more
moved_both : (lay : Layout) (c x old new : ℕ) → x ≡ c + new → moved_by lay section.Properties old new ≡ moved_by lay section.Properties (c + old) x
moved_both lay c x old new h =
    let tags : lay.tags + new - old ≡ lay.tags + x - (c + old) = omega arith in
    let runs : lay.runs + new - old ≡ lay.runs + x - (c + old) = omega arith in
    let end : lay.end + new - old ≡ lay.end + x - (c + old) = omega arith in
    λ i. record { links = lay.links; properties = lay.properties; tags = tags i; runs = runs i; end = end i }

-- the bytes of a property with another value
revalued : (p q k old v h₀ h l : List ℕ) (m at end : ℕ) → length h₀ ≡ 2 → length h ≡ 2 → length p ≡ at → at + (2 + length k + length old) + length q ≡ end → end ≤ m
    → l ≡ padded m (p ++ ((h₀ ++ (k ++ old)) ++ q)) → stored (replaced l (at + 2 + length k) (length old) end v) at h ≡ padded m (p ++ ((h ++ (k ++ v)) ++ q))
revalued p q k old v h₀ h l m at end l₀ l₁ lp le fits w =
    let before : List ℕ = p ++ (h₀ ++ k) in
    let lb : length before ≡ at + 2 + length k = simp length-append (omega arith) in
    let w₁ : l ≡ padded m (before ++ (old ++ q)) = w ∙ ap (padded m) (three old) in
    let u : List ℕ = replaced l (at + 2 + length k) (length old) end v in
    let e₁ : u ≡ padded m (before ++ (v ++ q)) = replace_padded before old q m (at + 2 + length k) (length old) end l w₁ lb refl (omega arith) fits v in
    let e₂ : u ≡ padded m (p ++ (h₀ ++ (k ++ (v ++ q)))) = e₁ ∙ ap (padded m) (four v) in
    let r : List ℕ = k ++ (v ++ q) in
    store_padded p h₀ r m at 2 (at + 2 + length r) u e₂ lp l₀ refl h l₁ ∙ ap (padded m) (five v)
  where
    three : (x : List ℕ) → p ++ ((h₀ ++ (k ++ x)) ++ q) ≡ (p ++ (h₀ ++ k)) ++ (x ++ q)
    three x = simp append_assoc

    four : (x : List ℕ) → (p ++ (h₀ ++ k)) ++ (x ++ q) ≡ p ++ (h₀ ++ (k ++ (x ++ q)))
    four x = simp append_assoc

    five : (x : List ℕ) → p ++ (h ++ (k ++ (x ++ q))) ≡ p ++ ((h ++ (k ++ x)) ++ q)
    five x = simp append_assoc

head_size : (k v : ℕ) → length (packed (prop_fields k v)) ≡ 2
head_size k v = length-packed (prop_fields k v) 2 refl

-- what another value asks
pub record Fits (lay : Layout) (room p k old new : ℕ) : Type 0 where
  pub rising : Rising lay
  pub within : p + 2 + k + old ≤ lay.tags
  pub end : lay.end ≤ room
  pub fits : lay.end + new ≤ room + old
  pub small : lay.end + new < 4294967296

module _ (n : ℕ) (l : List ℕ) (lay : Layout) (s : State) (w : Held n l lay s) (key : List ℕ) (at count : ℕ) (start : at ≡ start_of lay section.Properties) (number : count ≡ number_at l 72 6) where
  pub property-among : (p : ℕ) → find_in kind.Property key at count (drop at l) ≡ Err p → among key (keys s.properties) ≡ false
  property-among p e = found_missing properties-row property-written n l lay s w w.good.properties.each w.good.properties.apart key at count start number p e

  pub property_less : Good n (with_properties s (remove_property key s.properties))
  property_less = properties_good n s w.good (remove_property key s.properties) (remove-property key s.properties w.good.properties)

  module _ (value : List ℕ) (sound : ok_prop (property key value) ≡ true) where
    set_good : (ps : List Property) → set_property key value s.properties ≡ ok ps → Good n (with_properties s ps)
    set_good ps e = properties_good n s w.good ps (subst (Holds Properties) e (set-property key value s.properties sound w.good.properties))

    -- a new one
    pub property_room : among key (keys s.properties) ≡ false → length s.properties < 32 → Room lay (length l) (length (enc_prop (property key value)))
    property_room h q = grown_room properties-row n l lay s w (property key value) (set_good (s.properties ++ (property key value ∷ [])) (set_last key value s.properties h q))

    pub property_grown : (l' : List ℕ) (lay' : Layout) → length l' ≡ length l → among key (keys s.properties) ≡ false → length s.properties < 32
        → Grown l lay section.Properties (count + 1) (enc_prop (property key value)) l' lay' → Held n l' lay' (with_properties s (s.properties ++ (property key value ∷ [])))
    property_grown l' lay' same h q g =
        grown_held properties-row n l lay s w l' lay' same (property key value) (count + 1) (ap (λ (i : ℕ). i + 1) (number ∙ row_count properties-row n l lay s w)) g
        (set_good (s.properties ++ (property key value ∷ [])) (set_last key value s.properties h q))

    -- one that is there
    module _ (f : Found) (e : find_in kind.Property key at count (drop at l) ≡ Ok f) where
      abbrev p : ℕ
      p = f.at

      abbrev old : ℕ
      old = f.len

      there : Among Property kind.Property enc_prop (λ x. x.key) (λ x. x.value) key s.properties at f
      there = entry_found properties-row property-written n l lay s w w.good.properties.each w.good.properties.apart key at count start number f e

      module _ (i : Among Property kind.Property enc_prop (λ x. x.key) (λ x. x.value) key s.properties at f) where
        set_is : set_property key value s.properties ≡ ok (i.before ++ (property key value ∷ i.after))
        set_is = ap (set_property key value) i.whole ∙ set_there key value i.before i.entry i.after i.first i.same

        same_key : i.entry.key ≡ key
        same_key = same-eq i.entry.key key i.same

        old_is : old ≡ length i.entry.value
        old_is = i.size

        entry_length : length (enc_prop i.entry) ≡ 2 + length key + old
        entry_length = prop_length i.entry ∙ omega (arith, ap length same_key, old_is)

        new_length : length (enc_prop (property key value)) ≡ 2 + length key + length value
        new_length = prop_length (property key value) ∙ omega arith

        value_fits : Fits lay (length l) p (length key) old (length value)
        value_fits =
            let c = found-cuts properties-row property-written n l lay s w w.good.properties.each w.good.properties.apart key at count start number f e in
            let r = exchanged_room properties-row s n l lay w i.before i.entry i.after i.whole (property key value) (set_good (i.before ++ (property key value ∷ i.after)) set_is) in
            record {
              rising = c.rising;
              within = omega (arith, c.within, i.value, ap length same_key);
              end = c.end;
              fits = omega (arith, r, entry_length, new_length, w.room);
              small = omega (arith, r, entry_length, new_length, c.most, c.within, i.value, ap length same_key, c.rising.tags, c.rising.runs);
            }

        value_held : (l' : List ℕ) (lay' : Layout) → length l' ≡ length l → Revalued l lay p (length key) old value l' lay' → Held n l' lay' (with_properties s (i.before ++ (property key value ∷ i.after)))
        value_held l' lay' same t =
            let P : List ℕ = ahead properties-row s i.before in
            let Q : List ℕ = after properties-row s i.after in
            let h₀ : List ℕ = packed (prop_fields (length i.entry.key) (length i.entry.value)) in
            let h : List ℕ = packed (prop_fields (length key) (length value)) in
            let g : l ≡ padded (length l) (P ++ ((h₀ ++ (key ++ i.entry.value)) ++ Q)) =
            entry_around properties-row s n l lay w i.before i.entry i.after i.whole
            ∙ ap (λ (x : List ℕ). padded (length l) (P ++ ((h₀ ++ (x ++ i.entry.value)) ++ Q))) same_key
            in
            let lp : length P ≡ p =
            entry-start properties-row s n l lay w i.before i.entry i.after i.whole
            ∙ ap (λ (j : ℕ). j + length (cat enc_prop i.before)) (sym start)
            ∙ sym i.place
            in
            let le : p + (2 + length key + length i.entry.value) + length Q ≡ lay.end =
            omega (arith, lp, entry_length, old_is, entry-end properties-row s n l lay w i.before i.entry i.after i.whole)
            in
            let u : l' ≡ padded (length l) (P ++ (enc_prop (property key value) ++ Q)) =
            t.bytes
            ∙ ap (λ (j : ℕ). stored (replaced l (p + 2 + length key) j lay.end value) p h) old_is
            ∙ revalued P Q key i.entry.value value h₀ h l (length l) p lay.end (head_size (length i.entry.key) (length i.entry.value)) (head_size (length key) (length value)) lp le
            (held-size n l lay s w).1 g
            in
            subst (λ (j : Layout). Held n l' j (with_properties s (i.before ++ (property key value ∷ i.after))))
            (sym (t.layout ∙ moved_both lay (2 + length key) (length (enc_prop (property key value))) old (length value) new_length ∙ ap (λ (j : ℕ). moved_by lay section.Properties j (length (enc_prop (property key value)))) (sym entry_length)))
            (exchanged_held properties-row s n l lay w i.before i.entry i.after i.whole (property key value) (set_good (i.before ++ (property key value ∷ i.after)) set_is) l' same u)

      pub there_fits : Fits lay (length l) p (length key) old (length value)
      there_fits = value_fits there

      pub there_set : (l' : List ℕ) (lay' : Layout) → length l' ≡ length l → Revalued l lay p (length key) old value l' lay'
          → (ps : List Property) × (set_property key value s.properties ≡ ok ps) × Held n l' lay' (with_properties s ps)
      there_set l' lay' same t = let i = there in (i.before ++ (property key value ∷ i.after), set_is i, value_held i l' lay' same t)
