-- A property's value under the setting, and the whole of an assignment to ENV.
-- Assumes nothing.
use Prim.Native.Nat.{ℕ, ◌+◌, ◌≤◌}
use mathlib.Core.Path.{◌≡◌, refl, sym, ◌∙◌, ap, subst}
use mathlib.Core.Bool.{Bool, true, false, not}
use mathlib.Core.List.{List, [], ◌∷◌, ◌++◌, map}
use Rattle.std.specs.Prelude.{Option, None, Some, ok_or}
use native.Mathlib.Omega.{arith}
use lib.Dec.{eqb}
use lib.ListN.{length, take, drop, length-map, length-append}
use lib.Seq.{take_at}
use Rattle.splice.specs.Moves.{stored}
use Rattle.link_names.specs.Names.{byte_but}
use borrow.Author.Tests.{le-leb}
use Rattle.lists.proofs.Lists.{empty_list}
use Rattle.lists.specs.Lists.{pick, is_empty}
use Rattle.lists.specs.Bytes.{clean, ok_text}
use Rattle.lists.specs.Checked.{Checked, ok, ◌>>=◌}
use Rattle.lists.specs.Refusal as refusal
use Rattle.lists.specs.Sizes.{most_key, most_value}
use Rattle.lists.proofs.Tests.{and_both, both_and}
use Rattle.entries.specs.Entry.{Property, ok_prop}
use Rattle.rules.specs.Pair.{Pair}
use Rattle.refusals.specs.declared.Refusal.TheVariants.{ListFull}
use Rattle.outcome.specs.State.{State}
use Rattle.outcome.specs.Change.{with_properties}
use Rattle.outcome.specs.Edits.{property, remove_property, set_property}
use Rattle.outcome_target.specs.Held.{Changed, Left, Edited}
use Rattle.outcome_target.specs.declared.Layout.{Layout}
use Rattle.engine.specs.Assign.{Escape, link_byte, clean_byte, cleaned, clean_value, change_properties, valued}
use Rattle.records.specs.Records.{Says}

-- ---- the value

pub prop_ok : (k v : List ℕ) → ok_text most_key k ≡ true → length v ≤ most_value → clean v ≡ true → ok_prop (property k v) ≡ true
prop_ok k v h m c = rw (h, le-leb (length v) most_value m) c

pub byte-clean : (b : ℕ) → not (eqb b 0) ≡ true → not (eqb (clean_byte b) 0) ≡ true
byte-clean b h = go (link_byte b) refl
  where
    go : (t : Bool) → link_byte b ≡ t → not (eqb (pick t b 95) 0) ≡ true
    go true e = h
    go false e = refl

pub cleaned-clean : (v : List ℕ) → clean v ≡ true → clean (cleaned v) ≡ true
cleaned-clean [] h = refl
cleaned-clean (b ∷ v) h =
    let (p, q) = and_both (not (eqb b 0)) (clean v) h in
    both_and (not (eqb (clean_byte b) 0)) (clean (cleaned v)) (byte-clean b p) (cleaned-clean v q)

-- ---- a copy of the value, cleaned at the front of a buffer

module _ (v z S C : List ℕ) (g : S ≡ stored z 0 v) where
  pub front : take (length v) S ≡ v
  front = ap (take (length v)) g ∙ take_at v (drop (0 + length v) z) (length v) refl

  pub front-size : length v ≡ length (take (length v) S)
  front-size = sym (ap length front)

  module _ (h : C ≡ map (byte_but false) (take (length v) S)) where
    copied : C ≡ cleaned v
    copied = h ∙ ap (map (byte_but false)) front

    pub copy : take (length v) (C ++ drop (length v) S) ≡ cleaned v
    copy = take_at C (drop (length v) S) (length v) (ap length copied ∙ length-map v clean_byte) ∙ copied

    pub copy-size : length v ≡ length (take (length v) (C ++ drop (length v) S))
    copy-size = sym (ap length copy ∙ length-map v clean_byte)

    pub copy_room : length v ≤ length (C ++ drop (length v) S)
    copy_room = omega (arith, length-append C (drop (length v) S), ap length copied, length-map v clean_byte)

    pub copy-ok : (k : List ℕ) → ok_text most_key k ≡ true → length v ≤ most_value → clean v ≡ true → ok_prop (property k (take (length v) (C ++ drop (length v) S))) ≡ true
    copy-ok k o m c = rw copy (prop_ok k (cleaned v) o (omega (arith, length-map v clean_byte)) (cleaned-clean v c))

some_list : (x : List ℕ) → (length x ≡ 0 → ⊥) → is_empty x ≡ false
some_list [] h = absurd (h refl)
some_list (b ∷ x) h = refl

-- ---- the change

module _ (e : Escape) (k v l : List ℕ) (lay : Layout) (l' : List ℕ) where
  pub property-removed : (lay' : Layout) → length v ≡ 0 → Changed (λ s. with_properties s (remove_property k s.properties)) l lay l' lay'
      → Edited with_properties (λ s. change_properties e k v s.properties) l lay l' (Some lay')
  unfolding change_properties
  property-removed lay' h c = λ n s w. (remove_property k s.properties, removed s.properties, c n s w)
    where
      removed : (ps : List Property) → change_properties e k v ps ≡ ok (remove_property k ps)
      removed ps = rw (empty_list v h, change_properties)

  pub property-set : (r : Option Layout) → (length v ≡ 0 → ⊥) → Edited with_properties (λ s. set_property k (clean_value e v) s.properties) l lay l' r
      → Edited with_properties (λ s. change_properties e k v s.properties) l lay l' r
  unfolding change_properties
  property-set r h c = λ n s w. subst (λ (b : Checked refusal.Refusal (List Property)). Left n (with_properties s) b l' r) (sym (changed s.properties)) (c n s w)
    where
      changed : (ps : List Property) → change_properties e k v ps ≡ set_property k (clean_value e v) ps
      changed ps = rw (some_list v h, change_properties)

-- ---- the whole

module _ (e : Escape) (n : ℕ) (s : State) (p : Pair) (k v : List ℕ) (g : p.argument ≡ k) (f : p.value ≡ v) (l' : List ℕ) where
  whole : valued e p s ≡ (change_properties e k v s.properties >>= λ ps. ok (with_properties s ps))
  unfolding valued
  whole = rw (g, f)

  pub env_says : (r : Option Layout) → Left n (with_properties s) (change_properties e k v s.properties) l' r → Says n l' (ok_or r ListFull) (valued e p s)
  env_says (Some lay) (ps, c, z) = (with_properties s ps, whole ∙ ap (λ (b : Checked refusal.Refusal (List Property)). b >>= λ ps. ok (with_properties s ps)) c, z)
  env_says None c = whole ∙ ap (λ (b : Checked refusal.Refusal (List Property)). b >>= λ ps. ok (with_properties s ps)) c
