-- Links name by name, and the whole of an assignment to SYMLINK.
-- Assumes nothing.
use Prim.Native.Nat.{ℕ, zero, suc, ◌+◌, ◌-◌, ◌≤◌}
use mathlib.Core.Path.{◌≡◌, refl, sym, ◌∙◌, ap, subst}
use mathlib.Core.Bool.{Bool, true, false, not, ◌&&◌}
use mathlib.Core.List.{List, [], ◌∷◌, ◌++◌, map}
use native.Mathlib.Omega.{arith}
use lib.Dec.{eqb, leb}
use lib.ListN.{length, take, drop, length-map, length-append}
use lib.Seq.{take_at}
use Rattle.std.specs.Prelude.{Option, None, Some, Result, Ok, Err, ok_or}
use Rattle.lists.specs.Lists.{pick, all}
use Rattle.lists.specs.Bytes.{clean, part}
use Rattle.lists.specs.Checked.{Checked, refused, ok, ◌>>=◌, ◌>>◌, require}
use Rattle.lists.specs.Refusal as refusal
use Rattle.lists.specs.Sizes.{most_links, most_substituted, most_output}
use Rattle.lists.proofs.Tests.{and_both, both_and}
use Rattle.lists.proofs.Bytes.{drop-clean}
use Rattle.entries.specs.Entry.{ok_prop}
use Rattle.rules.specs.Key.{Op}
use Rattle.rules.specs.Pair.{Pair}
use Rattle.refusals.specs.Refusals.{refusal_of}
use Rattle.refusals.specs.declared.Refusal.{Refusal}
use Rattle.refusals.specs.declared.Refusal.TheVariants.{ListFull}
use Rattle.device.specs.Device.{Device}
use Rattle.device.proofs.Sound.{Sound}
use Rattle.outcome.specs.Content.{ok_name, ok_link, ok_output}
use Rattle.outcome.specs.State.{State}
use Rattle.outcome.specs.Change.{with_links, shut_links}
use Rattle.outcome_target.specs.Held.{Held, Left}
use Rattle.outcome_target.specs.declared.Layout.{Layout}
use Rattle.outcome_target.specs.declared.Section.TheVariants.{Links}
use Rattle.outcome_fields.specs.Fields.{shut, Rewritten}
use Rattle.outcome_fields.specs.declared.Closable.TheVariants as closable
use Rattle.engine.specs.Substitute.{Source, substituted, within, filled}
use Rattle.engine.specs.Assign.{Escape, unset, as_is, replaced, is_as_is, clean_byte, clean_name, kept, closing, change_entry, names_in, change_links, source_of, linked}
use Rattle.engine.proofs.Clean.{substituted-clean}
use Rattle.link_names.specs.Names.{names, byte_but, Named}
use Rattle.link_names.specs.declared.Name.{Name}
use Rattle.link_names.proofs.Cleaning.{names-cleaned}
use Rattle.records.specs.Records.{Says}
use Rattle.assign_operators.specs.Begun.{begun}
use Rattle.assign_operators.proofs.Operators.{begun-links}
use Rattle.assign_env.proofs.Env.{byte-clean}
use Rattle.assign_links.specs.Links.{one_link, the_links, all_links}

-- ---- one name

module _ (x : List ℕ) (b : Bool) (e : b ≡ ok_name x) where
  pub link_ok : not b ≡ false → clean x ≡ true → ok_link x ≡ true
  link_ok h c = rw (← e) (go b h c)
    where
      go : (b : Bool) → not b ≡ false → clean x ≡ true → (b && clean x) ≡ true
      go true h c = c
      go false h c = sym h

  pub link_faulty : (o : Op) (s : State) → not b ≡ true → one_link o x s ≡ refused refusal.link_bad
  link_faulty o s h = go b e h
    where
      go : (b : Bool) → b ≡ ok_name x → not b ≡ true → one_link o x s ≡ refused refusal.link_bad
      go false e h = rw (← e)
      go true e h = let z : ◌≡◌ {A = ℕ} 0 1 = cc in absurd (omega arith)

  module _ (o : Op) (s : State) (h : not b ≡ false) (n : ℕ) (l : List ℕ) (r : Option Layout) (k : Left n (with_links s) (change_entry o most_links x s.links) l r) where
    passed : one_link o x s ≡ (change_entry o most_links x s.links >>= λ ls. ok (with_links s ls))
    passed = go b e h
      where
        go : (b : Bool) → b ≡ ok_name x → not b ≡ false → one_link o x s ≡ (change_entry o most_links x s.links >>= λ ls. ok (with_links s ls))
        go true e h = rw (← e)
        go false e h = let z : ◌≡◌ {A = ℕ} 0 1 = cc in absurd (omega arith)

    pub link_says : Says n l (ok_or r ListFull) (one_link o x s)
    link_says = at r k
      where
        at : (r : Option Layout) → Left n (with_links s) (change_entry o most_links x s.links) l r → Says n l (ok_or r ListFull) (one_link o x s)
        at (Some lay) (ls, c, z) = (with_links s ls, passed ∙ ap (λ (b : Checked refusal.Refusal (List (List ℕ))). b >>= λ ls. ok (with_links s ls)) c, z)
        at None c = passed ∙ ap (λ (b : Checked refusal.Refusal (List (List ℕ))). b >>= λ ls. ok (with_links s ls)) c

-- ---- one name after the other

next_link : (o : Op) (x : List ℕ) (xs : List (List ℕ)) (s : State) → the_links o (x ∷ xs) s ≡ (one_link o x s >>= λ s'. the_links o xs s')
unfolding change_links
next_link o x xs s = go (ok_name x) (change_entry o most_links x s.links)
  where
    go : (b : Bool) (c : Checked refusal.Refusal (List (List ℕ)))
        → ((require b refusal.link_bad >> (c >>= λ ls'. change_links o xs ls')) >>= λ ls. ok (with_links s ls))
        ≡ (((require b refusal.link_bad >> c) >>= λ ls. ok (with_links s ls)) >>= λ s'. the_links o xs s')
    go false c = refl
    go true (refused f) = refl
    go true (ok ls) = refl

take-clean : (n : ℕ) (bs : List ℕ) → clean bs ≡ true → clean (take n bs) ≡ true
take-clean zero bs h = refl
take-clean (suc n) [] h = refl
take-clean (suc n) (b ∷ bs) h =
    let (p, q) = and_both (not (eqb b 0)) (clean bs) h in
    both_and (not (eqb b 0)) (clean (take n bs)) p (take-clean n bs q)

pub part-clean : (t : List ℕ) (s e : ℕ) → clean t ≡ true → clean (part t s e) ≡ true
part-clean t s e h = take-clean (e - s) (drop s t) (drop-clean s t h)

-- the names from a place on give what all names give
pub record Going (o : Op) (text t₀ : List ℕ) (lay₀ : Layout) (t : List ℕ) (lay : Layout) (at : ℕ) : Type 0 where
  pub room : length t ≡ length t₀
  pub within : at ≤ length text
  pub going : (n : ℕ) (s₀ : State) → Held n t₀ lay₀ s₀ → (s : State) × Held n t lay s × (the_links o (names (drop at text)) s ≡ the_links o (names text) s₀)

module _ (o : Op) (text t₀ : List ℕ) (lay₀ : Layout) where
  pub links_begin : Going o text t₀ lay₀ t₀ lay₀ 0
  links_begin = record { room = refl; within = omega arith; going = λ n s h. (s, h, refl) }

  module _ (t : List ℕ) (lay : Layout) (at : ℕ) (g : Going o text t₀ lay₀ t lay at) (r : Option Name) (k : Named text at r) where
    module _ (b : Name) (q : r ≡ Some b) (t' : List ℕ) (x : Result Layout Refusal) (i : length t' ≡ length t)
        (c : (n : ℕ) (s : State) → Held n t lay s → Says n t' x (one_link o (part text b.start b.end) s)) where
      name_placed : Named text at (Some b)
      name_placed = subst (Named text at) q k

      split : (s : State) → the_links o (names (drop at text)) s ≡ (one_link o (part text b.start b.end) s >>= λ s'. the_links o (names (drop b.end text)) s')
      split s = ap (λ (xs : List (List ℕ)). the_links o xs s) name_placed.0 ∙ next_link o (part text b.start b.end) (names (drop b.end text)) s

      pub links-on : (lay' : Layout) → x ≡ Ok lay' → Going o text t₀ lay₀ t' lay' b.end
      links-on lay' w = record {
        room = i ∙ g.room;
        within = name_placed.3;
        going = λ n s₀ h.
            let (s, z, f) = g.going n s₀ h in
            let (s', u, v) = subst (λ (x : Result Layout Refusal). Says n t' x (one_link o (part text b.start b.end) s)) w (c n s z) in
            (s', v, sym (split s ∙ ap (λ (y : Checked refusal.Refusal State). y >>= λ s'. the_links o (names (drop b.end text)) s') u) ∙ f);
      }

      pub links-refused : (y : Refusal) → x ≡ Err y → (n : ℕ) (s₀ : State) → Held n t₀ lay₀ s₀ → the_links o (names text) s₀ ≡ refused (refusal_of y)
      links-refused y w n s₀ h =
          let (s, z, f) = g.going n s₀ h in
          let u : one_link o (part text b.start b.end) s ≡ refused (refusal_of y) = subst (λ (x : Result Layout Refusal). Says n t' x (one_link o (part text b.start b.end) s)) w (c n s z) in
          sym f ∙ split s ∙ ap (λ (y : Checked refusal.Refusal State). y >>= λ s'. the_links o (names (drop b.end text)) s') u

    pub links_end : r ≡ None → (n : ℕ) (s₀ : State) → Held n t₀ lay₀ s₀ → Says n t (Ok lay) (the_links o (names text) s₀)
    unfolding change_links
    links_end q n s₀ h =
        let (s, z, f) = g.going n s₀ h in
        let w : names (drop at text) ≡ [] = subst (Named text at) q k in
        (s, sym f ∙ ap (λ (xs : List (List ℕ)). the_links o xs s) w, z)

-- ---- as the operator begins and ends

all_whole : (o : Op) (xs : List (List ℕ)) (s : State) → all_links o xs s ≡ (the_links o xs (begun Links o s) >>= λ s'. ok (closing o shut_links s'))
all_whole o xs s = rw (begun-links o s) (go (change_links o xs (kept o s.links)))
  where
    go : (c : Checked refusal.Refusal (List (List ℕ)))
        → (c >>= λ ls. ok (closing o shut_links (with_links s ls))) ≡ ((c >>= λ ls. ok (with_links (with_links s (kept o s.links)) ls)) >>= λ s'. ok (closing o shut_links s'))
    go (refused f) = refl
    go (ok ls) = refl

module _ (o : Op) (xs : List (List ℕ)) (n : ℕ) (s : State) (l : List ℕ) (r : Result Layout Refusal) (h : Says n l r (the_links o xs (begun Links o s))) where
  pub all_left : (lay : Layout) → r ≡ Ok lay → (l' : List ℕ) → Rewritten (closing o (shut closable.Links)) l l' → Says n l' (Ok lay) (all_links o xs s)
  all_left lay q l' w =
      let (s', c, z) = subst (λ (r : Result Layout Refusal). Says n l r (the_links o xs (begun Links o s))) q h in
      (closing o shut_links s', all_whole o xs s ∙ ap (λ (b : Checked refusal.Refusal State). b >>= λ s'. ok (closing o shut_links s')) c, w n lay s' z)

  pub all-refused : (y : Refusal) → r ≡ Err y → all_links o xs s ≡ refused (refusal_of y)
  all-refused y q =
      let c : the_links o xs (begun Links o s) ≡ refused (refusal_of y) = subst (λ (r : Result Layout Refusal). Says n l r (the_links o xs (begun Links o s))) q h in
      all_whole o xs s ∙ ap (λ (b : Checked refusal.Refusal State). b >>= λ s'. ok (closing o shut_links s')) c

-- ---- the names as the setting asks

same_map : (xs : List (List ℕ)) → xs ≡ map (clean_name as_is) xs
same_map [] = refl
same_map (x ∷ xs) = ap (λ (ys : List (List ℕ)). x ∷ ys) (same_map xs)

pub names_as_is : (x : List ℕ) → names x ≡ names_in as_is x
unfolding names_in
names_as_is x = same_map (names x)

module _ (x x' : List ℕ) (e : x' ≡ map (byte_but true) x) where
  pub names-unset : names x' ≡ names_in unset x
  unfolding names_in
  names-unset = ap names e ∙ names-cleaned x

  pub names-replaced : names x' ≡ names_in replaced x
  unfolding names_in
  names-replaced = ap names e ∙ names-cleaned x

  but-clean : (b : ℕ) → not (eqb b 0) ≡ true → not (eqb (byte_but true b) 0) ≡ true
  but-clean b h = go (eqb b 32)
    where
      go : (t : Bool) → not (eqb (pick t b (clean_byte b)) 0) ≡ true
      go true = h
      go false = byte-clean b h

  map-clean : (y : List ℕ) → clean y ≡ true → clean (map (byte_but true) y) ≡ true
  map-clean [] h = refl
  map-clean (b ∷ y) h =
      let (p, q) = and_both (not (eqb b 0)) (clean y) h in
      both_and (not (eqb (byte_but true b) 0)) (clean (map (byte_but true) y)) (but-clean b p) (map-clean y q)

  pub names-clean : clean x ≡ true → clean x' ≡ true
  names-clean h = ap clean e ∙ map-clean x h

  pub names-size : length x' ≡ length x
  names-size = ap length e ∙ length-map x (byte_but true)

-- ---- the whole

pub filled-clean : (c : Source) → Sound c.device → all ok_prop c.properties ≡ true → ok_output c.output ≡ true → (spaceless : Bool) (v x : List ℕ) → clean v ≡ true
    → filled spaceless c v ≡ ok x → clean x ≡ true
unfolding filled
filled-clean c g k o spaceless v x h e = go (leb (length (substituted spaceless c v)) most_substituted) refl
  where
    go : (b : Bool) → leb (length (substituted spaceless c v)) most_substituted ≡ b → clean x ≡ true
    go true q =
        let w : ok (substituted spaceless c v) ≡ ok x = rw (q, within) at e in
        let z : substituted spaceless c v ≡ x = cc in
        subst (λ (y : List ℕ). clean y ≡ true) z (substituted-clean c g k (and_both (leb (length c.output) most_output) (clean c.output) o).1 spaceless v h)
    go false q =
        let w : refused refusal.substitution_long ≡ ok x = rw (q, within) at e in
        let z : ◌≡◌ {A = ℕ} 0 1 = cc in absurd (omega arith)

-- the front of a buffer whose first k bytes were replaced
module _ (F C : List ℕ) (k : ℕ) (i : length C ≡ k) where
  pub front : take k (C ++ drop k F) ≡ C
  front = take_at C (drop k F) k i

  pub front_room : k ≤ length (C ++ drop k F)
  front_room = omega (arith, length-append C (drop k F), i)

module _ (d : Device) (place : ℕ) (s : State) (p : Pair) (o : Op) (v : List ℕ) (e : p.op ≡ o) (f : p.value ≡ v) (z : Escape) (b : Bool) (y : b ≡ is_as_is z) where
  abbrev work : Checked refusal.Refusal State
  work = linked d place p (record { state = s; escape = z })

  linked-filled : (x : List ℕ) → filled (not b) (source_of d place s) v ≡ ok x → work ≡ all_links o (names_in z x) s
  unfolding linked
  linked-filled x q = let w : filled (not (is_as_is z)) (source_of d place s) v ≡ ok x = rw y at q in rw (e, f, w)

  pub linked-says : (x c : List ℕ) → filled (not b) (source_of d place s) v ≡ ok x → names c ≡ names_in z x → (n : ℕ) (t' : List ℕ) (r : Result Layout Refusal)
      → Says n t' r (all_links o (names c) s) → Says n t' r work
  linked-says x c q m n t' r h = subst (Says n t' r) (ap (λ (xs : List (List ℕ)). all_links o xs s) m ∙ sym (linked-filled x q)) h

  pub linked_long : filled (not b) (source_of d place s) v ≡ refused refusal.substitution_long → work ≡ refused refusal.substitution_long
  unfolding linked
  linked_long q = let w : filled (not (is_as_is z)) (source_of d place s) v ≡ refused refusal.substitution_long = rw y at q in rw (f, w)
