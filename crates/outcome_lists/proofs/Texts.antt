-- Links and tags in the target: an entry added, one removed.
-- Assumes nothing.
use Prim.Native.Nat.{ℕ, ◌+◌, ◌≤◌, ◌<◌}
use mathlib.Core.Path.{◌≡◌, refl, sym, ap, ◌∙◌, subst}
use mathlib.Core.Bool.{Bool, true, false}
use mathlib.Core.List.{List, [], ◌∷◌, ◌++◌, map, map-id}
use native.Mathlib.Omega.{arith}
use borrow.Author.Tests.{lt-ltb, le-ltb, leb-true}
use lib.Dec.{ltb, leb}
use lib.ListN.{length, drop}
use Rattle.lists.specs.Bytes.{clean, among, distinct}
use Rattle.lists.specs.Checked.{Checked, refused, ok, Holds}
use Rattle.lists.specs.Refusal.{Refusal, list_full}
use Rattle.lists.proofs.Tests.{and_both}
use Rattle.bits.specs.Bits.{number_at}
use Rattle.entries.specs.Entry.{enc_text}
use Rattle.rows.specs.Row.{names}
use Rattle.rows.specs.declared.Kind.TheVariants as kind
use Rattle.outcome.specs.Content.{ok_name}
use Rattle.outcome.specs.State.{State, Entries, Good}
use Rattle.outcome.specs.Edits.{append, add_entry, remove_entry}
use Rattle.outcome.proofs.Edits.{add-entry, remove_entry_lem}
use Rattle.outcome.proofs.Change.{links_good, tags_good}
use Rattle.outcome_target.specs.Layout.{start_of, count_place, count_width, Rising}
use Rattle.outcome_target.specs.Held.{Held}
use Rattle.outcome_target.specs.Texts.{section_of, ok_of, most_of, texts_in, with_texts}
use Rattle.outcome_target.specs.declared.Layout.{Layout}
use Rattle.outcome_target.specs.declared.Section.{Section}
use Rattle.outcome_target.specs.declared.Texts.{Texts}
use Rattle.outcome_target.specs.declared.Texts.TheVariants.{Links, Tags}
use Rattle.row_edits.specs.Edits.{Grown}
use Rattle.row_edits.proofs.Held.{Room, grown_room, grown_held}
use Rattle.outcome_readers.proofs.Rows.{texts_at, texts_read}

-- ---- either list

pub texts-same : (list : Texts) (s : State) → with_texts list s (texts_in list s) ≡ s
texts-same Links s = refl
texts-same Tags s = refl

pub most_is : (list : Texts) → most_of list ≡ 16
most_is Links = refl
most_is Tags = refl

pub texts-sound : (list : Texts) (n : ℕ) (s : State) → Good n s → Entries (most_of list) (ok_of list) (texts_in list s)
texts-sound Links n s g = g.links
texts-sound Tags n s g = g.tags

texts_good : (list : Texts) (n : ℕ) (s : State) → Good n s → (xs : List (List ℕ)) → Entries (most_of list) (ok_of list) xs → Good n (with_texts list s xs)
texts_good Links n s g xs h = links_good n s g xs h
texts_good Tags n s g xs h = tags_good n s g xs h

text_short : (list : Texts) (x : List ℕ) → ok_of list x ≡ true → length x < 256
text_short Links x h =
    let a = and_both (ok_name x) (clean x) h in
    let b = and_both (leb (length x) 128) _ a.0 in
    omega (arith, leb-true (length x) 128 b.0)
text_short Tags x h =
    let a = and_both (leb 1 (length x)) _ h in
    let b = and_both (leb (length x) 64) (clean x) a.1 in
    omega (arith, leb-true (length x) 64 b.0)

-- ---- the definition

module _ (most : ℕ) (x : List ℕ) (xs : List (List ℕ)) where
  pub add-held : among x xs ≡ true → add_entry most x xs ≡ ok xs
  unfolding add_entry
  add-held h = rw (h, add_entry)

  pub add_last : among x xs ≡ false → length xs < most → add_entry most x xs ≡ ok (xs ++ (x ∷ []))
  unfolding add_entry
  add_last h k = rw (h, add_entry) (rw (lt-ltb (length xs) most k, append))

  pub add_full : among x xs ≡ false → most ≤ length xs → add_entry most x xs ≡ refused list_full
  unfolding add_entry
  add_full h k = rw (h, add_entry) (rw (le-ltb (length xs) most k, append))

-- ---- in the target

module _ (list : Texts) (part : Section) (is : part ≡ section_of list) (n : ℕ) (l : List ℕ) (lay : Layout) (s : State) (w : Held n l lay s) (x : List ℕ) where
  grown_good : ok_of list x ≡ true → among x (texts_in list s) ≡ false → length (texts_in list s) < 16 → Good n (with_texts list s (texts_in list s ++ (x ∷ [])))
  grown_good o h k =
      texts_good list n s w.good (texts_in list s ++ (x ∷ []))
      (subst (Holds (Entries (most_of list) (ok_of list))) (add_last (most_of list) x (texts_in list s) h (subst (λ (i : ℕ). length (texts_in list s) < i) (sym (most_is list)) k))
      (add-entry (most_of list) (ok_of list) x (texts_in list s) o (texts-sound list n s w.good)))

  -- what an append asks
  pub text_room : ok_of list x ≡ true → among x (texts_in list s) ≡ false → length (texts_in list s) < 16 → Room lay (length l) (length (enc_text x)) × (length x < 256)
  text_room o h k = (grown_room (texts_at list part is) n l lay s w x (grown_good o h k), text_short list x o)

  module _ (at count : ℕ) (start : at ≡ start_of lay part) (number : count ≡ number_at l (count_place part) (count_width part)) where
    pub text-count : count ≡ length (texts_in list s)
    text-count = (texts_read list part is n l lay s w at count start number).counted

    pub text-among : (b : Bool) → b ≡ among x (names kind.Text count (drop at l)) → b ≡ among x (texts_in list s)
    text-among b e = e ∙ ap (among x) ((texts_read list part is n l lay s w at count start number).named ∙ map-id (texts_in list s))

    pub text_grown : (l' : List ℕ) (lay' : Layout) → length l' ≡ length l → ok_of list x ≡ true → among x (texts_in list s) ≡ false → length (texts_in list s) < 16
        → Grown l lay part (count + 1) (enc_text x) l' lay' → Held n l' lay' (with_texts list s (texts_in list s ++ (x ∷ [])))
    text_grown l' lay' same o h k g =
        grown_held (texts_at list part is) n l lay s w l' lay' same x (count + 1) (ap (λ (i : ℕ). i + 1) text-count) g (grown_good o h k)

  -- an entry less
  pub text_less : Good n (with_texts list s (remove_entry x (texts_in list s)))
  text_less = texts_good list n s w.good (remove_entry x (texts_in list s)) (remove_entry_lem (most_of list) (ok_of list) x (texts_in list s) (texts-sound list n s w.good))

  pub text-apart : distinct (map (λ (y : List ℕ). y) (texts_in list s)) ≡ true
  text-apart = ap distinct (map-id (texts_in list s)) ∙ (texts-sound list n s w.good).apart
