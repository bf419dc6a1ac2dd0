-- Document 02, Item 14: every set within its size can be laid out and is read back; a plan fits its target.
-- Assumes nothing.
use Prim.Native.Nat.{ℕ, ◌≤◌}
use mathlib.Core.Path.{◌≡◌, refl, sym, ap, ◌∙◌, subst}
use mathlib.Core.Bool.{Bool, true, false}
use mathlib.Core.List.{List, [], ◌∷◌, ◌++◌, append_assoc}
use Rattle.std.specs.Prelude.{Option, None, Some}
use Rattle.std.proofs.lemmas.Option.{none-some}
use native.Mathlib.Omega.{arith}
use borrow.Author.Tests.{leb-true}
use lib.Dec.{leb}
use lib.ListN.{length}
use Rattle.lists.specs.Lists.{all}
use Rattle.lists.specs.Bytes.{Bytes, between}
use Rattle.lists.proofs.Tests.{and_both, both_and}
use Rattle.lists.proofs.Bytes.{bytes_rest}
use Rattle.entries.specs.Parse.{got, many}
use Rattle.entries.specs.Entry.{enc_text, one_text}
use Rattle.entries.proofs.Rows.{Laws, through, many-kept}
use Rattle.entries.proofs.Entries.{text-laws}
use Rattle.sets.specs.Sets.{ok_long, enc_long, one_long, whole, decode_set}
use Rattle.sets.proofs.Sets.{long-laws, whole-some, set_there, set_back, set_laid_out}
use Rattle.plan.specs.Operations.{most_wishes, Wish, short_link, ok_wish, enc_wish, one_wish, encode_wishes, decode_wishes}
use Rattle.plan.specs.Promise.{WishesLaidOut}

wish_there : (w : Wish) (r : List ℕ) → ok_wish w ≡ true → one_wish (enc_wish w ++ r) ≡ got w r
wish_there w r h =
    let (p, q) = and_both (ok_long w.device) (short_link w.link) h in
    ap one_wish (append_assoc (enc_long w.device) (enc_text w.link) r)
    ∙ rw (long-laws.there w.device (enc_text w.link ++ r) p, (text-laws short_link).there w.link r q)

wish-back : (bs : List ℕ) (w : Wish) (r : List ℕ) → Bytes bs → one_wish bs ≡ got w r → (bs ≡ enc_wish w ++ r) × (ok_wish w ≡ true)
wish-back bs w r h e =
    through (one_long bs) _ w r e λ d q p₁ e₁.
    through (one_text short_link q) _ w r e₁ λ l q' p₂ e₂.
    let (u, m) = long-laws.back bs d q h p₁ in
    let (u', m') = (text-laws short_link).back q l q' (bytes_rest (enc_long d) q (subst Bytes u h)) p₂ in
    let i : w ≡ record { device = d; link = l } = cc in
    let j : r ≡ q' = cc in
    rw (i, j)
    (u ∙ ap (λ (y : List ℕ). enc_long d ++ y) u' ∙ sym (append_assoc (enc_long d) (enc_text l) q'), both_and (ok_long d) (short_link l) m m')

pub wish-laws : Laws Wish enc_wish ok_wish one_wish
wish-laws = record { there = wish_there; back = wish-back }

-- 1 to 16 device records, sound or not, to 65,535 bytes each, and links of at most 255
pub laid_out : (ws : List Wish) → 1 ≤ length ws → length ws ≤ most_wishes → all ok_wish ws ≡ true → decode_wishes (encode_wishes ws) ≡ Some ws
laid_out ws l m h = set_there wish-laws 1 most_wishes ws l m h

pub laid_back : (bs : List ℕ) (ws : List Wish) → Bytes bs → decode_wishes bs ≡ Some ws
    → (bs ≡ encode_wishes ws) × (all ok_wish ws ≡ true) × (1 ≤ length ws) × (length ws ≤ most_wishes)
laid_back bs ws h e = set_back wish-laws 1 most_wishes bs ws h e

pub wishes_laid_out : WishesLaidOut
wishes_laid_out = set_laid_out wish-laws 1 most_wishes

-- no set has more, whatever its bytes
pub wishes_few : (bs : List ℕ) (ws : List Wish) → decode_wishes bs ≡ Some ws → length ws ≤ most_wishes
unfolding decode_set
wishes_few [] ws e = absurd (none-some ws e)
wishes_few (n ∷ bs) ws e = at (between 1 most_wishes n) refl e
  where
    at : (t : Bool) → between 1 most_wishes n ≡ t → elim t as (λ _. Option (List Wish)) [ true ↦ whole (many one_wish n bs) | false ↦ None ] ≡ Some ws → length ws ≤ most_wishes
    at false f e = absurd (none-some ws e)
    at true f e =
        let (_, l) = many-kept (λ _. true) one_wish (λ _ _ _ _. refl) n bs ws [] (whole-some (many one_wish n bs) ws e) in
        let q = leb-true n most_wishes (and_both (leb 1 n) (leb n most_wishes) f).1 in
        omega arith
