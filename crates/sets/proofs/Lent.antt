-- Document 02, Item 7: every set of at most 64 pairs of records is read back from its layout, and no other bytes are read as a set.
-- Assumes nothing.
use Prim.Native.Nat.{ℕ, ◌≤◌}
use mathlib.Core.Path.{◌≡◌, sym, ap, ◌∙◌, subst}
use mathlib.Core.Bool.{true}
use mathlib.Core.List.{List, ◌++◌, append_assoc}
use Rattle.std.specs.Prelude.{Some}
use native.Mathlib.Omega.{arith}
use lib.ListN.{length}
use Rattle.lists.specs.Lists.{all}
use Rattle.lists.specs.Bytes.{Bytes}
use Rattle.lists.proofs.Tests.{and_both, both_and}
use Rattle.lists.proofs.Bytes.{bytes_rest}
use Rattle.entries.specs.Parse.{got}
use Rattle.entries.proofs.Rows.{Laws, through}
use Rattle.sets.specs.Sets.{ok_long, enc_long, one_long}
use Rattle.sets.proofs.Sets.{long-laws, set_there, set_back, set_laid_out}
use Rattle.sets.specs.Lent.{most_records, Lent, ok_lent, enc_lent, one_lent, encode_lent, decode_lent}
use Rattle.sets.specs.LaidOut.{LentLaidOut}

lent_there : (l : Lent) (r : List ℕ) → ok_lent l ≡ true → one_lent (enc_lent l ++ r) ≡ got l r
lent_there l r h =
    let (p, q) = and_both (ok_long l.device) (ok_long l.outcome) h in
    ap one_lent (append_assoc (enc_long l.device) (enc_long l.outcome) r)
    ∙ rw (long-laws.there l.device (enc_long l.outcome ++ r) p, long-laws.there l.outcome r q)

lent_back : (bs : List ℕ) (l : Lent) (r : List ℕ) → Bytes bs → one_lent bs ≡ got l r → (bs ≡ enc_lent l ++ r) × (ok_lent l ≡ true)
lent_back bs l r h e =
    through (one_long bs) _ l r e λ d q p₁ e₁.
    through (one_long q) _ l r e₁ λ o q' p₂ e₂.
    let (w, m) = long-laws.back bs d q h p₁ in
    let (w', m') = long-laws.back q o q' (bytes_rest (enc_long d) q (subst Bytes w h)) p₂ in
    let i : l ≡ record { device = d; outcome = o } = cc in
    let j : r ≡ q' = cc in
    rw (i, j)
    (w ∙ ap (λ (y : List ℕ). enc_long d ++ y) w' ∙ sym (append_assoc (enc_long d) (enc_long o) q'), both_and (ok_long d) (ok_long o) m m')

pub lent-laws : Laws Lent enc_lent ok_lent one_lent
lent-laws = record { there = lent_there; back = lent_back }

-- records of up to 65,535 bytes, sound or not
pub laid_out : (ls : List Lent) → length ls ≤ most_records → all ok_lent ls ≡ true → decode_lent (encode_lent ls) ≡ Some ls
laid_out ls m h = set_there lent-laws 0 most_records ls (omega arith) m h

-- so 7 is for other bytes alone
pub laid_back : (bs : List ℕ) (ls : List Lent) → Bytes bs → decode_lent bs ≡ Some ls
    → (bs ≡ encode_lent ls) × (all ok_lent ls ≡ true) × (0 ≤ length ls) × (length ls ≤ most_records)
laid_back bs ls h e = set_back lent-laws 0 most_records bs ls h e

pub lent_laid_out : LentLaidOut
lent_laid_out = set_laid_out lent-laws 0 most_records
