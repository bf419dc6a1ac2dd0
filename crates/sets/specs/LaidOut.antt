-- Document 02, Items 7, 11 and 14: what is wanted of the bytes of a set. All sets within their size have them, and refusal 7 is for other bytes alone.
-- Assumes nothing.
use Rattle.std.specs.Prelude.{ℕ, ◌≤◌, ◌≡◌, Bool, true, List, length}
use Rattle.std.specs.Prelude.{Some}
use Rattle.lists.specs.Lists.{all}
use Rattle.lists.specs.Bytes.{Bytes}
use Rattle.entries.specs.Parse.{Parse}
use Rattle.sets.specs.Sets.{encode_set, decode_set}
use Rattle.sets.specs.Lent.{most_records, ok_lent, enc_lent, one_lent}

-- sets of `least` to `most` entries that are ok
pub record LaidOut {A : Type 0} (enc : A → List ℕ) (ok : A → Bool) (one : List ℕ → Parse A) (least most : ℕ) : Type 0 where
  -- each is read back from its bytes
  pub there : (xs : List A) → least ≤ length xs → length xs ≤ most → all ok xs ≡ true → decode_set least most one (encode_set enc xs) ≡ Some xs
  -- what is read from bytes is such a set, and they are its bytes
  pub back : (bs : List ℕ) (xs : List A) → Bytes bs → decode_set least most one bs ≡ Some xs
      → (bs ≡ encode_set enc xs) × (all ok xs ≡ true) × (least ≤ length xs) × (length xs ≤ most)

-- records of up to 65,535 bytes, sound or not
abbrev pub LentLaidOut : Type 0
LentLaidOut = LaidOut enc_lent ok_lent one_lent 0 most_records
