-- Document 02, Item 7: a lent set of outcome records, each behind its device record.
-- Assumes nothing.
use Rattle.std.specs.Prelude.{ℕ, Bool, ◌&&◌, List, ◌++◌}
use Rattle.std.specs.Prelude.{Option}
use Rattle.entries.specs.Parse.{Parse, got, bind}
use Rattle.sets.specs.Sets.{ok_long, enc_long, one_long, encode_set, decode_set}

abbrev pub most_records : ℕ
most_records = 64

-- the bytes of the two, sound or not
pub record Lent : Type 0 where
  pub device : List ℕ
  pub outcome : List ℕ

abbrev pub ok_lent : Lent → Bool
ok_lent l = ok_long l.device && ok_long l.outcome

abbrev pub enc_lent : Lent → List ℕ
enc_lent l = enc_long l.device ++ enc_long l.outcome

abbrev pub one_lent : List ℕ → Parse Lent
one_lent bs = bind (one_long bs) (λ d r. bind (one_long r) (λ o q. got (record { device = d; outcome = o }) q))

abbrev pub encode_lent : List Lent → List ℕ
encode_lent ls = encode_set enc_lent ls

-- none to 64 of them
abbrev pub decode_lent : List ℕ → Option (List Lent)
decode_lent bs = decode_set 0 most_records one_lent bs
