-- What the bit cursor hands back.
-- Assumes nothing.
use Rattle.std.specs.Prelude.{ℕ, ◌+◌, ◌*◌, ◌^◌, ◌<◌, ◌≤◌, ◌≡◌, List}
use Rattle.bits.specs.Bits.{number_at, put_at}
use Rattle.bits.specs.declared.BitCursor.{BitCursor}
use Rattle.bits.specs.declared.Field.{Field}
use Rattle.bits.specs.declared.Span.{Span}

-- n bits taken at bit `at` of s
pub record Taken (s : List ℕ) (at n : ℕ) (r : Field) : Type 0 where
  pub value : r.value ≡ number_at s at n
  pub next : r.next.at ≡ at + n
  pub below : r.value < 2 ^ n

-- n bits of v put at bit `at` of s, which are then t
pub record Put (s t : List ℕ) (at n v : ℕ) (r : BitCursor) : Type 0 where
  pub bytes : t ≡ put_at s at n v
  pub next : r.at ≡ at + n

-- the bytes that the n bits from bit `at` on touch
pub record Spanned (at n : ℕ) (r : Span) : Type 0 where
  pub start : 8 * r.first + r.before ≡ at
  pub end : r.before + n + r.behind ≡ 8 * r.count
  pub few : r.count ≤ 5
  pub behind : r.behind < 8
