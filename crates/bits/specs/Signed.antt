-- Document 01, Packed records: a number of 32 bits in two's complement.
-- Assumes nothing.
use Rattle.std.specs.Prelude.{ℕ, suc, ◌-◌, ◌^◌, ltb, ℤ, pos, negsuc, ◌-ℤ◌}
use Rattle.lists.specs.Lists.{pick}

-- the number that 32 bits stand for
abbrev pub to_signed : ℕ → ℤ
to_signed x = pick (ltb x (2 ^ 31)) (pos x) (pos x -ℤ pos (2 ^ 32))

-- the 32 bits of a number; `negsuc n` is -(n + 1)
abbrev pub from_signed : ℤ → ℕ
from_signed (pos n) = n
from_signed (negsuc n) = 2 ^ 32 - suc n
