-- Document 02, Item 5: records of edition 1, which only the converters read and write, by what edition 2 puts in.
-- Assumes nothing.
use Rattle.std.specs.Prelude.{ℕ, ◌+◌, ◌-◌, ◌/◌, Bool, true, false, ◌&&◌, List, [], ◌∷◌, ◌++◌, take, drop, eqb}
use Rattle.std.specs.Prelude.{Option, None}
use Rattle.lists.specs.Lists.{is_empty}
use Rattle.outcome.specs.State.{State, encode, decode}

-- a record of edition 1 as one of edition 2: the edition, which is the upper four bits of the first byte, one higher; and behind the 88 bits
-- that both have 16 bits that are zero: no output, watch unset
unfoldable pub renewed : List ℕ → List ℕ
renewed [] = []
renewed (b ∷ bs) = (b + 16) ∷ (take 10 bs ++ (0 ∷ 0 ∷ drop 10 bs))

-- and without them
unfoldable pub aged : List ℕ → List ℕ
aged [] = []
aged (b ∷ bs) = (b - 16) ∷ (take 10 bs ++ drop 12 bs)

-- edition 1 cannot say an output or a watch setting
abbrev pub plain : State → Bool
plain s = is_empty s.output && eqb s.watch 0

-- the record of such a state
unfoldable pub encode_old : State → List ℕ
encode_old s = aged (encode s)

-- the sound records of edition 1 beside a chain of n devices, and no others (refusal 4)
unfoldable pub decode_old : ℕ → List ℕ → Option State
decode_old n [] = None
decode_old n (b ∷ bs) = elim (eqb (b / 16) 1) [ true ↦ decode n (renewed (b ∷ bs)) | false ↦ None ]
