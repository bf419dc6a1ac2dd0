-- Document 01, What the engine covers: the keys, the operators, and the table of what each key allows.
-- Assumes nothing.
use Rattle.std.specs.Prelude.{ℕ, Bool, true, false, ◌||◌, List, [], ◌∷◌, eqb}
use Rattle.std.specs.Prelude.{Option, None, Some}
use Rattle.lists.specs.Lists.{pick, any}
use Rattle.lists.specs.Bytes.{same_bytes}
use Rattle.lists.specs.Quoted.{bytes}

pub data Key : Type 0 where
  ACTION DEVPATH KERNEL KERNELS SUBSYSTEM SUBSYSTEMS DRIVER DRIVERS ATTR ATTRS ENV : Key
  SYMLINK TAG OWNER GROUP MODE RUN LABEL GOTO OPTIONS : Key
  -- document 02, Item 6
  PROGRAM RESULT : Key

-- `==` `!=` `=` `+=` `-=` `:=`
pub data Op : Type 0 where
  equal unequal assign add remove final : Op

-- the argument in braces: none; one; or the type of a program, which may be absent
pub data Takes : Type 0 where
  takes_none takes_one takes_type : Takes

pub record Row : Type 0 where
  pub name : List ℕ
  pub key : Key
  pub takes : Takes
  pub allowed : List Op

-- the keys in the order above, from 0
abbrev pub key_number : Key → ℕ
key_number ACTION = 0
key_number DEVPATH = 1
key_number KERNEL = 2
key_number KERNELS = 3
key_number SUBSYSTEM = 4
key_number SUBSYSTEMS = 5
key_number DRIVER = 6
key_number DRIVERS = 7
key_number ATTR = 8
key_number ATTRS = 9
key_number ENV = 10
key_number SYMLINK = 11
key_number TAG = 12
key_number OWNER = 13
key_number GROUP = 14
key_number MODE = 15
key_number RUN = 16
key_number LABEL = 17
key_number GOTO = 18
key_number OPTIONS = 19
key_number PROGRAM = 20
key_number RESULT = 21

abbrev pub same_key : Key → Key → Bool
same_key a b = eqb (key_number a) (key_number b)

-- an operator that judges and does not assign
abbrev pub is_match : Op → Bool
is_match equal = true
is_match unequal = true
is_match assign = false
is_match add = false
is_match remove = false
is_match final = false

-- the operators in the order above, from 0
abbrev pub op_number : Op → ℕ
op_number equal = 0
op_number unequal = 1
op_number assign = 2
op_number add = 3
op_number remove = 4
op_number final = 5

abbrev pub allows : List Op → Op → Bool
allows os o = any (λ x. eqb (op_number x) (op_number o)) os

abbrev judged : List Op
judged = equal ∷ unequal ∷ []

abbrev every : List Op
every = equal ∷ unequal ∷ assign ∷ add ∷ remove ∷ final ∷ []

abbrev row : List ℕ → Key → Takes → List Op → Row
row n k t os = record { name = n; key = k; takes = t; allowed = os }

-- the table of keys
unfoldable pub rows : List Row
unfolding bytes
rows =
    row (bytes "ACTION") ACTION takes_none judged
    ∷ row (bytes "DEVPATH") DEVPATH takes_none judged
    ∷ row (bytes "KERNEL") KERNEL takes_none judged
    ∷ row (bytes "KERNELS") KERNELS takes_none judged
    ∷ row (bytes "SUBSYSTEM") SUBSYSTEM takes_none judged
    ∷ row (bytes "SUBSYSTEMS") SUBSYSTEMS takes_none judged
    ∷ row (bytes "DRIVER") DRIVER takes_none judged
    ∷ row (bytes "DRIVERS") DRIVERS takes_none judged
    ∷ row (bytes "ATTR") ATTR takes_one judged
    ∷ row (bytes "ATTRS") ATTRS takes_one judged
    ∷ row (bytes "ENV") ENV takes_one (equal ∷ unequal ∷ assign ∷ [])
    ∷ row (bytes "SYMLINK") SYMLINK takes_none every
    ∷ row (bytes "TAG") TAG takes_none every
    ∷ row (bytes "OWNER") OWNER takes_none (assign ∷ final ∷ [])
    ∷ row (bytes "GROUP") GROUP takes_none (assign ∷ final ∷ [])
    ∷ row (bytes "MODE") MODE takes_none (assign ∷ final ∷ [])
    ∷ row (bytes "RUN") RUN takes_type (assign ∷ add ∷ final ∷ [])
    ∷ row (bytes "LABEL") LABEL takes_none (assign ∷ [])
    ∷ row (bytes "GOTO") GOTO takes_none (assign ∷ [])
    ∷ row (bytes "OPTIONS") OPTIONS takes_none (assign ∷ add ∷ [])
    ∷ row (bytes "PROGRAM") PROGRAM takes_none (equal ∷ unequal ∷ assign ∷ add ∷ final ∷ [])
    ∷ row (bytes "RESULT") RESULT takes_none judged
    ∷ []

-- the first row with that name
unfoldable pub row_in : List Row → List ℕ → Option Row
row_in [] n = None
row_in (r ∷ rs) n = pick (same_bytes r.name n) (Some r) (row_in rs n)

unfoldable pub row_of : List ℕ → Option Row
row_of n = row_in rows n
