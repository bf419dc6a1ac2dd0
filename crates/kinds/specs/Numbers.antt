-- Keys, operators and marks by their numbers.
-- Assumes nothing.
use Rattle.std.specs.Prelude.{ℕ, ◌+◌, ◌*◌, Bool, true, false, List, [], ◌∷◌, eqb, get_or}
use Rattle.rules.specs.Key.{Key, ACTION, DEVPATH, KERNEL, KERNELS, SUBSYSTEM, SUBSYSTEMS, DRIVER, DRIVERS, ATTR, ATTRS, ENV, SYMLINK, TAG, OWNER, GROUP, MODE, RUN, LABEL, GOTO, OPTIONS, PROGRAM, RESULT, Op, equal, unequal, assign, add, remove, final, key_number, op_number}

-- a pair's kind, with the mark of a plain value between the numbers of its key and its operator
abbrev pub plain_number : Bool → ℕ
plain_number true = 8
plain_number false = 0

abbrev pub kind_with : Key → Op → Bool → ℕ
kind_with k o plain = key_number k * 16 + plain_number plain + op_number o

-- the key, the operator and the mark with these numbers
abbrev pub keys : List Key
keys = ACTION ∷ DEVPATH ∷ KERNEL ∷ KERNELS ∷ SUBSYSTEM ∷ SUBSYSTEMS ∷ DRIVER ∷ DRIVERS ∷ ATTR ∷ ATTRS ∷ ENV ∷ SYMLINK ∷ TAG ∷ OWNER ∷ GROUP ∷ MODE ∷ RUN ∷ LABEL ∷ GOTO ∷ OPTIONS ∷ PROGRAM ∷ []

unfoldable pub key_with : ℕ → Key
key_with n = get_or keys n RESULT

abbrev pub ops : List Op
ops = equal ∷ unequal ∷ assign ∷ add ∷ remove ∷ []

unfoldable pub op_with : ℕ → Op
op_with n = get_or ops n final

abbrev pub plain_with : ℕ → Bool
plain_with n = eqb n 1
