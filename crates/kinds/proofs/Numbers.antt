-- Keys, operators and marks as numbers and back.
-- Assumes nothing.
use Prim.Native.Nat.{ℕ, ◌+◌, ◌*◌, ◌/◌, ◌%◌, ◌≤◌, ◌<◌}
use mathlib.Core.Path.{◌≡◌, refl, ap, ◌∙◌}
use mathlib.Core.Bool.{Bool, true, false}
use native.Mathlib.Omega.{arith}
use lib.ListN.{get_or-eq_default}
use Rattle.rules.specs.Key.{Key, ACTION, DEVPATH, KERNEL, KERNELS, SUBSYSTEM, SUBSYSTEMS, DRIVER, DRIVERS, ATTR, ATTRS, ENV, SYMLINK, TAG, OWNER, GROUP, MODE, RUN, LABEL, GOTO, OPTIONS, PROGRAM, RESULT, Op, equal, unequal, assign, add, remove, final, key_number, op_number}
use Rattle.kinds.specs.Numbers.{keys, ops, plain_number, key_with, op_with, plain_with, kind_with}

-- a number that is not this one, with those below it
pub above : (k n : ℕ) → k ≤ n → (n ≡ k → ⊥) → k + 1 ≤ n
above k n h d = omega arith

pub key_back : (k : Key) → key_with (key_number k) ≡ k
unfolding key_with
key_back ACTION = refl
key_back DEVPATH = refl
key_back KERNEL = refl
key_back KERNELS = refl
key_back SUBSYSTEM = refl
key_back SUBSYSTEMS = refl
key_back DRIVER = refl
key_back DRIVERS = refl
key_back ATTR = refl
key_back ATTRS = refl
key_back ENV = refl
key_back SYMLINK = refl
key_back TAG = refl
key_back OWNER = refl
key_back GROUP = refl
key_back MODE = refl
key_back RUN = refl
key_back LABEL = refl
key_back GOTO = refl
key_back OPTIONS = refl
key_back PROGRAM = refl
key_back RESULT = refl

pub key_last : (n : ℕ) → 21 ≤ n → key_with n ≡ RESULT
unfolding key_with
key_last n h = get_or-eq_default keys RESULT h

pub op_back : (o : Op) → op_with (op_number o) ≡ o
unfolding op_with
op_back equal = refl
op_back unequal = refl
op_back assign = refl
op_back add = refl
op_back remove = refl
op_back final = refl

pub op_last : (n : ℕ) → 5 ≤ n → op_with n ≡ final
unfolding op_with
op_last n h = get_or-eq_default ops final h

pub key_few : (k : Key) → key_number k < 22
key_few ACTION = omega arith
key_few DEVPATH = omega arith
key_few KERNEL = omega arith
key_few KERNELS = omega arith
key_few SUBSYSTEM = omega arith
key_few SUBSYSTEMS = omega arith
key_few DRIVER = omega arith
key_few DRIVERS = omega arith
key_few ATTR = omega arith
key_few ATTRS = omega arith
key_few ENV = omega arith
key_few SYMLINK = omega arith
key_few TAG = omega arith
key_few OWNER = omega arith
key_few GROUP = omega arith
key_few MODE = omega arith
key_few RUN = omega arith
key_few LABEL = omega arith
key_few GOTO = omega arith
key_few OPTIONS = omega arith
key_few PROGRAM = omega arith
key_few RESULT = omega arith

pub op_few : (o : Op) → op_number o < 8
op_few equal = omega arith
op_few unequal = omega arith
op_few assign = omega arith
op_few add = omega arith
op_few remove = omega arith
op_few final = omega arith

pub plain_few : (plain : Bool) → plain_number plain ≤ 8
plain_few true = omega arith
plain_few false = omega arith

-- a kind holds all three
module _ (k : Key) (o : Op) where
  pub kind_key : (plain : Bool) → key_with (kind_with k o plain / 16) ≡ k
  kind_key true = let e : kind_with k o true / 16 ≡ key_number k = omega (arith, op_few o) in ap key_with e ∙ key_back k
  kind_key false = let e : kind_with k o false / 16 ≡ key_number k = omega (arith, op_few o) in ap key_with e ∙ key_back k

  pub kind_op : (plain : Bool) → op_with (kind_with k o plain % 8) ≡ o
  kind_op true = let e : kind_with k o true % 8 ≡ op_number o = omega (arith, op_few o) in ap op_with e ∙ op_back o
  kind_op false = let e : kind_with k o false % 8 ≡ op_number o = omega (arith, op_few o) in ap op_with e ∙ op_back o

  pub kind_plain : (plain : Bool) → plain_with (kind_with k o plain / 8 % 2) ≡ plain
  kind_plain true = let e : kind_with k o true / 8 % 2 ≡ 1 = omega (arith, op_few o) in rw e
  kind_plain false = let e : kind_with k o false / 8 % 2 ≡ 0 = omega (arith, op_few o) in rw e
