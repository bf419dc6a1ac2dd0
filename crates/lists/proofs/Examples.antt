-- The numbers of document 01's table, in its order, and worked examples of the small definitions.
-- Assumes nothing.
use Prim.Native.Nat.{ℕ}
use mathlib.Core.Path.{◌≡◌, refl}
use mathlib.Core.List.{List, [], ◌∷◌, map}
use mathlib.Core.Bool.{Bool, true, false, not, ◌&&◌}
use Rattle.std.specs.Prelude.{None, Some}
use Rattle.lists.specs.Lists.{all, is_some}
use Rattle.lists.specs.Bytes.{same_bytes, starts, among, distinct, is_space}
use Rattle.lists.specs.Runs.{span, split_at, trim, ends_in_space, end_digits}
use Rattle.lists.specs.Items.{in_braces}
use Rattle.lists.specs.Quoted.{bytes}
use Rattle.lists.specs.Refusal.{
  Refusal,
  number,
  target_short,
  text_long,
  line_bad,
  key_bad,
  argument_bad,
  operator_bad,
  value_bad,
  content_bad,
  pair_extra,
  comma_missing,
  rule_extra,
  label_missing,
  device_bad,
  outcome_bad,
  substitution_long,
  link_bad,
  list_full,
  owner_bad,
  mode_bad,
}

table : List Refusal
table =
    target_short
    ∷ text_long
    ∷ line_bad
    ∷ key_bad
    ∷ argument_bad
    ∷ operator_bad
    ∷ value_bad
    ∷ content_bad
    ∷ pair_extra
    ∷ comma_missing
    ∷ rule_extra
    ∷ label_missing
    ∷ device_bad
    ∷ outcome_bad
    ∷ substitution_long
    ∷ link_bad
    ∷ list_full
    ∷ owner_bad
    ∷ mode_bad
    ∷ []

numbers : map number table ≡ 1 ∷ 2 ∷ 10 ∷ 11 ∷ 12 ∷ 13 ∷ 14 ∷ 15 ∷ 16 ∷ 17 ∷ 18 ∷ 19 ∷ 3 ∷ 4 ∷ 30 ∷ 31 ∷ 32 ∷ 33 ∷ 34 ∷ []
unfolding table
numbers = refl

-- ---- runs, parts and ends

parts : split_at 32 (bytes "a  b ") ≡ bytes "a" ∷ [] ∷ bytes "b" ∷ [] ∷ []
unfolding bytes split_at
parts = refl

trimmed : trim (bytes " a b\t\n ") ≡ bytes " a b"
unfolding bytes trim
trimmed = refl

digits : end_digits (bytes "a1b23") ≡ bytes "23"
unfolding bytes end_digits
digits = refl

braces : map (λ s. is_some (in_braces (bytes s))) ("a}b" ∷ "{}" ∷ "}" ∷ "a" ∷ []) ≡ true ∷ true ∷ false ∷ false ∷ []
unfolding bytes span in_braces
braces = refl
