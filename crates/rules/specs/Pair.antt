-- Document 01, Reading a line: a pair that was read, a rule, and what can be asked of them.
-- Assumes nothing.
use Rattle.std.specs.Prelude.{ℕ, Bool, List, [], ◌∷◌}
use Rattle.std.specs.Prelude.{Option, None, Some}
use Rattle.lists.specs.Lists.{pick}
use Rattle.lists.specs.Bytes.{same_bytes}
use Rattle.lists.specs.Quoted.{bytes}
use Rattle.rules.specs.Key.{Key, LABEL, GOTO, same_key, Op}

-- the argument is empty where there is none, the operator as it was read, the value unescaped
pub record Pair : Type 0 where
  pub key : Key
  pub argument : List ℕ
  pub op : Op
  pub value : List ℕ

-- the pairs of a rule from left to right
abbrev pub Rule : Type 0
Rule = List Pair

-- of a RUN pair: its type is builtin, not program
unfoldable pub is_builtin : Pair → Bool
unfolding bytes
is_builtin p = same_bytes p.argument (bytes "builtin")

-- the value of the first pair with that key
unfoldable pub value_of : Key → Rule → Option (List ℕ)
value_of k [] = None
value_of k (p ∷ ps) = pick (same_key p.key k) (Some p.value) (value_of k ps)

abbrev pub label_of : Rule → Option (List ℕ)
label_of r = value_of LABEL r

abbrev pub goto_of : Rule → Option (List ℕ)
goto_of r = value_of GOTO r
