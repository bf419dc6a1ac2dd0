-- What the parts of a rule are, as the code goes through them.
-- Assumes nothing.
use Prim.Native.Nat.{ℕ, suc, ◌+◌, ◌-◌, ◌*◌, ◌≤◌, ◌<◌}
use mathlib.Core.Path.{◌≡◌, refl, sym, ap, ◌∙◌}
use mathlib.Core.Bool.{Bool, true, false, not, ◌||◌}
use mathlib.Core.List.{List, [], ◌∷◌, ◌++◌, append_assoc, append-nil}
use Rattle.std.specs.Prelude.{Option, None, Some}
use native.Mathlib.Omega.{arith}
use borrow.Author.Tests.{eq-eqb, ne_eqb}
use lib.Dec.{eqb}
use lib.ListN.{length, get_or, take, drop}
use Rattle.lists.specs.Lists.{pick, nth, cat}
use Rattle.lists.specs.Bytes.{holds, part}
use Rattle.lists.specs.Runs.{span_end, span_at}
use Rattle.lists.proofs.Moves.{ap_at}
use Rattle.lists.specs.Quoted.{bytes}
use Rattle.scan.specs.Ends.{is_not}
use Rattle.rules.specs.Key as rules
use Rattle.rules.specs.Key.{Key, ACTION, DEVPATH, KERNEL, KERNELS, SUBSYSTEM, SUBSYSTEMS, DRIVER, DRIVERS, ATTR, ATTRS, ENV, SYMLINK, TAG, OWNER, GROUP, MODE, RUN, LABEL, GOTO, OPTIONS, PROGRAM, RESULT, key_number, rows}
use Rattle.rules.specs.Pair.{Pair}
use Rattle.keys.specs.Table.{key_of, operator_of, row_of}
use Rattle.keys.specs.declared.Operator.{Operator}
use Rattle.keys.specs.declared.Operator.TheVariants.{Equal, Unequal, Assign, Add, Remove, Final}
use Rattle.keys.specs.declared.Row.{Row}
use Rattle.table.specs.Table.{entry_of, pairs_from, rules_from, Got}
use Rattle.table.specs.declared.Entry.{Entry}
use Rattle.table.specs.Rules.{pairs_of}
use Rattle.table.proofs.Pairs.{rows-here, pairs_end}
use Rattle.table.proofs.Rules.{rules-step, rules-end}
use Rattle.writing.specs.Writing.{name_in, name_of, argument_text, op_text, ends_in_slash, needs_code, plain_byte, code_byte, value_text, pair_text, line_text, written}
use Rattle.rule_writing.specs.Tables.{others}

-- ---- a value

span-held : (v : List ℕ) (i : ℕ) → span_end (is_not 10) v i < i + length v → holds 10 v ≡ true
unfolding span_end
span-held [] i h = absurd (omega arith)
span-held (b ∷ v) i h = at (eqb b 10) h (λ k. span-held v (i + 1) k)
  where
    at : (t : Bool) → pick (not t) (span_end (is_not 10) v (i + 1)) i < i + length (b ∷ v) → (span_end (is_not 10) v (i + 1) < i + 1 + length v → holds 10 v ≡ true) → (t || holds 10 v) ≡ true
    at true h f = refl
    at false h f = f (omega arith)

span_free : (v : List ℕ) (i : ℕ) → i + length v ≤ span_end (is_not 10) v i → holds 10 v ≡ false
unfolding span_end
span_free [] i h = refl
span_free (b ∷ v) i h = at (eqb b 10) h (λ k. span_free v (i + 1) k)
  where
    at : (t : Bool) → i + length (b ∷ v) ≤ pick (not t) (span_end (is_not 10) v (i + 1)) i → (i + 1 + length v ≤ span_end (is_not 10) v (i + 1) → holds 10 v ≡ false) → (t || holds 10 v) ≡ false
    at true h f = absurd (omega arith)
    at false h f = f (omega arith)

ends_last : (v : List ℕ) → 0 < length v → ends_in_slash v ≡ eqb (get_or v (length v - 1) 0) 92
unfolding ends_in_slash
ends_last [] h = absurd (omega arith)
ends_last (b ∷ []) h = ap_at (λ n. eqb (get_or (b ∷ []) n 0) 92) 0 (length (b ∷ []) - 1) (omega arith)
ends_last (b ∷ c ∷ v) h =
    ends_last (c ∷ v) (omega arith) ∙ ap_at (λ n. eqb (get_or (b ∷ c ∷ v) n 0) 92) (suc (length (c ∷ v) - 1)) (length (b ∷ c ∷ v) - 1) (omega arith)

-- by the place of the first newline, and by the last byte
module _ (v : List ℕ) (r : ℕ) (e : r ≡ span_at (is_not 10) v 0) where
  pub code_newline : r < length v → true ≡ needs_code v
  unfolding needs_code span_at
  code_newline h = rw (span-held v 0 (omega arith))

  pub code-none : length v ≡ 0 → false ≡ needs_code v
  unfolding needs_code ends_in_slash
  code-none h = at v h
    where
      at : (v : List ℕ) → length v ≡ 0 → false ≡ (holds 10 v || ends_in_slash v)
      at [] h = refl
      at (b ∷ v) h = absurd (omega arith)

  pub code_last : length v ≤ r → 0 < length v → eqb (get_or v (length v - 1) 0) 92 ≡ needs_code v
  unfolding needs_code span_at
  code_last h k = rw (span_free v 0 (omega arith), ends_last v k)

pub plain_mark : (b : ℕ) → b ≡ 34 → 92 ∷ b ∷ [] ≡ plain_byte b
plain_mark b e = rw (eq-eqb b 34 e)

pub plain-raw : (b : ℕ) → (b ≡ 34 → ⊥) → b ∷ [] ≡ plain_byte b
plain-raw b n = rw (ne_eqb b 34 n)

pub code-line : (b : ℕ) → b ≡ 10 → 92 ∷ 110 ∷ [] ≡ code_byte b
code-line b e = rw (eq-eqb b 10 e)

pub code-slash : (b : ℕ) → (b ≡ 10 → ⊥) → b ≡ 92 → 92 ∷ b ∷ [] ≡ code_byte b
code-slash b n e = rw (ne_eqb b 10 n, eq-eqb b 92 e)

pub code_mark : (b : ℕ) → (b ≡ 10 → ⊥) → (b ≡ 92 → ⊥) → b ≡ 34 → 92 ∷ b ∷ [] ≡ code_byte b
code_mark b n m e = rw (ne_eqb b 10 n, ne_eqb b 92 m, eq-eqb b 34 e)

pub code-raw : (b : ℕ) → (b ≡ 10 → ⊥) → (b ≡ 92 → ⊥) → (b ≡ 34 → ⊥) → b ∷ [] ≡ code_byte b
code-raw b n m o = rw (ne_eqb b 10 n, ne_eqb b 92 m, ne_eqb b 34 o)

pub value_coded : (v : List ℕ) → true ≡ needs_code v → (101 ∷ 34 ∷ []) ++ (cat code_byte v ++ (34 ∷ [])) ≡ value_text v
unfolding value_text
value_coded v e = rw (← e)

pub value_plain : (v : List ℕ) → false ≡ needs_code v → (34 ∷ []) ++ (cat plain_byte v ++ (34 ∷ [])) ≡ value_text v
unfolding value_text
value_plain v e = rw (← e)

-- ---- a pair

abbrev name_in' : Option rules.Row → List ℕ
name_in' None = []
name_in' (Some r) = r.name

row-name : (k : Key) → name_in' (nth (key_number k) rows) ≡ name_of k
unfolding rows name_in
row-name ACTION = refl
row-name DEVPATH = refl
row-name KERNEL = refl
row-name KERNELS = refl
row-name SUBSYSTEM = refl
row-name SUBSYSTEMS = refl
row-name DRIVER = refl
row-name DRIVERS = refl
row-name ATTR = refl
row-name ATTRS = refl
row-name ENV = refl
row-name SYMLINK = refl
row-name TAG = refl
row-name OWNER = refl
row-name GROUP = refl
row-name MODE = refl
row-name RUN = refl
row-name LABEL = refl
row-name GOTO = refl
row-name OPTIONS = refl
row-name PROGRAM = refl
row-name RESULT = refl

pub first_of : (x : List ℕ) (len : ℕ) → take (len - 0) (drop 0 x) ≡ take len x
first_of x len = ap_at (λ n. take n x) (len - 0) len (omega arith)

pub name_of_lem : (k : Key) (n : ℕ) (r : Row) (len : ℕ) → n ≡ key_number k → nth n rows ≡ Some (row_of r) → len ≡ r.len → take len r.name ≡ name_of k
unfolding row_of
name_of_lem k n r len e f g = ap (λ (m : ℕ). take m r.name) g ∙ ap name_in' (sym f ∙ ap (λ (m : ℕ). nth m rows) e) ∙ row-name k

pub argument_none : (a : List ℕ) → length a ≡ 0 → [] ≡ argument_text a
argument_none [] h = refl
argument_none (b ∷ a) h = absurd (omega arith)

pub argument_some : (a : List ℕ) → (length a ≡ 0 → ⊥) → (123 ∷ []) ++ (a ++ (125 ∷ [])) ≡ argument_text a
argument_some [] h = absurd (h refl)
argument_some (b ∷ a) h = refl

abbrev op_bytes : Operator → List ℕ
op_bytes Equal = 61 ∷ 61 ∷ []
op_bytes Unequal = 33 ∷ 61 ∷ []
op_bytes Assign = 61 ∷ []
op_bytes Add = 43 ∷ 61 ∷ []
op_bytes Remove = 45 ∷ 61 ∷ []
op_bytes Final = 58 ∷ 61 ∷ []

op_bytes_lem : (o : Operator) → op_bytes o ≡ op_text (operator_of o)
unfolding op_text bytes
op_bytes_lem Equal = refl
op_bytes_lem Unequal = refl
op_bytes_lem Assign = refl
op_bytes_lem Add = refl
op_bytes_lem Remove = refl
op_bytes_lem Final = refl

pub op_is : (o x : Operator) → o ≡ x → op_bytes x ≡ op_text (operator_of o)
op_is o x e = ap op_bytes (sym e) ∙ op_bytes_lem o

-- what follows the operator, the argument and the name of a pair
abbrev pub behind_operator : List ℕ → Entry → List ℕ
behind_operator v e = value_text (part v e.middle e.end)

abbrev pub behind_argument : List ℕ → Entry → List ℕ
behind_argument v e = op_text (operator_of e.operator) ++ behind_operator v e

abbrev pub behind_name : List ℕ → Entry → List ℕ
behind_name v e = argument_text (part v e.start e.middle) ++ behind_argument v e

pub pair_parts : (v : List ℕ) (e : Entry) → name_of (key_of e.key) ++ behind_name v e ≡ pair_text (entry_of v e)
unfolding pair_text
pair_parts v e = refl

-- ---- a rule

pub above : (i n : ℕ) → i ≤ n → (i ≡ n → ⊥) → i < n
above i n h k = omega (arith, k)

line_first : (p : Pair) (ps : List Pair) → line_text (p ∷ ps) ≡ pair_text p ++ others ps
unfolding line_text
line_first p [] = sym (append-nil (pair_text p))
line_first p (q ∷ ps) = ap (λ (t : List ℕ). pair_text p ++ (44 ∷ t)) (line_first q ps)

module _ (v r : List ℕ) where
  pub line-none : (i n : ℕ) → n ≤ i → [] ≡ line_text (pairs_from v r i (n - i))
  unfolding line_text
  line-none i n h = sym (ap line_text (pairs_end v r i n h))

  module _ (i n : ℕ) (e : Entry) (got : Got r i e) (h : i < n) where
    pub line-here : pair_text (entry_of v e) ++ others (pairs_from v r (i + 1) (n - (i + 1))) ≡ line_text (pairs_from v r i (n - i))
    line-here = sym (ap line_text (rows-here v r i n e got h) ∙ line_first (entry_of v e) (pairs_from v r (i + 1) (n - (i + 1))))

    pub others-here : (44 ∷ []) ++ (pair_text (entry_of v e) ++ others (pairs_from v r (i + 1) (n - (i + 1)))) ≡ others (pairs_from v r i (n - i))
    others-here = sym (ap others (rows-here v r i n e got h))

  pub others-end : (i n : ℕ) → n ≤ i → [] ≡ others (pairs_from v r i (n - i))
  others-end i n h = sym (ap others (pairs_end v r i n h))

-- ---- rules

module _ (v r t : List ℕ) (i n : ℕ) where
  pub written-here : i < n → (from to : ℕ) → from ≡ get_or t (i * 4 + 1) 0 → to ≡ get_or t (i * 4 + 2) 0
      → line_text (pairs_from v r from (to - from)) ++ ((10 ∷ []) ++ written (rules_from v r t (i + 1) (n - (i + 1)))) ≡ written (rules_from v r t i (n - i))
  unfolding written
  written-here h from to e f =
      rw (e, f) (sym (append_assoc (line_text (pairs_of v r t i)) (10 ∷ []) (written (rules_from v r t (i + 1) (n - (i + 1))))) ∙ ap written (sym (rules-step v r t i n h)))

  pub written-end : n ≤ i → [] ≡ written (rules_from v r t i (n - i))
  unfolding written
  written-end h = sym (ap written (rules-end v r t i n h))
