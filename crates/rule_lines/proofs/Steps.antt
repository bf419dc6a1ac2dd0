-- The pairs of a line one by one: a law for each way that reading a pair can go.
-- Assumes nothing.
use Prim.Native.Nat.{ℕ, zero, suc, ◌+◌, ◌-◌, ◌≤◌, ◌<◌}
use mathlib.Core.Path.{◌≡◌, refl, sym, ap, ap₂, ◌∙◌}
use mathlib.Core.Bool.{Bool, true, false, not, ◌||◌}
use mathlib.Core.List.{List, [], ◌∷◌, ◌++◌, append_assoc, append-nil}
use Rattle.std.specs.Prelude.{Option, None, Some}
use native.Mathlib.Numerals.{sub-one}
use native.Mathlib.Omega.{arith}
use borrow.Author.Tests.{eq-eqb, ne_eqb}
use lib.Dec.{eqb}
use lib.ListN.{length, get_or, drop, drop_of_length-le}
use Rattle.lists.specs.Lists.{pick, is_some}
use Rattle.lists.specs.Runs.{Part}
use Rattle.lists.specs.Checked.{Checked, refused, ok, ◌>>=◌, ◌>>◌, require}
use Rattle.lists.specs.Refusal.{Refusal, pair_extra, comma_missing}
use Rattle.lists.proofs.Rest.{rest_at}
use Rattle.rules.specs.Key.{Key, LABEL, GOTO, same_key}
use Rattle.rules.specs.Pair.{Pair, value_of, label_of, goto_of}
use Rattle.rules.specs.Reading.{again, comma_then, others, read_pair, read_pairs}
use Rattle.rule_lines.specs.Filling.{pairs_on, comma_on, behind_on}

-- ---- the first value with a key, one pair more

abbrev pub or_else : Option (List ℕ) → Option (List ℕ) → Option (List ℕ)
or_else None o = o
or_else (Some v) o = Some v

pub else_none : (o : Option (List ℕ)) → or_else o None ≡ o
else_none None = refl
else_none (Some v) = refl

pick_else : (t : Bool) (v : List ℕ) (o p : Option (List ℕ)) → pick t (Some v) (or_else o p) ≡ or_else (pick t (Some v) o) p
pick_else true v o p = refl
pick_else false v o p = refl

pub value_snoc : (k : Key) (ps : List Pair) (q : Pair) → value_of k (ps ++ (q ∷ [])) ≡ or_else (value_of k ps) (pick (same_key q.key k) (Some q.value) None)
unfolding value_of
value_snoc k [] q = refl
value_snoc k (p ∷ ps) q = ap (λ (o : Option (List ℕ)). pick (same_key p.key k) (Some p.value) o) (value_snoc k ps q) ∙ pick_else (same_key p.key k) p.value (value_of k ps) _

some_else : (o : Option (List ℕ)) (t : Bool) (v : List ℕ) → is_some (or_else o (pick t (Some v) None)) ≡ (is_some o || t)
some_else None true v = refl
some_else None false v = refl
some_else (Some w) t v = refl

some_snoc : (k : Key) (ps : List Pair) (q : Pair) → is_some (value_of k (ps ++ (q ∷ []))) ≡ (is_some (value_of k ps) || same_key q.key k)
some_snoc k ps q = ap is_some (value_snoc k ps q) ∙ some_else (value_of k ps) (same_key q.key k) q.value

-- ---- one pair

pub on-start : (k : ℕ) (bs : List ℕ) → pairs_on k [] bs ≡ read_pairs k false false bs
unfolding pairs_on value_of
on-start k bs = go (read_pairs k false false bs)
  where
    go : (c : Checked Refusal (List Pair)) → (c >>= λ (ps : List Pair). ok ([] ++ ps)) ≡ c
    go (refused f) = refl
    go (ok ps) = refl

pub on_extra : (before : List Pair) (bs : List ℕ) (p : Part Pair) → read_pair bs ≡ ok p → pairs_on 0 before bs ≡ refused pair_extra
unfolding pairs_on read_pairs
on_extra before bs p e = rw e

pub on-refused : (k : ℕ) (before : List Pair) (bs : List ℕ) (f : Refusal) → read_pair bs ≡ refused f → pairs_on k before bs ≡ refused f
unfolding pairs_on read_pairs
on-refused zero before bs f e = rw e
on-refused (suc k) before bs f e = rw e

module _ (k : ℕ) (before : List Pair) (q : Pair) where
  abbrev here : List Pair
  here = before ++ (q ∷ [])

  abbrev whole : Checked Refusal (List Pair) → Checked Refusal (List Pair)
  whole c = (c >>= λ (ps : List Pair). ok (q ∷ ps)) >>= λ (ps : List Pair). ok (before ++ ps)

  whole_here : (c : Checked Refusal (List Pair)) → whole c ≡ (c >>= λ (ps : List Pair). ok (here ++ ps))
  whole_here (refused f) = refl
  whole_here (ok ps) = ap ok (sym (append_assoc before (q ∷ []) ps))

  abbrev later : List ℕ → Checked Refusal (List Pair)
  later rest = read_pairs k (is_some (label_of before) || same_key q.key LABEL) (is_some (goto_of before) || same_key q.key GOTO) rest

  comma_here : (t : Bool) (rest : List ℕ) → whole (comma_then t rest later) ≡ comma_on t k here rest
  unfolding pairs_on
  comma_here true rest = whole_here (later rest) ∙ rw (some_snoc LABEL before q, some_snoc GOTO before q)
  comma_here false rest = refl

  others-here : (rest : List ℕ) → whole (others rest later) ≡ behind_on k here rest
  others-here [] = refl
  others-here (b ∷ rest) = comma_here (eqb b 44) rest

  once : (t : Bool) (rest : List ℕ)
      → ((require (not t) pair_extra >> (others rest later >>= λ (ps : List Pair). ok (q ∷ ps))) >>= λ (ps : List Pair). ok (before ++ ps))
      ≡ pick t (refused pair_extra) (behind_on k here rest)
  once true rest = refl
  once false rest = others-here rest

  next_pair : (bs rest : List ℕ) → read_pair bs ≡ ok (record { value = q; rest = rest })
      → pairs_on (suc k) before bs ≡ pick (again q.key (is_some (label_of before)) (is_some (goto_of before))) (refused pair_extra) (behind_on k here rest)
  unfolding pairs_on read_pairs
  next_pair bs rest e = rw e (once (again q.key (is_some (label_of before)) (is_some (goto_of before))) rest)

-- a pair of which left are still allowed
pub on_step : (left : ℕ) (before : List Pair) (bs : List ℕ) (p : Part Pair) → 0 < left → read_pair bs ≡ ok p
    → pairs_on left before bs ≡ pick (again p.value.key (is_some (label_of before)) (is_some (goto_of before))) (refused pair_extra) (behind_on (left - 1) (before ++ (p.value ∷ [])) p.rest)
on_step zero before bs p h e = absurd (omega arith)
on_step (suc k) before bs p h e = rw sub-one (next_pair k before p.value bs p.rest e)

-- ---- behind it

module _ (line : List ℕ) (next k : ℕ) (before : List Pair) where
  pub behind_last : length line ≤ next → behind_on k before (drop next line) ≡ ok before
  behind_last h = rw (drop_of_length-le line h)

  pub behind_other : next < length line → (get_or line next 0 ≡ 44 → ⊥) → behind_on k before (drop next line) ≡ refused comma_missing
  behind_other h d = rw (rest_at line next h, ne_eqb (get_or line next 0) 44 d)

  pub behind_comma : next < length line → get_or line next 0 ≡ 44 → behind_on k before (drop next line) ≡ pairs_on k before (drop (next + 1) line)
  behind_comma h d = rw (rest_at line next h, eq-eqb (get_or line next 0) 44 d)
