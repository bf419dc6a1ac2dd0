-- The parts of a pair at places of a line: one law for each way that the definitions can go.
-- Assumes nothing.
use Prim.Native.Nat.{ℕ, ◌+◌, ◌-◌, ◌≤◌, ◌<◌}
use mathlib.Core.Path.{◌≡◌, refl, ◌∙◌}
use mathlib.Core.Bool.{Bool, true, false, ◌&&◌}
use mathlib.Core.List.{List}
use Rattle.std.specs.Prelude.{Option, None, Some}
use native.Mathlib.Nat.{add-zero}
use native.Mathlib.Omega.{arith}
use borrow.Author.Tests.{eq-eqb, ne_eqb, leb-true, leb-false}
use lib.Dec.{eqb, leb}
use lib.ListN.{length, get_or, drop, drop_of_length-le, get_or-eq_default}
use lib.Seq.{get_or-drop, drop-drop}
use Rattle.lists.specs.Bytes.{between, is_upper, is_blank, part}
use Rattle.lists.specs.Runs.{Part, span_at}
use Rattle.lists.specs.Items.{is_in_braces, close_brace, in_braces}
use Rattle.lists.specs.Checked.{Checked, refused, ok, ◌>>=◌, ◌>>◌, require, found}
use Rattle.lists.specs.Refusal.{Refusal, key_bad, argument_bad, operator_bad, value_bad}
use Rattle.lists.specs.Sizes.{most_key, most_value}
use Rattle.lists.proofs.Rest.{rest_at, byte_in}
use Rattle.lists.proofs.Runs.{run_at, rest_of}
use Rattle.rules.specs.Key.{Takes, takes_none, takes_one, takes_type, Op, allows, Row, row_of}
use Rattle.rules.specs.Coded.{coded}
use Rattle.rules.specs.Reading.{unblank, read_key, absent, present, read_argument, op_of, read_op, quoted, starts_mark, unescape, read_plain, read_coded, starts_coded, read_value}
use Rattle.pairs.specs.declared.OperatorRead.{OperatorRead}
use Rattle.pairs.specs.Stages.{type_allowed}
use Rattle.pairs.specs.Answers.{operator_by}
use Rattle.pairs.proofs.Parts.{part_length}

pub unblank_at : (s : List ℕ) (at b : ℕ) → b ≡ span_at is_blank s at → unblank (drop at s) ≡ drop b s
unblank_at s at b e = rw e (rest_of is_blank s at)

-- ---- the key

pub key_at : (s : List ℕ) (a e : ℕ) → e ≡ span_at is_upper s a
    → read_key (drop a s) ≡ (found (row_of (part s a e)) key_bad >>= λ (r : Row). ok (record { value = r; rest = drop e s }))
unfolding read_key
key_at s a e h = rw (h, run_at is_upper s a, rest_of is_upper s a)

-- ---- the argument

module _ (s : List ℕ) (at : ℕ) (t : Takes) where
  pub no_brace : (get_or s at 0 ≡ 123 → ⊥) → read_argument t (drop at s) ≡ absent t (drop at s)
  unfolding read_argument
  no_brace n = go (leb (length s) at) refl
    where
      go : (x : Bool) → leb (length s) at ≡ x → read_argument t (drop at s) ≡ absent t (drop at s)
      go true h = rw (drop_of_length-le s (leb-true (length s) at h))
      go false h = rw (rest_at s at (leb-false (length s) at h), ne_eqb (get_or s at 0) 123 n)

  pub brace : get_or s at 0 ≡ 123 → read_argument t (drop at s) ≡ present t (drop (at + 1) s)
  unfolding read_argument
  brace e = rw (rest_at s at (byte_in s at 123 e (omega arith)), eq-eqb (get_or s at 0) 123 e)

-- each key takes what stands in braces, if it is allowed
present-by : (t : Takes) (o : Option (Part (List ℕ))) (bs : List ℕ) → in_braces bs ≡ o
    → present t bs ≡ (found o argument_bad >>= λ (a : Part (List ℕ)). require (type_allowed t a.value) argument_bad >> ok a)
present-by takes_none None bs e = refl
present-by takes_none (Some a) bs e = refl
present-by takes_one None bs e = rw e
present-by takes_one (Some a) bs e = rw e
present-by takes_type None bs e = rw e
present-by takes_type (Some a) bs e = rw e

module _ (s : List ℕ) (a e : ℕ) (h : e ≡ span_at is_in_braces s a) where
  braces_are : in_braces (drop a s) ≡ close_brace (part s a e) (drop e s)
  unfolding in_braces
  braces_are = rw (h, run_at is_in_braces s a, rest_of is_in_braces s a)

  module _ (t : Takes) where
    pub brace_open : length s ≤ e → present t (drop a s) ≡ refused argument_bad
    brace_open l = present-by t None (drop a s) (braces_are ∙ rw (drop_of_length-le s l))

    module _ (f : a ≤ e) (l : e < length s) where
      pub brace_wrong : between 1 most_key (e - a) ≡ false → present t (drop a s) ≡ refused argument_bad
      brace_wrong b =
          present-by t None (drop a s) (braces_are ∙ rw (rest_at s e l, part_length s a e f (omega arith), b))

      pub brace_right : between 1 most_key (e - a) ≡ true
          → present t (drop a s) ≡ (require (type_allowed t (part s a e)) argument_bad >> ok (record { value = part s a e; rest = drop (e + 1) s }))
      brace_right b =
          present-by t (Some (record { value = part s a e; rest = drop (e + 1) s })) (drop a s)
          (braces_are ∙ rw (rest_at s e l, part_length s a e f (omega arith), b))

-- ---- the operator

pub operator_at : (s : List ℕ) (b : ℕ) (allowed : List Op) (r : Option OperatorRead)
    → ((bs : List ℕ) → operator_by r bs ≡ op_of (get_or s b 0) (get_or s (b + 1) 0) (drop 1 bs) (drop 2 bs))
    → read_op allowed (drop b s)
    ≡ (found (operator_by r (drop b s)) operator_bad >>= λ (o : Part Op). require (allows allowed o.value) operator_bad >> ok o)
unfolding read_op
operator_at s b allowed r h =
    let e : get_or (drop b s) 0 0 ≡ get_or s b 0 = get_or-drop b s 0 0 ∙ rw (add-zero b) in
    rw (e, get_or-drop b s 1 0, h (drop b s))

-- ---- the value

marks_at : (s : List ℕ) (at : ℕ) → starts_mark (drop at s) ≡ eqb (get_or s at 0) 34
marks_at s at = go (leb (length s) at) refl
  where
    go : (x : Bool) → leb (length s) at ≡ x → starts_mark (drop at s) ≡ eqb (get_or s at 0) 34
    go true h = let l = leb-true (length s) at h in rw (drop_of_length-le s l, get_or-eq_default s 0 l)
    go false h = rw (rest_at s at (leb-false (length s) at h))

-- a value as written, unescaped and measured
abbrev pub sized : Option (Part (List ℕ)) → Checked Refusal (Part (List ℕ))
sized o = found o value_bad >>= λ w. require (leb (length (unescape w.value)) most_value) value_bad >> ok (record { value = unescape w.value; rest = w.rest })

coded_at : (s : List ℕ) (at : ℕ) → starts_coded (drop at s) ≡ (eqb (get_or s at 0) 101 && eqb (get_or s (at + 1) 0) 34)
coded_at s at = go (leb (length s) at) refl
  where
    go : (x : Bool) → leb (length s) at ≡ x → starts_coded (drop at s) ≡ (eqb (get_or s at 0) 101 && eqb (get_or s (at + 1) 0) 34)
    go true h = let l = leb-true (length s) at h in rw (drop_of_length-le s l, get_or-eq_default s 0 l)
    go false h = rw (rest_at s at (leb-false (length s) at h), marks_at s (at + 1))

module _ (s : List ℕ) (at : ℕ) where
  pub mark : get_or s at 0 ≡ 34 → read_plain (drop at s) ≡ sized (quoted false (drop (at + 1) s))
  unfolding read_plain
  mark e = rw (marks_at s at, eq-eqb (get_or s at 0) 34 e, drop-drop 1 at s)

  pub value_plain : get_or s at 0 ≡ 34 → read_value (drop at s) ≡ read_plain (drop at s)
  unfolding read_value
  value_plain e = rw (coded_at s at, e)

  pub no_mark : (get_or s at 0 ≡ 34 → ⊥) → (get_or s at 0 ≡ 101 → ⊥) → read_value (drop at s) ≡ refused value_bad
  unfolding read_value read_plain
  no_mark n m = rw (coded_at s at, ne_eqb (get_or s at 0) 101 m, marks_at s at, ne_eqb (get_or s at 0) 34 n)

  module _ (e : get_or s at 0 ≡ 101) where
    pub no_mark_behind : (get_or s (at + 1) 0 ≡ 34 → ⊥) → read_value (drop at s) ≡ refused value_bad
    unfolding read_value read_plain
    no_mark_behind n = rw (coded_at s at, e, ne_eqb (get_or s (at + 1) 0) 34 n, marks_at s at, e)

    pub value_coded : get_or s (at + 1) 0 ≡ 34 → read_value (drop at s) ≡ read_coded (drop (at + 2) s)
    unfolding read_value
    value_coded m = rw (coded_at s at, e, m, drop-drop 2 at s)

-- behind an `e` and a mark
module _ (bs : List ℕ) where
  pub coded-faulty : coded 0 bs ≡ None → read_coded bs ≡ refused value_bad
  unfolding read_coded
  coded-faulty e = rw e

  pub coded-closed : (p : Part (List ℕ)) → coded 0 bs ≡ Some p → read_coded bs ≡ (require (leb (length p.value) most_value) value_bad >> ok p)
  unfolding read_coded
  coded-closed p e = rw e
