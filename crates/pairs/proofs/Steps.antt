-- A pair read part by part: what follows each part that is read, and that the first refusal is the pair's.
-- Assumes nothing.
use Prim.Native.Nat.{ℕ}
use mathlib.Core.Path.{◌≡◌, sym}
use mathlib.Core.List.{List}
use Rattle.std.specs.Prelude.{None, Some}
use lib.ListN.{drop}
use Rattle.lists.specs.Bytes.{is_upper, is_blank, part}
use Rattle.lists.specs.Runs.{Part, span_at}
use Rattle.lists.specs.Checked.{refused, ok}
use Rattle.lists.specs.Refusal.{Refusal, key_bad}
use Rattle.rules.specs.Key.{Key, Op, Row, row_of}
use Rattle.rules.specs.Reading.{unblank, read_argument, read_op, read_value}
use Rattle.pairs.specs.Stages.{value_then, operator_then, argument_then, pair_written}
use Rattle.pairs.proofs.Reading.{unblank_at, key_at}

module _ (s : List ℕ) (at b e : ℕ) (p : b ≡ span_at is_blank s at) (q : e ≡ span_at is_upper s b) where
  pub key-none : None ≡ row_of (part s b e) → refused key_bad ≡ pair_written (drop at s)
  unfolding pair_written
  key-none h = sym (rw (unblank_at s at b p, key_at s b e q, ← h))

  pub key-some : (r : Row) → Some r ≡ row_of (part s b e) → pair_written (drop at s) ≡ argument_then r (drop e s)
  unfolding pair_written
  key-some r h = rw (unblank_at s at b p, key_at s b e q, ← h)

module _ (r : Row) (bs : List ℕ) where
  pub argument-refused : (f : Refusal) → refused f ≡ read_argument r.takes bs → refused f ≡ argument_then r bs
  unfolding argument_then
  argument-refused f h = sym (rw (← h))

  pub argument-ok : (a : Part (List ℕ)) → ok a ≡ read_argument r.takes bs → argument_then r bs ≡ operator_then r.key r.allowed a.value a.rest
  unfolding argument_then
  argument-ok a h = rw (← h)

module _ (s : List ℕ) (at b : ℕ) (p : b ≡ span_at is_blank s at) (k : Key) (a : List ℕ) where
  pub operator-refused : (allowed : List Op) (f : Refusal) → refused f ≡ read_op allowed (drop b s) → refused f ≡ operator_then k allowed a (drop at s)
  unfolding operator_then
  operator-refused allowed f h = sym (rw (unblank_at s at b p, ← h))

  pub operator-ok : (allowed : List Op) (o : Part Op) → ok o ≡ read_op allowed (drop b s) → operator_then k allowed a (drop at s) ≡ value_then k a o.value o.rest
  unfolding operator_then
  operator-ok allowed o h = rw (unblank_at s at b p, ← h)

  pub value-refused : (o : Op) (f : Refusal) → refused f ≡ read_value (drop b s) → refused f ≡ value_then k a o (drop at s)
  unfolding value_then
  value-refused o f h = sym (rw (unblank_at s at b p, ← h))

  pub value-ok : (o : Op) (v : Part (List ℕ)) → ok v ≡ read_value (drop b s)
      → value_then k a o (drop at s) ≡ ok (record { value = record { key = k; argument = a; op = o; value = v.value }; rest = unblank v.rest })
  unfolding value_then
  value-ok o v h = rw (unblank_at s at b p, ← h)
