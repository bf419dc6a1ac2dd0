use Prim.Native.Nat.{ℕ, ◌+◌, ◌-◌}
use mathlib.Core.List.{List, ◌++◌}
use mathlib.Core.Path.{refl, sym, ap, ◌∙◌}
use native.Mathlib.Omega.{arith}
use lib.ListN.{take, drop, take-append-drop}
use Rattle.lists.proofs.Moves.{ap_at, part_none}
use Rattle.lists.specs.Bytes.{part}
use Rattle.splice.proofs.Laws.{opened-more}
use Rattle.splice.specs.Moves.{stored, opened}
use Rattle.splice.proofs.open_gap.Goals as goal

pub loop-k-init : goal.loop-k-init
loop-k-init c = (
  omega arith,
  omega arith,
  refl,
  sym
      (ap
      (λ (l : List ℕ).
      take (c.args.used + c.args.n) c.args.t.now ++
      (l ++ drop (c.args.used + c.args.n) c.args.t.now))
      (part_none c.args.t.now c.args.used c.args.used (omega arith)) ∙ take-append-drop
      (c.args.used + c.args.n) c.args.t.now),
)

pub overflow_sub-k-in-loop-k : goal.overflow_sub-k-in-loop-k
overflow_sub-k-in-loop-k c = omega (arith, c.next_size-size.ensures.0, c.next_size-size.ensures.1)

pub overflow_sub-k-in-loop-k-2 : goal.overflow_sub-k-in-loop-k-2
overflow_sub-k-in-loop-k-2 c = omega (arith, c.next_size-size.ensures.0, c.next_size-size.ensures.1)

pub overflow_add-k : goal.overflow_add-k
overflow_add-k c = omega (arith, c.next_size-size.ensures.0, c.next_size-size.ensures.1)

pub copy_part-requires : goal.copy_part-requires
copy_part-requires c = (
  omega (arith, c.next_size-size.ensures.0, c.next_size-size.ensures.1),
  omega (arith, c.next_size-size.ensures.0, c.next_size-size.ensures.1),
  omega (arith, c.next_size-size.ensures.0, c.next_size-size.ensures.1),
  omega (arith, c.next_size-size.ensures.0, c.next_size-size.ensures.1),
)

pub overflow_sub-k-in-loop-k-3 : goal.overflow_sub-k-in-loop-k-3
overflow_sub-k-in-loop-k-3 c =
    let next-size = c.next_size-size in
    omega (arith, next-size.ensures.0, next-size.ensures.1)

pub loop-k-smaller : goal.loop-k-smaller
loop-k-smaller c =
    let next-size = c.next_size-size in
    omega (arith, next-size.ensures.0, next-size.ensures.2 (omega arith))

pub loop-k-preserved : goal.loop-k-preserved
loop-k-preserved c =
    let entry = c.args in
    let loop = c.loop-k in
    let next-size = c.next_size-size in
    let copy-part = c.copy_part in (
      omega (arith, next-size.ensures.0, next-size.ensures.1),
      omega (arith, next-size.ensures.0, next-size.ensures.1),
      copy-part.auto.t ∙ loop.invariant.2,
      copy-part.ensures ∙ ap
          (λ (l : List ℕ). stored l (loop.k - next-size.result + entry.n) (part l (loop.k - next-size.result) loop.k))
          loop.invariant.3 ∙ opened-more entry.t.now (loop.k - next-size.result) loop.k entry.used entry.n
          (omega (arith, next-size.ensures.0, next-size.ensures.1)) loop.invariant.1 (omega arith),
    )

pub shape_of-t : goal.shape_of-t
shape_of-t c = c.loop-k.invariant.2

pub returns : goal.returns
returns c =
    let entry = c.args in
    c.loop-k.invariant.3 ∙ ap_at (λ i. opened entry.t.now i entry.used entry.n) c.loop-k.k entry.at (omega arith)
