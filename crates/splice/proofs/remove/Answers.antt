use Prim.Native.Nat.{ℕ, ◌+◌, ◌-◌, ◌≤◌}
use mathlib.Core.Path.{◌≡◌, refl, ap, ◌∙◌, sym}
use native.Mathlib.Omega.{arith}
use borrow.Rule.Slice.PartMut.{same_len_mid}
use lib.ListN.{length, replicate, take, drop, take-append-drop}
use Rattle.lists.proofs.Moves.{length_part, ap_at, part_none}
use Rattle.lists.specs.Bytes.{part}
use Rattle.splice.proofs.Laws.{moved_more, moved, length_moved}
use mathlib.Core.List.{List, ◌++◌, append_assoc, append-nil}
use lib.Seq.{take_at, drop_at, drop-drop}
use Rattle.splice.specs.Moves.{removed}
use Rattle.splice.proofs.remove.Goals as goal

module _ (t₀ : List ℕ) (at n : ℕ) where
  moved_none : t₀ ≡ moved t₀ at n (at + n) ++ drop (at + n - n) t₀
  moved_none =
      sym
      (ap (λ (l : List ℕ). (take at t₀ ++ l) ++ drop (at + n - n) t₀) (part_none t₀ (at + n) (at + n) (omega arith))
      ∙ ap (λ (l : List ℕ). l ++ drop (at + n - n) t₀) (append-nil (take at t₀))
      ∙ ap_at (λ i. take at t₀ ++ drop i t₀) (at + n - n) at (omega arith)
      ∙ take-append-drop at t₀)

  done : (t ys : List ℕ) (k used : ℕ) → at + n ≤ used → used ≤ length t₀ → k ≡ used → t ≡ moved t₀ at n k ++ drop (k - n) t₀ → ys ≡ replicate n 0 → take (k - n) t ++ (ys ++ drop (used - (k - n)) (drop (k - n) t)) ≡ removed t₀ at used n
  done t ys k used h l q e y =
      let p : List ℕ = moved t₀ at n k in
      let r : List ℕ = drop (k - n) t₀ in
      let lp : length p ≡ k - n = length_moved t₀ at n k (omega arith) (omega arith) in
      ap (λ (x : List ℕ). take (k - n) x ++ (ys ++ drop (used - (k - n)) (drop (k - n) x))) e
      ∙ ap (λ (x : List ℕ). x ++ (ys ++ drop (used - (k - n)) (drop (k - n) (p ++ r)))) (take_at p r (k - n) lp)
      ∙ ap (λ (x : List ℕ). p ++ (ys ++ drop (used - (k - n)) x)) (drop_at p r (k - n) lp)
      ∙ ap (λ (x : List ℕ). p ++ (ys ++ x)) (drop-drop (used - (k - n)) (k - n) t₀)
      ∙ ap (λ (x : List ℕ). p ++ (x ++ drop (k - n + (used - (k - n))) t₀)) y
      ∙ ap_at (λ i. p ++ (replicate n 0 ++ drop i t₀)) (k - n + (used - (k - n))) used (omega arith)
      ∙ append_assoc (take at t₀) (part t₀ (at + n) k) (replicate n 0 ++ drop used t₀)
      ∙ ap (λ (i : ℕ). take at t₀ ++ (part t₀ (at + n) i ++ (replicate n 0 ++ drop used t₀))) q

pub loop-k-init : goal.loop-k-init
loop-k-init c = (omega arith, omega arith, refl, moved_none c.args.t.now c.args.at c.args.n)

pub overflow_add-k-in-loop-k : goal.overflow_add-k-in-loop-k
overflow_add-k-in-loop-k c = omega (arith, c.next_size-size.ensures.0, c.next_size-size.ensures.1)

pub overflow_sub-k : goal.overflow_sub-k
overflow_sub-k c = omega (arith, c.next_size-size.ensures.0, c.next_size-size.ensures.1)

pub copy_part-requires : goal.copy_part-requires
copy_part-requires c = (
  omega (arith, c.next_size-size.ensures.0, c.next_size-size.ensures.1),
  omega (arith, c.next_size-size.ensures.0, c.next_size-size.ensures.1),
  omega (arith, c.next_size-size.ensures.0, c.next_size-size.ensures.1),
  omega (arith, c.next_size-size.ensures.0, c.next_size-size.ensures.1),
)

pub overflow_add-k-in-loop-k-2 : goal.overflow_add-k-in-loop-k-2
overflow_add-k-in-loop-k-2 c =
    let next-size = c.next_size-size in
    omega (arith, next-size.ensures.0, next-size.ensures.1)

pub loop-k-smaller : goal.loop-k-smaller
loop-k-smaller c =
    let next-size = c.next_size-size in
    omega (arith, next-size.ensures.0, next-size.ensures.2 (omega arith))

pub loop-k-preserved : goal.loop-k-preserved
loop-k-preserved c =
    let entry = c.args in
    let loop = c.loop-k in
    let next-size = c.next_size-size in
    let copy-part = c.copy_part in (
      omega (arith, next-size.ensures.0, next-size.ensures.1),
      omega (arith, next-size.ensures.0, next-size.ensures.1),
      copy-part.auto.t ∙ loop.invariant.2,
      copy-part.ensures ∙ moved_more entry.t.now entry.at entry.n loop.t loop.k (loop.k + next-size.result)
          loop.invariant.0 (omega arith) (omega (arith, next-size.ensures.0, next-size.ensures.1)) loop.invariant.3,
    )

pub shape_of-t : goal.shape_of-t
shape_of-t c =
    let entry = c.args in
    let loop = c.loop-k in
    let clear = c.clear in
    same_len_mid (loop.k - entry.n) (entry.used - (loop.k - entry.n)) loop.t clear.new.t clear.auto.t ∙ loop.invariant.2

pub returns : goal.returns
returns c =
    let entry = c.args in
    let loop = c.loop-k in
    let clear = c.clear in
    let n : length (part loop.t (loop.k - entry.n) entry.used) ≡ entry.n =
    length_part loop.t (loop.k - entry.n) entry.used (omega arith) ∙ omega arith in
    done entry.t.now entry.at entry.n loop.t clear.new.t loop.k entry.used (omega arith) (omega arith) (omega arith)
    loop.invariant.3 (clear.ensures ∙ ap (λ (i : ℕ). replicate i 0) n)
