use Prim.Native.Nat.{ℕ, ◌-◌, ◌<◌}
use mathlib.Core.Path.{◌≡◌, ap, ◌∙◌, refl}
use mathlib.Core.List.{List, ◌++◌, append-nil}
use native.Mathlib.Omega.{arith}
use borrow.Author.Fill.{fill_more}
use lib.ListN.{length, drop, set, replicate, length-set}
use lib.Seq.{drop-length}
use Rattle.strike.proofs.clear_numbers.Goals as goal

done : (t₀ t : List ℕ) (i : ℕ) → t ≡ replicate i 0 ++ drop i t₀ → i ≡ length t₀ → t ≡ replicate (length t₀) 0
done t₀ t i e h =
    e
    ∙ ap (λ (n : ℕ). replicate n 0 ++ drop n t₀) h
    ∙ ap (λ (l : List ℕ). replicate (length t₀) 0 ++ l) (drop-length t₀)
    ∙ append-nil (replicate (length t₀) 0)

pub loop-n-init : goal.loop-n-init
loop-n-init c = (omega arith, refl, refl)

pub loop-n-preserved : goal.loop-n-preserved
loop-n-preserved c =
    let h : c.loop-n.n-index < length c.args.list.now = omega arith in (
      omega arith,
      simp length-set (omega arith),
      ap (λ (l : List ℕ). set l c.loop-n.n-index 0) c.loop-n.invariant.2 ∙ fill_more c.loop-n.n-index 0 c.args.list.now h,
    )

pub shape_of-list : goal.shape_of-list
shape_of-list c = c.loop-n.invariant.1

pub returns : goal.returns
returns c = done c.args.list.now c.loop-n.list c.loop-n.n-index c.loop-n.invariant.2 (omega arith)
