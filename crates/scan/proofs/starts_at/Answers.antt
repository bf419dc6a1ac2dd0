-- `scan::starts_at` meets its contract.
use Prim.Native.Nat.{ℕ, ◌-◌}
use mathlib.Core.Path.{◌≡◌, sym, ap, ◌∙◌}
use lib.ListN.{length, take, drop, length-drop}
use lib.Seq.{take-length}
use Rattle.scan.proofs.Equality.{starts_pairs}
use Rattle.scan.proofs.starts_at.Goals as goal

pub returns : goal.returns
returns c =
    let s = c.args.s.now in
    let e : take (length s - c.args.at) (drop c.args.at s) ≡ drop c.args.at s =
    ap (λ (n : ℕ). take n (drop c.args.at s)) (sym (length-drop c.args.at s)) ∙ take-length (drop c.args.at s) in
    rw e at c.starts_with.ensures.value ∙ starts_pairs c.args.name.now (drop c.args.at s)
