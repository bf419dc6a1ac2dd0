-- `reader::put_note` meets its contract.
use Rattle.reader.proofs.Numbers.{two_put, two_behind}
use Rattle.table.specs.Puts.{Added}
use lib.ListN.{set, length-set}
use mathlib.Core.List.{[], ◌∷◌}
use mathlib.Core.Path.{refl, subst₂}
use Prim.Native.Nat.{ℕ, ◌+◌}
use native.Mathlib.Omega.{arith}
use Rattle.reader.proofs.put_note.Goals as goal

pub bounds-list-used-2 : goal.bounds-list-used-2
bounds-list-used-2 c =
    let short = c.short in
    omega (arith, length-set c.args.list.now c.args.used short.result)

pub returns : goal.returns
returns c =
    let short = c.short in
    let short2 = c.short-2 in
    let a = c.args in (
      refl,
      subst₂ (λ (n k : ℕ). Added (n ∷ k ∷ []) a.used a.list.now (set (set a.list.now a.used short.result) (a.used + 1) short2.result)) short.ensures short2.ensures
          (two_put a.list.now a.used short.result short2.result c.requires.0),
      two_behind a.list.now a.used _ _,
    )
