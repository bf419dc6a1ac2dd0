-- `splice::insert` meets its contract: a store into an opened gap.
use Prim.Native.Nat.{ℕ}
use mathlib.Core.List.{List}
use mathlib.Core.Path.{◌∙◌, ap}
use native.Mathlib.Omega.{arith}
use Rattle.splice.specs.Moves.{stored}
use Rattle.splice.proofs.Laws.{stored-opened}
use Rattle.splice.proofs.insert.Goals as goal

pub returns : goal.returns
returns c =
    let entry = c.args in
    let open-gap = c.open_gap in
    let store = c.store in
    let a = entry in
    store.ensures ∙ ap (λ (l : List ℕ). stored l a.at a.src.now) open-gap.ensures ∙ stored-opened a.t.now a.at
    a.src.now (omega arith) a.used
