-- `splice::replace` meets its contract: a store where the part behind has been shifted.
use Prim.Native.Nat.{ℕ}
use mathlib.Core.List.{List}
use mathlib.Core.Path.{◌∙◌, ap}
use native.Mathlib.Omega.{arith}
use Rattle.splice.specs.Moves.{stored}
use Rattle.splice.proofs.Laws.{stored-shifted}
use Rattle.splice.proofs.replace.Goals as goal

pub returns : goal.returns
returns c =
    let entry = c.args in
    let shift = c.shift in
    let store = c.store in
    let a = entry in
    store.ensures ∙ ap (λ (l : List ℕ). stored l a.at a.src.now) shift.ensures ∙ stored-shifted a.t.now a.at a.src.now
    (omega arith) a.n a.used
