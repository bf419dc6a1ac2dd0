-- `match_values::action_holds` meets its contract.
use Prim.Native.Nat.{ℕ}
use mathlib.Core.Path.{◌≡◌, ap, ◌∙◌}
use mathlib.Core.List.{List}
use native.Mathlib.Omega.{arith}
use Rattle.std.proofs.Common.{Bor}
use Rattle.device.specs.Device.{action_names}
use Rattle.entries.specs.Entry.{or_empty}
use Rattle.lists.specs.Lists.{nth}
use Rattle.lists.specs.Quoted.{bytes}
use Rattle.pattern.specs.Pattern.{matches}
use Rattle.keys.specs.Table.{operator_of}
use Rattle.engine.specs.Match.{judged}
use Rattle.match_values.proofs.action_holds.Goals as goal
use Rattle.match_values.proofs.action_holds.Goals.{in-0, in-1, in-2, in-3, in-4, in-5, in-6, in_default}

pub returns : goal.returns
unfolding bytes action_names
returns c =
    let a = c.args in
    let text : Bor (List ℕ) → List ℕ = λ b. b.now in
    let named : c.match-action.name.now ≡ or_empty (nth a.action action_names) =
    elim c.match-action.branch [
      | in-0 w ↦ rw w.in-0.is (ap text w.name-is)
      | in-1 w ↦ rw w.in-1.is (ap text w.name-is)
      | in-2 w ↦ rw w.in-2.is (ap text w.name-is)
      | in-3 w ↦ rw w.in-3.is (ap text w.name-is)
      | in-4 w ↦ rw w.in-4.is (ap text w.name-is)
      | in-5 w ↦ rw w.in-5.is (ap text w.name-is)
      | in-6 w ↦ rw w.in-6.is (ap text w.name-is)
      | in_default w ↦ let e : a.action ≡ 7 = omega (arith, c.requires.0) in rw e (ap text w.name-is)
    ] in
    c.value_holds.ensures ∙ ap (λ (x : List ℕ). judged (operator_of a.operator) (matches a.pattern.now x)) named
