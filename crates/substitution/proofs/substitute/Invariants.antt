-- `substitution::substitute` meets its contract.
use Prim.Native.Nat.{◌-◌, ◌≤◌}
use mathlib.Core.Bool.{true}
use mathlib.Core.Path.{◌≡◌}
use lib.ListN.{length, drop}
use Rattle.substitution.specs.Turns.{Leads}
use Rattle.substitution.specs.Places.{OfSource}
use Rattle.engine.specs.Substitute.{substituted}
use Rattle.template.specs.Template.{well_formed}
use Rattle.substitution.proofs.substitute.Given as goal

abbrev pub invariant-loop-turn : goal.invariant-loop-turn
invariant-loop-turn l =
    (l.i ≤ length l.template) × (well_formed (drop l.i l.template) ≡ true) × (l.used ≤ length l.out) × (length l.out ≡ length l.initial.out) × OfSource l.dev l.rec l.from
    (λ s. Leads (substituted l.spaceless s l.template) l.initial.out 0 (substituted l.spaceless s (drop l.i l.template)) l.out l.used)

abbrev pub decreases-loop-turn : goal.decreases-loop-turn
decreases-loop-turn l = length l.template - l.i
