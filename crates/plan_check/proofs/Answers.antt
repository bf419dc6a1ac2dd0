-- The answers of the checker, as code gives them back.
-- Assumes nothing.
use Prim.Native.Nat.{ℕ}
use mathlib.Core.Path.{◌≡◌, refl, sym, ap, ◌∙◌}
use mathlib.Core.Bool.{Bool}
use mathlib.Core.List.{List, []}
use Rattle.lists.specs.Checked.{refused, ok}
use Rattle.sets.specs.Answer.{Fault, acceptance}
use Rattle.set_answers.specs.Answers.{answered, Refuses, Accepts}
use Rattle.set_answers.specs.declared.Given.{Given}
use Rattle.plan.specs.Plan.{Naming, accepts}
use Rattle.plan.specs.Operations.{namings, counted, check_answer, check}

module _ (set text : List ℕ) (g : Given) where
  pub check-refused : (f : Fault) → namings set ≡ refused f → Refuses g f → answered g [] ≡ check set text
  unfolding check
  check-refused f w e = e 0 ∙ sym (ap (check_answer text) w)

  pub check-said : (ns : List Naming) (b : Bool) → namings set ≡ ok ns → accepts ns text ≡ b → Accepts g 0 0 0 (counted b) → answered g [] ≡ check set text
  unfolding check
  check-said ns b w h e = e 0 [] refl ∙ sym (ap (check_answer text) w ∙ ap (λ (x : Bool). acceptance 0 0 0 (counted x) []) h)
