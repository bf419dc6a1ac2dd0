-- The answers of the planner, as code gives them back.
-- Assumes nothing.
use Prim.Native.Nat.{ℕ, ◌≤◌, ◌<◌}
use mathlib.Core.Path.{◌≡◌, refl, sym, ap, ◌∙◌}
use mathlib.Core.Bool.{Bool, true, false}
use mathlib.Core.List.{List, []}
use native.Mathlib.Omega.{arith}
use borrow.Author.Tests.{le-leb, lt-leb}
use lib.ListN.{length, replicate}
use Rattle.lists.specs.Checked.{refused, ok}
use Rattle.lists.specs.Refusal.{target_short}
use Rattle.lists.specs.Sizes.{most_text}
use Rattle.splice.proofs.Laws.{clear_padded, append-padded}
use Rattle.insertion.specs.Append.{Placed}
use Rattle.sets.specs.Answer.{Fault, of_set}
use Rattle.set_answers.specs.Answers.{answered, Refuses, Accepts}
use Rattle.set_answers.specs.declared.Given.{Given}
use Rattle.plan.specs.Plan.{Naming, due, plan_text}
use Rattle.plan.specs.Operations.{namings, plan_checked, plan_answer, plan}

module _ (set : List ℕ) (room : ℕ) (g : Given) where
  pub plan-short : room < most_text → Refuses g (of_set target_short) → answered g (replicate room 0) ≡ plan set room
  unfolding plan plan_checked
  plan-short h e = e room ∙ rw (lt-leb most_text room h)

  module _ (h : most_text ≤ room) where
    pub plan-refused : (f : Fault) → namings set ≡ refused f → Refuses g f → answered g (replicate room 0) ≡ plan set room
    unfolding plan plan_checked
    plan-refused f w e = e room ∙ rw (le-leb most_text room h, w)

    module _ (ns : List Naming) (w : namings set ≡ ok ns) where
      pub plan-none : due ns ≡ false → Accepts g 0 0 0 0 → answered g (replicate room 0) ≡ plan set room
      unfolding plan plan_checked
      plan-none d e = ap (answered g) (clear_padded room) ∙ e room [] refl ∙ rw (le-leb most_text room h, w, d)

      pub plan-made : due ns ≡ true → (k : ℕ) (t : List ℕ) → Placed (plan_text ns) (replicate room 0) 0 k t → Accepts g 0 0 k 1 → answered g t ≡ plan set room
      unfolding plan plan_checked
      plan-made d k t p e =
          let long : k ≡ length (plan_text ns) = omega (arith, p.end) in
          ap (answered g) (p.bytes ∙ append-padded [] (plan_text ns) room 0 (replicate room 0) (clear_padded room) refl)
          ∙ e room (plan_text ns) long
          ∙ rw (le-leb most_text room h, w, d)
