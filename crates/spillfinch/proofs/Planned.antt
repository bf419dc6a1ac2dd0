-- What is wanted of checker and planner holds of what calls of the exported functions write.
-- Assumes nothing.
use Prim.Native.Nat.{ℕ, ◌≤◌}
use mathlib.Core.Path.{◌≡◌, refl, sym, ap, ap₂, ◌∙◌, subst}
use mathlib.Core.Logic.{◌↔◌}
use mathlib.Core.Bool.{Bool, true, false}
use mathlib.Core.List.{List, [], ◌∷◌}
use Rattle.std.specs.Prelude.{Option, None, Some}
use native.Mathlib.Omega.{arith}
use borrow.Author.Tests.{leb-true}
use lib.Dec.{leb}
use lib.ListN.{take}
use Rattle.lists.specs.Lists.{All}
use Rattle.lists.specs.Checked.{Checked, refused, ok, ◌>>=◌, ◌>>◌, require}
use Rattle.lists.specs.Refusal.{target_short}
use Rattle.lists.specs.Sizes.{most_text, fullest_outcome}
use Rattle.lists.proofs.Lists.{All-map}
use Rattle.text.specs.Run.{Answer}
use Rattle.text.proofs.Runs.{refusal-number}
use Rattle.sheet.specs.Sheet as sheet
use Rattle.engine.specs.Operations.{decode_for, run, fresh}
use Rattle.sets.specs.Answer as sets
use Rattle.sets.specs.Answer.{Fault, of_set}
use Rattle.plan.specs.Plan.{Naming, unanswered, due, plan_text}
use Rattle.plan.specs.Operations as plan
use Rattle.plan.specs.Operations.{check_answer, plan_for, plan_checked, plan_answer}
use Rattle.plan.specs.Promise.{Named}
use Rattle.plan.proofs.Plans.{planning}
use Rattle.spillfinch.specs.Exports.{numbers, set_numbers, PlanCheckGives, PlanGives}
use Rattle.spillfinch.specs.Joined.{number_in, used_in}
use Rattle.spillfinch.specs.Contested.{count_in}
use Rattle.spillfinch.specs.Planned.{Calls, Names, Checks, Plans, Planned}

-- ---- one device

no_replies : sheet.encode unanswered ≡ 0 ∷ []
unfolding sheet.encode
no_replies = refl

module _ (text : List ℕ) (n : Naming) where
  abbrev ran_from : List ℕ → Answer
  ran_from start = run text n.bytes_lent start (0 ∷ []) fullest_outcome

  -- what the calls begin with is the fresh record
  begun : (c : Calls text n.bytes_lent) → take (used_in c.fresh_written) c.start ≡ take (fresh n.bytes_lent fullest_outcome).used (fresh n.bytes_lent fullest_outcome).bytes
  begun c = ap₂ (λ (w t : List ℕ). take (used_in w) t) c.begins.0 c.begins.1

  called : Named text n → (c : Calls text n.bytes_lent) → Names text n c
  called m c =
      let is : run text n.bytes_lent m.start (sheet.encode unanswered) fullest_outcome ≡ ran_from (take (used_in c.fresh_written) c.start) =
      ap₂ (λ (o s : List ℕ). run text n.bytes_lent o s fullest_outcome) (sym (begun c ∙ m.begun)) no_replies
      in
      record {
        accepted = ap number_in c.runs.0 ∙ sym (ap (λ (a : Answer). a.number) is) ∙ m.runs;
        state = m.state;
        left = ap₂ (λ (w t : List ℕ). decode_for n.device (take (used_in w) t)) c.runs.0 c.runs.1 ∙ sym (ap (λ (a : Answer). decode_for n.device (take a.used a.bytes)) is) ∙ m.left;
        linked = m.linked;
      }

  back_called : ((c : Calls text n.bytes_lent) → Names text n c) → Named text n
  back_called f =
      let first : Answer = fresh n.bytes_lent fullest_outcome in
      let last : Answer = ran_from (take first.used first.bytes) in
      let m = f (record { fresh_written = numbers first; start = first.bytes; begins = (refl, refl); written = numbers last; target = last.bytes; runs = (refl, refl) }) in
      let is : run text n.bytes_lent (take first.used first.bytes) (sheet.encode unanswered) fullest_outcome ≡ last = ap (λ (s : List ℕ). run text n.bytes_lent (take first.used first.bytes) s fullest_outcome) no_replies in
      record {
        start = take first.used first.bytes;
        begun = refl;
        runs = ap (λ (a : Answer). a.number) is ∙ m.accepted;
        state = m.state;
        left = ap (λ (a : Answer). decode_for n.device (take a.used a.bytes)) is ∙ m.left;
        linked = m.linked;
      }

-- ---- the checker

not-refused : (text : List ℕ) (c : Checked Fault (List Naming)) → (check_answer text c).number ≡ 0 → (ns : List Naming) × (c ≡ ok ns)
not-refused text (refused f) e = let (k, p) = refusal-number f.why in absurd (omega (arith, sym p ∙ e))
not-refused text (ok ns) e = (ns, refl)

checks : (set text written : List ℕ) → PlanCheckGives set text written → number_in written ≡ 0 → Checks set text written
unfolding plan.check
checks set text written w z =
    let (ns, e) = not-refused text (plan.namings set) (sym (ap number_in w) ∙ z) in
    let (f, g) = planning.exact set text ns e in
    record {
      namings = ns;
      held = e;
      exact = (
        λ h. All-map (Named text) (λ (n : Naming). (c : Calls text n.bytes_lent) → Names text n c) (λ n m. called text n m) ns (f (sym (ap count_in w) ∙ h)),
        λ a. ap count_in w ∙ g (All-map (λ (n : Naming). (c : Calls text n.bytes_lent) → Names text n c) (Named text) (λ n m. back_called text n m) ns a),
      );
    }

-- ---- the planner

number-planned : (room : ℕ) (c : Checked Fault (Option (List ℕ))) → (plan_answer room c).number ≡ 0 → (o : Option (List ℕ)) × (c ≡ ok o)
number-planned room (refused f) e = let (k, p) = refusal-number f.why in absurd (omega (arith, sym p ∙ e))
number-planned room (ok o) e = (o, refl)

-- the devices were sound, and there was room
planned_for : (set : List ℕ) (room : ℕ) (o : Option (List ℕ)) → plan_checked set room ≡ ok o → (ns : List Naming) × (plan.namings set ≡ ok ns) × (most_text ≤ room)
unfolding plan_checked
planned_for set room o e = after (leb most_text room) refl (plan.namings set) e
  where
    after : (b : Bool) → leb most_text room ≡ b → (c : Checked Fault (List Naming)) → (require b (of_set target_short) >> (c >>= λ ns. ok (plan_for (due ns) ns))) ≡ ok o
        → (ns : List Naming) × (c ≡ ok ns) × (most_text ≤ room)
    after false l c e = let z : ◌≡◌ {A = ℕ} 0 1 = cc in absurd (omega arith)
    after true l (refused f) e = let z : ◌≡◌ {A = ℕ} 0 1 = cc in absurd (omega arith)
    after true l (ok ns) e = (ns, refl, leb-true most_text room l)

plans : (set : List ℕ) (room : ℕ) (written target : List ℕ) → PlanGives set room written target → number_in written ≡ 0 → Plans set written target
unfolding plan.plan
plans set room written target (w, b) z =
    let (o, e) = number-planned room (plan_checked set room) (sym (ap number_in w) ∙ z) in
    let (ns, f, l) = planned_for set room o e in
    record {
      namings = ns;
      held = f;
      planned = λ h. ap count_in w ∙ ap (λ (c : Checked Fault (Option (List ℕ))). (plan_answer room c).count) (planning.planned set room ns l f h);
      none_else = λ h.
          let is = planning.none_else set room ns l f h in
          (ap count_in w ∙ ap (λ (c : Checked Fault (Option (List ℕ))). (plan_answer room c).count) is, ap used_in w ∙ ap (λ (c : Checked Fault (Option (List ℕ))). (plan_answer room c).used) is);
      accepted = λ h told t.
          let text : take (used_in written) target ≡ take (plan.plan set room).used (plan.plan set room).bytes = ap₂ (λ (x y : List ℕ). take (used_in x) y) w b in
          let is = t ∙ ap (λ (x : List ℕ). set_numbers (plan.check set x)) text in
          (ap number_in is ∙ unrefused set _ ns f, ap count_in is ∙ planning.accepted set room (sym (ap count_in w) ∙ h));
    }
  where
    unrefused : (set text : List ℕ) (ns : List Naming) → plan.namings set ≡ ok ns → (plan.check set text).number ≡ 0
    unrefused set text ns f = unfold plan.check in ap (λ (c : Checked Fault (List Naming)). (check_answer text c).number) f

pub planned : Planned
planned = record { checks = checks; plans = plans }
