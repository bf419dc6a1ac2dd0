-- What is wanted of the contest holds of what calls of `spillfinch_contest` write.
-- Assumes nothing.
use Prim.Native.Nat.{ℕ, ◌-◌}
use mathlib.Core.Path.{◌≡◌, refl, sym, ap, ap₂, ◌∙◌, subst}
use mathlib.Core.List.{List}
use native.Mathlib.Omega.{arith}
use lib.Dec.{leb}
use lib.ListN.{length, take, replicate}
use lib.Seq.{take-append_seam}
use Rattle.lists.specs.Lists.{cat}
use Rattle.lists.specs.Checked.{Checked, refused, ok, ◌>>=◌, ◌>>◌, require}
use Rattle.lists.specs.Refusal.{target_short}
use Rattle.text.proofs.Runs.{refusal-number}
use Rattle.outcome.specs.State.{State}
use Rattle.sets.specs.Answer.{Fault, of_set, Answer}
use Rattle.contest.specs.Contest.{Listed, contest}
use Rattle.contest.specs.Operation.{enc_listed, fullest_contest, states_of, contest_checked, list_answer, contest_answer}
use Rattle.contest.specs.Promise.{Contested}
use Rattle.contest.proofs.Contest.{contested}
use Rattle.spillfinch.specs.Exports.{set_numbers, ContestGives}
use Rattle.spillfinch.specs.Joined.{number_in, used_in}
use Rattle.spillfinch.specs.Contested.{count_in, Lists, Contests}

-- the number 0 is given for a list
number-listed : (room : ℕ) (c : Checked Fault (List Listed)) → (list_answer room c).number ≡ 0 → (es : List Listed) × (c ≡ ok es)
number-listed room (refused f) e = let (k, p) = refusal-number f.why in absurd (omega (arith, sym p ∙ e))
number-listed room (ok es) e = (es, refl)

-- which is that of the records
checked_states : (set : List ℕ) (room : ℕ) (es : List Listed) → contest_checked set room ≡ ok es → (ss : List State) × (states_of set ≡ ok ss) × (contest ss ≡ es)
unfolding contest_checked
checked_states set room es e = after (require (leb fullest_contest room) (of_set target_short)) (states_of set) e
  where
    states : (c : Checked Fault (List State)) → (c >>= λ ss. ok (contest ss)) ≡ ok es → (ss : List State) × (c ≡ ok ss) × (contest ss ≡ es)
    states (refused f) e = let z : ◌≡◌ {A = ℕ} 0 1 = cc in absurd (omega arith)
    states (ok ss) e = let q : contest ss ≡ es = cc in (ss, refl, q)

    after : (r : Checked Fault (Unit {0})) (c : Checked Fault (List State)) → (r >> (c >>= λ ss. ok (contest ss))) ≡ ok es → (ss : List State) × (c ≡ ok ss) × (contest ss ≡ es)
    after (refused f) c e = let z : ◌≡◌ {A = ℕ} 0 1 = cc in absurd (omega arith)
    after (ok u) c e = states c e

pub contests : Contests
unfolding contest_answer
contests set room written target (w, b) z =
    let (es, e) = number-listed room (contest_checked set room) (sym (ap number_in w) ∙ z) in
    let (ss, f, g) = checked_states set room es e in
    let is : contest_answer set room ≡ list_answer room (ok es) = ap (list_answer room) e in
    let made : List ℕ = cat enc_listed es in
    record {
      states = ss;
      held = f;
      list = es;
      bytes = ap₂ (λ (x y : List ℕ). take (used_in x) y) (w ∙ ap set_numbers is) (b ∙ ap (λ (a : Answer). a.bytes) is) ∙ take-append_seam made (replicate (room - length made) 0);
      counted = ap count_in (w ∙ ap set_numbers is);
      contested = subst (Contested ss) g (contested ss);
    }
