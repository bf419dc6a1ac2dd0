-- `run_each::run_each` meets its contract.
use Prim.Native.Nat.{ℕ}
use mathlib.Core.List.{List}
use mathlib.Core.Path.{◌≡◌, sym, ap, ◌∙◌, subst}
use native.Mathlib.Omega.{arith}
use lib.ListN.{length, replicate}
use Rattle.lists.proofs.Lists.{is-some}
use Rattle.lists.specs.Refusal.{target_short, set_bad}
use Rattle.sets.specs.Answer.{of_set}
use Rattle.sets.specs.Lent.{decode_lent}
use Rattle.run_each.proofs.Laws.{set_known, going, wrote-refused, each_bad, each_short, each_few, each_whole}
use Rattle.run_each.specs.Runs.{RunsIn}
use Rattle.run_each.proofs.run_each.Goals as goal

pub returns-then-not-check_lent : goal.returns-then-not-check_lent
returns-then-not-check_lent c =
    let refuse = c.refuse in
    let clear-numbers = c.fill in
    let entry = c.args in
    let check-lent = c.check_lent in
    let if1 = c.if-not-check_lent in
    wrote-refused refuse.result refuse.new.targets clear-numbers.new.self (length entry.targets.now) (length entry.answers.now) (of_set set_bad) refuse.ensures (clear-numbers.ensures.after (λ y e. e))
    ∙ sym (each_bad entry.text.now entry.set.now entry.sheet.now (length entry.targets.now) (length entry.answers.now) (sym check-lent.ensures ∙ if1.true))

pub count_of-n-requires : goal.count_of-n-requires
count_of-n-requires c =
    let entry = c.args in
    let check-lent = c.check_lent in
    let if1 = c.if-not-check_lent in
    let (ls, e) = is-some (decode_lent entry.set.now) (sym check-lent.ensures ∙ if1.false) in
    let known = set_known entry.set.now ls e in
    known.some

pub returns-then-targets-n : goal.returns-then-targets-n
returns-then-targets-n c =
    let a = c.args in
    let (ls, e) = is-some (decode_lent a.set.now) (sym c.check_lent.ensures ∙ c.if-not-check_lent.false) in
    let known = set_known a.set.now ls e in
    let count : c.count_of-n.result ≡ length ls = c.count_of-n.ensures.0 ∙ known.counted in
    wrote-refused c.refuse-then-targets-n.result c.refuse-then-targets-n.new.targets _ (length a.targets.now) (length a.answers.now) (of_set target_short) c.refuse-then-targets-n.ensures (c.fill.ensures.after (λ y e. e))
    ∙ sym (each_short a.text.now a.set.now a.sheet.now (length a.targets.now) (length a.answers.now) ls e (omega (arith, c.if-targets-n.true, count)))

pub returns-then-answers-n : goal.returns-then-answers-n
returns-then-answers-n c =
    let a = c.args in
    let (ls, e) = is-some (decode_lent a.set.now) (sym c.check_lent.ensures ∙ c.if-not-check_lent.false) in
    let known = set_known a.set.now ls e in
    let count : c.count_of-n.result ≡ length ls = c.count_of-n.ensures.0 ∙ known.counted in
    wrote-refused c.refuse-then-answers-n.result c.refuse-then-answers-n.new.targets _ (length a.targets.now) (length a.answers.now) (of_set target_short) c.refuse-then-answers-n.ensures (c.fill.ensures.after (λ y e. e))
    ∙ sym (each_few a.text.now a.set.now a.sheet.now (length a.targets.now) (length a.answers.now) ls e (omega (arith, c.if-targets-n.false, count)) (omega (arith, c.if-answers-n.true, count, c.fill.ensures.len)))

pub each_text-requires : goal.each_text-requires
each_text-requires c =
    let entry = c.args in
    let check-lent = c.check_lent in
    let if1 = c.if-not-check_lent in
    let count_of = c.count_of-n in
    let clear-numbers = c.fill in
    let if2 = c.if-targets-n in
    let if3 = c.if-answers-n in
    let (ls, e) = is-some (decode_lent entry.set.now) (sym check-lent.ensures ∙ if1.false) in
    let known = set_known entry.set.now ls e in
    going entry.set.now ls e count_of.result entry.targets.now clear-numbers.new.self count_of.ensures.0 (omega (arith, if2.false)) (omega (arith, if3.false))
    ((clear-numbers.ensures.after (λ y e. e)) ∙ ap (λ (k : ℕ). replicate k 0) (sym clear-numbers.ensures.len))

pub returns : goal.returns
returns c =
    let entry = c.args in
    let check-lent = c.check_lent in
    let if1 = c.if-not-check_lent in
    let count_of = c.count_of-n in
    let each-text = c.each_text in
    let clear-numbers = c.fill in
    let if2 = c.if-targets-n in
    let if3 = c.if-answers-n in
    let accepted = c.accepted in
    let (ls, e) = is-some (decode_lent entry.set.now) (sym check-lent.ensures ∙ if1.false) in
    let known = set_known entry.set.now ls e in
    let count : count_of.result ≡ length ls = count_of.ensures.0 ∙ known.counted in
    let targets : List ℕ = each-text.new.targets in
    let answers : List ℕ = each-text.new.answers in
    let room = length entry.targets.now in
    let places = length entry.answers.now in
    let runs : ℕ → Type 0 = λ k. RunsIn entry.text.now entry.set.now entry.sheet.now room k targets answers in
    let ran : runs places = subst runs clear-numbers.ensures.len each-text.ensures in
    each_whole entry.text.now entry.set.now entry.sheet.now room places ls e
    (omega (arith, if2.false, count)) (omega (arith, if3.false, count, clear-numbers.ensures.len))
    accepted.result count_of.result count accepted.ensures targets answers ran
