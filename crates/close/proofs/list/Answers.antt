-- `close::list` meets its contract.
use Rattle.std.proofs.Common.{ℕ, ◌≡◌, ap, ◌∙◌, arith, length, Some}
use lib.ListN.{replicate}
use Rattle.lists.specs.Checked as checked
use Rattle.lists.specs.Refusal.{substitution_long}
use Rattle.engine.specs.Operations.{commands, run_list}
use Rattle.answers.specs.Answers.{answered}
use Rattle.run_list.specs.Lists.{Written}
use Rattle.run_list.proofs.Rows.{runs_few}
use Rattle.close.proofs.Laws.{list_bytes, listed-given, refused-given}
use Rattle.close.proofs.Sizes.{list_few}
use Rattle.close.proofs.list.Goals as goal

pub accepted-requires : goal.accepted-requires
accepted-requires c =
    let x = c.args in
    let (d, s, b) = c.requires.2 in
    let w : Written (commands d s.properties s.output s.runs) x.t.now (Some c.in-Some.used) c.write.new.t = rw c.in-Some.is at (c.write.ensures d s b) in
    let few = runs_few x.dev.now x.rec.now x.chain x.layout d s (λ i. (c.type_inv.rec i).fits) b in
    (omega arith, omega arith, omega (arith, w.2.end, list_few d s.properties s.output s.runs w.0 w.1 few))

pub returns : goal.returns
returns c =
    let t = c.args.t.now in
    let room = length t in
    λ d s b.
    let w : Written (commands d s.properties s.output s.runs) t (Some c.in-Some.used) c.write.new.t = rw c.in-Some.is at (c.write.ensures d s b) in
    ap (answered c.accepted.result) (list_bytes t (run_list w.0) c.write.new.t room c.in-Some.used c.requires.1 w.2)
    ∙ c.accepted.ensures room (run_list w.0) (omega (arith, w.2.end))
    ∙ listed-given room (commands d s.properties s.output s.runs) w.0 w.1

pub returns-in_default : goal.returns-in_default
returns-in_default c =
    let room = length c.args.t.now in
    λ d s b.
    let e : length c.write.new.t ≡ room = omega arith in
    let f : commands d s.properties s.output s.runs ≡ checked.refused substitution_long = rw c.in_default.is at (c.write.ensures d s b) in
    ap (answered c.refused.result) (c.clear.ensures ∙ ap (λ (n : ℕ). replicate n 0) e)
    ∙ c.refused.ensures room
    ∙ refused-given room (commands d s.properties s.output s.runs) f
