-- `holders::contest` meets its contract.
use Prim.Native.Nat.{ℕ, ◌≤◌, ◌<◌}
use lib.ListN.{length, replicate}
use mathlib.Core.List.{List}
use mathlib.Core.Path.{◌≡◌, sym, ap, ◌∙◌}
use native.Mathlib.Omega.{arith}
use Rattle.claims.specs.Records.{states_in}
use Rattle.contest.specs.Contest.{contest as contest-list}
use Rattle.contest.specs.Operation.{enc_listed, fullest_contest, states_of}
use Rattle.holders.proofs.Answers.{going_same, all-bytes, all_end, all-names, contest-short, contest-refused, whole, contest-size, contest-going, contest-accepted}
use Rattle.holders.proofs.Lists.{names_few}
use Rattle.holders.specs.Lists.{Going}
use Rattle.lists.specs.Bytes.{Bytes}
use Rattle.lists.specs.Checked.{ok}
use Rattle.lists.specs.Lists.{cat}
use Rattle.outcome.specs.State.{State}
use Rattle.std.specs.Prelude.{Err}
use Rattle.claims.specs.Judged.{JudgedIs}
use Rattle.set_answers.specs.Answers.{answered}
use Rattle.sets.specs.Answer.{acceptance}
use Rattle.splice.specs.Moves.{padded}
use Rattle.holders.proofs.contest.Goals as goal

pub returns-then-target-lt-FULLEST : goal.returns-then-target-lt-FULLEST
returns-then-target-lt-FULLEST c =
    let entry = c.args in
    let short : length entry.target.now < fullest_contest = omega (arith, c.if-target-lt-FULLEST.true, c.clear.auto.t) in
    ap (answered c.refused.result) c.clear.ensures ∙ c.refused.ensures (length entry.target.now) ∙ sym (contest-short entry.set.now (length entry.target.now) short)

pub count_of-requires : goal.count_of-requires
count_of-requires c =
    let entry = c.args in
    let enough : fullest_contest ≤ length entry.target.now = omega (arith, c.if-target-lt-FULLEST.false, c.clear.auto.t) in
    let in_bytes : Bytes entry.set.now = λ i. (c.type_inv.set i).fits in
    let (ss, is) : (ss : List State) × (states_of entry.set.now ≡ ok ss) = c.in-Ok.ensures in
    (whole entry.set.now (length entry.target.now) enough in_bytes ss is).some

pub list-listed-requires : goal.list-listed-requires
list-listed-requires c =
    let entry = c.args in
    let room : length c.clear.new.t ≡ length entry.target.now = omega (arith, c.clear.auto.t) in
    let enough : fullest_contest ≤ length entry.target.now = omega (arith, c.if-target-lt-FULLEST.false, room) in
    let in_bytes : Bytes entry.set.now = λ i. (c.type_inv.set i).fits in
    let (ss, is) : (ss : List State) × (states_of entry.set.now ≡ ok ss) = c.in-Ok.ensures in
    let counted = c.count_of.ensures.0 ∙ (whole entry.set.now (length entry.target.now) enough in_bytes ss is).counted in
    (contest-going entry.set.now (length entry.target.now) enough in_bytes ss is c.clear.new.t c.count_of.result room counted, c.clear.ensures ∙ ap (λ (n : ℕ). replicate n 0) (sym room))

pub accepted-requires : goal.accepted-requires
accepted-requires c =
    let entry = c.args in
    let list = c.list-listed in
    let room : length c.clear.new.t ≡ length entry.target.now = omega (arith, c.clear.auto.t) in
    let enough : fullest_contest ≤ length entry.target.now = omega (arith, c.if-target-lt-FULLEST.false, room) in
    let in_bytes : Bytes entry.set.now = λ i. (c.type_inv.set i).fits in
    let (ss, is) : (ss : List State) × (states_of entry.set.now ≡ ok ss) = c.in-Ok.ensures in
    let counted = c.count_of.ensures.0 ∙ (whole entry.set.now (length entry.target.now) enough in_bytes ss is).counted in
    let going = contest-going entry.set.now (length entry.target.now) enough in_bytes ss is c.clear.new.t c.count_of.result room counted in
    let still = going_same entry.set.now list.new.t c.clear.new.t c.count_of.result list.auto.t going in
    let size = contest-size entry.set.now (length entry.target.now) enough in_bytes ss is in
    let end = all_end entry.set.now list.new.t c.count_of.result list.result still list.ensures.0 list.ensures.1 in
    let few = names_few entry.set.now _ list.new.t list.result.end list.result.names list.ensures.0.written in
    (omega arith, omega arith, omega (arith, size, end), omega (arith, size, end, few))

pub refused-requires-in-Err : goal.refused-requires-in-Err
refused-requires-in-Err c =
    let is : JudgedIs (states_of c.args.set.now) (Err c.in-Err.fault) = c.in-Err.ensures in
    (omega (arith, is.1), omega (arith, is.2))

pub returns-in-Ok : goal.returns-in-Ok
returns-in-Ok c =
    let entry = c.args in
    let list = c.list-listed in
    let room : length c.clear.new.t ≡ length entry.target.now = omega (arith, c.clear.auto.t) in
    let enough : fullest_contest ≤ length entry.target.now = omega (arith, c.if-target-lt-FULLEST.false, room) in
    let in_bytes : Bytes entry.set.now = λ i. (c.type_inv.set i).fits in
    let (ss, is) : (ss : List State) × (states_of entry.set.now ≡ ok ss) = c.in-Ok.ensures in
    let counted = c.count_of.ensures.0 ∙ (whole entry.set.now (length entry.target.now) enough in_bytes ss is).counted in
    let going = contest-going entry.set.now (length entry.target.now) enough in_bytes ss is c.clear.new.t c.count_of.result room counted in
    let still = going_same entry.set.now list.new.t c.clear.new.t c.count_of.result list.auto.t going in
    let size = list.auto.t ∙ room in
    let made = cat enc_listed (contest-list (states_in entry.set.now)) in
    let bytes = all-bytes entry.set.now list.new.t c.count_of.result list.result still list.ensures.0 list.ensures.1 in
    let end = all_end entry.set.now list.new.t c.count_of.result list.result still list.ensures.0 list.ensures.1 in
    let names = all-names entry.set.now list.new.t c.count_of.result list.result still list.ensures.0 list.ensures.1 in
    ap (answered c.accepted.result) (bytes ∙ ap (λ (n : ℕ). padded n made) size)
    ∙ c.accepted.ensures (length entry.target.now) made end
    ∙ ap (λ (n : ℕ). acceptance (length entry.target.now) 0 0 n made) names
    ∙ contest-accepted entry.set.now (length entry.target.now) enough in_bytes ss is

pub returns-in-Err : goal.returns-in-Err
returns-in-Err c =
    let again = c.refused-in-Err in
    let enough : fullest_contest ≤ length c.args.target.now = omega (arith, c.if-target-lt-FULLEST.false, c.clear.auto.t) in
    let is : JudgedIs (states_of c.args.set.now) (Err c.in-Err.fault) = c.in-Err.ensures in
    ap (answered again.result) c.clear.ensures ∙ again.ensures (length c.args.target.now) ∙ sym (contest-refused c.args.set.now (length c.args.target.now) enough _ is.0)
