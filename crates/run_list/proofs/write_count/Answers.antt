-- `run_list::write_count` meets its contract.
use Rattle.std.proofs.Common.{rules}
use Rattle.run_list.proofs.Heads.{count_head}
use Rattle.run_list.proofs.write_count.Goals as goal

pub returns : goal.returns
returns c =
    let entry = c.args in
    let pre = c.requires in
    let put-call = c.put-unused_at in
    let put2-call = c.put in
    let args = entry in
    let put = put-call in
    let put2 = put2-call in
    count_head args.head.now put.new.s put2.new.s put.result.at args.n pre (λ i. search rules)
    put.ensures.bytes put.ensures.next put2.ensures.bytes
