-- `plan_due::event_path` meets its contract.
use Rattle.plan_due.proofs.Fair.{event_stands, event_lies}
use Rattle.plan_due.proofs.event_path.Goals as goal

pub path-requires : goal.path-requires
path-requires c =
    let pre = c.requires in
    let entry = c.args in
    let shared-slice-known = c.type_inv.device in
    let chain-of = c.chain_of in
    let (d, e) = pre in
    event_stands entry.device.now d (λ i. (shared-slice-known i).fits) e chain-of.result (chain-of.ensures d e)

pub returns : goal.returns
returns c =
    let path = c.path in
    let entry = c.args in
    let shared-slice-known = c.type_inv.device in
    let chain-of = c.chain_of in
    λ d e. path.ensures d.event (event_lies entry.device.now d (λ i. (shared-slice-known i).fits) e chain-of.result (chain-of.ensures d e))
