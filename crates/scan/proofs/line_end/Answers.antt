-- `scan::line_end` meets its contract.
use Rattle.scan.proofs.Groups.{above-run}
use Rattle.scan.proofs.line_end.Goals as goal

pub returns : goal.returns
returns c =
    let entry = c.args in
    let args = entry in
    let groups = c.line_groups in
    above-run args.s.now args.at groups.result groups.ensures.2 groups.ensures.0 groups.ensures.1
    c.byte_end.result c.byte_end.ensures
