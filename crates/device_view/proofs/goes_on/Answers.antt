-- `device_view::goes_on` meets its contract.
use Rattle.lists.specs.Bytes.{Bytes}
use Rattle.device_view.proofs.Chain.{place_lies, parent_test_lem}
use Rattle.device_view.proofs.goes_on.Goals as goal

pub returns : goal.returns
returns c = λ d e n m p.
    let a = c.args in
    let rec = a.rec.now in
    let b : Bytes rec = λ i. (c.type_inv.rec i).fits in
    parent_test_lem rec d b e n a.at c.member_end.result m p (c.member_end.ensures m (place_lies rec d b e n a.at m p))
