-- `device_view::next_start` meets its contract.
use Rattle.lists.specs.Bytes.{Bytes}
use Rattle.device_view.proofs.Chain.{place_lies, parent_stands}
use Rattle.device_view.proofs.next_start.Goals as goal

pub returns : goal.returns
returns c =
    let a = c.args in
    let rec = a.rec.now in
    let b : Bytes rec = λ i. (c.type_inv.rec i).fits in
    let f = c.member_end in
    (f.ensures, λ d e n m x p g. parent_stands rec d b e n a.at f.result m x p (f.ensures m (place_lies rec d b e n a.at m p)) g)
