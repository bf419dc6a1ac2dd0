-- `rows::has` meets its contract.
use Rattle.std.proofs.Common.{◌∙◌, ap, drop}
use Rattle.std.specs.Prelude.{is_ok}
use Rattle.rows.proofs.Turns.{found-named}
use Rattle.rows.proofs.has.Goals as goal

pub returns : goal.returns
returns c =
    let a = c.args in
    c.is_ok.ensures.value ∙ ap is_ok c.find.ensures.0 ∙ found-named a.kind a.x.now a.at a.n (drop a.at a.rec.now)
