-- `pair_content::written_form` meets its contract.
use Rattle.pairs.proofs.Escapes.{plain-part}
use Rattle.pair_content.proofs.written_form.Goals as goal

pub returns-then-len-end : goal.returns-then-len-end
returns-then-len-end c =
    let x = c.args in
    rw (plain-part x.line.now x.coded x.start x.end x.len c.requires c.if-len-end.true) c.value_form.ensures
