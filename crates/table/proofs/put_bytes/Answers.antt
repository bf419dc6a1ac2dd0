-- `table::put_bytes` meets its contract.
use native.Mathlib.Omega.{arith}
use Rattle.table.proofs.Bytes.{text-size, put-none, put_last}
use Rattle.table.proofs.put_bytes.Goals as goal

pub returns-in-0 : goal.returns-in-0
returns-in-0 c =
    let x = c.args in
    put_last x.line.now x.start x.end c.requires.0 c.requires.1 x.at x.values.now c.requires.2 x.values.now 0 (omega (arith, c.in-0.is))
    (put-none _ x.at x.values.now (omega (arith, c.requires.2, text-size x.line.now x.start x.end c.requires.0 c.requires.1 x.at x.values.now c.requires.2)))
