-- `device_check::ok_path` meets its contract.
use Rattle.std.proofs.Common.{arith}
use Rattle.device_check.proofs.Paths.{path_tail}
use Rattle.device_check.proofs.ok_path.Goals as goal

pub loop-i-init : goal.loop-i-init
loop-i-init c = (omega arith, omega arith, path_tail c.args.s.now (omega arith) c.if-s-ne47.false)
