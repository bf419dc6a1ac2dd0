-- `run_files::judge_text` meets its contract.
use Rattle.std.specs.Prelude.{Ok}
use Rattle.reader.specs.Texts.{TextIs}
use Rattle.run_files.proofs.judge_text.Goals as goal

pub returns : goal.returns
returns c =
    let x = c.read_text.new in
    let is : TextIs c.args.text.now x.values x.rows x.rules x.labels x.jumps (Ok c.in_ok-read_text.field-0) = c.in_ok-read_text.ensures in
    (_, is.is)
