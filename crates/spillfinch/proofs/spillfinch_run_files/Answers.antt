-- `spillfinch::spillfinch_run_files` meets its contract.
use Rattle.spillfinch.proofs.Laws.{set_gives}
use Rattle.spillfinch.proofs.spillfinch_run_files.Goals as goal

pub returns : goal.returns
returns c = set_gives c.run_files.result c.put_set_answer.new.answer c.run_files.new.t _ c.run_files.ensures c.put_set_answer.ensures
