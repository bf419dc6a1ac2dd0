-- The last step of the close.
-- Assumes nothing.
use Rattle.std.specs.Prelude.{ℕ, List}
use Rattle.lists.specs.Checked.{Checked, refused, ok, ◌>>=◌, Placed, on_line}
use Rattle.lists.specs.Refusal.{Refusal}
use Rattle.engine.specs.Operations.{Command, run_list}

-- the run list of commands, or their refusal with line 0
abbrev pub listed : Checked Refusal (List Command) → Checked (Placed Refusal) (List ℕ)
listed o = on_line 0 o >>= λ cs. ok (run_list cs)
