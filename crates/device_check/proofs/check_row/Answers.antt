-- `device_check::check_row` meets its contract.
use mathlib.Core.Bool.{true, false}
use mathlib.Core.Path.{sym, ◌∙◌}
use native.Mathlib.Omega.{arith}
use Rattle.device_check.proofs.Ends.{row_stands, row_apart}
use Rattle.device_check.proofs.check_row.Goals as goal

pub distinct-requires : goal.distinct-requires
distinct-requires c = (omega arith, row_stands c.args.rec.now c.args.at c.args.n c.in_ok-end.end (sym c.in_ok-end.ensures))

pub returns-then-distinct : goal.returns-then-distinct
returns-then-distinct c =
    sym (row_apart c.args.rec.now c.args.at c.args.n c.in_ok-end.end true (sym c.in_ok-end.ensures) (sym c.distinct.ensures ∙ c.if-distinct.true))

pub returns-else-distinct : goal.returns-else-distinct
returns-else-distinct c =
    sym (row_apart c.args.rec.now c.args.at c.args.n c.in_ok-end.end false (sym c.in_ok-end.ensures) (sym c.distinct.ensures ∙ c.if-distinct.false))
