-- `listing_record::put_record` meets its contract.
use Rattle.std.proofs.Common.{◌++◌, arith, length-append}
use Rattle.listing_lines.proofs.Laws.{behind}
use Rattle.listing_record.specs.Lines.{count_lines, setting_lines, list_lines}
use Rattle.listing_record.proofs.put_record.Goals as goal

pub returns-in_err-counts : goal.returns-in_err-counts
returns-in_err-counts c =
    let a = c.args in
    rw c.from_residual.ensures
    (λ n s h. omega (arith, length-append (count_lines a.visited a.tried) (setting_lines s ++ list_lines s), c.in_err-counts.ensures))

pub returns-in_err-settings : goal.returns-in_err-settings
returns-in_err-settings c =
    let a = c.args in
    rw c.from_residual-in_err-settings.ensures
    (λ n s h.
    omega (
      arith,
      length-append (count_lines a.visited a.tried) (setting_lines s ++ list_lines s),
      length-append (setting_lines s) (list_lines s),
      c.in_ok-counts.ensures,
      c.in_err-settings.ensures n s h,
    ))

pub returns : goal.returns
returns c =
    let r = c.put_lists.result in
    let out = c.put_lists.new.out in
    λ n s h.
    behind c.in_ok-counts.ensures (setting_lines s ++ list_lines s) r out
    (behind (c.in_ok-settings.ensures n s h) (list_lines s) r out (c.put_lists.ensures n s h))
