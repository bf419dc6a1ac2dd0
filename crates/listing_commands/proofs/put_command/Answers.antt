-- `listing_commands::put_command` meets its contract.
use Rattle.listing_lines.proofs.Laws.{appended_as}
use Rattle.listing_commands.proofs.Laws.{builtin_line, program_line}
use Rattle.listing_commands.proofs.put_command.Goals as goal

pub returns-then-builtin : goal.returns-then-builtin
returns-then-builtin c =
    let x = c.args in
    let put = c.put_line in
    appended_as _ _ x.out.now x.used put.result put.new.out (builtin_line x.builtin x.text.now c.if-builtin.true) put.ensures

pub returns-else-builtin : goal.returns-else-builtin
returns-else-builtin c =
    let x = c.args in
    let put = c.put_line-else-builtin in
    appended_as _ _ x.out.now x.used put.result put.new.out (program_line x.builtin x.text.now c.if-builtin.false) put.ensures
