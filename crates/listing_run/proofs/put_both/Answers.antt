-- `listing_run::put_both` meets its contract.
use Rattle.std.proofs.Common.{◌≡◌, ◌++◌, ap, length, drop, length-append, arith}
use Rattle.lists.specs.Lists.{cat}
use Rattle.bits.specs.Bits.{number_at}
use Rattle.engine.specs.Listing.{command_line, listing_of}
use Rattle.listing_lines.proofs.Laws.{behind, appended_as}
use Rattle.listing_record.specs.Lines.{record_lines}
use Rattle.listing_record.proofs.Laws.{listing-parts}
use Rattle.listing_commands.specs.Lines.{entry_lines}
use Rattle.listing_commands.proofs.Laws.{list_lines_lem}
use Rattle.listing_run.proofs.put_both.Goals as goal

pub returns-in_err-put : goal.returns-in_err-put
returns-in_err-put c =
    let x = c.args in
    rw c.from_residual.ensures
    (λ n s h cs m.
    omega (
      arith,
      ap length (listing-parts x.visited x.tried s cs),
      length-append (record_lines x.visited x.tried s) (cat command_line cs),
      c.in_err-put.ensures n s h,
    ))

pub put_commands-requires-clause-room : goal.put_commands-requires-clause-room
put_commands-requires-clause-room c =
    let (n, s, h) = c.requires.0 in
    omega (arith, c.in_ok-put.ensures n s h)

pub returns : goal.returns
returns c =
    let x = c.args in
    let r = c.put_commands.result in
    let out = c.put_commands.new.out in
    λ n s h cs m.
    let lines : entry_lines (number_at x.list.now 0 5) (drop 1 x.list.now) ≡ cat command_line cs =
    rw m.bytes (list_lines_lem cs m.few m.short m.rest) in
    appended_as (record_lines x.visited x.tried s ++ cat command_line cs) (listing_of x.visited x.tried s cs) x.out.now 0 r out
    (listing-parts x.visited x.tried s cs)
    (behind (c.in_ok-put.ensures n s h) (cat command_line cs) r out
    (appended_as (entry_lines (number_at x.list.now 0 5) (drop 1 x.list.now)) (cat command_line cs) c.put_record.new.out c.in_ok-put.put r out
    lines c.put_commands.ensures))
