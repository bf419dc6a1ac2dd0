use Rattle.std.proofs.Common.{ℕ, ◌≡◌, ◌+◌, ◌-◌, ◌<◌, drop, arith}
use Rattle.rows.proofs.Turns.{row_first, row-turn}
use Rattle.listing_rows.specs.Lines.{entry_lines}
use Rattle.listing_rows.proofs.Laws.{entries_next, entries_full, entries_end}
use Rattle.listing_rows.proofs.put_entries.Goals as goal

pub loop-init : goal.loop-init
loop-init c =
    let all : c.args.n - 0 ≡ c.args.n = omega arith in
    record { within = c.requires.row.0; row = rw all c.requires.row.1; room = c.requires.room; left = rw all (λ r l₂ q. q) }

pub parts_at-entry-requires : goal.parts_at-entry-requires
parts_at-entry-requires c =
    let left : ℕ = c.args.n - c.loop.counter in
    let more : 0 < left = omega arith in
    (c.loop.invariant.within, row_first c.args.kind left (drop c.loop.p c.args.rec.now) more c.loop.invariant.row)

pub returns-in_err-put : goal.returns-in_err-put
returns-in_err-put c =
    let x = c.args in
    let left : ℕ = x.n - c.loop.counter in
    let more : 0 < left = omega arith in
    rw c.from_residual.ensures
    (entries_full x.kind x.word.now x.rec.now c.loop.p left (entry_lines x.kind x.word.now x.n (drop x.at x.rec.now)) x.out.now x.used
    c.loop.out c.loop.put c.loop.invariant.left c.parts_at-entry.result c.parts_at-entry.ensures more c.in_err-put.ensures)

pub loop-preserved : goal.loop-preserved
loop-preserved c =
    let x = c.args in
    let left : ℕ = x.n - c.loop.counter in
    let more : 0 < left = omega arith in
    let fewer : x.n - (c.loop.counter + 1) ≡ left - 1 = omega arith in
    record {
      within = c.parts_at-entry.ensures.within;
      row = rw fewer (row-turn x.kind x.rec.now c.loop.p left c.parts_at-entry.result c.parts_at-entry.ensures more c.loop.invariant.row);
      room = omega (arith, c.in_ok-put.ensures);
      left =
          rw fewer
          (entries_next x.kind x.word.now x.rec.now c.loop.p left (entry_lines x.kind x.word.now x.n (drop x.at x.rec.now)) x.out.now x.used
          c.loop.out c.loop.put c.loop.invariant.left c.parts_at-entry.result c.parts_at-entry.ensures more _ _ c.in_ok-put.ensures);
    }

pub returns : goal.returns
returns c =
    let x = c.args in
    entries_end x.kind x.word.now x.rec.now c.loop.p (x.n - c.loop.counter) (entry_lines x.kind x.word.now x.n (drop x.at x.rec.now)) x.out.now
    x.used c.loop.out c.loop.put c.loop.invariant.left c.loop.invariant.room (omega arith)
