use Rattle.std.proofs.Common.{ℕ, ◌≡◌, ◌+◌, ◌-◌, ◌<◌, List, ap, subst, length, drop, length-drop, arith}
use Rattle.bits.specs.Bits.{number_at}
use Rattle.listing_commands.specs.Lines.{First, entry_lines}
use Rattle.listing_commands.proofs.Laws.{rest_part, entry_head, entry-size, entries_next, lines_next, lines_full, lines_end}
use Rattle.listing_commands.proofs.put_commands.Goals as goal

pub loop-init : goal.loop-init
loop-init c =
    let all : number_at c.args.list.now 0 5 - 0 ≡ number_at c.args.list.now 0 5 = omega arith in
    record { within = c.requires.stands.0; entries = rw all c.requires.stands.1; room = c.requires.room; left = rw all (λ r l₂ q. q) }

pub head_of-head-requires : goal.head_of-head-requires
head_of-head-requires c =
    let l = c.args.list.now in
    let left : ℕ = number_at l 0 5 - c.loop.counter in
    let more : 0 < left = omega (arith, c.take-count.ensures.value) in
    omega (arith, ap length (rest_part l c.loop.at), length-drop c.loop.at l, entry_head l c.loop.at left more c.loop.invariant.entries c.loop.invariant.within)

pub overflow_add-start : goal.overflow_add-start
overflow_add-start c =
    let l = c.args.list.now in
    let left : ℕ = number_at l 0 5 - c.loop.counter in
    let more : 0 < left = omega (arith, c.take-count.ensures.value) in
    omega (arith, entry_head l c.loop.at left more c.loop.invariant.entries c.loop.invariant.within)

pub overflow_add-end : goal.overflow_add-end
overflow_add-end c =
    let l = c.args.list.now in
    let left : ℕ = number_at l 0 5 - c.loop.counter in
    let more : 0 < left = omega (arith, c.take-count.ensures.value) in
    let head = c.head_of-head.result in
    let first = subst (λ (x : List ℕ). First x head) (rest_part l c.loop.at) c.head_of-head.ensures in
    omega (arith, entry-size l c.loop.at left more c.loop.invariant.entries head first c.loop.invariant.within)

pub slice_bounds-put_command-end : goal.slice_bounds-put_command-end
slice_bounds-put_command-end c =
    let l = c.args.list.now in
    let left : ℕ = number_at l 0 5 - c.loop.counter in
    let more : 0 < left = omega (arith, c.take-count.ensures.value) in
    let head = c.head_of-head.result in
    let first = subst (λ (x : List ℕ). First x head) (rest_part l c.loop.at) c.head_of-head.ensures in
    omega (arith, entry-size l c.loop.at left more c.loop.invariant.entries head first c.loop.invariant.within)

pub returns-in_err-put : goal.returns-in_err-put
returns-in_err-put c =
    let x = c.args in
    let l = x.list.now in
    let left : ℕ = number_at l 0 5 - c.loop.counter in
    let more : 0 < left = omega (arith, c.take-count.ensures.value) in
    let head = c.head_of-head.result in
    let first = subst (λ (x : List ℕ). First x head) (rest_part l c.loop.at) c.head_of-head.ensures in
    rw c.from_residual.ensures
    (lines_full l c.loop.at left more c.loop.invariant.entries head first (entry_lines (number_at l 0 5) (drop 1 l)) x.out.now x.used c.loop.out
    c.loop.put c.loop.invariant.left c.in_err-put.ensures)

pub loop-preserved : goal.loop-preserved
loop-preserved c =
    let x = c.args in
    let l = x.list.now in
    let left : ℕ = number_at l 0 5 - c.loop.counter in
    let more : 0 < left = omega (arith, c.take-count.ensures.value) in
    let fewer : number_at l 0 5 - (c.loop.counter + 1) ≡ left - 1 = omega arith in
    let head = c.head_of-head.result in
    let first = subst (λ (x : List ℕ). First x head) (rest_part l c.loop.at) c.head_of-head.ensures in
    record {
      within = entry-size l c.loop.at left more c.loop.invariant.entries head first c.loop.invariant.within;
      entries = rw fewer (entries_next l c.loop.at left more c.loop.invariant.entries head first);
      room = omega (arith, c.in_ok-put.ensures);
      left =
          rw fewer
          (lines_next l c.loop.at left more c.loop.invariant.entries head first (entry_lines (number_at l 0 5) (drop 1 l)) x.out.now x.used
          c.loop.out c.loop.put c.loop.invariant.left _ _ c.in_ok-put.ensures);
    }

pub returns : goal.returns
returns c =
    let x = c.args in
    let l = x.list.now in
    lines_end (number_at l 0 5 - c.loop.counter) (drop c.loop.at l) (entry_lines (number_at l 0 5) (drop 1 l)) x.out.now x.used c.loop.out c.loop.put
    c.loop.invariant.room (omega (arith, c.take-count.ensures.value)) c.loop.invariant.left
