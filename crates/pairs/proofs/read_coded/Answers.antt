-- `pairs::read_coded` meets its contract.
use Prim.Native.Nat.{ℕ, ◌+◌}
use mathlib.Core.Path.{sym, ◌∙◌}
use mathlib.Core.List.{List}
use borrow.Author.Tests.{le-leb, lt-leb}
use lib.ListN.{drop}
use Rattle.lists.specs.Bytes.{part}
use Rattle.lists.specs.Runs.{Part}
use Rattle.escapes.specs.Values.{decoded}
use Rattle.pairs.proofs.Reading.{coded-faulty, coded-closed}
use Rattle.pairs.proofs.read_coded.Goals as goal

pub returns-in_default : goal.returns-in_default
returns-in_default c = (sym (coded-faulty (drop c.args.start c.args.line.now) c.in_default.ensures), tt)

pub returns-then-len-gt256 : goal.returns-then-len-gt256
returns-then-len-gt256 c =
    let s = c.args.line.now in
    let start = c.args.start in
    let k = c.in-Some.closed in
    let closed = c.in-Some.ensures in
    let p : Part (List ℕ) = record { value = decoded (part s start k.end); rest = drop (k.end + 1) s } in
    (sym (coded-closed (drop start s) p closed.0.closed ∙ rw (← closed.1, lt-leb k.len 256 c.if-len-gt256.true)), tt)

pub returns : goal.returns
returns c =
    let s = c.args.line.now in
    let start = c.args.start in
    let k = c.in-Some.closed in
    let closed = c.in-Some.ensures in
    let p : Part (List ℕ) = record { value = decoded (part s start k.end); rest = drop (k.end + 1) s } in (
      sym (coded-closed (drop start s) p closed.0.closed ∙ rw (← closed.1, le-leb k.len 256 c.if-len-gt256.false)),
      record { written = record { from = closed.0.from; within = closed.0.within; closed = closed.0.closed }; size = closed.1; short = c.if-len-gt256.false },
    )
