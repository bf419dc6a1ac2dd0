-- `holders::put_name` meets its contract.
use Prim.Native.Nat.{◌+◌, ◌≤◌}
use lib.ListN.{length}
use lib.Seq.{length-take-le}
use mathlib.Core.Path.{sym, ap, ◌∙◌, subst}
use native.Mathlib.Omega.{arith}
use Rattle.contest.specs.Contest.{Listed}
use Rattle.contest.specs.Operation.{enc_listed}
use Rattle.holders.proofs.Names.{naming-row}
use Rattle.splice.specs.Moves.{stored}
use Rattle.holders.proofs.put_name.Goals as goal

pub claimants-holding-requires : goal.claimants-holding-requires
claimants-holding-requires c =
    let pre = c.requires in
    (pre.counted, pre.few, omega arith, pre.some, pre.upto, pre.standing)

pub slice_bounds-list-end : goal.slice_bounds-list-end
slice_bounds-list-end c =
    let claimants = c.claimants-holding in
    let inside : claimants.result.count ≤ length claimants.new.list = omega (arith, claimants.ensures.few, claimants.auto) in
    inside

pub slice_bounds-put_row-end : goal.slice_bounds-put_row-end
slice_bounds-put_row-end c =
    let claimants = c.claimants-holding in
    let inside : claimants.result.count ≤ length claimants.new.list = omega (arith, claimants.ensures.few, claimants.auto) in
    sym (length-take-le claimants.result.count claimants.new.list inside)

pub byte-requires : goal.byte-requires
byte-requires c =
    let claimants = c.claimants-holding in
    omega (arith, claimants.ensures.low)

pub put_row-requires : goal.put_row-requires
put_row-requires c =
    let claimants = c.claimants-holding in
    let entry = c.args in
    let pre = c.requires in
    let byte = c.byte in
    let inside : claimants.result.count ≤ length claimants.new.list = omega (arith, claimants.ensures.few, claimants.auto) in
    let row = naming-row entry.t.now entry.at entry.set.now entry.p entry.n entry.name.now entry.first (pre) claimants.new.list claimants.result claimants.ensures byte.result byte.ensures in
    (subst (λ (e : Listed). entry.at + length (enc_listed e) ≤ length entry.t.now) (sym row) pre.room, pre.short, omega (arith, length-take-le claimants.result.count claimants.new.list inside, claimants.ensures.few))

pub returns : goal.returns
returns c =
    let entry = c.args in
    let pre = c.requires in
    let claimants = c.claimants-holding in
    let byte = c.byte in
    let put-row = c.put_row in
    let row = naming-row entry.t.now entry.at entry.set.now entry.p entry.n entry.name.now entry.first (pre) claimants.new.list claimants.result claimants.ensures byte.result byte.ensures in
    (put-row.ensures.0 ∙ ap (λ (e : Listed). stored entry.t.now entry.at (enc_listed e)) row, put-row.ensures.1 ∙ ap (λ (e : Listed). entry.at + length (enc_listed e)) row)
