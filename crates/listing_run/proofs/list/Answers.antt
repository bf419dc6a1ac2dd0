-- `listing_run::list` meets its contract.
use Prim.Native.Nat.{ℕ}
use mathlib.Core.List.{List}
use lib.Seq.{length-take-le}
use mathlib.Core.Path.{sym, ap}
use Rattle.engine.specs.Listing.{listing_from, listing}
use Rattle.listing_run.proofs.Laws.{fresh_record, fresh-within}
use Rattle.listing_lines.proofs.Laws.{appended_as}
use native.Mathlib.Omega.{arith}
use Rattle.listing_run.proofs.list.Goals as goal

pub slice_bounds-outcome-end : goal.slice_bounds-outcome-end
slice_bounds-outcome-end c =
    let a = c.args in
    let fresh = c.fresh-made in
    omega (arith, fresh-within a.device.now fresh.result fresh.new.target fresh.ensures, fresh.auto.target)

pub slice_bounds-list_from-end : goal.slice_bounds-list_from-end
slice_bounds-list_from-end c =
    let a = c.args in
    let fresh = c.fresh-made in
    sym (length-take-le fresh.result.used fresh.new.target
    (omega (arith, fresh-within a.device.now fresh.result fresh.new.target fresh.ensures, fresh.auto.target)))

pub returns : goal.returns
unfolding listing
returns c =
    let a = c.args in
    let fresh = c.fresh-made in
    let list-from = c.list_from in
    appended_as _ _ a.out.now 0 list-from.result list-from.new.out
    (ap (λ (x : List ℕ). listing_from a.text.now a.device.now x a.sheet.now) (fresh_record a.device.now fresh.result fresh.new.target fresh.ensures))
    list-from.ensures
