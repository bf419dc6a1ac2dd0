-- `programs::store` meets its contract.
use mathlib.Core.Path.{◌≡◌, sym, subst}
use mathlib.Core.Bool.{true}
use mathlib.Core.List.{List}
use Prim.Native.Nat.{ℕ}
use lib.Seq.{length-take-le}
use Rattle.outcome.specs.Content.{ok_output}
use Rattle.programs.proofs.Programs.{chomp-sound, store_none, store_some}
use Rattle.programs.proofs.store.Goals as goal

pub returns-then-not-success : goal.returns-then-not-success
returns-then-not-success c =
    let a = c.args in
    store_none a.success a.output.now a.t.now a.layout c.if-not-success.true-raw

pub slice_bounds-set_output-end : goal.slice_bounds-set_output-end
slice_bounds-set_output-end c =
    let a = c.args in
    let len = c.chomped_len-len in
    sym (length-take-le len.result a.output.now len.ensures.0)

pub set_output-requires : goal.set_output-requires
set_output-requires c =
    let entry = c in
    let len = c.chomped_len-len in
    (entry.requires.0, subst (λ (x : List ℕ). ok_output x ≡ true) (sym len.ensures.1) (chomp-sound entry.args.output.now entry.requires.1))

pub returns : goal.returns
returns c =
    let a = c.args in
    let len = c.chomped_len-len in
    let set = c.set_output in
    store_some a.success a.output.now a.t.now a.layout c.if-not-success.false-raw _ set.result _ len.ensures.1 set.ensures
