-- `outcome_lists::add_run` meets its contract.
use mathlib.Core.List.{[], ◌∷◌, ◌++◌}
use lib.ListN.{length}
use Prim.Native.Nat.{◌<◌}
use Rattle.row_edits.proofs.Rows.{run-size}
use Rattle.outcome_target.proofs.Rows.{runs-row, row_count}
use Rattle.bits.specs.Fields.{bit}
use Rattle.outcome_lists.specs.Lists.{run_of}
use Rattle.outcome_lists.proofs.Runs.{append_last, append_full, run_room, run_grown}
use native.Mathlib.Omega.{arith}
use Rattle.outcome_lists.proofs.add_run.Goals as goal

pub append_run-requires : goal.append_run-requires
append_run-requires c =
    let entry = c in
    let x = entry.args in
    let a = x in
    let k = c.count_of-n in
    let h = run_room entry.requires.0 a.t.now a.layout entry.requires.1 entry.requires.2 a.builtin a.place a.template.now entry.requires.3 (omega (arith, k.ensures.0, row_count runs-row entry.requires.0 a.t.now a.layout entry.requires.1 entry.requires.2)) in
    let z = run-size (bit a.builtin) a.place a.template.now in (h.rising, omega (arith, z, h.fits), omega arith, omega (arith, z, h.most))

pub returns-then-n-lt16 : goal.returns-then-n-lt16
returns-then-n-lt16 c =
    let given = c.args in
    let x = given in
    let a = x in
    let k = c.count_of-n in λ n s w o. let i : length
    s.runs < 16 = omega (
      arith,
      k.ensures.0,
      row_count runs-row n a.t.now
          a.layout s w,
    ) in (
      s.runs ++ (run_of a.builtin a.place a.template.now ∷ []),
      append_last 16 (run_of a.builtin a.place a.template.now)
          s.runs i,
      run_grown n a.t.now a.layout s w a.builtin a.place a.template.now o k.result c.bit_of.result
          k.ensures.0 i c.bit_of.ensures c.append_run.new.t c.append_run.result
          c.append_run.auto.t c.append_run.ensures,
    )

pub returns-else-n-lt16 : goal.returns-else-n-lt16
returns-else-n-lt16 c =
    let a = c.args in
    let k = c.count_of-n in λ n s w o. append_full 16 (run_of a.builtin a.place a.template.now) s.runs (omega (arith, k.ensures.0, row_count runs-row n a.t.now a.layout s w))
