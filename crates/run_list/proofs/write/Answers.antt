-- `run_list::write` meets its contract.
use mathlib.Core.Path.{refl, sym, ◌∙◌}
use Prim.Native.Nat.{ℕ}
use native.Mathlib.Omega.{arith}
use Rattle.run_list.proofs.Rows.{both_header, runs-row_of, runs_few, both_beside, both_runs}
use Rattle.run_list.proofs.Entries.{commands-count, list_written}
use Rattle.run_list.proofs.Heads.{lent_part}
use Rattle.engine.specs.Operations.{commands}
use Rattle.run_list.proofs.write.Goals as goal

pub count_of-runs-requires : goal.count_of-runs-requires
count_of-runs-requires c =
    let entry = c.args in
    let pre-call = c.requires in
    let args = entry in
    let pre = pre-call in
    both_header args.dev.now args.rec.now args.chain args.layout pre.1.0 pre.1.1
    (λ i. (c.type_inv.rec i).fits) pre.1.2

pub count_of-count-requires : goal.count_of-count-requires
count_of-count-requires c =
    let entry = c.args in
    let pre-call = c.requires in
    let args = entry in
    let pre = pre-call in
    both_header args.dev.now args.rec.now args.chain args.layout pre.1.0 pre.1.1
    (λ i. (c.type_inv.rec i).fits) pre.1.2

pub put_runs-requires : goal.put_runs-requires
put_runs-requires c =
    let entry = c.args in
    let pre-call = c.requires in
    let shared-slice-known2-call = c.type_inv.rec in
    let count-of-call = c.count_of-runs in
    let args = entry in
    let pre = pre-call in
    let shared-slice-known2 = shared-slice-known2-call in
    let count_of = count-of-call in
    let count-of2 = c.count_of-count in (
      omega (
        arith,
        runs_few args.dev.now args.rec.now args.chain args.layout pre.1.0 pre.1.1
            (λ i. (shared-slice-known2 i).fits) pre.1.2,
        (runs-row_of args.dev.now args.rec.now args.chain args.layout pre.1.0 pre.1.1
            (λ i. (shared-slice-known2 i).fits) pre.1.2 count_of.result count_of.ensures.0).counted,
      ),
      (
        pre.1.0,
        pre.1.1.properties,
        pre.1.1.output,
        pre.1.1.runs,
        both_beside args.dev.now args.rec.now args.chain args.layout pre.1.0 pre.1.1
            (λ i. (shared-slice-known2 i).fits) pre.1.2 count-of2.result count-of2.ensures.0,
        both_runs args.dev.now args.rec.now args.chain args.layout pre.1.0 pre.1.1
            (λ i. (shared-slice-known2 i).fits) pre.1.2 count_of.result count_of.ensures.0,
      ),
    )

pub returns : goal.returns
returns c =
    let a = c.args in
    let bytes = λ (i : ℕ). (c.type_inv.rec i).fits in
    let runs = c.count_of-runs in
    let t = c.put_runs.new.t in
    let head = c.write_count.new.head in
    λ d s w.
    list_written (commands d s.properties s.output s.runs) a.t.now t head
    (lent_part t 0 1 head) runs.result c.in_ok-k.k (omega (arith, c.requires.0))
    (λ cs e.
    commands-count d s.properties s.output s.runs cs e ∙ sym
    (runs-row_of a.dev.now a.rec.now a.chain a.layout d s bytes w runs.result runs.ensures.0).counted)
    (c.in_ok-k.ensures d s.properties s.output s.runs
    (both_beside a.dev.now a.rec.now a.chain a.layout d s bytes w c.count_of-count.result c.count_of-count.ensures.0)
    (both_runs a.dev.now a.rec.now a.chain a.layout d s bytes w c.count_of-runs.result c.count_of-runs.ensures.0))
    (omega arith) c.write_count.ensures refl

pub returns-in_err-k : goal.returns-in_err-k
returns-in_err-k c =
    let a = c.args in
    let bytes = λ (i : ℕ). (c.type_inv.rec i).fits in
    rw c.from_residual.ensures
    (λ d s w.
    c.in_err-k.ensures d s.properties s.output s.runs
    (both_beside a.dev.now a.rec.now a.chain a.layout d s bytes w c.count_of-count.result c.count_of-count.ensures.0)
    (both_runs a.dev.now a.rec.now a.chain a.layout d s bytes w c.count_of-runs.result c.count_of-runs.ensures.0))
