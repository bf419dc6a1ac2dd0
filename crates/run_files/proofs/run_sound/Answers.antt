-- `run_files::run_sound` meets its contract.
use Prim.Native.Nat.{ℕ}
use mathlib.Core.Path.{sym, ap, ◌∙◌}
use lib.ListN.{length}
use Rattle.lists.proofs.Lists.{is-some}
use Rattle.device.specs.Device.{chain}
use Rattle.sheet.specs.Sheet.{decode}
use Rattle.set_answers.specs.Answers.{fault_of}
use Rattle.run.proofs.Laws.{record_short, used_few}
use Rattle.std.specs.Prelude.{Ok, Err}
use Rattle.sets.specs.Answer.{refusal}
use Rattle.run_files.specs.Running.{FilesRun}
use Rattle.run_files.proofs.Answers.{loaded, ranked, holds, gives-run, gives-running}
use native.Mathlib.Omega.{arith}
use Rattle.run_files.proofs.run_sound.Goals as goal

pub load-requires : goal.load-requires
load-requires c =
    let pre = c.requires in
    let entry = c.args in
    let shared-slice-known6 = c.type_inv.rec in
    let (d, s, held) = pre.2 in
    omega (arith, record_short entry.dev.now entry.rec.now entry.chain entry.layout d s (λ i. (shared-slice-known6 i).fits) held, pre.4)

pub run_all-requires : goal.run_all-requires
run_all-requires c =
    let pre = c.requires in
    let entry = c.args in
    let load = c.load in
    let (ls, read) = pre.1 in
    let (d, s, held) = pre.2 in
    let start = loaded entry.dev.now entry.rec.now entry.chain entry.layout d s held load.new.t load.ensures (omega (arith, pre.4, load.auto.t)) in
    (ranked entry.set.now entry.starts.now entry.n entry.order.now entry.count pre.0, pre.1, (d, s, start), pre.3)

pub accepted-requires : goal.accepted-requires
accepted-requires c =
    let pre = c.requires in
    let entry = c.args in
    let load = c.load in
    let run-all = c.run_all in
    let left = c.in-Ok in
    let (ls, read) = pre.1 in
    let (d, s, held) = pre.2 in
    let start = loaded entry.dev.now entry.rec.now entry.chain entry.layout d s held load.new.t load.ensures (omega (arith, pre.4, load.auto.t)) in
    let (a, q) = is-some (decode entry.sheet.now) pre.3 in
    let is : FilesRun entry.set.now entry.starts.now entry.order.now entry.count entry.dev.now entry.chain entry.sheet.now load.new.t entry.layout run-all.new.t (Ok left.ended) = left.ensures in
    let (l, _, z, _, _) = is.says ls read a q d s start in
    (is.counted.0, is.counted.1, omega (arith, used_few (length (chain d)) _ left.ended.layout l.state z.held), omega arith)

pub refuse-requires : goal.refuse-requires
refuse-requires c =
    let entry = c.args in
    let load = c.load in
    let run-all = c.run_all in
    let why = c.in-Err in
    let is : FilesRun entry.set.now entry.starts.now entry.order.now entry.count entry.dev.now entry.chain entry.sheet.now load.new.t entry.layout run-all.new.t (Err why.fault) = why.ensures in
    (omega (arith, is.counted.0), omega (arith, is.counted.1))

pub shape_of-t-in-Ok : goal.shape_of-t-in-Ok
shape_of-t-in-Ok c =
    let run-all = c.run_all in
    let load = c.load in
    run-all.ensures.length ∙ load.auto.t

pub returns-in-Ok : goal.returns-in-Ok
returns-in-Ok c =
    let pre = c.requires in
    let entry = c.args in
    let load = c.load in
    let run-all = c.run_all in
    let left = c.in-Ok in
    let accepted = c.accepted in
    let (ls, read) = pre.1 in
    let (d, s, held) = pre.2 in
    let start = loaded entry.dev.now entry.rec.now entry.chain entry.layout d s held load.new.t load.ensures (omega (arith, pre.4, load.auto.t)) in
    let (a, q) = is-some (decode entry.sheet.now) pre.3 in
    let is : FilesRun entry.set.now entry.starts.now entry.order.now entry.count entry.dev.now entry.chain entry.sheet.now load.new.t entry.layout run-all.new.t (Ok left.ended) = left.ensures in
    let (l, e, z, v, w) = is.says ls read a q d s start in
    holds (length entry.t.now) (length (chain d)) run-all.new.t left.ended.layout left.ended.visited left.ended.tried l z.held v w (is.length ∙ load.auto.t) accepted.result accepted.ensures _
    (gives-run entry.set.now entry.starts.now entry.n entry.order.now entry.count pre.0 entry.dev.now entry.rec.now entry.sheet.now (length entry.t.now) pre.4 ls read entry.chain entry.layout d s held a q l e)

pub returns-in-Err : goal.returns-in-Err
returns-in-Err c =
    let pre = c.requires in
    let a = c.args in
    let (ls, read) = pre.1 in
    let (d, s, held) = pre.2 in
    let start = loaded a.dev.now a.rec.now a.chain a.layout d s held c.load.new.t c.load.ensures (omega (arith, pre.4, c.load.auto.t)) in
    let (b, q) = is-some (decode a.sheet.now) pre.3 in
    let is : FilesRun a.set.now a.starts.now a.order.now a.count a.dev.now a.chain a.sheet.now c.load.new.t a.layout c.run_all.new.t (Err c.in-Err.fault) = c.in-Err.ensures in
    c.refuse.ensures
    ∙ ap (λ (i : ℕ). refusal i (fault_of c.in-Err.fault)) (is.length ∙ c.load.auto.t)
    ∙ sym (gives-running a.set.now a.starts.now a.n a.order.now a.count pre.0 a.dev.now a.rec.now a.sheet.now (length a.t.now) pre.4 ls read a.chain a.layout d s held b q _ _ _ (is.says ls read b q d s start))
