use Prim.Native.Nat.{ℕ, ◌+◌, ◌-◌, ◌<◌}
use mathlib.Core.List.{List}
use mathlib.Core.Path.{◌≡◌, refl, sym, ap, ◌∙◌, subst}
use native.Mathlib.Omega.{arith}
use Rattle.run_list.proofs.Rows.{runs_none, runs-from, runs_here, here_source, here_leads, here_full}
use Rattle.run_list.proofs.Entries.{source_of, commands-none}
use Rattle.run_list.specs.Lists.{Listed}
use Rattle.std.specs.Prelude.{None, Some}
use Rattle.engine.specs.Operations.{commands}
use Rattle.device_lookup.proofs.Devices.{chain_few}
use Rattle.outcome.specs.State.{Run}
use Rattle.template.specs.Template.{well_formed}
use Rattle.run_list.proofs.put_runs.Goals as goal

pub loop-init : goal.loop-init
loop-init c =
    let all : c.args.n - 0 ≡ c.args.n = omega arith in
    (omega (arith, c.requires.0), refl, λ d ps y rs b r. record { others = rs; stand = rw all r; leads = λ q m z. z })

pub run_at-run-requires : goal.run_at-run-requires
run_at-run-requires c =
    let a = c.args in
    let l = c.loop in
    let left : ℕ = a.n - l.counter in
    let more : 0 < left = omega arith in
    let (d, ps, y, rs, b, r) = c.requires.1 in
    let x = l.invariant.2 d ps y rs b r in
    runs-from a.rec.now l.p left d x.others x.stand more

pub places_of-from-requires : goal.places_of-from-requires
places_of-from-requires c =
    let a = c.args in
    let bytes = λ (i : ℕ). (c.type_inv.rec i).fits in
    let l = c.loop in
    let left : ℕ = a.n - l.counter in
    let more : 0 < left = omega arith in
    let run = c.run_at-run in
    let (d, ps, y, rs, b, r) = c.requires.1 in
    let x = l.invariant.2 d ps y rs b r in
    let h = runs_here a.rec.now l.p left d x.others run.result bytes x.stand more run.ensures in
    omega (arith, h.few, h.is.device, chain_few a.dev.now d b.device)

pub slice_bounds-put_command-count : goal.slice_bounds-put_command-count
slice_bounds-put_command-count c =
    let a = c.args in
    let bytes = λ (i : ℕ). (c.type_inv.rec i).fits in
    let l = c.loop in
    let left : ℕ = a.n - l.counter in
    let more : 0 < left = omega arith in
    let run = c.run_at-run in
    let (d, ps, y, rs, b, r) = c.requires.1 in
    let x = l.invariant.2 d ps y rs b r in
    let h = runs_here a.rec.now l.p left d x.others run.result bytes x.stand more run.ensures in
    omega (arith, h.is.rising)

pub slice_bounds-put_command-start : goal.slice_bounds-put_command-start
slice_bounds-put_command-start c =
    let a = c.args in
    let bytes = λ (i : ℕ). (c.type_inv.rec i).fits in
    let l = c.loop in
    let left : ℕ = a.n - l.counter in
    let more : 0 < left = omega arith in
    let run = c.run_at-run in
    let (d, ps, y, rs, b, r) = c.requires.1 in
    let x = l.invariant.2 d ps y rs b r in
    let h = runs_here a.rec.now l.p left d x.others run.result bytes x.stand more run.ensures in
    omega (arith, h.is.rising)

pub slice_bounds-put_command-end : goal.slice_bounds-put_command-end
slice_bounds-put_command-end c =
    let a = c.args in
    let bytes = λ (i : ℕ). (c.type_inv.rec i).fits in
    let l = c.loop in
    let left : ℕ = a.n - l.counter in
    let more : 0 < left = omega arith in
    let run = c.run_at-run in
    let (d, ps, y, rs, b, r) = c.requires.1 in
    let x = l.invariant.2 d ps y rs b r in
    let h = runs_here a.rec.now l.p left d x.others run.result bytes x.stand more run.ensures in
    omega (arith, h.is.inside)

pub put_command-requires : goal.put_command-requires
put_command-requires c =
    let a = c.args in
    let bytes = λ (i : ℕ). (c.type_inv.rec i).fits in
    let l = c.loop in
    let left : ℕ = a.n - l.counter in
    let more : 0 < left = omega arith in
    let run = c.run_at-run in
    let (d, ps, y, rs, b, r) = c.requires.1 in
    let x = l.invariant.2 d ps y rs b r in
    let h = runs_here a.rec.now l.p left d x.others run.result bytes x.stand more run.ensures in (
      omega (arith, l.invariant.0),
      ap well_formed h.is.template ∙ h.sound,
      (source_of d ps y h.run h.others, (here_source a.dev.now a.rec.now a.chain a.properties a.count left d ps y x.others run.result (λ i. (c.type_inv.dev i).fits) b h c.places_of-from.result c.places_of-from.ensures)),
    )

pub returns-in_err-at : goal.returns-in_err-at
returns-in_err-at c =
    let a = c.args in
    let bytes = λ (i : ℕ). (c.type_inv.rec i).fits in
    let l = c.loop in
    let left : ℕ = a.n - l.counter in
    let more : 0 < left = omega arith in
    let run = c.run_at-run in
    rw c.from_residual.ensures
    (λ d ps y rs b r.
    let x = l.invariant.2 d ps y rs b r in
    let h = runs_here a.rec.now l.p left d x.others run.result bytes x.stand more run.ensures in
    x.leads None l.t (here_full a.rec.now left d ps y x.others run.result h (c.in_err-at.ensures.1 (source_of d ps y h.run h.others) (here_source a.dev.now a.rec.now a.chain a.properties a.count left d ps y x.others run.result (λ i. (c.type_inv.dev i).fits) b h c.places_of-from.result c.places_of-from.ensures))))

pub loop-preserved : goal.loop-preserved
loop-preserved c =
    let a = c.args in
    let bytes = λ (i : ℕ). (c.type_inv.rec i).fits in
    let l = c.loop in
    let left : ℕ = a.n - l.counter in
    let more : 0 < left = omega arith in
    let run = c.run_at-run in
    let fewer : a.n - (l.counter + 1) ≡ left - 1 = omega arith in
    let at = c.in_ok-at in (
      omega (arith, l.invariant.0, at.ensures.0),
      omega arith,
      rw fewer
          (λ d ps y rs b r.
          let x = l.invariant.2 d ps y rs b r in
          let h = runs_here a.rec.now l.p left d x.others run.result bytes x.stand more run.ensures in
          let m = at.ensures.1 (source_of d ps y h.run h.others) (here_source a.dev.now a.rec.now a.chain a.properties a.count left d ps y x.others run.result (λ i. (c.type_inv.dev i).fits) b h c.places_of-from.result c.places_of-from.ensures) in
          record
          { others = h.others; stand = h.next; leads = λ q k z. x.leads q k (here_leads a.rec.now left d ps y x.others run.result h l.t c.put_command.new.t l.at at.at m q k z) }),
    )

pub returns : goal.returns
returns c =
    let a = c.args in
    let l = c.loop in
    λ d ps y rs b r.
    let x = l.invariant.2 d ps y rs b r in
    x.leads (Some l.at) l.t
    (subst (λ (z : List Run). Listed (commands d ps y z) l.t l.at (Some l.at) l.t)
    (sym (runs_none a.rec.now l.p (a.n - l.counter) d x.others x.stand (omega arith)))
    (commands-none d ps y l.t l.at (omega (arith, l.invariant.0))))
