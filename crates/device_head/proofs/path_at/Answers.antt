-- `device_head::path_at` meets its contract.
-- Assumes nothing.
use Prim.Native.Nat.{ℕ, ◌+◌, ◌-◌, ◌*◌}
use mathlib.Core.Path.{◌≡◌, ap, ◌∙◌}
use native.Mathlib.Omega.{arith}
use lib.ListN.{take, drop}
use Rattle.lists.proofs.Moves.{ap_at}
use Rattle.device_head.specs.Read.{path_len}
use Rattle.device_head.proofs.Fields.{lens_field}
use Rattle.device_head.proofs.path_at.Goals as goal

pub slice_bounds-result-end : goal.slice_bounds-result-end
slice_bounds-result-end c =
    let a = c.args in
    let e : c.take-path.result.value ≡ path_len a.rec.now a.at = lens_field a.rec.now a.at (8 * a.at) 0 9 c.take-path.result.value (omega arith) (omega arith) (omega arith) c.take-path.ensures.value in
    omega arith

pub returns : goal.returns
returns c =
    let a = c.args in
    let n = c.take-path.result.value in
    let e : n ≡ path_len a.rec.now a.at = lens_field a.rec.now a.at (8 * a.at) 0 9 n (omega arith) (omega arith) (omega arith) c.take-path.ensures.value in
    ap_at (λ i. take i (drop (a.at + 4) a.rec.now)) (a.at + 4 + n - (a.at + 4)) n (omega arith)
    ∙ ap (λ (i : ℕ). take i (drop (a.at + 4) a.rec.now)) e
