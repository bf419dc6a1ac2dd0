-- `bits::BitCursor::put` meets its contract: the field is merged into the number of the bytes that it touches.
use Prim.Native.Nat.{ℕ, ◌+◌, ◌*◌}
use mathlib.Core.List.{◌++◌}
use mathlib.Core.Path.{refl, ap, ◌∙◌}
use native.Mathlib.Omega.{arith}
use lib.ListN.{take, drop}
use Rattle.bits.specs.Bits.{to_bits, bytes_of}
use Rattle.bits.proofs.Windows.{window_merged}
use Rattle.bits.proofs.BitCursor.put.Goals as goal

pub returns : goal.returns
returns c =
    let a = c.args in
    let p = c.span_of-p.result in
    let e = c.span_of-p.ensures in
    let bytes =
    c.set_window.ensures
    ∙ ap (λ (m : ℕ). take p.first a.s.now ++ (bytes_of p.count (to_bits (8 * p.count) m) ++ drop (p.first + p.count) a.s.now)) c.merge.ensures
    ∙ window_merged a.s.now a.self.at a.n p.first p.count p.before p.behind e.start e.end (omega arith) a.v c.window-w.result
    (λ i. (c.slice_known-1.given i).fits) c.window-w.ensures.0
    in
    record { bytes = bytes; next = refl }
