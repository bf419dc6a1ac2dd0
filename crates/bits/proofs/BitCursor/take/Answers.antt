-- `bits::BitCursor::take` meets its contract: the field is cut out of the number of the bytes that it touches.
use Prim.Native.Nat.{ℕ, ◌/◌, ◌%◌, ◌^◌}
use mathlib.Core.Path.{◌≡◌, refl, sym, ap, ◌∙◌}
use native.Mathlib.Omega.{arith}
use Rattle.bits.specs.Bits.{number_at}
use Rattle.bits.proofs.Windows.{window_cut}
use Rattle.bits.proofs.Numbers.{number_lt}
use Rattle.bits.proofs.BitCursor.take.Goals as goal

pub returns : goal.returns
returns c =
    let a = c.args in
    let p = c.span_of-p.result in
    let e = c.span_of-p.ensures in
    let value : c.cut.result ≡ number_at a.s.now a.self.at a.n =
    c.cut.ensures
    ∙ ap (λ (w : ℕ). w / 2 ^ p.behind % 2 ^ a.n) c.window-w.ensures.0
    ∙ sym (window_cut a.s.now a.self.at a.n p.first p.count p.before p.behind e.start e.end (omega arith))
    in
    record { value = value; next = refl; below = rw value (number_lt a.s.now a.self.at a.n) }
