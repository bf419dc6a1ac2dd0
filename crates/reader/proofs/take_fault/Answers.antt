-- `reader::take_fault` meets its contract.
use mathlib.Core.Path.{ap, ◌∙◌}
use Prim.Native.Nat.{ℕ, ◌+◌}
use Rattle.reader.specs.declared.Place.{Place}
use Rattle.reader.proofs.take_fault.Goals as goal

pub put_note-used-requires : goal.put_note-used-requires
put_note-used-requires c = (c.requires.3 c.if-strict.false, c.requires.1, c.fault_number.ensures.1)

pub returns : goal.returns
returns c =
    let a = c.args in
    let put = c.put_note-used.ensures in (
      c.if-strict.false,
      ap (λ (p : Place). record { at = p.at; number = p.number; counts = p.counts; used = c.put_note-used.result }) c.behind.ensures
          ∙ ap (λ (u : ℕ). record { at = a.fault.extent.end + 1; number = a.place.number + a.fault.extent.newlines + 1; counts = a.place.counts; used = u }) put.0,
      rw c.fault_number.ensures.0 at put.1,
    )
