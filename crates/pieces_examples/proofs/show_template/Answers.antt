use Prim.Native.Nat.{ℕ}
use mathlib.Core.Path.{◌≡◌}
use mathlib.Core.List.{List}
use native.Mathlib.Omega.{arith}
use Rattle.std.specs.Prelude.{Option, Some, Result, Ok}
use Rattle.pieces.specs.declared.PieceRead.{PieceRead}
use Rattle.pieces.specs.declared.Malformed.{Malformed}
use Rattle.pieces.specs.Read.{told, read_at, Within}
use Rattle.pieces_examples.proofs.show_template.Goals as goal

-- what was read at a place of a template
abbrev ReadAt : Result (Option PieceRead) Malformed → List ℕ → ℕ → Type 0
ReadAt r t i = (told r t ≡ read_at t i) × Within r t i

pub loop-read-smaller : goal.loop-read-smaller
loop-read-smaller c =
    let w : ReadAt (Ok (Some c.in-Ok-Some.read)) c.args.template.now c.loop-read.i = rw c.in-Ok-Some.field-0-is at c.in-Ok-Some.ensures in
    omega (arith, w.1.forward, w.1.inside)

pub loop-read-preserved : goal.loop-read-preserved
loop-read-preserved c =
    let w : ReadAt (Ok (Some c.in-Ok-Some.read)) c.args.template.now c.loop-read.i = rw c.in-Ok-Some.field-0-is at c.in-Ok-Some.ensures in
    w.1.inside
