use Prim.Native.Nat.{ℕ}
use mathlib.Core.List.{List}
use Rattle.std.specs.Prelude.{Option, None, Some, Result, Ok}
use mathlib.Core.Path.{◌≡◌, refl, sym, ap, ◌∙◌}
use native.Mathlib.Omega.{arith}
use Rattle.lists.specs.Lists.{is_some}
use Rattle.pieces.proofs.Pieces.{some-behind, reads_end, reads-fault}
use Rattle.pieces.specs.declared.PieceRead.{PieceRead}
use Rattle.pieces.specs.declared.Malformed.{Malformed}
use Rattle.pieces.specs.Read.{meaning, told, read_at, Within}
use Rattle.template.specs.Template.{well_formed}
use Rattle.pieces.proofs.well_formed.Goals as goal

-- what was read at a place of a template
abbrev ReadAt : Result (Option PieceRead) Malformed → List ℕ → ℕ → Type 0
ReadAt r t i = (told r t ≡ read_at t i) × Within r t i

pub loop-read-init : goal.loop-read-init
unfolding well_formed
loop-read-init c = (omega arith, refl)

pub loop-read-smaller : goal.loop-read-smaller
loop-read-smaller c =
    let t = c.args.template.now in
    let w : ReadAt (Ok (Some c.in-Ok-Some.read)) t c.written_end.result = rw c.in-Ok-Some.field-0-is at c.in-Ok-Some.ensures in
    omega (arith, w.1.forward, w.1.inside, c.written_end.ensures.from)

pub loop-read-preserved : goal.loop-read-preserved
loop-read-preserved c =
    let t = c.args.template.now in
    let r = c.in-Ok-Some.read in
    let w : ReadAt (Ok (Some r)) t c.written_end.result = rw c.in-Ok-Some.field-0-is at c.in-Ok-Some.ensures in
    (w.1.inside, some-behind t c.written_end.result (meaning r.piece t) r.next (sym w.0) ∙ c.written_end.ensures.same ∙ c.loop-read.invariant.1)

pub returns-in-Ok-None : goal.returns-in-Ok-None
returns-in-Ok-None c =
    let t = c.args.template.now in
    let w : ReadAt (Ok None) t c.written_end.result = rw c.in-Ok-None.field-0-is at c.in-Ok-None.ensures in
    sym (ap is_some (reads_end t c.written_end.result (sym w.0))) ∙ c.written_end.ensures.same ∙ c.loop-read.invariant.1

pub returns-in-Err : goal.returns-in-Err
returns-in-Err c =
    sym (ap is_some (reads-fault c.args.template.now c.written_end.result (sym c.in-Err.ensures.0))) ∙ c.written_end.ensures.same ∙ c.loop-read.invariant.1
