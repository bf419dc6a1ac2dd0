-- `reader::note_lines` meets its contract.
use Prim.Native.Nat.{ℕ}
use mathlib.Core.Bool.{false}
use mathlib.Core.List.{List}
use mathlib.Core.Path.{◌≡◌, refl}
use native.Mathlib.Omega.{arith}
use Rattle.std.specs.Prelude.{Result, Ok, Err, IsOk}
use Rattle.refusals.specs.declared.LineRefusal.{LineRefusal}
use Rattle.reader.specs.declared.Place.{Place}
use Rattle.reader.specs.Read.{EndedIs, AllNoted}
use Rattle.reader.proofs.note_lines.Goals as goal

module _ (x v r t l s : List ℕ) where
  ends : (o : Result Place LineRefusal) → EndedIs x v r t l s false o → IsOk o
  ends (Ok d) e = refl
  ends (Err f) (strict, small, e) = let z : ◌≡◌ {A = ℕ} 0 1 = cc in absurd (omega arith)

  noted : (o : Result Place LineRefusal) (d : Place) → o ≡ Ok d → EndedIs x v r t l s false o → AllNoted x v r t l s d
  noted o d e h = let is : EndedIs x v r t l s false (Ok d) = rw e at h in is.2 refl

pub unwrap-requires : goal.unwrap-requires
unwrap-requires c = ends c.args.text.now c.take_lines.new.values c.take_lines.new.rows c.take_lines.new.rules c.take_lines.new.labels c.take_lines.new.list c.take_lines.result c.take_lines.ensures

pub returns : goal.returns
returns c =
    noted c.args.text.now c.take_lines.new.values c.take_lines.new.rows c.take_lines.new.rules c.take_lines.new.labels c.take_lines.new.list c.take_lines.result _ c.unwrap.ensures c.take_lines.ensures
