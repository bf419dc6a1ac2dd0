-- `strike::give_left` meets its contract.
use Rattle.strike.proofs.Laws.{used_few, listed_few, all-given, cleared_rest}
use Rattle.striking.specs.Striking.{strikes, struck, laid_out}
use Rattle.rules.specs.Reading.{reader}
use Rattle.lists.proofs.Moves.{length_part}
use lib.ListN.{length}
use native.Mathlib.Omega.{arith}
use Rattle.strike.proofs.give_left.Goals as goal

pub accepted-requires : goal.accepted-requires
accepted-requires c =
    let a = c.args in
    (omega arith, omega arith, omega (arith, used_few c.requires.0 a.target.now a.list.now a.left c.requires.2 c.requires.1))

pub lines_in-requires : goal.lines_in-requires
lines_in-requires c =
    let a = c.args in
    let all = c.requires.2 in
    listed_few c.requires.0 a.list.now a.left.listed all.list all.listed c.requires.1

pub returns : goal.returns
returns c =
    λ text room places short h k r p all.
    let a = c.args in
    let g = a.target.now in
    let l = a.list.now in
    all-given text g l a.left all short room places h k r p c.accepted.result c.lines_in.result _ _ c.accepted.ensures c.lines_in.ensures
    (cleared_rest (struck reader text) g a.left.used _ _ all.text all.used c.clear.ensures (length_part g a.left.used (length g) (omega arith)))
    (cleared_rest (laid_out (strikes reader text)) l a.left.listed _ _ all.list all.listed c.clear_numbers.ensures (length_part l a.left.listed (length l) (omega arith)))
