-- `lines::copy_line` meets its contract.
use mathlib.Core.Logic.{inl, inr}
use mathlib.Core.Path.{refl, ◌∙◌}
use mathlib.Core.Bool.{true, false}
use Rattle.std.specs.Prelude.{None, Some}
use Rattle.lists.specs.Bytes.{part}
use Rattle.lines.specs.Ends.{Reaches, UnjoinedIs}
use Rattle.lines.proofs.Held.{end-within, found_copied}
use Rattle.lines.proofs.copy_line.Goals as goal

pub unjoin-requires : goal.unjoin-requires
unjoin-requires c =
    let a = c.args in
    let (from, within) = end-within a.text.now a.at c.in-Ok.extent.end c.requires.0 c.in-Ok.ensures.0 in
    (from, within, c.requires.1)

pub returns-in-Err : goal.returns-in-Err
returns-in-Err c = inl (refl, c.in-Err.ensures)

pub returns-in-None : goal.returns-in-None
returns-in-None c = inr (refl, c.in-Ok.ensures, c.in-None.ensures)

pub returns-in-Some : goal.returns-in-Some
returns-in-Some c =
    let a = c.args in
    found_copied a.text.now c.unjoin.new.line a.at c.in-Ok.extent c.in-Ok.ensures c.in-Some.size (c.unjoin.auto.line ∙ c.requires.1) c.in-Some.ensures
