-- `pairs::read_argument` meets its contract.
use mathlib.Core.Path.{◌≡◌, sym, ◌∙◌}
use native.Mathlib.Omega.{arith}
use lib.ListN.{get_or}
use Rattle.keys.specs.Table.{takes_of}
use Rattle.lists.proofs.Rest.{byte_in}
use Rattle.pairs.proofs.Reading.{brace, no_brace}
use Rattle.pairs.proofs.read_argument.Goals as goal

pub in_braces-requires : goal.in_braces-requires
in_braces-requires c = byte_in c.args.line.now c.args.at 123 (sym c.byte_at-b.ensures ∙ c.if-b-eq123.true) (omega arith)

pub returns-then-b-eq123 : goal.returns-then-b-eq123
returns-then-b-eq123 c =
    let x = c.args in
    (c.in_braces.ensures.0 ∙ sym (brace x.line.now x.at (takes_of x.takes) (sym c.byte_at-b.ensures ∙ c.if-b-eq123.true)), c.in_braces.ensures.1)

pub returns-in-Nothing : goal.returns-in-Nothing
returns-in-Nothing c =
    let x = c.args in
    let s = x.line.now in let n : (get_or s x.at 0 ≡ 123) → ⊥ = rw (← c.byte_at-b.ensures) c.if-b-eq123.false in (sym (no_brace s x.at (takes_of x.takes) n ∙ rw c.in-Nothing.is), (omega arith, omega arith, λ h. h, λ h. absurd (omega arith)))

pub returns-in-One : goal.returns-in-One
returns-in-One c =
    let x = c.args in
    let s = x.line.now in let n : (get_or s x.at 0 ≡ 123) → ⊥ = rw (← c.byte_at-b.ensures) c.if-b-eq123.false in (sym (no_brace s x.at (takes_of x.takes) n ∙ rw c.in-One.is), tt)

pub returns-in-RunType : goal.returns-in-RunType
returns-in-RunType c =
    let x = c.args in
    let s = x.line.now in let n : (get_or s x.at 0 ≡ 123) → ⊥ = rw (← c.byte_at-b.ensures) c.if-b-eq123.false in (sym (no_brace s x.at (takes_of x.takes) n ∙ rw c.in-RunType.is), (omega arith, omega arith, λ h. h, λ h. absurd (omega arith)))
