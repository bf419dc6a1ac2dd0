-- `rule_lines::note` meets its contract.
use Prim.Native.Nat.{ℕ}
use mathlib.Core.Path.{◌≡◌, refl, sym, ◌∙◌}
use mathlib.Core.Bool.{true, false}
use native.Mathlib.Omega.{arith}
use borrow.Author.Tests.{ne_eqb}
use Rattle.std.specs.Prelude as std
use Rattle.std.specs.Prelude.{Option, None, Some}
use Rattle.lists.specs.Lists.{is_some}
use Rattle.rules.specs.Key.{key_number}
use Rattle.keys.specs.Table.{key_of}
use Rattle.rule_lines.proofs.note.Goals as goal

as-some : (o : Option ℕ) → is_some o ≡ std.is_some o
as-some None = refl
as-some (Some k) = refl

pub returns-in-17 : goal.returns-in-17
returns-in-17 c =
    let a = c.args in
    let k : key_number (key_of a.key) ≡ 17 = sym c.key_number.ensures ∙ c.in-17.is in
    let some : is_some a.fill.label ≡ true = as-some a.fill.label ∙ sym (c.if-is_some.ensures) in
    rw (k, some)

pub returns-in-17-2 : goal.returns-in-17-2
returns-in-17-2 c =
    let a = c.args in
    let k : key_number (key_of a.key) ≡ 17 = sym c.key_number.ensures ∙ c.in-17.is in
    let none : is_some a.fill.label ≡ false = as-some a.fill.label ∙ sym (c.if-is_some.ensures) in
    rw (k, none)

pub returns-in-18 : goal.returns-in-18
returns-in-18 c =
    let a = c.args in
    let k : key_number (key_of a.key) ≡ 18 = sym c.key_number.ensures ∙ c.in-18.is in
    let some : is_some a.fill.goto ≡ true = as-some a.fill.goto ∙ sym (c.if-is_some-2.ensures) in
    rw (k, some)

pub returns-in-18-2 : goal.returns-in-18-2
returns-in-18-2 c =
    let a = c.args in
    let k : key_number (key_of a.key) ≡ 18 = sym c.key_number.ensures ∙ c.in-18.is in
    let none : is_some a.fill.goto ≡ false = as-some a.fill.goto ∙ sym (c.if-is_some-2.ensures) in
    rw (k, none)

pub returns-in_default : goal.returns-in_default
returns-in_default c =
    let a = c.args in
    rw (ne_eqb (key_number (key_of a.key)) 17 (λ e. omega (arith, c.key_number.ensures)), ne_eqb (key_number (key_of a.key)) 18 (λ e. omega (arith, c.key_number.ensures)))
