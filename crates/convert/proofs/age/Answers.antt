-- `convert::age` meets its contract.
use mathlib.Core.Path.{sym, ap, ◌∙◌}
use native.Mathlib.Omega.{arith}
use lib.ListN.{length}
use Rattle.lists.specs.Bytes.{Bytes}
use Rattle.answers.specs.Answers.{answered}
use Rattle.outcome.specs.Old.{aged}
use Rattle.convert.proofs.Laws.{header_in, output_set, watch_set, first_byte, aged-size, aged-given}
use Rattle.convert.proofs.age.Goals as goal

pub field-requires : goal.field-requires
field-requires c =
    let a = c.args in
    let sound = c.requires.2 in
    (omega arith, omega arith, header_in sound.0 a.rec.now sound.1 (λ i. (c.type_inv.rec i).fits) sound.2)

pub returns-then-field-ne0 : goal.returns-then-field-ne0
returns-then-field-ne0 c =
    let a = c.args in
    let bytes = c.type_inv.rec in
    let field = c.field in
    let m = length a.t.now in
    λ n s e. ap (answered c.refused.result) c.requires.1 ∙ c.refused.ensures m ∙ output_set n a.rec.now s (λ i. (bytes i).fits) e m (λ z. c.if-field-ne0.true (field.ensures.0 ∙ z))

pub field-requires-2 : goal.field-requires-2
field-requires-2 c =
    let a = c.args in
    let sound = c.requires.2 in
    let bytes = c.type_inv.rec in
    (omega arith, omega arith, header_in sound.0 a.rec.now sound.1 (λ i. (bytes i).fits) sound.2)

pub returns-then-field-ne0-2 : goal.returns-then-field-ne0-2
returns-then-field-ne0-2 c =
    let a = c.args in
    let bytes = c.type_inv.rec in
    let field = c.field in
    let field2 = c.field-2 in
    let m = length a.t.now in
    let no_output = sym field.ensures.0 ∙ c.if-field-ne0.false in
    λ n s e. ap (answered c.refused-then-field-ne0-2.result) c.requires.1 ∙ c.refused-then-field-ne0-2.ensures m ∙ watch_set n a.rec.now s (λ i. (bytes i).fits) e m no_output (λ z. c.if-field-ne0-2.true (field2.ensures.0 ∙ z))

pub write_older-requires : goal.write_older-requires
write_older-requires c =
    let a = c.args in
    let sound = c.requires.2 in
    let known = c.type_inv.rec in
    let bytes : Bytes a.rec.now = λ i. (known i).fits in
    let no_output = sym c.field.ensures.0 ∙ c.if-field-ne0.false in
    let no-watch = sym c.field-2.ensures.0 ∙ c.if-field-ne0-2.false in
    let head = header_in sound.0 a.rec.now sound.1 bytes sound.2 in
    let size = aged-size sound.0 a.rec.now sound.1 bytes sound.2 no_output no-watch in
    (head, omega (arith, head, size.1, c.requires.0), first_byte sound.0 a.rec.now sound.1 bytes sound.2 no_output no-watch, c.requires.1)

pub overflow_sub-rec : goal.overflow_sub-rec
overflow_sub-rec c =
    let sound = c.requires.2 in
    let known = c.type_inv.rec in
    omega (arith, header_in sound.0 c.args.rec.now sound.1 (λ i. (known i).fits) sound.2)

pub accepted-requires : goal.accepted-requires
accepted-requires c =
    let sound = c.requires.2 in
    let known = c.type_inv.rec in
    let no_output = sym c.field.ensures.0 ∙ c.if-field-ne0.false in
    let no-watch = sym c.field-2.ensures.0 ∙ c.if-field-ne0-2.false in
    let size = aged-size sound.0 c.args.rec.now sound.1 (λ i. (known i).fits) sound.2 no_output no-watch in
    (omega arith, omega arith, omega (arith, size.1))

pub returns : goal.returns
returns c =
    let a = c.args in
    let known = c.type_inv.rec in
    let bytes : Bytes a.rec.now = λ i. (known i).fits in
    let no_output = sym c.field.ensures.0 ∙ c.if-field-ne0.false in
    let no-watch = sym c.field-2.ensures.0 ∙ c.if-field-ne0-2.false in
    let m = length a.t.now in
    λ n s e.
    ap (answered c.accepted.result) c.write_older.ensures
    ∙ c.accepted.ensures m (aged a.rec.now) (aged-size n a.rec.now s bytes e no_output no-watch).0
    ∙ aged-given n a.rec.now s bytes e no_output no-watch m
