-- `pieces::piece_at` meets its contract.
use Prim.Native.Nat.{◌+◌}
use mathlib.Core.Path.{◌≡◌, sym, ◌∙◌}
use native.Mathlib.Omega.{arith}
use Rattle.std.specs.Prelude.{None, Some}
use Rattle.std.proofs.lemmas.Result.{err_from_is_err_and}
use Rattle.pieces.specs.Read.{found_told, read_at, FoundWithin}
use Rattle.pieces.proofs.Pieces.{read_end, read_byte, read_written}
use Rattle.pieces.proofs.Names.{behind}
use Rattle.pieces.proofs.Braces.{open_at}
use Rattle.pieces.proofs.piece_at.Goals as goal

pub returns-then-template-at : goal.returns-then-template-at
returns-then-template-at c = (sym (read_end c.args.template.now c.args.at c.if-template-at.true), tt)

pub returns-in_err-read-in-36 : goal.returns-in_err-read-in-36
returns-in_err-read-in-36 c =
    let h = open_at c.args.template.now c.args.at 36 c.in-36.is (omega arith) in
    let r : found_told None c.args.template.now ≡ read_at c.args.template.now c.args.at =
    rw c.in_err-read-in-36.ensures.ok_part at c.after_dollar.ensures.0 ∙ sym (read_byte c.args.template.now c.args.at 36 h) in
    let p = err_from_is_err_and c.from_residual.result c.from_residual.ensures.1 in
    rw p.1 (r, tt)

pub returns-in_err-read-in-37 : goal.returns-in_err-read-in-37
returns-in_err-read-in-37 c =
    let h = open_at c.args.template.now c.args.at 37 c.in-37.is (omega arith) in
    let r : found_told None c.args.template.now ≡ read_at c.args.template.now c.args.at =
    rw c.in_err-read-in-37.ensures.ok_part at c.after_percent.ensures.0 ∙ sym (read_byte c.args.template.now c.args.at 37 h) in
    let p = err_from_is_err_and c.from_residual-in_err-read-in-37.result c.from_residual-in_err-read-in-37.ensures.1 in
    rw p.1 (r, tt)

pub returns-in_ok-read-in-36 : goal.returns-in_ok-read-in-36
returns-in_ok-read-in-36 c =
    let t = c.args.template.now in
    let here = open_at t c.args.at 36 c.in-36.is (omega arith) in
    let r = c.in_ok-read-in-36.read in
    let is : found_told (Some r) t ≡ read_at t c.args.at = rw c.in_ok-read-in-36.ensures.ok_part at c.after_dollar.ensures.0 ∙ sym (read_byte t c.args.at 36 here) in
    let within : FoundWithin (Some r) t (c.args.at + 1) = rw c.in_ok-read-in-36.ensures.ok_part at c.after_dollar.ensures.1 in
    (is, behind t c.args.at 1 (Some r) within)

pub returns-in_ok-read-in-37 : goal.returns-in_ok-read-in-37
returns-in_ok-read-in-37 c =
    let t = c.args.template.now in
    let here = open_at t c.args.at 37 c.in-37.is (omega arith) in
    let r = c.in_ok-read-in-37.read in
    let is : found_told (Some r) t ≡ read_at t c.args.at = rw c.in_ok-read-in-37.ensures.ok_part at c.after_percent.ensures.0 ∙ sym (read_byte t c.args.at 37 here) in
    let within : FoundWithin (Some r) t (c.args.at + 1) = rw c.in_ok-read-in-37.ensures.ok_part at c.after_percent.ensures.1 in
    (is, behind t c.args.at 1 (Some r) within)

pub returns-in_default : goal.returns-in_default
returns-in_default c = (
  sym (read_written c.args.template.now c.args.at (omega arith) c.in_default.in_default-own.rest.0.1 c.in_default.in_default-own.rest.1),
  record { forward = omega arith; inside = omega arith; text = tt },
)
