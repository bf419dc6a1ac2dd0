use mathlib.Core.Bool.{true}
use mathlib.Core.Path.{◌≡◌, sym, ◌∙◌}
use native.Mathlib.Omega.{arith}
use borrow.Author.Tests.{ne_eqb, eqb-true, eqb-false}
use lib.ListN.{get_or, length}
use Rattle.lists.specs.Bytes.{is_digit}
use Rattle.signed.proofs.Numbers.{digit_bounds, ten_more, digit_more, digit_not, digit_many, digits-end}
use Rattle.signed.proofs.digits_from.Goals as goal
use Rattle.signed.proofs.digits_from.Goals.{then-not-is_digit-via-then-not-is_digit, then-not-is_digit-via-else-not-is_digit+then-n-ge10}

pub returns-then-not-is_digit : goal.returns-then-not-is_digit
returns-then-not-is_digit c =
    let s = c.args.digits.now in
    let l = c.loop-n in
    elim c.then-not-is_digit.branch [
      | then-not-is_digit-via-then-not-is_digit w ↦ sym (digit_not s l.n l.n l.m c.args.negative (omega arith) (cc)) ∙ l.invariant.2
      | then-not-is_digit-via-else-not-is_digit+then-n-ge10 w ↦ sym (digit_many s l.n l.n l.m c.args.negative (omega arith) w.if-n-ge10.true) ∙ l.invariant.2
    ]

pub loop-n-preserved : goal.loop-n-preserved
loop-n-preserved c =
    let s = c.args.digits.now in
    let l = c.loop-n in
    let is : is_digit (get_or s l.n 0) ≡ true = cc in
    let p = digit_bounds (get_or s l.n 0) is in (
      omega arith,
      ten_more l.m c.from.result l.n l.invariant.1 (omega (arith, c.from.ensures, p)),
      rw c.from.ensures (sym (digit_more s l.n l.n l.m c.args.negative (omega arith) is (omega arith)) ∙ l.invariant.2),
    )

pub returns-then-is_empty : goal.returns-then-is_empty
returns-then-is_empty c =
    let s = c.args.digits.now in
    let l = c.loop-n in
    let e : length s ≡ 0 = eqb-true (length s) 0 (sym c.is_empty.ensures ∙ c.if-is_empty.true) in
    let n : l.n ≡ 0 = omega arith in
    sym (digits-end s l.n l.n l.m c.args.negative (omega arith) ∙ rw n) ∙ l.invariant.2

pub returns : goal.returns
returns c =
    let s = c.args.digits.now in
    let l = c.loop-n in
    let f : length s ≡ 0 → ⊥ = eqb-false (length s) 0 (sym c.is_empty.ensures ∙ c.if-is_empty.false) in
    let e : l.n ≡ 0 → ⊥ = λ z. omega arith in
    c.with_sign.ensures ∙ sym (digits-end s l.n l.n l.m c.args.negative (omega arith) ∙ rw (ne_eqb l.n 0 e)) ∙ l.invariant.2
