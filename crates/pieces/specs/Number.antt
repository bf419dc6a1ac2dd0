-- What the code answers of a number in decimal.
-- Assumes nothing.
use Rattle.std.specs.Prelude.{ℕ, ◌<◌, ◌≡◌, length, drop}
use Rattle.template.specs.Decimal.{decimal}
use Rattle.pieces.specs.declared.Digits.{Digits}

pub record DigitsOf (n : ℕ) (r : Digits) : Type 0 where
  pub same : drop r.start r.digits ≡ decimal n
  pub inside : r.start < 10
  pub size : length r.digits ≡ 10
