-- What stands for one byte of a value, at a place of a line.
-- Assumes nothing.
use Prim.Native.Nat.{ℕ, ◌+◌, ◌-◌, ◌<◌}
use mathlib.Core.Path.{◌≡◌, refl, sym, ap, ◌∙◌}
use mathlib.Core.List.{List}
use native.Mathlib.Omega.{arith}
use borrow.Author.Tests.{ne_eqb}
use lib.ListN.{get_or, drop}
use lib.Seq.{get_or-drop}
use Rattle.lists.proofs.Moves.{ap_at}
use Rattle.rules.specs.Coded.{escapes, escape_in, hex_digit, hex_byte, taking, escaped}

module _ (s : List ℕ) (at : ℕ) where
  behind : (k : ℕ) → get_or (drop (at + 1) s) k 0 ≡ get_or s (at + 1 + k) 0
  behind k = get_or-drop (at + 1) s k 0

  letter : get_or (drop (at + 1) s) 0 0 ≡ get_or s (at + 1) 0
  letter = behind 0 ∙ ap_at (λ n. get_or s n 0) (at + 1 + 0) (at + 1) (omega arith)

  pub escape-hex : get_or s (at + 1) 0 ≡ 120 → escaped (drop (at + 1) s) ≡ taking 3 (hex_byte (hex_digit (get_or s (at + 2) 0)) (hex_digit (get_or s (at + 3) 0)))
  escape-hex e =
      let a = behind 1 ∙ ap_at (λ n. get_or s n 0) (at + 1 + 1) (at + 2) (omega arith) in
      let b = behind 2 ∙ ap_at (λ n. get_or s n 0) (at + 1 + 2) (at + 3) (omega arith) in
      rw (letter, e, a, b)

  pub escape_letter : (get_or s (at + 1) 0 ≡ 120 → ⊥) → escaped (drop (at + 1) s) ≡ taking 1 (escape_in escapes (get_or s (at + 1) 0))
  escape_letter n = rw (letter, ne_eqb (get_or s (at + 1) 0) 120 n)
