-- Sizes of entries.
-- Assumes nothing.
use Prim.Native.Nat.{ℕ, ◌+◌, ◌≤◌}
use mathlib.Core.Path.{◌≡◌, refl, sym, ap, ◌∙◌}
use mathlib.Core.List.{List, ◌++◌}
use native.Mathlib.Omega.{arith}
use lib.ListN.{length, length-append}
use Rattle.bits.specs.Fields.{packed}
use Rattle.bits.proofs.Fields.{length-packed}
use Rattle.entries.specs.Entry.{enc_prop}
use Rattle.entries.proofs.Entries.{prop_length}
use Rattle.row_edits.specs.Edits.{run_bits, encoded_run}

pub property-size : (key value : List ℕ) → 2 + length key + length value ≡ length (enc_prop (record { key = key; value = value }))
property-size key value = omega (arith, prop_length (record { key = key; value = value }))

pub run-size : (b p : ℕ) (x : List ℕ) → 2 + length x ≡ length (encoded_run b p x)
run-size b p x = sym (length-append (packed (run_bits b p (length x))) x ∙ ap (λ (i : ℕ). i + length x) (length-packed (run_bits b p (length x)) 2 refl))
