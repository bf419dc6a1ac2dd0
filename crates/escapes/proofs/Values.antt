-- A value and the bytes that are written for it.
-- Assumes nothing.
use Prim.Native.Nat.{ℕ, ◌+◌, ◌-◌, ◌≤◌, ◌<◌}
use mathlib.Core.Path.{◌≡◌, refl, sym, ap, ◌∙◌}
use mathlib.Core.List.{List, [], ◌∷◌, ◌++◌}
use Rattle.std.specs.Prelude.{Some}
use native.Mathlib.Omega.{arith}
use lib.ListN.{length, take, drop, length-drop, length-append}
use lib.Seq.{take_at}
use Rattle.lists.specs.Runs.{Part}
use Rattle.lists.specs.Bytes.{part}
use Rattle.rules.specs.Coded.{coded}
use Rattle.rules.proofs.Coded.{coded-written}
use Rattle.escapes.specs.Values.{value_or, decoded, Written}

module _ (line : List ℕ) (s e : ℕ) (v : List ℕ) (h : coded 0 (drop s line) ≡ Some (record { value = v; rest = drop (e + 1) line })) (from : s ≤ e) (within : e < length line) where
  abbrev here : Part (List ℕ)
  here = record { value = v; rest = drop (e + 1) line }

  abbrev bytes : List ℕ
  bytes = (coded-written 0 (drop s line) here h).bytes

  bytes-many : length bytes ≡ e - s
  bytes-many =
      omega (
        arith,
        ap length (coded-written 0 (drop s line) here h).whole,
        length-append bytes (34 ∷ drop (e + 1) line),
        length-drop s line,
        length-drop (e + 1) line,
      )

  bytes_are : part line s e ≡ bytes
  bytes_are = ap (take (e - s)) (coded-written 0 (drop s line) here h).whole ∙ take_at bytes (34 ∷ drop (e + 1) line) (e - s) bytes-many

  pub decoded-is : decoded (part line s e) ≡ v
  unfolding decoded
  decoded-is = rw (bytes_are, (coded-written 0 (drop s line) here h).alone [])

  pub written_is : Written line s e
  written_is = record { from = from; within = within; closed = rw decoded-is h }

  -- a value that is as long as written
  pub value_plain : length v ≡ e - s → v ≡ part line s e
  value_plain l = sym (bytes_are ∙ (coded-written 0 (drop s line) here h).plain (omega (arith, bytes-many)))

pub plain-written : (line : List ℕ) (s e : ℕ) → Written line s e → length (decoded (part line s e)) ≡ e - s → decoded (part line s e) ≡ part line s e
plain-written line s e w l = value_plain line s e (decoded (part line s e)) w.closed w.from w.within l
