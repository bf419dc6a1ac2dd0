-- A turn of the test of all bytes of an owner.
-- Assumes nothing.
use Prim.Native.Nat.{ℕ, ◌+◌, ◌≤◌, ◌<◌}
use mathlib.Core.Path.{◌≡◌}
use mathlib.Core.Bool.{true, false}
use mathlib.Core.List.{List}
use lib.ListN.{length, get_or, drop, drop_of_length-le}
use Rattle.lists.specs.Lists.{all}
use Rattle.lists.proofs.Rest.{rest_at}
use Rattle.outcome.specs.Content.{owner_byte}

module _ (s : List ℕ) (i : ℕ) where
  pub owner_bad : i < length s → owner_byte (get_or s i 0) ≡ false → all owner_byte (drop i s) ≡ false
  owner_bad h e = rw (rest_at s i h, e)

  pub owner-next : i < length s → owner_byte (get_or s i 0) ≡ true → all owner_byte (drop i s) ≡ all owner_byte (drop (i + 1) s)
  owner-next h e = rw (rest_at s i h, e)

  pub owner-end : length s ≤ i → all owner_byte (drop i s) ≡ true
  owner-end h = rw (drop_of_length-le s h)
