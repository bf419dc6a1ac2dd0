-- What is said of all bytes from a place to another.
-- Assumes nothing.
use Rattle.std.specs.Prelude.{ℕ, ◌≤◌, ◌<◌, ◌≡◌, List, get_or, drop}
use Rattle.lists.specs.Bytes.{same_bytes}

-- two lists do not differ there, so that those behind decide whether they are the same
abbrev pub SameFrom : List ℕ → List ℕ → ℕ → ℕ → Type 0
SameFrom a b i j = same_bytes (drop i a) (drop i b) ≡ same_bytes (drop j a) (drop j b)

-- no byte there is b
abbrev pub LacksFrom : ℕ → List ℕ → ℕ → ℕ → Type 0
LacksFrom b s i j = (k : ℕ) → i ≤ k → k < j → get_or s k 0 ≡ b → ⊥

-- a byte there is b
pub record Met (b : ℕ) (s : List ℕ) (i j : ℕ) : Type 0 where
  pub place : ℕ
  pub from : i ≤ place
  pub before : place < j
  pub is : get_or s place 0 ≡ b

-- all bytes there lie above newline
abbrev pub AboveFrom : List ℕ → ℕ → ℕ → Type 0
AboveFrom s i j = (k : ℕ) → i ≤ k → k < j → 10 < get_or s k 0
