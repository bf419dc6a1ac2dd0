-- What a slice holds after each move of bytes within it.
-- Assumes nothing.
use Rattle.std.specs.Prelude.{ℕ, ◌+◌, ◌-◌, List, ◌++◌, length, take, drop, replicate}
use Rattle.lists.specs.Bytes.{part}

-- x over what stood at `at`
abbrev pub stored : List ℕ → ℕ → List ℕ → List ℕ
stored t at x = take at t ++ (x ++ drop (at + length x) t)

-- the part from `at` up to `used` n further on; the n bytes at `at` are as they were
abbrev pub opened : List ℕ → ℕ → ℕ → ℕ → List ℕ
opened t at used n = take (at + n) t ++ (part t at used ++ drop (used + n) t)

-- x at `at`, and behind it the part from `at` up to `used`
abbrev pub inserted : List ℕ → ℕ → ℕ → List ℕ → List ℕ
inserted t at used x = take at t ++ (x ++ (part t at used ++ drop (used + length x) t))

-- without the n bytes at `at`: what followed them up to `used`, and then n zeros
abbrev pub removed : List ℕ → ℕ → ℕ → ℕ → List ℕ
removed t at used n = take at t ++ (part t (at + n) used ++ (replicate n 0 ++ drop used t))

-- the part from a up to `used` at b instead, and where that is earlier zeros up to `used`
abbrev pub shifted : List ℕ → ℕ → ℕ → ℕ → List ℕ
shifted t a b used = take b t ++ (part t a used ++ (replicate (a - b) 0 ++ drop (used + (b - a)) t))

-- x for the n bytes at `at`: behind it what followed them up to `used`, and where x is shorter zeros up to `used`
abbrev pub replaced : List ℕ → ℕ → ℕ → ℕ → List ℕ → List ℕ
replaced t at n used x =
    take at t ++ (x ++ (part t (at + n) used ++ (replicate (n - length x) 0 ++ drop (used + (length x - n)) t)))

-- x and then zeros, n bytes in all
abbrev pub padded : ℕ → List ℕ → List ℕ
padded n x = x ++ replicate (n - length x) 0
