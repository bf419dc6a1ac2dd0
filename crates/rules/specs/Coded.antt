-- Document 02, Item 1: a value with an `e` directly before its mark, where a backslash and what follows it stand for one byte.
-- Assumes nothing.
use Rattle.std.specs.Prelude.{ℕ, zero, suc, ◌+◌, ◌-◌, ◌*◌, Bool, true, false, List, [], ◌∷◌, eqb, get_or}
use Rattle.std.specs.Prelude.{Option, None, Some}
use Rattle.lists.specs.Lists.{pick}
use Rattle.lists.specs.Bytes.{is_digit, between}
use Rattle.lists.specs.Runs.{Part}
use Rattle.lists.specs.Items.{Item}

-- the byte directly behind a backslash, and the byte that both stand for
pub record Escape : Type 0 where
  pub letter : ℕ
  pub byte : ℕ

abbrev escape : ℕ → ℕ → Escape
escape l b = record { letter = l; byte = b }

-- `\a` `\b` `\f` `\n` `\r` `\t` `\v` `\\` `\"` `\'`
unfoldable pub escapes : List Escape
escapes =
    escape 97 7 ∷ escape 98 8 ∷ escape 102 12 ∷ escape 110 10 ∷ escape 114 13 ∷ escape 116 9 ∷ escape 118 11
    ∷ escape 92 92 ∷ escape 34 34 ∷ escape 39 39 ∷ []

unfoldable pub escape_in : List Escape → ℕ → Option ℕ
escape_in [] c = None
escape_in (e ∷ es) c = pick (eqb e.letter c) (Some e.byte) (escape_in es c)

-- a hex digit of either case
abbrev pub hex_digit : ℕ → Option ℕ
hex_digit b = pick (is_digit b) (Some (b - 48)) (pick (between 97 102 b) (Some (b - 87)) (pick (between 65 70 b) (Some (b - 55)) None))

-- two hex digits, not both zero
abbrev pub hex_byte : Option ℕ → Option ℕ → Option ℕ
hex_byte None l = None
hex_byte (Some h) None = None
hex_byte (Some h) (Some l) = pick (eqb (h * 16 + l) 0) None (Some (h * 16 + l))

-- a byte that stands for n bytes behind its first
abbrev pub taking : ℕ → Option ℕ → Option (Item ℕ)
taking n None = None
taking n (Some b) = Some (record { value = b; more = n })

-- what stands behind a backslash: x and two hex digits, or a letter of the table; past the end a byte reads as 0, which is neither
abbrev pub escaped : List ℕ → Option (Item ℕ)
escaped bs =
    pick (eqb (get_or bs 0 0) 120) (taking 3 (hex_byte (hex_digit (get_or bs 1 0)) (hex_digit (get_or bs 2 0))))
    (taking 1 (escape_in escapes (get_or bs 0 0)))

-- the byte that a place of the value stands for
abbrev pub coded_byte : ℕ → List ℕ → Option (Item ℕ)
coded_byte b bs = pick (eqb b 92) (escaped bs) (Some (record { value = b; more = 0 }))

abbrev pub put : ℕ → Option (Part (List ℕ)) → Option (Part (List ℕ))
put b None = None
put b (Some p) = Some (record { value = b ∷ p.value; rest = p.rest })

abbrev pub coded_then : Option (Item ℕ) → (ℕ → Option (Part (List ℕ))) → Option (Part (List ℕ))
coded_then None later = None
coded_then (Some i) later = put i.value (later i.more)

abbrev pub coded_step : Bool → ℕ → List ℕ → (ℕ → Option (Part (List ℕ))) → Option (Part (List ℕ))
coded_step true b bs later = Some (record { value = []; rest = bs })
coded_step false b bs later = coded_then (coded_byte b bs) later

-- the value up to its closing mark, where k bytes still belong to the escape before; none for a fault or without a mark
unfoldable pub coded : ℕ → List ℕ → Option (Part (List ℕ))
coded k [] = None
coded zero (b ∷ bs) = coded_step (eqb b 34) b bs (λ more. coded more bs)
coded (suc k) (b ∷ bs) = coded k bs
