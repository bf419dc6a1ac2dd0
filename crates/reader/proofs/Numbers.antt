-- The numbers of faults are small; two numbers put into a list.
-- Assumes nothing.
use Prim.Native.Nat.{ℕ, suc, ◌+◌, ◌≤◌, ◌<◌}
use mathlib.Core.Path.{◌≡◌, sym, ap, ◌∙◌}
use mathlib.Core.List.{List, [], ◌∷◌, ◌++◌, append_assoc}
use native.Mathlib.Omega.{arith}
use native.Mathlib.Numerals.{add-one}
use lib.ListN.{length, take, drop, set, length-set}
use lib.Seq.{take-suc-set, drop-set-lt}
use Rattle.lists.specs.Refusal.{Refusal, number, target_short, text_long, line_bad, key_bad, argument_bad, operator_bad, value_bad, content_bad, pair_extra}
use Rattle.lists.specs.Refusal.{comma_missing, rule_extra, label_missing, line_open, file_twice, device_bad, outcome_bad, too_new, sheet_bad, set_bad}
use Rattle.lists.specs.Refusal.{substitution_long, link_bad, list_full, owner_bad, mode_bad, command_missing, mode_shared}
use Rattle.lists.proofs.Moves.{ap_at}
use Rattle.table.specs.Puts.{Added}

pub number_small : (f : Refusal) → (0 < number f) × (number f < 65536)
number_small target_short = (omega arith, omega arith)
number_small text_long = (omega arith, omega arith)
number_small line_bad = (omega arith, omega arith)
number_small key_bad = (omega arith, omega arith)
number_small argument_bad = (omega arith, omega arith)
number_small operator_bad = (omega arith, omega arith)
number_small value_bad = (omega arith, omega arith)
number_small content_bad = (omega arith, omega arith)
number_small pair_extra = (omega arith, omega arith)
number_small comma_missing = (omega arith, omega arith)
number_small rule_extra = (omega arith, omega arith)
number_small label_missing = (omega arith, omega arith)
number_small line_open = (omega arith, omega arith)
number_small file_twice = (omega arith, omega arith)
number_small device_bad = (omega arith, omega arith)
number_small outcome_bad = (omega arith, omega arith)
number_small too_new = (omega arith, omega arith)
number_small sheet_bad = (omega arith, omega arith)
number_small set_bad = (omega arith, omega arith)
number_small substitution_long = (omega arith, omega arith)
number_small link_bad = (omega arith, omega arith)
number_small list_full = (omega arith, omega arith)
number_small owner_bad = (omega arith, omega arith)
number_small mode_bad = (omega arith, omega arith)
number_small command_missing = (omega arith, omega arith)
number_small mode_shared = (omega arith, omega arith)

pub two_put : (s : List ℕ) (used a b : ℕ) → used + 2 ≤ length s → Added (a ∷ b ∷ []) used s (set (set s used a) (used + 1) b)
two_put s used a b h = record {
  is =
      let first : take (used + 1) (set s used a) ≡ take used s ++ (a ∷ []) = rw add-one (take-suc-set s used a (omega arith)) in
      ap_at (λ n. take n (set (set s used a) (used + 1) b)) (used + 2) (suc (used + 1)) (omega arith)
      ∙ take-suc-set (set s used a) (used + 1) b (omega (arith, length-set s used a))
      ∙ ap (λ (w : List ℕ). w ++ (b ∷ [])) first
      ∙ append_assoc (take used s) (a ∷ []) (b ∷ []);
  size = length-set (set s used a) (used + 1) b ∙ length-set s used a;
}

pub two_behind : (s : List ℕ) (used a b : ℕ) → drop (used + 2) (set (set s used a) (used + 1) b) ≡ drop (used + 2) s
two_behind s used a b = drop-set-lt (used + 2) (set s used a) (used + 1) b (omega arith) ∙ drop-set-lt (used + 2) s used a (omega arith)
