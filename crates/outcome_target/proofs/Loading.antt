-- A copy of a sound record is held.
-- Assumes nothing.
use Prim.Native.Nat.{ℕ, ◌≤◌}
use mathlib.Core.Path.{◌≡◌, refl, sym, ap, ap₂, ◌∙◌}
use mathlib.Core.List.{List, []}
use Rattle.std.specs.Prelude.{Some}
use lib.ListN.{length, replicate}
use Rattle.lists.specs.Bytes.{Bytes}
use Rattle.lists.specs.Sizes.{fullest_outcome}
use Rattle.splice.specs.Moves.{stored, padded}
use Rattle.splice.proofs.Laws.{clear_padded, append-padded}
use Rattle.outcome.specs.State.{State, encode, decode}
use Rattle.outcome.proofs.RoundTrip.{back}
use Rattle.outcome_target.specs.Layout.{layout_of}
use Rattle.outcome_target.specs.Held.{Held, Loaded}

pub loaded : (n : ℕ) (bs t u : List ℕ) → Bytes bs → t ≡ replicate n 0 → u ≡ stored t 0 bs → length u ≡ n → Loaded bs u
loaded n bs t u b e f l k s d r =
    let (w, g) = back k bs s b d in
    record {
      good = g;
      bytes = f ∙ append-padded [] bs n 0 t (e ∙ clear_padded n) refl ∙ ap₂ (λ (i : ℕ) (x : List ℕ). padded i x) (sym l) (sym w);
      layout = refl;
      room = r;
    }
