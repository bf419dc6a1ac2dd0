-- The output of a record, in a target and as lent.
-- Assumes nothing.
use Prim.Native.Nat.{ℕ, ◌-◌}
use mathlib.Core.Path.{◌≡◌, refl, sym, ap, ◌∙◌, subst}
use mathlib.Core.List.{List, [], ◌++◌, append-nil}
use Rattle.std.specs.Prelude.{Some}
use native.Mathlib.Omega.{arith}
use lib.ListN.{length, take, drop, replicate, length-append}
use lib.Seq.{take_at, drop_at}
use Rattle.lists.specs.Bytes.{Bytes}
use Rattle.bits.specs.Bits.{number_at}
use Rattle.bits.proofs.Numbers.{number-front}
use Rattle.outcome.specs.Head.{Head, header_size, header}
use Rattle.outcome.specs.State.{State, Good, head_for, encode, decode}
use Rattle.outcome.proofs.Head.{header-length, head_there}
use Rattle.outcome.proofs.RoundTrip.{good_fit, from_owner, from_output, laid, back}
use Rattle.outcome_target.specs.Held.{Held}
use Rattle.outcome_target.specs.declared.Layout.{Layout}
use Rattle.outcome_readers.specs.Readers.{OutputIs}

module _ (n : ℕ) (s : State) (g : Good n s) (z : List ℕ) where
  output_size : number_at (encode s ++ z) 88 10 ≡ length s.output
  output_size =
      ap (λ (x : List ℕ). number_at x 88 10) (laid s z)
      ∙ number-front (header (head_for s)) (from_output s z) 88 10 (omega (arith, header-length (head_for s)))
      ∙ ap (λ (h : Head). h.output) (head_there (head_for s) (good_fit n s g))

  output_start : drop header_size (encode s ++ z) ≡ from_output s z
  output_start = ap (drop header_size) (laid s z) ∙ drop_at (header (head_for s)) (from_output s z) header_size (header-length (head_for s))

  pub output_laid : OutputIs (encode s ++ z) s.output
  output_laid =
      let whole = ap length (laid s z) ∙ length-append (header (head_for s)) (from_output s z) in
      record {
        within = omega (arith, output_size, whole, length-append s.output (from_owner s z), header-length (head_for s));
        is =
            ap (λ (k : ℕ). take k (drop header_size (encode s ++ z))) output_size
            ∙ ap (take (length s.output)) output_start
            ∙ take_at s.output (from_owner s z) (length s.output) refl;
      }

-- in a target
pub held_output : (n : ℕ) (l : List ℕ) (lay : Layout) (s : State) → Held n l lay s → OutputIs l s.output
held_output n l lay s w =
    subst (λ (x : List ℕ). OutputIs x s.output) (sym w.bytes) (output_laid n s w.good (replicate (length l - length (encode s)) 0))

-- in a sound record
pub decoded_output : (n : ℕ) (rec : List ℕ) (s : State) → Bytes rec → decode n rec ≡ Some s → OutputIs rec s.output
decoded_output n rec s b e =
    let (w, g) = back n rec s b e in
    subst (λ (x : List ℕ). OutputIs x s.output) (append-nil (encode s) ∙ w) (output_laid n s g [])
